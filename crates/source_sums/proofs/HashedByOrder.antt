-- A hash map whose keys are told apart as their order does, seen as the finite map of its entries.
use Rattle.std.proofs.Common.{◌≡◌, Bool, cond, List, [], ◌∷◌, Some, refl, sym, ap, ◌∙◌}
use Rattle.std.specs.declared.cmp.Ordering.{Ordering}
use Rattle.std.specs.Ordering.{eq_by_cmp}
use Rattle.std.specs.Cmp.{IsTotalOrder, eq_by_cmp_equiv}
use Rattle.std.specs.Map.{lookup}
use Rattle.std.specs.HashMap as hash
use Rattle.std.specs.HashMap.{HashMap}
use Rattle.std.specs.FinMap as map
use Rattle.std.specs.FinMap.{find, IsAntisymmetric, from_entries, get-from_entries, get-insert, same_map}

module _ {K V : Type 0} {R : K → K → Ordering} (same : K → K → Bool) (total : IsTotalOrder R) (exact : IsAntisymmetric R) (agrees : (a b : K) → same a b ≡ eq_by_cmp R a b) where
  find_is : (q : K) (es : List (K × V)) → find R q es ≡ lookup (same q) es
  find_is q [] = refl
  find_is q (e ∷ es) =
      ap (λ b. cond b (Some e.1) (find R q es)) (sym (agrees q e.0))
      ∙ ap (cond (same q e.0) (Some e.1)) (find_is q es)

  -- a look-up
  pub get_is : {S : Type 0} (m : HashMap K V S) (q : K) → hash.get same m q ≡ map.get (from_entries {R = R} m.entries) q
  get_is m q = sym (get-from_entries total m.entries q ∙ find_is q m.entries)

  module _ (k : K) (v : V) (old new : List (K × V)) (updates : (p : K) → lookup (same p) new ≡ cond (same k p) (Some v) (lookup (same p) old)) where
    found : (q : K) → find R q new ≡ cond (eq_by_cmp R q k) (Some v) (find R q old)
    found q =
        find_is q new ∙ updates q
        ∙ ap (λ b. cond b (Some v) (lookup (same q) old)) (agrees k q ∙ (eq_by_cmp_equiv total).symm k q)
        ∙ ap (cond (eq_by_cmp R q k) (Some v)) (sym (find_is q old))

    -- a value is put at a key
    pub insert_is : from_entries {R = R} new ≡ map.insert (from_entries old) k v
    insert_is =
        same_map total exact _ _ (λ q. get-from_entries total new q ∙ found q
        ∙ sym (get-insert total (from_entries old) k v q ∙ ap (cond (eq_by_cmp R q k) (Some v)) (get-from_entries total old q)))
