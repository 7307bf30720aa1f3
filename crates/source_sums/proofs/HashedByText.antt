-- A hash map from specifiers, seen as the finite map from their texts.
use Rattle.std.proofs.Common.{◌≡◌, ℕ, Bool, true, false, cond, List, [], ◌∷◌, None, Some, refl, sym, ap, subst, ◌∙◌, ◌⊎◌, inl, inr}
use Rattle.std.specs.Ordering.{is_eq, eq_by_cmp}
use Rattle.std.specs.Cmp.{Equal-is}
use Rattle.std.specs.Cmp.Lexicographic.{nat_list_cmp_total, nat_list_eq_equiv, texts_ties}
use Rattle.std.specs.Map.{lookup}
use Rattle.std.specs.HashMap as hash
use Rattle.std.specs.HashMap.{HashMap}
use Rattle.std.specs.FinMap as map
use Rattle.std.specs.FinMap.{find, IsAntisymmetric, nat_cmp-IsAntisymmetric, slice_cmp-IsAntisymmetric, from_entries, get-from_entries, get-insert, same_map}
use Rattle.url.specs.Parts.{Parts, serialize}
use Rattle.spec_base.specs.Shown.{text_cmp}
use Rattle.spec_base.specs.Specifier.{same_specifier, specifier_text, by_text}
use Rattle.source_sums.specs.Sums.{sums_in}

exact : IsAntisymmetric text_cmp
exact = slice_cmp-IsAntisymmetric nat_cmp-IsAntisymmetric

find_by_text : {V : Type 0} (q : Parts) (es : List (Parts × V)) → find text_cmp (specifier_text q) (by_text es) ≡ lookup (same_specifier q) es
unfolding specifier_text
find_by_text q [] = refl
find_by_text q (e ∷ es) =
    ap (λ b. cond b (Some e.1) (find text_cmp (serialize q) (by_text es))) (sym (texts_ties (serialize q) (serialize e.0)))
    ∙ ap (cond (same_specifier q e.0) (Some e.1)) (find_by_text q es)

-- a look-up by a specifier
pub get_by_text : {S : Type 0} (m : HashMap Parts (List ℕ) S) (q : Parts) → hash.get same_specifier m q ≡ map.get (sums_in m) (specifier_text q)
get_by_text m q = sym (get-from_entries nat_list_cmp_total (by_text m.entries) (specifier_text q) ∙ find_by_text q m.entries)

-- a text is that of an entry's specifier, or stands nowhere
named : {V : Type 0} (q : List ℕ) (es : List (Parts × V)) → ((p : Parts) × (q ≡ specifier_text p)) ⊎ (find text_cmp q (by_text es) ≡ None)
named q [] = inr refl
named q (e ∷ es) = by_test (is_eq (text_cmp q (specifier_text e.0))) refl (named q es)
  where
    by_test : (b : Bool) → is_eq (text_cmp q (specifier_text e.0)) ≡ b → ((p : Parts) × (q ≡ specifier_text p)) ⊎ (find text_cmp q (by_text es) ≡ None) → ((p : Parts) × (q ≡ specifier_text p)) ⊎ (find text_cmp q (by_text (e ∷ es)) ≡ None)
    by_test true t rest = inl (e.0, exact q (specifier_text e.0) ((Equal-is (text_cmp q (specifier_text e.0))).0 t))
    by_test false f (inl found) = inl found
    by_test false f (inr none) = inr (ap (λ b. cond b (Some e.1) (find text_cmp q (by_text es))) f ∙ none)

module _ {V : Type 0} (k : Parts) (v : V) (old new : List (Parts × V)) (updates : (p : Parts) → lookup (same_specifier p) new ≡ cond (same_specifier k p) (Some v) (lookup (same_specifier p) old)) where
  at_text : (q : List ℕ) → Type 0
  at_text q = find text_cmp q (by_text new) ≡ cond (eq_by_cmp text_cmp q (specifier_text k)) (Some v) (find text_cmp q (by_text old))

  same_test : (p : Parts) → same_specifier k p ≡ eq_by_cmp text_cmp (specifier_text p) (specifier_text k)
  unfolding specifier_text
  same_test p = nat_list_eq_equiv.symm (serialize k) (serialize p) ∙ texts_ties (serialize p) (serialize k)

  at_specifier : (p : Parts) → at_text (specifier_text p)
  unfolding at_text
  at_specifier p =
      find_by_text p new ∙ updates p
      ∙ ap (λ b. cond b (Some v) (lookup (same_specifier p) old)) (same_test p)
      ∙ ap (cond (eq_by_cmp text_cmp (specifier_text p) (specifier_text k)) (Some v)) (sym (find_by_text p old))

  none_anywhere : (q : List ℕ) → eq_by_cmp text_cmp q (specifier_text k) ≡ false → find text_cmp q (by_text new) ≡ None → find text_cmp q (by_text old) ≡ None → at_text q
  unfolding at_text
  none_anywhere q other e f = e ∙ sym f ∙ ap (λ b. cond b (Some v) (find text_cmp q (by_text old))) (sym other)

  at_each : (q : List ℕ) → at_text q
  at_each q = by_key (eq_by_cmp text_cmp q (specifier_text k)) refl (named q new) (named q old)
    where
      by_key : (b : Bool) → eq_by_cmp text_cmp q (specifier_text k) ≡ b → ((p : Parts) × (q ≡ specifier_text p)) ⊎ (find text_cmp q (by_text new) ≡ None) → ((p : Parts) × (q ≡ specifier_text p)) ⊎ (find text_cmp q (by_text old) ≡ None) → at_text q
      by_key true t _ _ = subst at_text (sym (exact q (specifier_text k) ((Equal-is (text_cmp q (specifier_text k))).0 t))) (at_specifier k)
      by_key false f (inl found) _ = subst at_text (sym found.1) (at_specifier found.0)
      by_key false f (inr _) (inl found) = subst at_text (sym found.1) (at_specifier found.0)
      by_key false f (inr e) (inr g) = none_anywhere q f e g

  -- a value is put at a specifier
  pub insert_by_text : from_entries {R = text_cmp} (by_text new) ≡ map.insert (from_entries (by_text old)) (specifier_text k) v
  unfolding at_text
  insert_by_text =
      let o = nat_list_cmp_total in
      same_map o exact _ _ (λ q. get-from_entries o (by_text new) q ∙ at_each q
      ∙ sym (get-insert o (from_entries (by_text old)) (specifier_text k) v q ∙ ap (cond (eq_by_cmp text_cmp q (specifier_text k)) (Some v)) (get-from_entries o (by_text old) q)))
