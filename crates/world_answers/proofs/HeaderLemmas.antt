-- Headers by name: a look-up, a removal and an insertion, seen on the list of entries.
use Rattle.std.proofs.Common.{◌≡◌, ℕ, List, [], ◌∷◌, Bool, true, false, cond, refl, ap, ◌∙◌}
use Rattle.std.specs.BTreeMap.{insert_entry, is_at}
use Rattle.std.specs.Map.{lookup, remove_entry}
use Rattle.std.specs.Prelude.{Some, string_bytes}
use Rattle.std.specs.declared.cmp.Ordering.{Ordering}
use Rattle.std.specs.declared.cmp.Ordering.TheVariants.{Less, Equal, Greater}
use Rattle.std.specs.Ordering.{match_ordering}
use Rattle.std.specs.String.{string_cmp}
use Rattle.std.specs.declared.string.String.{String}
use Rattle.spec_base.specs.Shown.{shown, text_cmp}

-- a look-up by a name
pub lookup_named : {V A : Type 0} (name : List ℕ) (es : List (String A × V)) → lookup (is_at (λ k. text_cmp name (string_bytes k))) es ≡ lookup (is_at (text_cmp name)) (shown es)
lookup_named name [] = refl
lookup_named name (e ∷ es) = ap (cond (is_at (text_cmp name) (string_bytes e.0)) (Some e.1)) (lookup_named name es)

module _ {V A : Type 0} (name : List ℕ) where
  -- a removal by a name
  pub remove_named : (es : List (String A × V)) → shown (remove_entry (is_at (λ k. text_cmp name (string_bytes k))) es) ≡ remove_entry (is_at (text_cmp name)) (shown es)
  remove_named [] = refl
  remove_named (e ∷ es) = by (is_at (text_cmp name) (string_bytes e.0)) (remove_named es)
    where
      by : (b : Bool)
          → shown (remove_entry (is_at (λ k. text_cmp name (string_bytes k))) es) ≡ remove_entry (is_at (text_cmp name)) (shown es)
          → shown (cond b es (e ∷ remove_entry (is_at (λ k. text_cmp name (string_bytes k))) es))
          ≡ cond b (shown es) ((string_bytes e.0, e.1) ∷ remove_entry (is_at (text_cmp name)) (shown es))
      by true ih = refl
      by false ih = ap (λ rest. (string_bytes e.0, e.1) ∷ rest) ih

  chosen : (o : Ordering) (xs ys zs : List (String A × V)) → shown (match_ordering o xs ys zs) ≡ match_ordering o (shown xs) (shown ys) (shown zs)
  chosen Less xs ys zs = refl
  chosen Equal xs ys zs = refl
  chosen Greater xs ys zs = refl

-- an insertion
pub insert_named : {V A : Type 0} (es : List (String A × V)) (k : String A) (v : V) → shown (insert_entry string_cmp es k v) ≡ insert_entry text_cmp (shown es) (string_bytes k) v
insert_named [] k v = refl
insert_named (e ∷ es) k v =
    chosen (string_bytes k) (string_cmp k e.0) ((k, v) ∷ e ∷ es) ((e.0, v) ∷ es) (e ∷ insert_entry string_cmp es k v)
    ∙ ap (λ rest. match_ordering (string_cmp k e.0) ((string_bytes k, v) ∷ shown (e ∷ es)) ((string_bytes e.0, v) ∷ shown es) ((string_bytes e.0, e.1) ∷ rest)) (insert_named es k v)
