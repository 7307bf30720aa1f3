-- A look-up, an insertion and equality, seen on the list of entries.
use Rattle.std.proofs.Common.{◌≡◌, ℕ, List, [], ◌∷◌, Bool, ◌&&◌, cond, refl, ap, ◌∙◌, bytes_eq}
use Rattle.std.proofs.lemmas.Map.Text.{is_eq-slice_cmp}
use Rattle.std.specs.Prelude.{Some, string_bytes}
use Rattle.std.specs.declared.string.String.{String}
use Rattle.std.specs.declared.cmp.Ordering.{Ordering}
use Rattle.std.specs.declared.cmp.Ordering.TheVariants.{Less, Equal, Greater}
use Rattle.std.specs.Ordering.{match_ordering}
use Rattle.std.specs.Cmp.Lexicographic.{pointwise}
use Rattle.std.specs.String.{string_cmp, string_eq}
use Rattle.std.specs.Map.{lookup}
use Rattle.std.specs.BTreeMap.{insert_entry, is_at}
use Rattle.spec_base.specs.Shown.{shown, text_cmp}

-- a look-up by a text
pub lookup_shown : {V A : Type 0} (text : List ℕ) (es : List (String A × V)) → lookup (is_at (λ k. text_cmp text (string_bytes k))) es ≡ lookup (bytes_eq text) (shown es)
lookup_shown text [] = refl
lookup_shown text (e ∷ es) =
    ap (λ b. cond b (Some e.1) (lookup (is_at (λ k. text_cmp text (string_bytes k))) es)) (is_eq-slice_cmp text (string_bytes e.0)) ∙ ap (cond (bytes_eq text (string_bytes e.0)) (Some e.1)) (lookup_shown text es)

-- the entries of a choice
shown_choice : {V A : Type 0} (o : Ordering) (xs ys zs : List (String A × V)) → shown (match_ordering o xs ys zs) ≡ match_ordering o (shown xs) (shown ys) (shown zs)
shown_choice Less xs ys zs = refl
shown_choice Equal xs ys zs = refl
shown_choice Greater xs ys zs = refl

-- an insertion
pub insert_shown : {V A : Type 0} (es : List (String A × V)) (k : String A) (v : V) → shown (insert_entry string_cmp es k v) ≡ insert_entry text_cmp (shown es) (string_bytes k) v
insert_shown [] k v = refl
insert_shown (e ∷ es) k v =
    shown_choice (string_cmp k e.0) ((k, v) ∷ e ∷ es) ((e.0, v) ∷ es) (e ∷ insert_entry string_cmp es k v) ∙ ap (λ rest. match_ordering (string_cmp k e.0) ((string_bytes k, v) ∷ shown (e ∷ es)) ((string_bytes e.0, v) ∷ shown es) ((string_bytes e.0, e.1) ∷ rest)) (insert_shown es k v)

-- equality of maps by that of their values
pub equal_shown : {V A : Type 0} (E : V → V → Bool) (es fs : List (String A × V)) → pointwise (λ p q. string_eq p.0 q.0 && E p.1 q.1) es fs ≡ pointwise (λ p q. bytes_eq p.0 q.0 && E p.1 q.1) (shown es) (shown fs)
equal_shown E [] [] = refl
equal_shown E [] (f ∷ fs) = refl
equal_shown E (e ∷ es) [] = refl
equal_shown E (e ∷ es) (f ∷ fs) = ap (λ b. (string_eq e.0 f.0 && E e.1 f.1) && b) (equal_shown E es fs)
