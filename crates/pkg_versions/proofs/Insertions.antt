-- Entries that are put at their places in any order make one list.
use Rattle.std.proofs.Common.{◌≡◌, List, [], ◌∷◌, Ordering, Less, Equal, Greater, refl, ap, ◌∙◌}
use Rattle.std.specs.BTreeMap.{insert_entry}
use Rattle.std.specs.Cmp.{IsTotalOrder}
use Rattle.std.specs.List.{AllByRecursion}
use Rattle.std.specs.List.Sorted.{IsStrictlySortedBy}
use Rattle.std.specs.Map.{keys_of}
use Rattle.std.specs.Ordering.{ordering_reverse}

module _ {K : Type 0} (cmp : K → K → Ordering) (total : IsTotalOrder cmp) where
  -- what one comparison says of the other one
  back : (v w : K) (r : Ordering) → cmp v w ≡ r → cmp w v ≡ ordering_reverse r
  back v w r h = total.antisymm w v ∙ ap ordering_reverse h

  less_trans : (u v w : K) → cmp u v ≡ Less → cmp w v ≡ Greater → cmp u w ≡ Less
  less_trans u v w h k = total.trans u v w h (back w v Greater k)

  tied : (u v w : K) (r : Ordering) → cmp u v ≡ Equal → cmp w v ≡ r → cmp u w ≡ ordering_reverse r
  tied u v w r h k = total.congr u v w h ∙ back w v r k

module _ {K X : Type 0} (cmp : K → K → Ordering) (total : IsTotalOrder cmp) where
  first_two : (v w : K) (a b : X) (t : Ordering) → cmp v w ≡ t → (cmp v w ≡ Equal → ⊥)
      → insert_entry cmp ((v, a) ∷ []) w b ≡ insert_entry cmp ((w, b) ∷ []) v a
  first_two v w a b Less h apart = simp (h, back cmp total v w Less h)
  first_two v w a b Equal h apart = absurd (apart h)
  first_two v w a b Greater h apart = simp (h, back cmp total v w Greater h)

  before_both : (e : K × X) (es : List (K × X)) (v w : K) (a b : X) (t : Ordering) → cmp v w ≡ t → cmp v e.0 ≡ Less → cmp w e.0 ≡ Less → (cmp v w ≡ Equal → ⊥)
      → insert_entry cmp (insert_entry cmp (e ∷ es) v a) w b ≡ insert_entry cmp (insert_entry cmp (e ∷ es) w b) v a
  before_both e es v w a b Less h p q apart = simp (h, back cmp total v w Less h, p, q)
  before_both e es v w a b Equal h p q apart = absurd (apart h)
  before_both e es v w a b Greater h p q apart = simp (h, back cmp total v w Greater h, p, q)

  step : (e : K × X) (es : List (K × X)) (v w : K) (a b : X) (r s : Ordering) → cmp v e.0 ≡ r → cmp w e.0 ≡ s → (cmp v w ≡ Equal → ⊥)
      → insert_entry cmp (insert_entry cmp es v a) w b ≡ insert_entry cmp (insert_entry cmp es w b) v a
      → insert_entry cmp (insert_entry cmp (e ∷ es) v a) w b ≡ insert_entry cmp (insert_entry cmp (e ∷ es) w b) v a
  step e es v w a b Less Less p q apart later = before_both e es v w a b (cmp v w) refl p q apart
  step e es v w a b Less Equal p q apart later =
      let t : cmp w v ≡ Greater = tied cmp total w e.0 v Less q p in
      simp (p, q, t)
  step e es v w a b Less Greater p q apart later =
      let t : cmp w v ≡ Greater = back cmp total v w Less (less_trans cmp total v e.0 w p q) in
      simp (p, q, t)
  step e es v w a b Equal Less p q apart later =
      let t : cmp v w ≡ Greater = tied cmp total v e.0 w Less p q in
      simp (p, q, t)
  step e es v w a b Equal Equal p q apart later = absurd (apart (tied cmp total v e.0 w Equal p q))
  step e es v w a b Equal Greater p q apart later = simp (p, q)
  step e es v w a b Greater Less p q apart later =
      let t : cmp v w ≡ Greater = back cmp total w v Less (less_trans cmp total w e.0 v q p) in
      simp (p, q, t)
  step e es v w a b Greater Equal p q apart later = simp (p, q)
  step e es v w a b Greater Greater p q apart later = simp (p, q) (ap (λ l. e ∷ l) later)

  -- two keys that don't tie may be put in either order
  pub insert_swap : (es : List (K × X)) (v w : K) (a b : X) → (cmp v w ≡ Equal → ⊥)
      → insert_entry cmp (insert_entry cmp es v a) w b ≡ insert_entry cmp (insert_entry cmp es w b) v a
  insert_swap [] v w a b apart = first_two v w a b (cmp v w) refl apart
  insert_swap (e ∷ es) v w a b apart = step e es v w a b (cmp v e.0) (cmp w e.0) refl refl apart (insert_swap es v w a b apart)

  -- entries, the last one put first
  abbrev pub put_all : List (K × X) → List (K × X) → List (K × X)
  put_all found [] = found
  put_all found (e ∷ es) = insert_entry cmp (put_all found es) e.0 e.1

  first_put : (e : K × X) (es : List (K × X)) → AllByRecursion (λ y. cmp e.0 y ≡ Less) (keys_of es) → insert_entry cmp es e.0 e.1 ≡ e ∷ es
  first_put e [] below = refl
  first_put e (d ∷ es) below = rw below.0

  -- sorted entries are put as they stand
  pub put_sorted : (es : List (K × X)) → IsStrictlySortedBy cmp (keys_of es) → put_all [] es ≡ es
  unfolding IsStrictlySortedBy
  put_sorted [] sorted = refl
  put_sorted (e ∷ es) sorted = ap (λ l. insert_entry cmp l e.0 e.1) (put_sorted es sorted.1) ∙ first_put e es sorted.0
