-- The ranges that the reader takes are ranges of the grammar.
use Rattle.std.proofs.Common.{◌≡◌, ℕ, zero, suc, ◌==◌, ◌&&◌, ◌++◌, List, [], ◌∷◌, length, Option, Some, None, Bool, true, refl, sym, ap, ◌∙◌, inl, inr, append-nil, append_assoc, subst}
use Rattle.std.proofs.lemmas.Bool.{cases_Bool, eqb-true}
use Rattle.std.specs.Prelude.{codes}
use Rattle.semver.specs.Parse.{strip_spaces}
use Rattle.semver.proofs.Segments.{and-left, and-right}
use Rattle.semver_npm.specs.Grammar.{IsHyphen, IsPartial, IsRange, IsRangeSet, IsSimple, IsSimples, spaces}
use Rattle.semver_npm.specs.Reader.{Follow, Simples, after_hyphen, after_range, after_simple, another, between, dash_after, dash_at, ended, ends_at, follow_after, follow_at, further, hyphen_at, item_at, or_else, partial_at, range_at, ranges_from, simple_at, simples_from}
use Rattle.semver_npm.specs.declared.simple.Partial.{Partial}
use Rattle.semver_npm.specs.declared.simple.Simple.{Simple}
use Rattle.semver_npm.proofs.Cuts.{partial_at_sound, simple_sound, strip_sound}
use Rattle.semver_npm.proofs.Numbers.{bind_some, some_value}

-- `||` with spaces or none around it, and a further text
abbrev pub Joins : List ℕ → List ℕ → Type 0
Joins k v = (m n : ℕ) × (k ≡ spaces m ++ (codes "||" ++ (spaces n ++ v)))

-- what stands after a range
abbrev pub IsTail : Option (List ℕ) → List ℕ → Type 0
IsTail None k = k ≡ []
IsTail (Some v) k = Joins k v

-- what stands after a word
abbrev pub IsFollow : Follow → List ℕ → Type 0
IsFollow ended k = k ≡ []
IsFollow (further v) k = (n : ℕ) × (k ≡ 32 ∷ (spaces n ++ v))
IsFollow (another v) k = Joins k v

after_sound : (k r : List ℕ) (s : Bool) (f : Follow) → (n : ℕ) × (k ≡ spaces n ++ r) → (s ≡ true → (n : ℕ) × (k ≡ 32 ∷ (spaces n ++ r))) → follow_after s r ≡ Some f → IsFollow f k
after_sound k [] s f lead spaced h = cc h
after_sound k (a ∷ []) s f lead spaced h = elim (cases_Bool s) [
  | inl y ↦ subst (λ g. IsFollow g k) (some_value _ _ (rw y at h)) (spaced y)
  | inr y ↦ cc (rw y at h)
]
after_sound k (a ∷ b ∷ rest) s f lead spaced h = elim (cases_Bool (a == 124 && b == 124)) [
  | inl bars ↦
      let r = strip_sound rest in
      let first : a ≡ 124 = eqb-true a 124 (and-left (a == 124) (b == 124) bars) in
      let second : b ≡ 124 = eqb-true b 124 (and-right (a == 124) (b == 124) bars) in
      let pair : a ∷ b ∷ rest ≡ 124 ∷ 124 ∷ (spaces r.0 ++ strip_spaces rest) = rw (first, second) (ap (λ l. 124 ∷ 124 ∷ l) r.1) in
      subst (λ g. IsFollow g k) (some_value _ _ (rw bars at h)) (lead.0, r.0, lead.1 ∙ ap (λ l. spaces lead.0 ++ l) pair)
  | inr other ↦ elim (cases_Bool s) [
    | inl y ↦ subst (λ g. IsFollow g k) (some_value _ _ (rw (other, y) at h)) (spaced y)
    | inr y ↦ cc (rw (other, y) at h)
  ]
]

space_first : (b : ℕ) (t : List ℕ) → (b == 32) ≡ true → (n : ℕ) × (b ∷ t ≡ 32 ∷ (spaces n ++ strip_spaces (b ∷ t)))
unfolding strip_spaces
space_first b t y = let r = strip_sound t in (r.0, rw (eqb-true b 32 y) (ap (λ l. 32 ∷ l) r.1))

pub follow_sound : (k : List ℕ) (f : Follow) → follow_at k ≡ Some f → IsFollow f k
follow_sound [] f h = subst (λ g. IsFollow g []) (some_value _ _ h) refl
follow_sound (b ∷ t) f h = after_sound (b ∷ t) (strip_spaces (b ∷ t)) (b == 32) f (strip_sound (b ∷ t)) (space_first b t) h

-- simples at the front, and what stands after them
abbrev Found : List ℕ → List Simple → Option (List ℕ) → Type 0
Found xs ss tail = (t k : List ℕ) × IsSimples ss t × IsTail tail k × (xs ≡ t ++ k)

joined : (s : Simple) (qs : List Simple) (t u : List ℕ) (m : ℕ) → IsSimple s t → IsSimples qs u → IsSimples (s ∷ qs) (t ++ 32 ∷ (spaces m ++ u))
joined s [] t u m x y = absurd y
joined s (q ∷ qs) t u m x y = (t, u, m, x, y, refl)

regroup : (t u k : List ℕ) (m : ℕ) → t ++ 32 ∷ (spaces m ++ (u ++ k)) ≡ (t ++ 32 ∷ (spaces m ++ u)) ++ k
regroup t u k m = ap (λ l. t ++ 32 ∷ l) (sym (append_assoc (spaces m) u k)) ∙ sym (append_assoc t (32 ∷ (spaces m ++ u)) k)

one_more : (n : ℕ) (xs : List ℕ) (s : Simple) (f : Follow) (t k : List ℕ) (ss : List Simple) (tail : Option (List ℕ)) → IsSimple s t → IsFollow f k → xs ≡ t ++ k
    → ((ys : List ℕ) (qs : List Simple) (end : Option (List ℕ)) → simples_from n ys ≡ Some (qs, end) → Found ys qs end)
    → after_simple (simples_from n) s f ≡ Some (ss, tail) → Found xs ss tail
one_more n xs s ended t k ss tail x y e ih h = subst (λ (r : Simples). Found xs r.0 r.1) (some_value _ _ h) (t, k, x, y, e)
one_more n xs s (another v) t k ss tail x y e ih h = subst (λ (r : Simples). Found xs r.0 r.1) (some_value _ _ h) (t, k, x, y, e)
one_more n xs s (further v) t k ss tail x y e ih h =
    let b = bind_some (simples_from n v) _ _ h in
    let r = ih v b.0.0 b.0.1 b.1 in
    let text : List ℕ = t ++ 32 ∷ (spaces y.0 ++ r.0) in
    let whole : xs ≡ text ++ r.1 = e ∙ (ap (λ l. t ++ l) (y.1 ∙ ap (λ l. 32 ∷ (spaces y.0 ++ l)) r.4) ∙ regroup t r.0 r.1 y.0) in
    subst (λ (q : Simples). Found xs q.0 q.1) (some_value _ _ b.2) (text, r.1, joined s b.0.0 t r.0 y.0 x r.2, r.3, whole)

pub simples_sound : (n : ℕ) (xs : List ℕ) (ss : List Simple) (tail : Option (List ℕ)) → simples_from n xs ≡ Some (ss, tail) → Found xs ss tail
unfolding simples_from
simples_sound zero xs ss tail h = cc h
simples_sound (suc n) xs ss tail h =
    let b = bind_some (item_at xs) _ _ h in
    let b1 = bind_some (simple_at xs) _ _ b.1 in
    let b2 = bind_some (follow_at b1.0.1) _ _ b1.2 in
    let e = some_value _ _ b2.2 in
    let one = simple_sound xs b1.0.0 b1.0.1 b1.1 in
    let kind : b1.0.0 ≡ b.0.0 = ap (λ (y : Simple × Follow). y.0) e in
    let next : b2.0 ≡ b.0.1 = ap (λ (y : Simple × Follow). y.1) e in
    one_more n xs b.0.0 b.0.1 one.0 b1.0.1 ss tail (subst (λ s. IsSimple s one.0) kind one.1)
    (subst (λ f. IsFollow f b1.0.1) next (follow_sound b1.0.1 b2.0 b2.1)) one.2 (simples_sound n) b.2

dash_sound : (k rest : List ℕ) → dash_at k ≡ Some rest → (m n : ℕ) × (k ≡ 32 ∷ (spaces m ++ 45 ∷ 32 ∷ (spaces n ++ rest)))
dash_sound [] rest h = cc h
dash_sound (b ∷ t) rest h = elim (cases_Bool (b == 32)) [
  | inl space ↦
      let lead = strip_sound t in
      let d = hyphen_in (strip_spaces t) rest (rw space at h) in
      (lead.0, d.0, rw (eqb-true b 32 space) (ap (λ l. 32 ∷ l) (lead.1 ∙ ap (λ l. spaces lead.0 ++ l) d.1)))
  | inr other ↦ cc (rw other at h)
]
  where
    hyphen_in : (r rest : List ℕ) → dash_after r ≡ Some rest → (n : ℕ) × (r ≡ 45 ∷ 32 ∷ (spaces n ++ rest))
    hyphen_in [] rest h = cc h
    hyphen_in (a ∷ []) rest h = cc h
    hyphen_in (a ∷ b ∷ after) rest h = elim (cases_Bool (a == 45 && b == 32)) [
      | inl dash ↦
          let r = strip_sound after in
          let left = some_value _ _ (rw dash at h) in
          let first : a ≡ 45 = eqb-true a 45 (and-left (a == 45) (b == 32) dash) in
          let second : b ≡ 32 = eqb-true b 32 (and-right (a == 45) (b == 32) dash) in
          (r.0, rw (first, second) (ap (λ l. 45 ∷ 32 ∷ l) (r.1 ∙ ap (λ l. spaces r.0 ++ l) left)))
      | inr other ↦ cc (rw other at h)
    ]

-- a range at the front, and what stands after it
abbrev FoundRange : List ℕ → List Simple → Option (List ℕ) → Type 0
FoundRange xs r tail = (t k : List ℕ) × IsRange r t × IsTail tail k × (xs ≡ t ++ k)

ended_hyphen : (xs t k : List ℕ) (r ss : List Simple) (f : Follow) (tail : Option (List ℕ)) → IsHyphen r t → IsFollow f k → xs ≡ t ++ k → after_hyphen r f ≡ Some (ss, tail) → FoundRange xs ss tail
ended_hyphen xs t k r ss ended tail x y e h = subst (λ (q : Simples). FoundRange xs q.0 q.1) (some_value _ _ h) (t, k, inl x, y, e)
ended_hyphen xs t k r ss (further v) tail x y e h = cc h
ended_hyphen xs t k r ss (another v) tail x y e h = subst (λ (q : Simples). FoundRange xs q.0 q.1) (some_value _ _ h) (t, k, inl x, y, e)

-- the text of a hyphen range, put together
pub regroup_dash : (u v k : List ℕ) (m n : ℕ) → u ++ 32 ∷ (spaces m ++ 45 ∷ 32 ∷ (spaces n ++ (v ++ k))) ≡ (u ++ 32 ∷ (spaces m ++ 45 ∷ 32 ∷ (spaces n ++ v))) ++ k
regroup_dash u v k m n =
    ap (λ l. u ++ 32 ∷ (spaces m ++ 45 ∷ 32 ∷ l)) (sym (append_assoc (spaces n) v k))
    ∙ (ap (λ l. u ++ 32 ∷ l) (sym (append_assoc (spaces m) (45 ∷ 32 ∷ (spaces n ++ v)) k))
    ∙ sym (append_assoc u (32 ∷ (spaces m ++ 45 ∷ 32 ∷ (spaces n ++ v))) k))

hyphen_sound : (xs : List ℕ) (ss : List Simple) (tail : Option (List ℕ)) → hyphen_at xs ≡ Some (ss, tail) → FoundRange xs ss tail
hyphen_sound xs ss tail h =
    let b = bind_some (ends_at xs) _ _ h in
    let b1 = bind_some (partial_at xs) _ _ b.1 in
    let b2 = bind_some (dash_at b1.0.1) _ _ b1.2 in
    let b3 = bind_some (partial_at b2.0) _ _ b2.2 in
    let b4 = bind_some (follow_at b3.0.1) _ _ b3.2 in
    let e = some_value _ _ b4.2 in
    let p = partial_at_sound xs b1.0.0 b1.0.1 b1.1 in
    let d = dash_sound b1.0.1 b2.0 b2.1 in
    let q = partial_at_sound b2.0 b3.0.0 b3.0.1 b3.1 in
    let text : List ℕ = p.0 ++ 32 ∷ (spaces d.0 ++ 45 ∷ 32 ∷ (spaces d.1 ++ q.0)) in
    let whole : xs ≡ text ++ b3.0.1 =
    p.2 ∙ (ap (λ l. p.0 ++ l) (d.2 ∙ ap (λ l. 32 ∷ (spaces d.0 ++ 45 ∷ 32 ∷ (spaces d.1 ++ l))) q.2) ∙ regroup_dash p.0 q.0 b3.0.1 d.0 d.1) in
    let low : b1.0.0 ≡ b.0.0 = ap (λ (y : Partial × Partial × Follow). y.0) e in
    let high : b3.0.0 ≡ b.0.1 = ap (λ (y : Partial × Partial × Follow). y.1) e in
    let next : b4.0 ≡ b.0.2 = ap (λ (y : Partial × Partial × Follow). y.2) e in
    ended_hyphen xs text b3.0.1 (between b.0.0 b.0.1) ss b.0.2 tail
    (b.0.0, b.0.1, p.0, q.0, d.0, d.1, subst (λ y. IsPartial y p.0) low p.1, subst (λ y. IsPartial y q.0) high q.1, refl, refl)
    (subst (λ f. IsFollow f b3.0.1) next (follow_sound b3.0.1 b4.0 b4.1)) whole b.2

by_simples : (xs : List ℕ) (o : Option Simples) (ss : List Simple) (tail : Option (List ℕ)) → simples_from (length xs) xs ≡ o → or_else o (hyphen_at xs) ≡ Some (ss, tail) → FoundRange xs ss tail
by_simples xs (Some y) ss tail e h =
    let f = simples_sound (length xs) xs y.0 y.1 e in
    subst (λ (q : Simples). FoundRange xs q.0 q.1) (some_value _ _ h) (f.0, f.1, inr f.2, f.3, f.4)
by_simples xs None ss tail e h = hyphen_sound xs ss tail h

range_sound : (xs : List ℕ) (ss : List Simple) (tail : Option (List ℕ)) → range_at xs ≡ Some (ss, tail) → FoundRange xs ss tail
range_sound xs ss tail h = by_simples xs (simples_from (length xs) xs) ss tail refl h

joined_ranges : (r : List Simple) (qs : List (List Simple)) (t v : List ℕ) (m n : ℕ) → IsRange r t → IsRangeSet qs v → IsRangeSet (r ∷ qs) (t ++ (spaces m ++ (codes "||" ++ (spaces n ++ v))))
joined_ranges r [] t v m n x y = absurd y
joined_ranges r (q ∷ qs) t v m n x y = (t, v, m, n, x, y, refl)

range_more : (n : ℕ) (xs t k : List ℕ) (r : List Simple) (tail : Option (List ℕ)) (rs : List (List Simple)) → IsRange r t → IsTail tail k → xs ≡ t ++ k
    → ((ys : List ℕ) (qs : List (List Simple)) → ranges_from n ys ≡ Some qs → IsRangeSet qs ys)
    → after_range (ranges_from n) (r, tail) ≡ Some rs → IsRangeSet rs xs
range_more n xs t k r None rs x y e ih h =
    let whole : xs ≡ t = e ∙ (ap (λ l. t ++ l) y ∙ append-nil t) in
    subst (λ q. IsRangeSet q xs) (some_value _ _ h) (subst (λ l. IsRange r l) (sym whole) x)
range_more n xs t k r (Some v) rs x y e ih h =
    let b = bind_some (ranges_from n v) _ _ h in
    let whole = e ∙ ap (λ l. t ++ l) y.2 in
    subst (λ q. IsRangeSet q xs) (some_value _ _ b.2)
    (subst (λ l. IsRangeSet (r ∷ b.0) l) (sym whole) (joined_ranges r b.0 t v y.0 y.1 x (ih v b.0 b.1)))

pub ranges_sound : (n : ℕ) (xs : List ℕ) (rs : List (List Simple)) → ranges_from n xs ≡ Some rs → IsRangeSet rs xs
unfolding ranges_from
ranges_sound zero xs rs h = cc h
ranges_sound (suc n) xs rs h =
    let b = bind_some (range_at xs) _ _ h in
    let f = range_sound xs b.0.0 b.0.1 b.1 in
    range_more n xs f.0 f.1 b.0.0 b.0.1 rs f.2 f.3 f.4 (ranges_sound n) b.2
