-- What was found, in order.
use Rattle.std.proofs.Common.{◌≡◌, ◌≢◌, ℕ, zero, suc, ◌+◌, ◌≤◌, ◌<◌, List, [], ◌∷◌, map, length, get_or, Bool, refl, sym, ap, ◌∙◌, subst, inl, inr, ⊎_elim, arith, Contains}
use Rattle.std.specs.List.Sorted.{IsSorted, IsSortedBy, IsPermutation}
use Rattle.std.specs.Ordering.{is_lt}
use Rattle.std.specs.Map.{keys_of}
use Rattle.std.specs.Borrow.{Bor}
use Rattle.std.proofs.lemmas.List.{get_or-map, length-map}
use Rattle.std.proofs.lemmas.List.Sorted.{Contains-permutation, IsPermutation-map}
use Rattle.url.specs.Parts.{Parts, serialize}
use Rattle.spec_base.specs.Shown.{text_cmp}
use Rattle.spec_base.specs.Specifier.{specifier_text}
use Rattle.graph_walk.specs.Lent.{lent_texts}
use Rattle.graph_walk.specs.Lists.{Text, Among, Distinct, Within}
use Rattle.import_policy.specs.Routes.{Route, ends, Kept, kept_of, routes_of}
use Rattle.import_policy.proofs.Kept.{Entry, ends_routes}
use Rattle.import_policy.proofs.Members.{pigeons}

-- ---- members

among_contains : {X : Type 0} (xs : List X) (x : X) → Among x xs → Contains xs x
among_contains [] x a = absurd a
among_contains (y ∷ ys) x (inl same) = let below : 0 < length (y ∷ ys) = omega arith in (0, below, sym same)
among_contains (y ∷ ys) x (inr a) = let h = among_contains ys x a in let below : suc h.0 < length (y ∷ ys) = omega (arith, h.1) in (suc h.0, below, h.2)

contains_among : {X : Type 0} (xs : List X) (x : X) (k : ℕ) → k < length xs → get_or xs k x ≡ x → Among x xs
contains_among [] x k below is = absurd (omega arith)
contains_among (y ∷ ys) x zero below is = inl (sym is)
contains_among (y ∷ ys) x (suc k) below is = inr (contains_among ys x k (omega arith) is)

pub permuted : {X : Type 0} (xs ys : List X) (x : X) → IsPermutation xs ys → Among x xs → Among x ys
permuted xs ys x p a = let h = Contains-permutation xs ys x p (among_contains xs x a) in contains_among ys x h.0 h.1 h.2

-- ---- once

record Cut (x : Text) (xs ys : List Text) : Type 0 where
  rest : List Text
  shorter : suc (length rest) ≡ length ys
  others : (y : Text) → y ≢ x → Among y ys → Among y rest
  again : Distinct rest → (Among x rest → ⊥) → Distinct ys
  part : Within rest ys

cut : (x : Text) (xs ys : List Text) → Among x ys → Cut x xs ys
cut x xs [] a = absurd a
cut x xs (y ∷ ys) (inl same) = record {
  rest = ys;
  shorter = refl;
  others = λ z ne a. ⊎_elim (λ e. absurd (ne (e ∙ sym same))) (λ t. t) a;
  again = λ d new. (λ a. new (subst (λ z. Among z ys) (sym same) a), d);
  part = λ z a. inr a;
}
cut x xs (y ∷ ys) (inr a) =
    let c = cut x xs ys a in
    record {
      rest = y ∷ c.rest;
      shorter = ap suc c.shorter;
      others = λ z ne b. ⊎_elim inl (λ t. inr (c.others z ne t)) b;
      again = λ d new. (λ b. d.0 (c.others y (λ same. new (inl (sym same))) b), c.again d.1 (λ b. new (inr b)));
      part = λ z b. ⊎_elim inl (λ t. inr (c.part z t)) b;
    }

-- a list with the members of one without repeats, and no longer, has none
pub distinct_same : (xs ys : List Text) → Distinct xs → Within xs ys → length ys ≤ length xs → Distinct ys
distinct_same [] [] d within short = tt
distinct_same [] (y ∷ ys) d within short = absurd (omega arith)
distinct_same (x ∷ xs) ys d within short =
    let c = cut x xs ys (within x (inl refl)) in
    let held : Within xs c.rest = λ y a. c.others y (λ same. d.0 (subst (λ z. Among z xs) same a)) (within y (inr a)) in
    let one = c.shorter in
    let others = distinct_same xs c.rest d.1 held (omega arith) in
    c.again others
    (λ a.
    let all = pigeons (x ∷ xs) c.rest d (λ y b. ⊎_elim (λ same. subst (λ z. Among z c.rest) (sym same) a) (held y) b) in
    absurd (omega arith))

-- ---- texts

pub sorted_map : {X Y : Type 0} (v : X → Y) (lt : Y → Y → Bool) (xs : List X) → IsSortedBy (λ a b. lt (v a) (v b)) xs → IsSortedBy lt (map v xs)
sorted_map v lt [] up k d low high = absurd (omega arith)
sorted_map v lt (x ∷ xs) up k d low high =
    let l = length-map (x ∷ xs) v in
    let above : k + 1 < length (x ∷ xs) = omega arith in
    let at : k < length (x ∷ xs) = omega arith in
    (λ i. lt (get_or-map v (x ∷ xs) (k + 1) x d above i) (get_or-map v (x ∷ xs) k x d at i)) ∙ up k x low above

key_texts : (es : List Entry) → map (λ (k : Kept). k.0) (kept_of es) ≡ lent_texts (keys_of es)
key_texts [] = refl
key_texts (e ∷ es) = ap (λ (l : List Text). specifier_text e.0.now ∷ l) (key_texts es)

pub ends_texts : (es : List Entry) (rs : List Route) → routes_of es ≡ rs → ends rs ≡ lent_texts (keys_of es)
ends_texts es rs is = ap ends (sym is) ∙ ends_routes [] (kept_of es) ∙ key_texts es

pub permuted_texts : (es : List Entry) (rs : List Route) (before now : List (Bor Parts)) → routes_of es ≡ rs → before ≡ keys_of es → IsPermutation before now → IsPermutation (ends rs) (lent_texts now)
permuted_texts es rs before now is all p =
    subst (λ (l : List Text). IsPermutation l (lent_texts now)) (sym (ends_texts es rs is ∙ ap lent_texts (sym all))) (IsPermutation-map (λ (u : Bor Parts). specifier_text u.now) before now p)

pub sorted_texts : (now : List (Bor Parts)) → IsSortedBy (λ (a b : Bor Parts). is_lt (text_cmp (serialize a.now) (serialize b.now))) now → IsSorted text_cmp (lent_texts now)
unfolding specifier_text
sorted_texts now up = sorted_map (λ (u : Bor Parts). serialize u.now) (λ x y. is_lt (text_cmp x y)) now up
