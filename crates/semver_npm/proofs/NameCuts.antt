-- Texts cut at the first byte that passes a test.
use Rattle.std.proofs.Common.{◌≡◌, ℕ, ◌+◌, ◌||◌, ◌++◌, List, [], ◌∷◌, length, drop, Bool, true, false, refl, sym, ap, ◌∙◌, arith, inl, inr, nat_eq, append-nil, append_assoc, length-append}
use Rattle.std.proofs.Math.Numerals.{one-add}
use Rattle.std.proofs.lemmas.Bool.{cases_Bool, eqb-true}
use Rattle.std.proofs.lemmas.Bool.Decides.{nat_tests}
use Rattle.std.proofs.lemmas.List.{drop_at, drop_all, take-append-drop, take_at}
use Rattle.std.specs.List.{after_first, before_first, list_any, position_or_len, starts_with}
use Rattle.semver.proofs.Segments.{and-left, and-right}
use Rattle.semver_npm.specs.ReferenceGrammar.{stops}

pub or_left : (x y : Bool) → (x || y) ≡ false → x ≡ false
or_left true y h = cc h
or_left false y h = refl

pub or_right : (x y : Bool) → (x || y) ≡ false → y ≡ false
or_right true y h = cc h
or_right false y h = h

-- the place of the first byte that passes, behind bytes of which none does
pub place : (p : ℕ → Bool) (xs rest : List ℕ) → list_any p xs ≡ false → stops p rest ≡ true → position_or_len p (xs ++ rest) ≡ length xs
place p [] [] h s = refl
place p [] (b ∷ t) h s = rw s refl
place p (x ∷ xs) rest h s =
    let later = place p xs rest (or_right (p x) _ h) s in
    rw (or_left (p x) _ h) (omega arith)

pub before : (p : ℕ → Bool) (xs rest : List ℕ) → list_any p xs ≡ false → stops p rest ≡ true → before_first p (xs ++ rest) ≡ xs
before p xs rest h s = take_at xs rest (position_or_len p (xs ++ rest)) (sym (place p xs rest h s))

pub behind : (p : ℕ → Bool) (xs rest : List ℕ) → list_any p xs ≡ false → stops p rest ≡ true → drop (position_or_len p (xs ++ rest)) (xs ++ rest) ≡ rest
behind p xs rest h s = drop_at xs rest (position_or_len p (xs ++ rest)) (sym (place p xs rest h s))

pub after : (p : ℕ → Bool) (xs : List ℕ) (b : ℕ) (t : List ℕ) → list_any p xs ≡ false → p b ≡ true → after_first p (xs ++ b ∷ t) ≡ t
after p xs b t h s =
    let at = position_or_len p (xs ++ b ∷ t) in
    let here : at ≡ length xs = place p xs (b ∷ t) h s in
    let long : length (xs ++ b ∷ []) ≡ at + 1 = omega (arith, length-append xs (b ∷ [])) in
    ap (drop (at + 1)) (sym (append_assoc xs (b ∷ []) t)) ∙ drop_at (xs ++ b ∷ []) t (at + 1) long

pub after_none : (p : ℕ → Bool) (xs : List ℕ) → list_any p xs ≡ false → after_first p xs ≡ []
after_none p xs h =
    let here : position_or_len p xs ≡ length xs = ap (position_or_len p) (sym (append-nil xs)) ∙ place p xs [] h refl in
    drop_all (position_or_len p xs + 1) xs (omega arith)

-- no byte before the first that passes does
pub clear : (p : ℕ → Bool) (xs : List ℕ) → list_any p (before_first p xs) ≡ false
clear p [] = refl
clear p (x ∷ xs) = elim (cases_Bool (p x)) [
  | inl y ↦ rw y refl
  | inr n ↦ rw (n, one-add, n) (clear p xs)
]

pub stopped : (p : ℕ → Bool) (xs : List ℕ) → stops p (drop (position_or_len p xs) xs) ≡ true
stopped p [] = refl
stopped p (x ∷ xs) = elim (cases_Bool (p x)) [
  | inl y ↦ rw (y, y) refl
  | inr n ↦ rw (n, one-add) (stopped p xs)
]

pub whole : (p : ℕ → Bool) (xs : List ℕ) → xs ≡ before_first p xs ++ drop (position_or_len p xs) xs
whole p xs = sym (take-append-drop (position_or_len p xs) xs)

-- a text that begins with another
pub begins : (front text : List ℕ) → starts_with nat_eq text front ≡ true → text ≡ front ++ drop (length front) text
begins [] text h = refl
begins (a ∷ front) [] h = cc h
begins (a ∷ front) (b ∷ text) h =
    let same : a ≡ b = eqb-true a b (and-left (nat_eq a b) _ h) in
    ap (λ x. x ∷ text) (sym same) ∙ ap (λ l. a ∷ l) (begins front text (and-right (nat_eq a b) _ h))

pub begun : (front rest : List ℕ) → starts_with nat_eq (front ++ rest) front ≡ true
begun [] rest = refl
begun (a ∷ front) rest = let same : nat_eq a a ≡ true = grind (arith, nat_tests) in rw same (begun front rest)
