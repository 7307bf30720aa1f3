-- What `strip_prefix` answers, and the parts of a path.
use Rattle.std.proofs.Common.{◌≡◌, ℕ, ◌+◌, Bor, Bool, true, false, cond, not, List, [], ◌∷◌, length, take, drop, Option, None, Some, refl, sym, ap, ◌∙◌, ⊎_elim, arith}
use Rattle.std.specs.Prelude.{MatchOption, nat_eq, option_copied}
use Rattle.std.specs.List.{after_first, before_first, position_or_len, slice_split, onto_first, starts_with}
use Rattle.std.specs.Str.Pattern.{FindsTextPrefix, StripsPrefix}
use Rattle.std.proofs.Math.Nat.{eq-or-lt_of_le}
use Rattle.std.proofs.Math.Seq.{take-length}
use Rattle.std.proofs.lemmas.List.Splits.{slice_split_first}
use Rattle.std.proofs.lemmas.List.Sums.{prefix_len-le-length}
use Rattle.std.proofs.lemmas.Str.Pattern.{starts_text}
use Rattle.registry_urls.specs.Prefix.{after_prefix}

-- what `strip_prefix` answers is what stands after the prefix
pub stripped : (prefix text : List ℕ) (r : Option (Bor (List ℕ))) → MatchOption r (FindsTextPrefix prefix text None) (λ x. StripsPrefix (FindsTextPrefix prefix) text x.now) → option_copied r ≡ after_prefix prefix text
stripped prefix text None lacks =
    let no : starts_with nat_eq text prefix ≡ false = sym (starts_text false prefix text lacks) in
    rw no
stripped prefix text (Some x) strips =
    let len = strips.1.0 in
    let yes : starts_with nat_eq text prefix ≡ true = sym (starts_text true prefix text (strips.0, strips.1, rw len strips.1.2)) in
    rw yes (ap Some (strips.2 ∙ ap (λ n. drop n text) len))

-- a list in which no element passes is one part
pub one_part : {X : Type 0} (p : X → Bool) (xs : List X) → position_or_len p xs ≡ length xs → slice_split p xs ≡ xs ∷ []
one_part p [] whole = refl
one_part p (x ∷ xs) whole = by_test (p x) refl whole (one_part p xs)
  where
    by_test : (b : Bool) → p x ≡ b → cond (not b) (1 + position_or_len p xs) 0 ≡ length (x ∷ xs) → (position_or_len p xs ≡ length xs → slice_split p xs ≡ xs ∷ []) → slice_split p (x ∷ xs) ≡ (x ∷ xs) ∷ []
    by_test true t e rest = absurd (omega (arith, e))
    by_test false f e rest = ap (λ b. cond b ([] ∷ slice_split p xs) (onto_first x (slice_split p xs))) f ∙ ap (onto_first x) (rest (omega (arith, e)))

-- the first part, whatever follows it
pub first_part : {X : Type 0} (p : X → Bool) (xs : List X) (d : X) → (others : List (List X)) × (slice_split p xs ≡ before_first p xs ∷ others)
first_part p xs d =
    ⊎_elim
    (λ whole. ([], one_part p xs whole ∙ ap (λ l. l ∷ []) (sym (ap (λ n. take n xs) whole ∙ take-length xs))))
    (λ short. (slice_split p (after_first p xs), slice_split_first p xs d short))
    (eq-or-lt_of_le (prefix_len-le-length (λ x. not (p x)) xs))
