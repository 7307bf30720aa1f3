-- Numbers of calls up to a last one, and up to a later one.
use Rattle.std.proofs.Common.{◌≡◌, ℕ, ◌≤◌, ◌+◌, Bool, true, false, List, [], ◌∷◌, refl, sym, subst, ◌∙◌, arith}
use Rattle.std.proofs.lemmas.Bool.Decides.{nat_tests}
use Rattle.std.specs.Prelude.{◌&&◌, ◌||◌, nat_lt, nat_le}
use Rattle.source_io.specs.Calls.{lists_within}

one_more : (x last later : ℕ) → last ≤ later → (nat_lt 0 x && nat_le x last) ≡ true → (nat_lt 0 x && nat_le x later) ≡ true
one_more x last later more t = grind (arith, nat_tests)

either : (a b c d : Bool) → (a ≡ true → c ≡ true) → (b ≡ true → d ≡ true) → (a || b) ≡ true → (c || d) ≡ true
either true b true d f g t = refl
either true b false d f g t = absurd (let e = f refl in cc)
either false b true d f g t = refl
either false b false d f g t = g t

pub within_more : (numbers : List ℕ) (last later : ℕ) → last ≤ later → lists_within numbers last ≡ true → lists_within numbers later ≡ true
within_more [] last later more t = t
within_more (x ∷ xs) last later more t =
    either (nat_lt 0 x && nat_le x last) (lists_within xs last) (nat_lt 0 x && nat_le x later) (lists_within xs later)
    (one_more x last later more) (within_more xs last later more) t

-- a bound by the same number
pub within_same : (n from most other : ℕ) → most ≡ other → n ≤ from + most → n ≤ from + other
within_same n from most other same within = omega (arith, same, within)

-- a failure after no more questions than may be put comes by a call that some number names
pub fails_within : (may_fail : ℕ → Bool) (given numbers : List ℕ) (first last most : ℕ) → ((n : ℕ) → may_fail n ≡ lists_within given n) → given ≡ numbers → first ≡ 0 → last ≤ first + most → may_fail last ≡ true → lists_within numbers most ≡ true
fails_within may_fail given numbers first last most by same none within fails =
    within_more numbers last most (omega (arith, none, within)) (subst (λ l. lists_within l last ≡ true) same (sym (by last) ∙ fails))

-- and by one that a number up to that of the questions names
pub fails_last : (may_fail : ℕ → Bool) (given numbers : List ℕ) (last : ℕ) → ((n : ℕ) → may_fail n ≡ lists_within given n) → given ≡ numbers → may_fail last ≡ true → lists_within numbers last ≡ true
fails_last may_fail given numbers last by same fails = subst (λ l. lists_within l last ≡ true) same (sym (by last) ∙ fails)

-- as many as are within one number are within the same number
pub within_budget : (n most other : ℕ) → most ≡ other → n ≤ other → n ≤ most
within_budget n most other same within = omega (arith, same, within)
