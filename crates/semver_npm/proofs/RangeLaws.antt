-- The ranges of a caret, a tilde, an x and a hyphen, in the subject's words.
use Rattle.std.proofs.Common.{◌≡◌, ◌<◌, ◌^◌, ℕ, ◌+◌, ◌==◌, ◌&&◌, [], ◌∷◌, length, Bool, true, false, refl, ap, ◌∙◌, arith, nat_lt}
use Rattle.std.proofs.lemmas.Bool.Decides.{nat_tests}
use Rattle.std.specs.Ordering.{is_ge, is_le, is_lt}
use Rattle.semver_npm.specs.Meaning.{in_range, in_simple, release}
use Rattle.semver_npm.specs.Reader.{between}
use Rattle.semver_npm.specs.Versions.{Ver, precedence}
use Rattle.semver_npm.specs.declared.simple.Operator.TheVariants.{AtLeast, AtMost, Caret, Plain, Tilde}
use Rattle.semver_npm.specs.declared.simple.Partial.TheVariants.{Full, Major}
use Rattle.semver_npm.specs.declared.simple.Simple.{Simple}

one_true : (x : Bool) → ((x && true) && true) ≡ x
one_true true = refl
one_true false = refl

two_true : (x y : Bool) → ((x && (y && true)) && true) ≡ (x && y)
two_true true true = refl
two_true true false = refl
two_true false y = refl

right_true : (x : Bool) → (x && true) ≡ x
right_true true = refl
right_true false = refl

-- a version without pre-release lies in a range of one simple, or two, where it meets them
only : (s : Simple) (v : Ver) → length v.3 ≡ 0 → in_range (s ∷ []) v ≡ in_simple s v
only s v e = rw e (one_true (in_simple s v))

only_two : (s t : Simple) (v : Ver) → length v.3 ≡ 0 → in_range (s ∷ t ∷ []) v ≡ (in_simple s v && in_simple t v)
only_two s t v e = rw e (two_true (in_simple s v) (in_simple t v))

fits : (a : ℕ) → a + 1 < 2 ^ 64 → nat_lt (a + 1) (2 ^ 64) ≡ true
fits a h = grind (arith, nat_tests)

positive : (a : ℕ) → 0 < a → (a == 0) ≡ false
positive a h = grind (arith, nat_tests)

pub caret_law : (a b c : ℕ) (v : Ver) → 0 < a → a + 1 < 2 ^ 64 → length v.3 ≡ 0
    → in_range (record { operator = Caret; partial = Full (release a b c) } ∷ []) v ≡ (is_ge (precedence v (release a b c)) && is_lt (precedence v (release (a + 1) 0 0)))
caret_law a b c v pos small none = only (record { operator = Caret; partial = Full (release a b c) }) v none ∙ rw (positive a pos, fits a small) refl

pub tilde_law : (a b c : ℕ) (v : Ver) → b + 1 < 2 ^ 64 → length v.3 ≡ 0
    → in_range (record { operator = Tilde; partial = Full (release a b c) } ∷ []) v ≡ (is_ge (precedence v (release a b c)) && is_lt (precedence v (release a (b + 1) 0)))
tilde_law a b c v small none = only (record { operator = Tilde; partial = Full (release a b c) }) v none ∙ rw (fits b small) refl

pub x_law : (a : ℕ) (v : Ver) → a + 1 < 2 ^ 64 → length v.3 ≡ 0
    → in_range (record { operator = Plain; partial = Major a } ∷ []) v ≡ (is_ge (precedence v (release a 0 0)) && is_lt (precedence v (release (a + 1) 0 0)))
x_law a v small none = only (record { operator = Plain; partial = Major a }) v none ∙ rw (fits a small) refl

pub hyphen_law : (p q v : Ver) → length v.3 ≡ 0 → in_range (between (Full p) (Full q)) v ≡ (is_ge (precedence v p) && is_le (precedence v q))
hyphen_law p q v none =
    only_two (record { operator = AtLeast; partial = Full p }) (record { operator = AtMost; partial = Full q }) v none
    ∙ ap (λ x. x && is_le (precedence v q)) (right_true (is_ge (precedence v p)))
