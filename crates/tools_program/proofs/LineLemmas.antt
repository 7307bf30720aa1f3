-- The first line of some bytes, by the place of the first line break.
use Rattle.std.proofs.Common.{◌≡◌, ℕ, ◌+◌, ◌<◌, Bool, true, false, List, [], ◌∷◌, length, get_or, take, drop, suc, zero, cond, eqb, eqb-true, refl, sym, ap, ◌∙◌, arith}
use Rattle.std.specs.Prelude.{Option, Some, None, option_map}
use Rattle.tools_program.specs.Lines.{behind_line, first_line}

-- no byte before a place is a line break
abbrev pub IsUnbroken : List ℕ → ℕ → Type 0
IsUnbroken bytes at = (k : ℕ) → k < at → get_or bytes k 0 ≡ 10 → ⊥

-- a byte that is none
other : (b : ℕ) → (b ≡ 10 → ⊥) → eqb b 10 ≡ false
other b never = go (eqb b 10) refl
  where
    go : (t : Bool) → eqb b 10 ≡ t → eqb b 10 ≡ false
    go true e = absurd (never (eqb-true b 10 e))
    go false e = e

head_other : (b : ℕ) (bytes : List ℕ) (at : ℕ) → IsUnbroken (b ∷ bytes) (suc at) → eqb b 10 ≡ false
head_other b bytes at never = other b (λ is. never 0 (omega arith) is)

rest_unbroken : (b : ℕ) (bytes : List ℕ) (at : ℕ) → IsUnbroken (b ∷ bytes) (suc at) → IsUnbroken bytes at
rest_unbroken b bytes at never = λ k less is. never (suc k) (omega (arith, less)) is

pub line_at : (bytes : List ℕ) (at : ℕ) → at < length bytes → get_or bytes at 0 ≡ 10 → IsUnbroken bytes at → first_line bytes ≡ Some (take at bytes)
line_at [] at inside is never = absurd (omega (arith, inside))
line_at (b ∷ bytes) zero inside is never = rw is refl
line_at (b ∷ bytes) (suc at) inside is never =
    rw (head_other b bytes at never) (ap (option_map (λ line. b ∷ line)) (line_at bytes at (omega (arith, inside)) is (rest_unbroken b bytes at never)))

pub line_none : (bytes : List ℕ) → IsUnbroken bytes (length bytes) → first_line bytes ≡ None
line_none [] never = refl
line_none (b ∷ bytes) never =
    rw (head_other b bytes (length bytes) never) (ap (option_map (λ line. b ∷ line)) (line_none bytes (rest_unbroken b bytes (length bytes) never)))

pub behind_at : (bytes : List ℕ) (at : ℕ) → at < length bytes → get_or bytes at 0 ≡ 10 → IsUnbroken bytes at → behind_line bytes ≡ drop (at + 1) bytes
behind_at [] at inside is never = absurd (omega (arith, inside))
behind_at (b ∷ bytes) zero inside is never = rw is refl
behind_at (b ∷ bytes) (suc at) inside is never =
    let one_more : suc (at + 1) ≡ suc at + 1 = omega arith in
    rw (head_other b bytes at never) (behind_at bytes at (omega (arith, inside)) is (rest_unbroken b bytes at never) ∙ ap (λ (n : ℕ). drop n (b ∷ bytes)) one_more)

pub behind_none : (bytes : List ℕ) → IsUnbroken bytes (length bytes) → behind_line bytes ≡ []
behind_none [] never = refl
behind_none (b ∷ bytes) never = rw (head_other b bytes (length bytes) never) (behind_none bytes (rest_unbroken b bytes (length bytes) never))
