-- The words of the command `gen`.
use Rattle.std.specs.Prelude.{ℕ, ◌+◌, ◌-◌, ◌*◌, nat_le, ◌&&◌, Bool, List, [], ◌∷◌, ◌==◌, ◌^◌, bytes_eq, codes, Option, Some, None, if◌then◌else◌}
use Rattle.spec_base.specs.Options.{by_option, then_by}
use Rattle.generator_program.specs.declared.generator_words.Generator.{Generator}

-- the number that a decimal digit is
abbrev pub digit_of : ℕ → Option ℕ
digit_of byte = if nat_le 48 byte && nat_le byte 57 then Some (byte - 48) else None

-- a number, if it is at most so great
abbrev pub up_to : ℕ → ℕ → Option ℕ
up_to most n = if nat_le n most then Some n else None

-- the number whose digits are those of a number and these behind them, if it is at most so great
unfoldable pub digits_after : ℕ → ℕ → List ℕ → Option ℕ
digits_after most n [] = Some n
digits_after most n (b ∷ bs) = then_by (digit_of b) (λ d. then_by (up_to most (10 * n + d)) (λ longer. digits_after most longer bs))

-- the number that a word names, in decimal digits without a leading zero, if it is at most so great
abbrev pub number_of : ℕ → List ℕ → Option ℕ
number_of most [] = None
number_of most (b ∷ []) = digits_after most 0 (b ∷ [])
number_of most (b ∷ c ∷ bs) = if b == 48 then None else digits_after most 0 (b ∷ c ∷ bs)

-- what a world is generated from: a number of 32 bits, and a number of modules from 1 to 20000
abbrev pub generator_by : ℕ → ℕ → Option Generator
generator_by start count = if count == 0 then None else Some (record { start = start; count = count })

abbrev pub generator_in : List ℕ → List ℕ → Option Generator
generator_in start count = then_by (number_of 4294967295 start) (λ s. then_by (number_of 20000 count) (λ n. generator_by s n))

-- the words `gen START COUNT`
abbrev pub generator_of : List (List ℕ) → Option Generator
generator_of [] = None
generator_of (word ∷ []) = None
generator_of (word ∷ start ∷ []) = None
generator_of (word ∷ start ∷ count ∷ []) = if bytes_eq word (codes "gen") then generator_in start count else None
generator_of (word ∷ start ∷ count ∷ more ∷ words) = None
