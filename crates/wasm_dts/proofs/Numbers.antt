-- The value of a number's bytes, from its last byte on.
use Rattle.std.proofs.Common.{◌≡◌, ℕ, suc, zero, ◌+◌, ◌*◌, ◌%◌, ◌^◌, ◌<◌, ◌≤◌, ltb, cond, Some, None, List, [], ◌∷◌, length, get_or, drop, add-one, refl, arith, drop-cons}
use Rattle.std.proofs.lemmas.Bool.Decides.{nat_tests}
use Rattle.wasm_dts.specs.Binary.{leb_value}

-- a lower byte adds seven bits
pub leb_value-drop : (i j : ℕ) (bytes : List ℕ) → j ≡ i + 1 → i < length bytes → leb_value (drop i bytes) ≡ get_or bytes i 0 % 128 + 128 * leb_value (drop j bytes)
unfolding leb_value
leb_value-drop i j bytes e h = rw (e, add-one, drop-cons bytes i 0) refl

-- lower bytes don't take from the value
pub leb_value-grows : (i : ℕ) (bytes : List ℕ) → leb_value (drop i bytes) ≤ leb_value bytes
unfolding leb_value
leb_value-grows zero bytes = omega arith
leb_value-grows (suc i) [] = omega arith
leb_value-grows (suc i) (b ∷ bytes) = omega (arith, leb_value-grows i bytes)

-- where the value of the upper bytes is too large, the whole is
pub too_large : (i j : ℕ) (bytes : List ℕ) (value : ℕ) → j ≡ i + 1 → i < length bytes → leb_value (drop j bytes) ≡ value
    → None ≡ cond (ltb (get_or bytes i 0 % 128 + 128 * value) (2 ^ 64)) (Some (get_or bytes i 0 % 128 + 128 * value)) None
    → None ≡ cond (ltb (leb_value bytes) (2 ^ 64)) (Some (leb_value bytes)) None
too_large i j bytes value e h v n =
    let d = leb_value-drop i j bytes e h in
    let g = leb_value-grows i bytes in
    grind (arith, nat_tests)

-- the value with one more of the lower bytes
pub one_lower : (i j : ℕ) (bytes : List ℕ) (value longer : ℕ) → j ≡ i + 1 → i < length bytes → leb_value (drop j bytes) ≡ value
    → Some longer ≡ cond (ltb (get_or bytes i 0 % 128 + 128 * value) (2 ^ 64)) (Some (get_or bytes i 0 % 128 + 128 * value)) None
    → (leb_value (drop i bytes) ≡ longer) × (longer < 2 ^ 64)
one_lower i j bytes value longer e h v n =
    let d = leb_value-drop i j bytes e h in
    (grind (arith, nat_tests), grind (arith, nat_tests))

-- the value of all the bytes
pub whole_value : (i : ℕ) (bytes : List ℕ) (value : ℕ) → i ≡ 0 → leb_value (drop i bytes) ≡ value → value < 2 ^ 64
    → Some value ≡ cond (ltb (leb_value bytes) (2 ^ 64)) (Some (leb_value bytes)) None
whole_value i bytes value e v fits =
    let all : leb_value bytes ≡ value = rw e at v in
    grind (arith, nat_tests)
