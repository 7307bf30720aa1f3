-- A name by its first character.
use Rattle.std.proofs.Common.{◌≡◌, ℕ, List, [], ◌∷◌, drop, false, Some, None, refl}
use Rattle.std.specs.Prelude.{slice_get, ◌&&◌}
use Rattle.std.specs.List.{list_all}
use Rattle.wasm_dts.specs.Identifier.{starts_identifier, continues_identifier, is_identifier_name}

-- a text with a first character
pub name_of_first : (chs : List ℕ) (first : ℕ) → slice_get chs 0 ≡ Some first → is_identifier_name chs ≡ (starts_identifier first && list_all continues_identifier (drop 1 chs))
name_of_first [] first h = cc
name_of_first (ch ∷ chs) first h = let e : ch ≡ first = cc in rw e refl

-- an empty text
pub no_name : (chs : List ℕ) → slice_get chs 0 ≡ None → is_identifier_name chs ≡ false
no_name [] h = refl
no_name (ch ∷ chs) h = cc
