-- The places of elements in a list, found by a specifier.
use Rattle.std.specs.Prelude.{◌≡◌, ℕ, Bool, List, Option, if◌then◌else◌}
use Rattle.std.specs.List.{position_from}
use Rattle.std.specs.FinMap as finite
use Rattle.std.specs.FinMap.{FinMap}
use Rattle.url.specs.Parts.{Parts}
use Rattle.spec_base.specs.Shown.{text_cmp}
use Rattle.spec_base.specs.Specifier.{specifier_text}

-- the map with a value at a key, where none stands there
abbrev pub with_first : {V : Type 0} → FinMap text_cmp V → List ℕ → V → FinMap text_cmp V
with_first m key value = if finite.contains_key m key then m else finite.insert m key value

-- the place of the first element that is listed for a specifier
abbrev pub first_place : {T : Type 0} → (T → Parts → Bool) → List T → Parts → Option ℕ
first_place is_for items s = position_from (λ item. is_for item s) 0 items

-- a map leads from each specifier to the place of the first element that is listed for it
pub record IsIndex {T : Type 0} (is_for : T → Parts → Bool) (items : List T) (places : FinMap text_cmp ℕ) : Type 0 where
  pub leads : (s : Parts) → finite.get places (specifier_text s) ≡ first_place is_for items s
