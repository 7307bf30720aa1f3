-- The order beside the values of a table.
use Rattle.std.specs.Prelude.{◌≡◌, ℕ, Bool, true, List, [], ◌∷◌, ◌++◌, Option, None, Some, bytes_eq}
use Rattle.std.specs.BTreeSet.{BTreeSet}
use Rattle.std.specs.FinMap as finite
use Rattle.std.specs.FinMap.{FinMap}
use Rattle.std.specs.List.{list_any}
use Rattle.url.specs.Parts.{Parts}
use Rattle.spec_base.specs.Shown.{text_cmp}
use Rattle.spec_base.specs.Specifier.{specifier_text}

-- a specifier of this text stands among these
abbrev pub stands_in : List Parts → List ℕ → Bool
stands_in ss q = list_any (λ s. bytes_eq q (specifier_text s)) ss

-- each text that has a value is that of a specifier in the order
abbrev pub IsCovered : {V : Type 0} → BTreeSet Parts → FinMap text_cmp V → Type 0
IsCovered order values = (q : List ℕ) → finite.contains_key values q ≡ true → stands_in order.keys q ≡ true

-- a specifier with its value, where it has one
abbrev pub with_value : {V : Type 0} → Parts → Option V → List (Parts × V)
with_value s None = []
with_value s (Some v) = (s, v) ∷ []

-- those of these specifiers that have values, with them
abbrev pub lent : {V : Type 0} → FinMap text_cmp V → List Parts → List (Parts × V)
lent values [] = []
lent values (s ∷ ss) = with_value s (finite.get values (specifier_text s)) ++ lent values ss
