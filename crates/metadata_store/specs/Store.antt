-- Answers that stay as they first came.
use Rattle.std.specs.Prelude.{if◌then◌else◌}
use Rattle.std.specs.declared.cmp.Ordering.{Ordering}
use Rattle.std.specs.FinMap as finite
use Rattle.std.specs.FinMap.{FinMap}

-- the map with an answer at a key, where none stands there
abbrev pub with_answer : {K V : Type 0} {R : K → K → Ordering} → FinMap R V → K → V → FinMap R V
with_answer answers key answer = if finite.contains_key answers key then answers else finite.insert answers key answer
