-- Sets and maps in the order of their keys, as lists.
use Rattle.std.specs.Prelude.{Bool, List, Option}
use Rattle.std.specs.List.{list_any}
use Rattle.std.specs.Map.{lookup}
use Rattle.std.specs.BTreeMap.{is_at}
use Rattle.std.specs.declared.cmp.Ordering.{Ordering}

-- whether a set has a key
abbrev pub has : {K : Type 0} → (K → K → Ordering) → List K → K → Bool
has cmp keys k = list_any (is_at (cmp k)) keys

-- what a map has at a key
abbrev pub at_key : {K V : Type 0} → (K → K → Ordering) → List (K × V) → K → Option V
at_key cmp entries k = lookup (is_at (cmp k)) entries
