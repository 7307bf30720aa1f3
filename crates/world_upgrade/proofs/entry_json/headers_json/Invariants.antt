-- What is written is what was passed, as pairs.
use Rattle.std.proofs.Common.{◌≡◌, ℕ, List, ◌++◌, map, String, Global}
use Rattle.serde_json.specs.View.{view}
use Rattle.spec_base.specs.Shown.{shown}
use Rattle.world_upgrade.proofs.HeaderLemmas.{header_pair}
use Rattle.world_upgrade.proofs.entry_json.headers_json.Given as goal

abbrev pub invariant-loop-name : goal.invariant-loop-name
invariant-loop-name l =
    (done : List (String Global × List ℕ)) × (l.initial.name-iterator ≡ done ++ l.name-iterator)
    × (map view l.values.items ≡ map header_pair (shown done))
