-- The values so far and those of what is left are the values of all.
use Rattle.std.proofs.Common.{◌≡◌, ◌++◌, map}
use Rattle.serde_json.specs.View.{view}
use Rattle.spec_base.specs.Shown.{shown}
use Rattle.graph_json.specs.GraphJson.{dependency_json}
use Rattle.graph_json.proofs.json_dependencies.dependency_list.Given as goal

abbrev pub invariant-loop-text : goal.invariant-loop-text
invariant-loop-text l = map dependency_json l.dependencies ≡ map view l.values.items ++ map dependency_json (shown l.text-iterator)
