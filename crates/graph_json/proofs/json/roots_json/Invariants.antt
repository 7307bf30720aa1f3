-- The values so far and those of what is left are the values of all.
use Rattle.std.proofs.Common.{◌≡◌, ◌++◌, map}
use Rattle.serde_json.specs.View.{view}
use Rattle.graph_json.specs.GraphJson.{specifier_json}
use Rattle.graph_json.proofs.json.roots_json.Given as goal

abbrev pub invariant-loop-root : goal.invariant-loop-root
invariant-loop-root l = map specifier_json l.roots ≡ map view l.values.items ++ map specifier_json l.root-iterator
