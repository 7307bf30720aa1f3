-- The values so far and those of what is left are the values of all.
use Rattle.std.proofs.Common.{◌≡◌, ◌++◌, map}
use Rattle.serde_json.specs.View.{view}
use Rattle.graph_json.specs.GraphJson.{import_json}
use Rattle.graph_json.proofs.json.import_list.Given as goal

abbrev pub invariant-loop-referrer : goal.invariant-loop-referrer
invariant-loop-referrer l = map import_json l.imports ≡ map view l.values.items ++ map import_json l.referrer-iterator
