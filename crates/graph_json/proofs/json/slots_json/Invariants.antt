-- The values so far and those of what is left are the values of all.
use Rattle.std.proofs.Common.{◌≡◌, ◌++◌, map}
use Rattle.serde_json.specs.View.{view}
use Rattle.std.specs.FinMap as finite
use Rattle.spec_base.specs.Specifier.{by_text}
use Rattle.graph_json.specs.GraphJson.{slot_json}
use Rattle.graph_json.proofs.json.slots_json.Given as goal

abbrev pub invariant-loop-specifier : goal.invariant-loop-specifier
invariant-loop-specifier l = map slot_json (finite.entries l.graph.slots) ≡ map view l.values.items ++ map slot_json (by_text l.specifier-iterator)
