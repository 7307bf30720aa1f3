-- What is written and the tokens of what is left make the whole.
use Rattle.std.proofs.Common.{◌≡◌, ◌++◌}
use Rattle.std.specs.FinMap as finite
use Rattle.spec_base.specs.Specifier.{by_text}
use Rattle.json_tokens.specs.Tokens.{list_tokens}
use Rattle.graph_json.specs.GraphJson.{slot_json}
use Rattle.graph_json.proofs.text.push_each_slot.Given as goal

abbrev pub invariant-loop-specifier : goal.invariant-loop-specifier
invariant-loop-specifier l = l.fn.out ++ list_tokens slot_json (finite.entries l.graph.slots) ≡ l.out ++ list_tokens slot_json (by_text l.specifier-iterator)
