-- What is written and the tokens of what is left make the whole.
use Rattle.std.proofs.Common.{◌≡◌, ◌++◌}
use Rattle.json_tokens.specs.Tokens.{list_tokens}
use Rattle.graph_json.specs.GraphJson.{import_json}
use Rattle.graph_json.proofs.text.push_each_import.Given as goal

abbrev pub invariant-loop-referrer : goal.invariant-loop-referrer
invariant-loop-referrer l = l.fn.out ++ list_tokens import_json l.imports ≡ l.out ++ list_tokens import_json l.referrer-iterator
