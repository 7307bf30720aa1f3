-- What is written and the tokens of what is left make the whole.
use Rattle.std.proofs.Common.{◌≡◌, ◌++◌}
use Rattle.json_tokens.specs.Tokens.{list_tokens}
use Rattle.graph_json.specs.GraphJson.{specifier_json}
use Rattle.graph_json.proofs.text.push_each_root.Given as goal

abbrev pub invariant-loop-root : goal.invariant-loop-root
invariant-loop-root l = l.fn.out ++ list_tokens specifier_json l.roots ≡ l.out ++ list_tokens specifier_json l.root-iterator
