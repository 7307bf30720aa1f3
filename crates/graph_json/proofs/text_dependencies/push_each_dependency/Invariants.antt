-- What is written and the tokens of what is left make the whole.
use Rattle.std.proofs.Common.{◌≡◌, ◌++◌}
use Rattle.spec_base.specs.Shown.{shown}
use Rattle.json_tokens.specs.Tokens.{list_tokens}
use Rattle.graph_json.specs.GraphJson.{dependency_json}
use Rattle.graph_json.proofs.text_dependencies.push_each_dependency.Given as goal

abbrev pub invariant-loop-text : goal.invariant-loop-text
invariant-loop-text l = l.fn.out ++ list_tokens dependency_json l.dependencies ≡ l.out ++ list_tokens dependency_json (shown l.text-iterator)
