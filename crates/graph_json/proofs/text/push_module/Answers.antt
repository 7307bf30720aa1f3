use Rattle.std.proofs.Common.{ap, sym, ◌∙◌, ◌++◌}
use Rattle.std.proofs.lemmas.Result.{on_ok_weaker}
use Rattle.json_tokens.specs.Tokens.{data_tokens}
use Rattle.graph_json.specs.GraphJson.{module_json}
use Rattle.graph_json.proofs.text.push_module.Goals as goal

pub returns-in-External : goal.returns-in-External
returns-in-External c = on_ok_weaker c.push_outside-in-External.result (λ e. e ∙ ap (λ m. c.args.out.now ++ data_tokens (module_json m)) (sym c.in-External.is)) c.push_outside-in-External.ensures
