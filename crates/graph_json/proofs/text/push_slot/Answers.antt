use Rattle.std.proofs.Common.{ap, sym, ◌∙◌, ◌++◌}
use Rattle.std.proofs.lemmas.Result.{on_ok_weaker}
use Rattle.json_tokens.specs.Tokens.{data_tokens}
use Rattle.graph_json.specs.GraphJson.{by_slot}
use Rattle.graph_json.proofs.text.push_slot.Goals as goal

pub returns-in-Pending : goal.returns-in-Pending
returns-in-Pending c = on_ok_weaker c.push_error-in-Pending.result (λ e. e ∙ ap (λ s. c.args.out.now ++ data_tokens (by_slot c.args.key.now s)) (sym c.in-Pending.is)) c.push_error-in-Pending.ensures
