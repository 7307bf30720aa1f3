use Rattle.std.proofs.Common.{ap, ◌∙◌, ◌++◌, Some}
use Rattle.std.specs.Prelude.{codes}
use Rattle.std.proofs.lemmas.Result.{on_ok_weaker}
use Rattle.serde_json.specs.Data.{string}
use Rattle.json_tokens.specs.Tokens.{member_tokens}
use Rattle.graph_json.proofs.text_dependencies.push_text.Goals as goal

pub returns : goal.returns
returns c = on_ok_weaker c.text_member.result (λ e. e ∙ ap (λ s. c.args.out.now ++ member_tokens (codes "specifier") (Some (string s))) c.as_str.ensures) c.text_member.ensures
