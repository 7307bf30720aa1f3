use Rattle.std.proofs.Common.{ap, sym, ◌∙◌, ◌++◌, Some}
use Rattle.std.specs.Prelude.{codes}
use Rattle.std.proofs.lemmas.Result.{on_ok_weaker}
use Rattle.serde_json.specs.Data.{string}
use Rattle.json_tokens.specs.Tokens.{member_tokens}
use Rattle.graph_json.specs.GraphJson.{attribute_json}
use Rattle.graph_json.proofs.text_dependencies.push_attribute.Goals as goal

pub returns-in-Some : goal.returns-in-Some
returns-in-Some c =
    on_ok_weaker c.text_member.result (λ e. e
    ∙ ap (λ s. c.args.out.now ++ member_tokens (codes "assertionType") (Some (string s))) c.as_str.ensures
    ∙ ap (λ a. c.args.out.now ++ member_tokens (codes "assertionType") (attribute_json a)) (sym c.in-Some.is)) c.text_member.ensures
