use Rattle.std.proofs.Common.{ap, ◌∙◌, ◌++◌, arith}
use Rattle.std.specs.Prelude.{codes}
use Rattle.json_tokens.proofs.RowTokens.{then_more}
use Rattle.graph_json.specs.GraphJson.{dependency_json}
use Rattle.graph_json.proofs.TextLemmas.{some_listed}
use Rattle.graph_json.proofs.text_dependencies.push_dependencies.Goals as goal

pub returns : goal.returns
returns c =
    then_more c.args.out.now _ _ _ _ c.in_ok-key.ensures c.in_ok-push_dependency_list.ensures
    ∙ ap (λ ts. c.args.out.now ++ ts) (some_listed (codes "dependencies") dependency_json c.args.dependencies.now (grind (arith, c.if-len-eq0.false, c.len.ensures)))
