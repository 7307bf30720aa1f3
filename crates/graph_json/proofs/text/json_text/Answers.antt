use Rattle.std.proofs.Common.{ap, ◌∙◌, ◌++◌}
use Rattle.json_tokens.specs.Tokens.{data_tokens}
use Rattle.json_tokens.proofs.RowTokens.{text_of}
use Rattle.graph_json.specs.GraphJson.{graph_json}
use Rattle.graph_json.proofs.text.json_text.Goals as goal

pub returns : goal.returns
returns c =
    text_of (graph_json c.args.graph.now) _ _ (c.in_ok-push_graph.ensures ∙ ap (λ ts. ts ++ data_tokens (graph_json c.args.graph.now)) c.new-out.ensures) c.in_ok-text.ensures
