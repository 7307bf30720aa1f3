use Rattle.std.proofs.Common.{refl}
use Rattle.std.specs.Prelude.{codes}
use Rattle.serde_json.proofs.OnLiterals.{serde_json_on_literals}
use Rattle.json_tokens.proofs.RowTokens.{then_more, object_written}
use Rattle.graph_json.specs.GraphJson.{resolution_rows}
use Rattle.serde_json.specs.Data.{string}
use Rattle.graph_json.proofs.text_dependencies.push_refused.Goals as goal

pub returns : goal.returns
unfolding serde_json_on_literals
returns c =
    object_written (resolution_rows (codes "error") (string c.args.text.now) c.args.range.now) c.args.out.now _ ((refl, (refl, tt)), ((refl, tt), (tt, tt)))
    (then_more c.args.out.now _ _ _ _ c.in_ok-begin_object.ensures
    (then_more c.begin_object.new.self _ _ _ _ c.in_ok-text_member.ensures
    (then_more c.text_member.new.self _ _ _ _ c.in_ok-push_mode.ensures
    (then_more c.push_mode.new.out _ _ _ _ c.in_ok-key.ensures
    (then_more c.key.new.self _ _ _ _ c.in_ok-push_span.ensures
    c.in_ok-end_object.ensures)))))
