use Rattle.std.proofs.Common.{refl}
use Rattle.serde_json.proofs.OnLiterals.{serde_json_on_literals}
use Rattle.json_tokens.proofs.RowTokens.{then_more, object_written}
use Rattle.graph_json.specs.GraphJson.{span_rows}
use Rattle.graph_json.proofs.text_dependencies.push_span.Goals as goal

pub returns : goal.returns
unfolding serde_json_on_literals
returns c =
    object_written (span_rows c.args.range.now) c.args.out.now _ ((refl, tt), (tt, tt))
    (then_more c.args.out.now _ _ _ _ c.in_ok-begin_object.ensures
    (then_more c.begin_object.new.self _ _ _ _ c.in_ok-key.ensures
    (then_more c.key.new.self _ _ _ _ c.in_ok-push_position.ensures
    (then_more c.push_position.new.out _ _ _ _ c.in_ok-key-2.ensures
    (then_more c.key-2.new.self _ _ _ _ c.in_ok-push_position-2.ensures
    c.in_ok-end_object.ensures)))))
