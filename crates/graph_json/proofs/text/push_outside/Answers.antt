use Rattle.std.proofs.Common.{refl}
use Rattle.serde_json.proofs.OnLiterals.{serde_json_on_literals}
use Rattle.json_tokens.proofs.RowTokens.{then_more, object_written}
use Rattle.graph_json.specs.GraphJson.{outside_rows}
use Rattle.graph_json.proofs.text.push_outside.Goals as goal

pub returns : goal.returns
unfolding serde_json_on_literals
returns c =
    object_written (outside_rows c.args.kind.now _ _ c.args.specifier.now) c.args.out.now _ ((refl, (refl, (refl, tt))), ((refl, (refl, tt)), ((refl, tt), (tt, tt))))
    (then_more c.args.out.now _ _ _ _ c.in_ok-begin_object.ensures
    (then_more c.begin_object.new.self _ _ _ _ c.in_ok-text_member.ensures
    (then_more c.text_member.new.self _ _ _ _ c.in_ok-push_local.ensures
    (then_more c.push_local.new.out _ _ _ _ c.in_ok-push_name.ensures
    (then_more c.push_name.new.out _ _ _ _ c.in_ok-push_specifier.ensures
    c.in_ok-end_object.ensures)))))
