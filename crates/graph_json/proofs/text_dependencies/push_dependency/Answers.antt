use Rattle.std.proofs.Common.{refl}
use Rattle.serde_json.proofs.OnLiterals.{serde_json_on_literals}
use Rattle.json_tokens.proofs.RowTokens.{then_more, object_written}
use Rattle.graph_json.specs.GraphJson.{dependency_rows}
use Rattle.graph_json.proofs.text_dependencies.push_dependency.Goals as goal

pub returns : goal.returns
unfolding serde_json_on_literals
returns c =
    object_written (dependency_rows (c.args.text.now, c.args.dependency.now)) c.args.out.now _ ((refl, (refl, (refl, (refl, (refl, tt))))), ((refl, (refl, (refl, (refl, tt)))), ((refl, (refl, (refl, tt))), ((refl, (refl, tt)), ((refl, tt), (tt, tt))))))
    (then_more c.args.out.now _ _ _ _ c.in_ok-begin_object.ensures
    (then_more c.begin_object.new.self _ _ _ _ c.in_ok-push_attribute.ensures
    (then_more c.push_attribute.new.out _ _ _ _ c.in_ok-push_resolved.ensures
    (then_more c.push_resolved.new.out _ _ _ _ c.in_ok-push_dynamic.ensures
    (then_more c.push_dynamic.new.out _ _ _ _ c.in_ok-push_phase.ensures
    (then_more c.push_phase.new.out _ _ _ _ c.in_ok-text_member.ensures
    (then_more c.text_member.new.self _ _ _ _ c.in_ok-push_resolved-2.ensures
    c.in_ok-end_object.ensures)))))))
