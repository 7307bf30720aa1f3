use Rattle.std.proofs.Common.{refl}
use Rattle.serde_json.proofs.OnLiterals.{serde_json_on_literals}
use Rattle.json_tokens.proofs.RowTokens.{then_more, object_written}
use Rattle.graph_json.specs.GraphJson.{import_rows}
use Rattle.graph_json.proofs.text.push_import.Goals as goal

pub returns : goal.returns
unfolding serde_json_on_literals
returns c =
    object_written (import_rows (c.args.referrer.now, c.args.import.now)) c.args.out.now _ ((refl, tt), (tt, tt))
    (then_more c.args.out.now _ _ _ _ c.in_ok-begin_object.ensures
    (then_more c.begin_object.new.self _ _ _ _ c.in_ok-key.ensures
    (then_more c.key.new.self _ _ _ _ c.in_ok-push_dependency_list.ensures
    (then_more c.push_dependency_list.new.out _ _ _ _ c.in_ok-push_referrer.ensures
    c.in_ok-end_object.ensures))))
