use Rattle.std.proofs.Common.{refl, ap, ◌∙◌, ◌++◌, Some}
use Rattle.std.specs.Prelude.{codes}
use Rattle.serde_json.proofs.OnLiterals.{serde_json_on_literals}
use Rattle.json_tokens.proofs.RowTokens.{then_more, object_written}
use Rattle.graph_json.specs.GraphJson.{asserted_rows}
use Rattle.json_tokens.specs.Tokens.{member_tokens}
use Rattle.serde_json.specs.Data.{number, unsigned}
use Rattle.graph_json.proofs.text.push_asserted.Goals as goal

pub returns : goal.returns
unfolding serde_json_on_literals
returns c =
    object_written (asserted_rows c.args.json.now) c.args.out.now _ ((refl, (refl, (refl, (refl, tt)))), ((refl, (refl, (refl, tt))), ((refl, (refl, tt)), ((refl, tt), (tt, tt)))))
    (then_more c.args.out.now _ _ _ _ c.in_ok-begin_object.ensures
    (then_more c.begin_object.new.self _ _ _ _ c.in_ok-text_member.ensures
    (then_more c.text_member.new.self _ _ _ _ c.in_ok-push_local.ensures
    (then_more c.push_local.new.out _ _ _ _ c.in_ok-push_media.ensures
    (then_more c.push_media.new.out _ _ _ _ (c.in_ok-number_member.ensures ∙ ap (λ n. c.push_media.new.out ++ member_tokens (codes "size") (Some (number (unsigned n)))) c.size.ensures)
    (then_more c.number_member.new.self _ _ _ _ c.in_ok-push_specifier.ensures
    c.in_ok-end_object.ensures))))))
