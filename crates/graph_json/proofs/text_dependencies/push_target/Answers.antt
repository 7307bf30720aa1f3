use Rattle.std.proofs.Common.{refl, ap, sym, ◌∙◌, ◌++◌}
use Rattle.serde_json.proofs.OnLiterals.{serde_json_on_literals}
use Rattle.json_tokens.proofs.RowTokens.{then_more, object_written}
use Rattle.graph_json.specs.GraphJson.{specifier_json}
use Rattle.json_tokens.specs.Tokens.{data_tokens}
use Rattle.graph_json.proofs.TextLemmas.{target_rows, target_same}
use Rattle.graph_json.proofs.text_dependencies.push_target.Goals as goal

pub returns : goal.returns
unfolding serde_json_on_literals
returns c =
    object_written (target_rows (specifier_json c.args.resolved.now.specifier) c.args.resolved.now.range) c.args.out.now _ ((refl, (refl, tt)), ((refl, tt), (tt, tt)))
    ((then_more c.args.out.now _ _ _ _ c.in_ok-begin_object.ensures
    (then_more c.begin_object.new.self _ _ _ _ c.in_ok-push_mode.ensures
    (then_more c.push_mode.new.out _ _ _ _ c.in_ok-key.ensures
    (then_more c.key.new.self _ _ _ _ c.in_ok-push_span.ensures
    (then_more c.push_span.new.out _ _ _ _ c.in_ok-push_specifier.ensures
    c.in_ok-end_object.ensures))))))
    ∙ ap (λ d. c.args.out.now ++ data_tokens d) (sym (target_same (specifier_json c.args.resolved.now.specifier) c.args.resolved.now.range))
