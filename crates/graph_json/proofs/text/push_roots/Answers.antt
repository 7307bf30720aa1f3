use Rattle.std.proofs.Common.{ap, sym, ◌∙◌, ◌++◌}
use Rattle.json_tokens.proofs.RowTokens.{then_more, list_tokens_of}
use Rattle.graph_json.specs.GraphJson.{specifier_json}
use Rattle.graph_json.proofs.text.push_roots.Goals as goal

pub returns : goal.returns
returns c =
    (then_more c.args.out.now _ _ _ _ c.in_ok-begin_array.ensures
    (then_more c.begin_array.new.self _ _ _ _ c.in_ok-push_each_root.ensures
    c.in_ok-end_array.ensures))
    ∙ ap (λ ts. c.args.out.now ++ ts) (sym (list_tokens_of specifier_json c.args.roots.now))
