use Rattle.std.proofs.Common.{refl, ap, ◌∙◌, ◌++◌}
use Rattle.std.specs.FinMap as finite
use Rattle.serde_json.proofs.OnLiterals.{serde_json_on_literals}
use Rattle.json_forms.specs.Rows.{list_json}
use Rattle.json_tokens.specs.Tokens.{data_tokens}
use Rattle.json_tokens.proofs.RowTokens.{then_more, object_written}
use Rattle.graph_json.specs.GraphJson.{slot_json, graph_rows, graph_json}
use Rattle.graph_json.proofs.text.push_graph.Goals as goal

pub returns : goal.returns
unfolding serde_json_on_literals graph_json
returns c =
    object_written (graph_rows c.args.graph.now) c.args.out.now _ ((refl, (refl, (refl, (refl, tt)))), ((refl, (refl, (refl, tt))), ((refl, (refl, tt)), ((refl, tt), (tt, tt)))))
    (then_more c.args.out.now _ _ _ _ c.in_ok-begin_object.ensures
    (then_more c.begin_object.new.self _ _ _ _ c.in_ok-push_imports.ensures
    (then_more c.push_imports.new.out _ _ _ _ c.in_ok-key.ensures
    (then_more c.key.new.self _ _ _ _ c.in_ok-push_slots.ensures
    (then_more c.push_slots.new.out _ _ _ _ c.in_ok-push_packages.ensures
    (then_more c.push_packages.new.out _ _ _ _ c.in_ok-key-2.ensures
    (then_more c.key-2.new.self _ _ _ _ c.in_ok-push_redirects.ensures
    (then_more c.push_redirects.new.out _ _ _ _ c.in_ok-key-3.ensures
    (then_more c.key-3.new.self _ _ _ _ c.in_ok-push_roots.ensures
    c.in_ok-end_object.ensures)))))))))
