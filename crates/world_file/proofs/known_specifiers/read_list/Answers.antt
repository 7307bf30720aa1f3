use Rattle.std.proofs.Common.{◌++◌, ◌∙◌, ap, option_map}
use Rattle.serde_json.specs.View as serde
use Rattle.json_documents.specs.Documents.{items_left, view}
use Rattle.json_forms.specs.Form.{items_of, specifier}
use Rattle.json_forms.proofs.Options.{items_of-push}
use Rattle.world_file.proofs.known_specifiers.read_list.Goals as goal

pub loop-item-preserved : goal.loop-item-preserved
loop-item-preserved c =
    let l = c.loop-item in
    let step = ap (λ ds. option_map (λ vs. l.roots.items ++ vs) (items_of specifier (serde.items_of ds))) c.in-Some-item.ensures.steps in
    rw c.in_ok-push.ensures.items (l.invariant ∙ step ∙ items_of-push specifier (view c.in-Some-item.item) (serde.items_of (items_left c.next.new.self)) _ l.roots.items c.in_ok-read_root.ensures)
