use Rattle.std.proofs.Common.{◌++◌, ◌∙◌, ap, option_map}
use Rattle.serde_json.specs.View as serde
use Rattle.json_documents.specs.Documents.{items_left, view}
use Rattle.json_forms.specs.Form.{items_of}
use Rattle.json_forms.proofs.Options.{items_of-push}
use Rattle.json_forms.proofs.form.ItemsForm.read.Goals as goal

pub loop-item-preserved : goal.loop-item-preserved
loop-item-preserved g c =
    let l = c.loop-item in
    let step = ap (λ ds. option_map (λ vs. l.items.items ++ vs) (items_of g.T.Form.form (serde.items_of ds))) c.in-Some-item.ensures.steps in
    rw c.in_ok-push.ensures.items (l.invariant ∙ step ∙ items_of-push g.T.Form.form (view c.in-Some-item.item) (serde.items_of (items_left c.next.new.self)) _ l.items.items c.in_ok-read.ensures)
