use Rattle.std.proofs.Common.{◌≡◌, ◌∙◌, ◌+◌, [], ◌∷◌, drop, ap, sym, arith}
use Rattle.std.proofs.lemmas.List.{drop_all, drop_more}
use Rattle.json.specs.Value.{items_view}
use Rattle.serde_json.specs.Data.{item}
use Rattle.json_documents.specs.Documents.{items_of}
use Rattle.json_documents.proofs.DataLemmas.{all_before, items_before, one_before}
use Rattle.json_documents.proofs.owned.+owned.Goals as goal

pub owned_items-loop-item-preserved : goal.owned_items-loop-item-preserved
owned_items-loop-item-preserved t c =
    let l = c.loop-item in
    let xs = c.deref-item-items.result.now in
    let x = c.item-item.result in
    let rest = items_of (items_view (drop (l.item-index + 1) xs)) in
    let here : drop l.item-index xs ≡ x ∷ drop (l.item-index + 1) xs = drop_more xs l.item-index x (omega arith) ∙ ap (λ y. y ∷ drop (l.item-index + 1) xs) (sym c.item-item.is) in
    l.invariant
    ∙ ap (λ vs. items_before l.found.items (items_of (items_view vs))) here
    ∙ ap (λ d. items_before l.found.items (item d rest)) (sym c.in_ok-owned.ensures)
    ∙ one_before l.found.items c.in_ok-owned.field-0 rest
    ∙ ap (λ vs. items_before vs rest) (sym c.in_ok-push.ensures.items)

pub owned_items-returns : goal.owned_items-returns
owned_items-returns t c =
    let l = c.loop-item in
    let xs = c.deref-item-items.result.now in
    let none : drop l.item-index xs ≡ [] = drop_all l.item-index xs (omega arith) in
    sym (ap (λ vs. items_of (items_view vs)) (sym c.deref-item-items.ensures.value) ∙ l.invariant ∙ ap (λ vs. items_before l.found.items (items_of (items_view vs))) none ∙ all_before l.found.items)
