use Rattle.std.proofs.Common.{◌≡◌, ◌∙◌, ◌∷◌, drop, ap, sym, arith, ◌+◌}
use Rattle.std.proofs.lemmas.List.{drop_more}
use Rattle.json.specs.Value.{members_view}
use Rattle.json_documents.specs.Documents.{members_of, named}
use Rattle.json_documents.proofs.DataLemmas.{named_insert}
use Rattle.json_documents.proofs.members.by_name.Goals as goal

pub loop-member-preserved : goal.loop-member-preserved
loop-member-preserved c =
    let l = c.loop-member in
    let xs = c.deref-member-items.result.now in
    let x = c.member-item.result in
    let here : drop l.member-index xs ≡ x ∷ drop (l.member-index + 1) xs = drop_more xs l.member-index x (omega arith) ∙ ap (λ y. y ∷ drop (l.member-index + 1) xs) (sym c.member-item.is) in
    l.invariant
    ∙ ap (λ ms. members_of (members_view ms) (named l.found.entries)) here
    ∙ ap (members_of (members_view (drop (l.member-index + 1) xs))) (sym (ap named c.in_ok-insert.ensures.entries ∙ named_insert l.found.entries _ _))
