use Rattle.std.proofs.Common.{◌≡◌, drop}
use Rattle.json.specs.Value.{items_view, members_view}
use Rattle.json_documents.specs.Documents.{items_are_data, members_are_data}
use Rattle.json_documents.proofs.document.+numbers.Given as goal

-- what is left decides
abbrev pub invariant-items_are_data-loop-item : goal.invariant-items_are_data-loop-item
invariant-items_are_data-loop-item l = items_are_data (items_view l.item-items) ≡ items_are_data (items_view (drop l.item-index l.item-items))

abbrev pub invariant-members_are_data-loop-member : goal.invariant-members_are_data-loop-member
invariant-members_are_data-loop-member l = members_are_data (members_view l.member-items) ≡ members_are_data (members_view (drop l.member-index l.member-items))
