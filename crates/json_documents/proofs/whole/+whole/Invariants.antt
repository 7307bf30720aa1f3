use Rattle.std.proofs.Common.{◌≡◌, drop}
use Rattle.json.specs.Value.{items_view, members_view}
use Rattle.json_documents.specs.Whole.{items_were_whole, members_were_whole}
use Rattle.json_documents.proofs.whole.+whole.Given as goal

-- what is left decides
abbrev pub invariant-items_were_whole-loop-item : goal.invariant-items_were_whole-loop-item
invariant-items_were_whole-loop-item l = items_were_whole (items_view l.item-items) ≡ items_were_whole (items_view (drop l.item-index l.item-items))

abbrev pub invariant-members_were_whole-loop-member : goal.invariant-members_were_whole-loop-member
invariant-members_were_whole-loop-member l = members_were_whole (members_view l.member-items) ≡ members_were_whole (members_view (drop l.member-index l.member-items))
