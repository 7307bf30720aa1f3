use Rattle.std.proofs.Common.{◌≡◌, drop}
use Rattle.serde_json.specs.View.{items_view, members_view}
use Rattle.json_forms.specs.Whole.{items_whole, members_whole}
use Rattle.json_forms.proofs.whole.+whole.Given as goal

-- what is left decides
abbrev pub invariant-items_whole-loop-item : goal.invariant-items_whole-loop-item
invariant-items_whole-loop-item l = items_whole (items_view l.item-items) ≡ items_whole (items_view (drop l.item-index l.item-items))

abbrev pub invariant-members_whole-loop-key : goal.invariant-members_whole-loop-key
invariant-members_whole-loop-key l = members_whole (members_view l.members.entries) ≡ members_whole (members_view l._key-iterator)
