use Rattle.std.proofs.Common.{◌≡◌, drop}
use Rattle.json.specs.Value.{items_view, members_view}
use Rattle.serde_json.specs.Data.{no_members}
use Rattle.serde_json.specs.View as serde
use Rattle.json_documents.specs.Documents.{items_of, members_of}
use Rattle.json_documents.proofs.DataLemmas.{items_before}
use Rattle.json_documents.proofs.owned.+owned.Given as goal

-- what was copied stands before what is left
abbrev pub invariant-owned_items-loop-item : goal.invariant-owned_items-loop-item
invariant-owned_items-loop-item l = items_of (items_view l.item-items) ≡ items_before l.found.items (items_of (items_view (drop l.item-index l.item-items)))

-- those that are left go in among those that were copied
abbrev pub invariant-owned_members-loop-member : goal.invariant-owned_members-loop-member
invariant-owned_members-loop-member l =
    members_of (members_view l.member-items) no_members ≡ members_of (members_view (drop l.member-index l.member-items)) (serde.members_view l.found.entries)
