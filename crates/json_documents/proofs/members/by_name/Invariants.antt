use Rattle.std.proofs.Common.{◌≡◌, drop}
use Rattle.serde_json.specs.Data.{no_members}
use Rattle.json.specs.Value.{members_view}
use Rattle.json_documents.specs.Documents.{members_of, named}
use Rattle.json_documents.proofs.members.by_name.Given as goal

-- those that are left go in among those that were found
abbrev pub invariant-loop-member : goal.invariant-loop-member
invariant-loop-member l =
    members_of (members_view l.member-items) no_members ≡ members_of (members_view (drop l.member-index l.member-items)) (named l.found.entries)
