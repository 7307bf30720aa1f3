use Rattle.std.proofs.Common.{◌≡◌}
use Rattle.serde_json.specs.Data.{no_members}
use Rattle.serde_json.specs.View as serde
use Rattle.json_documents.specs.Documents.{named}
use Rattle.json_documents.proofs.DataLemmas.{put_all}
use Rattle.json_documents.proofs.members.lent.Given as goal

-- those that are left go in among those that were found
abbrev pub invariant-loop-name : goal.invariant-loop-name
invariant-loop-name l =
    put_all (serde.members_view l.members.entries) no_members ≡ put_all (serde.members_view l.name-iterator) (named l.found.entries)
