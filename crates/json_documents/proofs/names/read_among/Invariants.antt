use Rattle.std.proofs.Common.{◌≡◌, drop, map}
use Rattle.json.specs.Value.{members_view}
use Rattle.json_documents.specs.Names.{read_among}
use Rattle.json_documents.proofs.names.read_among.Given as goal

-- what is left decides
abbrev pub invariant-loop-member : goal.invariant-loop-member
invariant-loop-member l =
    let names = map (λ s. s.now) l.names in
    read_among names (members_view l.member-items) ≡ read_among names (members_view (drop l.member-index l.member-items))
