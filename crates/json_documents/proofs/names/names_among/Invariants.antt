use Rattle.std.proofs.Common.{◌≡◌, map}
use Rattle.serde_json.specs.View as serde
use Rattle.json_documents.specs.Names.{names_among}
use Rattle.json_documents.proofs.names.names_among.Given as goal

-- what is left decides
abbrev pub invariant-loop-key : goal.invariant-loop-key
invariant-loop-key l =
    let names = map (λ s. s.now) l.names in
    names_among names (serde.members_view l.members.entries) ≡ names_among names (serde.members_view l.key-iterator)
