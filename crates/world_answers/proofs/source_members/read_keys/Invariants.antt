-- What is read so far, and what is left to read, are the whole.
use Rattle.std.proofs.Common.{◌≡◌, ◌++◌, option_map}
use Rattle.json_documents.specs.Documents.{named}
use Rattle.world_answers.specs.SourceMembers.{specifiers_of}
use Rattle.world_answers.proofs.source_members.read_keys.Given as goal

abbrev pub invariant-loop-key : goal.invariant-loop-key
invariant-loop-key l =
    specifiers_of (named l.members.entries)
    ≡ option_map (λ us. l.keys.items ++ us) (specifiers_of (named l.key-iterator))
