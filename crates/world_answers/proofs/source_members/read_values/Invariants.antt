-- What is read so far, and what is left to read, are the whole.
use Rattle.std.proofs.Common.{◌≡◌, ◌++◌, option_map}
use Rattle.json_documents.specs.Documents.{named}
use Rattle.world_answers.specs.SourceMembers.{values_of}
use Rattle.world_answers.specs.WorldSources.{source}
use Rattle.world_answers.proofs.source_members.read_values.Given as goal

abbrev pub invariant-loop-value : goal.invariant-loop-value
invariant-loop-value l =
    values_of source (named l.members.entries)
    ≡ option_map (λ vs. l.sources.items ++ vs) (values_of source (named l.value-iterator))
