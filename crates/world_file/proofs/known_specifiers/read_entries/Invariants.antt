-- What is read so far, and what is left to read, are the whole.
use Rattle.std.proofs.Common.{◌≡◌, ◌++◌, option_map}
use Rattle.json_documents.specs.Documents.{named}
use Rattle.json_forms.specs.Keyed.{entries_of}
use Rattle.world_file.proofs.known_specifiers.read_entries.Given as goal

abbrev pub invariant-loop-key : goal.invariant-loop-key
invariant-loop-key g l =
    entries_of g.T.Form.form (named l.members.entries)
    ≡ option_map (λ es. l.entries.items ++ es) (entries_of g.T.Form.form (named l.key-iterator))
