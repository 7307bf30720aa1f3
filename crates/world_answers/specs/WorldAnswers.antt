-- The answers that a world file tells, in either of its versions.
use Rattle.std.specs.Prelude.{ℕ, List, ◌==◌, codes, Some, None, if◌then◌else◌}
use Rattle.url.specs.Parts.{Parts}
use Rattle.json_forms.specs.Form.{Form, ◌>>=◌}
use Rattle.json_forms.specs.Member.{or_empty}
use Rattle.source_io.specs.declared.types.Answer.{Answer}
use Rattle.source_io.specs.declared.types.Purpose.{Purpose}
use Rattle.world_answers.specs.AnswerEntries.{answer_entry}
use Rattle.world_answers.specs.AnswerOrder.{ordered, if_distinct}
use Rattle.world_answers.specs.WorldSources.{sources_at, answers_of}

-- in version 1: those of the sources in three members
abbrev pub source_answers : Form (List (Parts × Purpose × Answer))
source_answers d = do
  sources ← sources_at (codes "sources") d
  reload ← sources_at (codes "reload") d
  cached ← sources_at (codes "cached") d
  Some (ordered (answers_of sources reload cached))

-- in version 2: those of the entries of one member
abbrev pub entry_answers : Form (List (Parts × Purpose × Answer))
entry_answers d = do
  entries ← or_empty answer_entry (codes "answers") d
  if_distinct entries

-- those of a file of a version; there is no other version than 1 and 2
abbrev pub answers_in : ℕ → Form (List (Parts × Purpose × Answer))
answers_in version d = if version == 1 then source_answers d else (if version == 2 then entry_answers d else None)
