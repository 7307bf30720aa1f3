-- A world file in version 2: the same object, with the answers that it tells as entries.
use Rattle.std.specs.Prelude.{◌≡◌, ℕ, List, [], ◌∷◌, ◌++◌, map, codes, Option, Some, None, option_and_then, Result, Ok, Err, String, string_bytes, ⊤, if◌then◌else◌}
use Rattle.std.specs.declared.alloc.Global.{Global}
use Rattle.std.specs.Str.{is_utf8}
use Rattle.json_forms.specs.Form.{◌>>=◌}
use Rattle.json_forms.specs.Rows.{Rows, object_of, list_json}
use Rattle.serde_json.specs.Data.{Data, number, unsigned}
use Rattle.serde_json.specs.Find.{get}
use Rattle.serde_json.specs.Read.{read}
use Rattle.serde_json.specs.Written.{compact_text}
use Rattle.source_io.specs.declared.types.Answer.{Answer}
use Rattle.source_io.specs.declared.types.Purpose.{Purpose}
use Rattle.spec_base.specs.declared.refusal.Refusal.{Refusal}
use Rattle.spec_base.specs.declared.refusal.Refusal.TheVariants.{Memory, Is}
use Rattle.url.specs.Parts.{Parts}
use Rattle.world_file.specs.WorldFile.{other_members, whole_input}
use Rattle.world_file.specs.declared.input.NotAWorld.{NotAWorld}
use Rattle.world_upgrade.specs.EntryJson.{entry_json}

-- members as they stand
abbrev pub kept_rows : List (List ℕ) → Data → Rows
kept_rows names d = map (λ k. (k, get k d)) names

-- the same object in version 2, with these answers as entries
abbrev pub upgraded_json : Data → List (Parts × Purpose × Answer) → Data
upgraded_json d answers =
    object_of
    ((codes "version", Some (number (unsigned 2)))
    ∷ (codes "answers", Some (list_json entry_json answers))
    ∷ kept_rows other_members d)

-- its text, without spaces, and a line break
abbrev pub upgraded_text : Data → List (Parts × Purpose × Answer) → List ℕ
upgraded_text d answers = compact_text (upgraded_json d answers) ++ 10 ∷ []

-- the text of an object that is a world
abbrev pub upgraded_value : Data → Option (List ℕ)
upgraded_value d = do
  input ← whole_input d
  Some (upgraded_text d input.world.answers)

-- the text of the file that some bytes are, in version 2
unfoldable pub upgraded : List ℕ → Option (List ℕ)
upgraded bytes = if is_utf8 bytes then option_and_then upgraded_value (read bytes) else None

-- the text is the expected one, and it is refused exactly where none is expected, unless there was no memory
abbrev pub Writes : Result (String Global) (Refusal NotAWorld) → Option (List ℕ) → Type 0
Writes (Ok s) expected = expected ≡ Some (string_bytes s)
Writes (Err Memory) expected = ⊤
Writes (Err (Is e)) expected = expected ≡ None
