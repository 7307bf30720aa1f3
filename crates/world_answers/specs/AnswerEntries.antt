-- The entries of a world file of version 2: each one answer, to questions about a specifier with one purpose.
use Rattle.std.specs.Prelude.{ℕ, List, [], ◌∷◌, Bool, true, false, codes, Some, None, Ok, Err}
use Rattle.url.specs.Parts.{Parts}
use Rattle.spec_base.specs.declared.load_error.LoadError.TheVariants.{Other}
use Rattle.json_forms.specs.Form.{Form, specifier, choice, given, ◌>>=◌}
use Rattle.json_forms.specs.Member.{has_names, required}
use Rattle.source_io.specs.Answers.{is_ensure}
use Rattle.source_io.specs.declared.types.Answer.{Answer}
use Rattle.source_io.specs.declared.types.Answer.TheVariants.{Ensure}
use Rattle.source_io.specs.declared.types.CacheResponse.TheVariants.{Cached, Redirect as CachedElsewhere}
use Rattle.source_io.specs.declared.types.Purpose.{Purpose}
use Rattle.source_io.specs.declared.types.Purpose.TheVariants.{LoadUse, EnsureUse, LoadReload, EnsureReload, LoadOnly}
use Rattle.world_answers.specs.EntryModules.{entry_module}
use Rattle.world_answers.specs.WorldSources.{source_kind, source_of, fault_of, fits_key, answer_of_source}
use Rattle.world_answers.specs.declared.answer_entries.HeldKind.{HeldKind}
use Rattle.world_answers.specs.declared.answer_entries.HeldKind.TheVariants as held_is
use Rattle.world_answers.specs.declared.world_sources.Source.{Source}
use Rattle.world_answers.specs.declared.world_sources.Source.TheVariants as source_is
use Rattle.world_answers.specs.declared.world_sources.SourceKind.{SourceKind}
use Rattle.world_answers.specs.declared.world_sources.SourceKind.TheVariants as kind_is

-- the names of purposes
abbrev pub purposes : List (List ℕ × Purpose)
purposes =
    (codes "load", LoadUse)
    ∷ (codes "ensure", EnsureUse)
    ∷ (codes "load-reload", LoadReload)
    ∷ (codes "ensure-reload", EnsureReload)
    ∷ (codes "load-only", LoadOnly)
    ∷ []

-- ---- answers to loads

-- the members that an entry for a load may have, by its kind
abbrev pub loaded_names : SourceKind → List (List ℕ)
loaded_names kind_is.Module =
    codes "specifier"
    ∷ codes "purpose"
    ∷ codes "kind"
    ∷ codes "text"
    ∷ codes "base64"
    ∷ codes "name"
    ∷ codes "headers"
    ∷ codes "mtime"
    ∷ []
loaded_names kind_is.Redirect = codes "specifier" ∷ codes "purpose" ∷ codes "kind" ∷ codes "to" ∷ []
loaded_names kind_is.External = codes "specifier" ∷ codes "purpose" ∷ codes "kind" ∷ codes "to" ∷ []
loaded_names kind_is.Missing = codes "specifier" ∷ codes "purpose" ∷ codes "kind" ∷ []
loaded_names kind_is.Error = codes "specifier" ∷ codes "purpose" ∷ codes "kind" ∷ codes "class" ∷ codes "message" ∷ []
loaded_names kind_is.Data = codes "specifier" ∷ codes "purpose" ∷ codes "kind" ∷ []

-- a module, which has another form than among the sources of version 1
abbrev pub entry_source : Form Source
entry_source d = do
  found ← entry_module d
  Some (source_is.Module found)

-- what stands at the specifier, by the kind of the entry
abbrev pub loaded_source : SourceKind → Form Source
loaded_source kind_is.Module d = entry_source d
loaded_source kind_is.Redirect d = source_of kind_is.Redirect d
loaded_source kind_is.External d = source_of kind_is.External d
loaded_source kind_is.Missing d = source_of kind_is.Missing d
loaded_source kind_is.Error d = source_of kind_is.Error d
loaded_source kind_is.Data d = source_of kind_is.Data d

-- the answer to a load of a specifier
abbrev pub loaded_answer : Parts → Form Answer
loaded_answer s d = do
  kind ← required source_kind (codes "kind") d
  known ← given (has_names (loaded_names kind) d)
  found ← loaded_source kind d
  fit ← given (fits_key s found)
  Some (answer_of_source s found)

-- ---- answers to questions that keep at hand

-- the kinds of an entry for such a question
abbrev pub held_kinds : List (List ℕ × HeldKind)
held_kinds =
    (codes "cached", held_is.Cached)
    ∷ (codes "redirect", held_is.Redirect)
    ∷ (codes "missing", held_is.Missing)
    ∷ (codes "error", held_is.Error)
    ∷ []

-- the members that it may have, by its kind
abbrev pub held_names : HeldKind → List (List ℕ)
held_names held_is.Cached = codes "specifier" ∷ codes "purpose" ∷ codes "kind" ∷ []
held_names held_is.Redirect = codes "specifier" ∷ codes "purpose" ∷ codes "kind" ∷ codes "to" ∷ []
held_names held_is.Missing = codes "specifier" ∷ codes "purpose" ∷ codes "kind" ∷ []
held_names held_is.Error = codes "specifier" ∷ codes "purpose" ∷ codes "kind" ∷ codes "class" ∷ codes "message" ∷ []

-- the specifier at which what is at hand stands
abbrev pub held_redirect : Form Answer
held_redirect d = do
  to ← required specifier (codes "to") d
  Some (Ensure (Ok (Some (CachedElsewhere to))))

-- a failure of the loader
abbrev pub held_error : Form Answer
held_error d = do
  fault ← fault_of d
  Some (Ensure (Err (Other fault)))

-- the answer, by its kind
abbrev pub held_of : HeldKind → Form Answer
held_of held_is.Cached d = Some (Ensure (Ok (Some Cached)))
held_of held_is.Redirect d = held_redirect d
held_of held_is.Missing d = Some (Ensure (Ok None))
held_of held_is.Error d = held_error d

-- the answer to a question that keeps at hand
abbrev pub held_answer : Form Answer
held_answer d = do
  kind ← required (choice held_kinds) (codes "kind") d
  known ← given (has_names (held_names kind) d)
  held_of kind d

-- ---- entries

-- the answer of an entry, by whether its purpose is to keep at hand
abbrev pub entry_answer : Bool → Parts → Form Answer
entry_answer false s d = loaded_answer s d
entry_answer true s d = held_answer d

-- one entry: a specifier, a purpose and the answer
unfoldable pub answer_entry : Form (Parts × Purpose × Answer)
answer_entry d = do
  s ← required specifier (codes "specifier") d
  purpose ← required (choice purposes) (codes "purpose") d
  answer ← entry_answer (is_ensure purpose) s d
  Some (s, purpose, answer)
