-- The sources of a world file: what each JSON object is, and what it answers to a load.
use Rattle.std.specs.Prelude.{ℕ, List, [], ◌∷◌, ◌++◌, Bool, true, false, codes, Option, Some, None, Ok, Err}
use Rattle.std.specs.List.{list_all}
use Rattle.url.specs.Parts.{Parts}
use Rattle.media_types.specs.Media.{is_data}
use Rattle.spec_base.specs.Options.{by_option}
use Rattle.spec_base.specs.declared.load_error.LoadError.TheVariants.{Other}
use Rattle.spec_base.specs.declared.refusal.Fault.{Fault}
use Rattle.json_forms.specs.Form.{Form, text, specifier, choice, given, ◌>>=◌}
use Rattle.json_forms.specs.Keyed.{keyed_or_empty}
use Rattle.json_forms.specs.Member.{has_names, required, optional}
use Rattle.source_io.specs.Answers.{ensured, purpose_by}
use Rattle.source_io.specs.Data.{data_answer}
use Rattle.source_io.specs.declared.types.Answer.{Answer}
use Rattle.source_io.specs.declared.types.Answer.TheVariants.{Load}
use Rattle.source_io.specs.declared.types.LoadResponse.{LoadResponse}
use Rattle.source_io.specs.declared.types.LoadResponse.TheVariants as response_is
use Rattle.source_io.specs.declared.types.Purpose.{Purpose}
use Rattle.source_io.specs.declared.types.CacheSetting.{CacheSetting}
use Rattle.source_io.specs.declared.types.CacheSetting.TheVariants.{Only, Use, Reload}
use Rattle.world_answers.specs.WorldModules.{world_module}
use Rattle.world_answers.specs.declared.world_modules.WorldModule.{WorldModule}
use Rattle.world_answers.specs.declared.world_sources.Source.{Source}
use Rattle.world_answers.specs.declared.world_sources.Source.TheVariants as source_is
use Rattle.world_answers.specs.declared.world_sources.SourceKind.{SourceKind}
use Rattle.world_answers.specs.declared.world_sources.SourceKind.TheVariants as kind_is

-- ---- the form of one source

-- the names of the kinds of a source
abbrev pub source_kinds : List (List ℕ × SourceKind)
source_kinds =
    (codes "module", kind_is.Module)
    ∷ (codes "redirect", kind_is.Redirect)
    ∷ (codes "external", kind_is.External)
    ∷ (codes "missing", kind_is.Missing)
    ∷ (codes "error", kind_is.Error)
    ∷ (codes "data", kind_is.Data)
    ∷ []

-- the kind of a source
abbrev pub source_kind : Form SourceKind
source_kind d = choice source_kinds d

-- the members that a source of a kind may have
abbrev pub source_names : SourceKind → List (List ℕ)
source_names kind_is.Module =
    codes "kind"
    ∷ codes "text"
    ∷ codes "base64"
    ∷ codes "specifier"
    ∷ codes "headers"
    ∷ codes "mtime"
    ∷ []
source_names kind_is.Redirect = codes "kind" ∷ codes "to" ∷ []
source_names kind_is.External = codes "kind" ∷ codes "to" ∷ []
source_names kind_is.Missing = codes "kind" ∷ []
source_names kind_is.Error = codes "kind" ∷ codes "class" ∷ codes "message" ∷ []
source_names kind_is.Data = codes "kind" ∷ []

-- a module
abbrev pub module_source : Form Source
module_source d = do
  found ← world_module d
  Some (source_is.Module found)

-- the specifier at which the load goes on
abbrev pub redirect_source : Form Source
redirect_source d = do
  to ← required specifier (codes "to") d
  Some (source_is.Redirect to)

-- a module outside of the graph, and its name where it isn't the key
abbrev pub external_source : Form Source
external_source d = do
  to ← optional specifier (codes "to") d
  Some (source_is.External to)

-- what an error is, by its members
abbrev pub fault_of : Form Fault
fault_of d = do
  class ← required text (codes "class") d
  message ← required text (codes "message") d
  Some (record { class = class; message = message })

-- a failure of the loader
abbrev pub error_source : Form Source
error_source d = do
  fault ← fault_of d
  Some (source_is.Error fault)

-- a source of a kind, by its further members; at `Missing` nothing stands, and `Data` is what the key holds, a `data:` URL
abbrev pub source_of : SourceKind → Form Source
source_of kind_is.Module d = module_source d
source_of kind_is.Redirect d = redirect_source d
source_of kind_is.External d = external_source d
source_of kind_is.Missing d = Some source_is.Missing
source_of kind_is.Error d = error_source d
source_of kind_is.Data d = Some source_is.Data

-- a source, by its member `kind`, which has no member that its kind hasn't
abbrev pub source : Form Source
source d = do
  kind ← required source_kind (codes "kind") d
  known ← given (has_names (source_names kind) d)
  source_of kind d

-- ---- its key

-- the name that is told, else the key
abbrev pub name_or_key : Parts → Option Parts → Parts
name_or_key key name = by_option name key (λ n. n)

-- what the key holds is read of `data:` URLs alone
abbrev pub fits_key : Parts → Source → Bool
fits_key key (source_is.Module m) = true
fits_key key (source_is.Redirect to) = true
fits_key key (source_is.External to) = true
fits_key key source_is.Missing = true
fits_key key (source_is.Error fault) = true
fits_key key source_is.Data = is_data key

-- the response of a module that stands at a key
abbrev pub response_of : Parts → WorldModule → LoadResponse
response_of key m = response_is.Module m.content m.mtime (name_or_key key m.specifier) m.headers

-- the answer of a source to a load of its key
abbrev pub answer_of_source : Parts → Source → Answer
answer_of_source key (source_is.Module m) = Load (Ok (Some (response_of key m)))
answer_of_source key (source_is.Redirect to) = Load (Ok (Some (response_is.Redirect to)))
answer_of_source key (source_is.External to) = Load (Ok (Some (response_is.External (name_or_key key to))))
answer_of_source key source_is.Missing = Load (Ok None)
answer_of_source key (source_is.Error fault) = Load (Err (Other fault))
answer_of_source key source_is.Data = data_answer key

-- ---- all sources

-- the sources of a member by their keys, each of which fits its source
abbrev pub sources_at : List ℕ → Form (List (Parts × Source))
sources_at name d = do
  sources ← keyed_or_empty source name d
  fit ← given (list_all (λ e. fits_key e.0 e.1) sources)
  Some sources

-- the answers of sources under a setting: of each the one to a load, and the one to a question that keeps at hand
abbrev pub answers_under : CacheSetting → List (Parts × Source) → List (Parts × Purpose × Answer)
answers_under setting [] = []
answers_under setting (e ∷ sources) =
    (e.0, purpose_by false setting, answer_of_source e.0 e.1)
    ∷ (e.0, purpose_by true setting, ensured (answer_of_source e.0 e.1))
    ∷ answers_under setting sources

-- the answers of sources under Use and, behind those of each source, those under Reload
abbrev pub answers_under_both : List (Parts × Source) → List (Parts × Purpose × Answer)
answers_under_both [] = []
answers_under_both (e ∷ sources) = (answers_under Use (e ∷ []) ++ answers_under Reload (e ∷ [])) ++ answers_under_both sources

-- the answers to loads from a cache alone, under which nothing is kept at hand
abbrev pub answers_cached : List (Parts × Source) → List (Parts × Purpose × Answer)
answers_cached [] = []
answers_cached (e ∷ sources) = (e.0, purpose_by false Only, answer_of_source e.0 e.1) ∷ answers_cached sources

-- the answers of all sources; where none is listed for a reload, that under Use is the answer, so these stand behind it
abbrev pub answers_of : List (Parts × Source) → List (Parts × Source) → List (Parts × Source) → List (Parts × Purpose × Answer)
answers_of sources reload cached = ((answers_under Use sources ++ answers_under Reload reload) ++ answers_under Reload sources) ++ answers_cached cached
