-- How open loads, files of the registry and contents are asked about: tickets are numbered as questions are queued.
use Rattle.std.specs.Prelude.{◌||◌, not, is_some, if◌then◌else◌, ◌≡◌, ℕ, ◌+◌, Bool, true, false, List, [], ◌∷◌, ◌++◌, drop, length, Option, Some, None, fold, option_map}
use Rattle.source_io.specs.declared.types.Answer.{Answer}
use Rattle.source_io.specs.declared.types.Question.{Question}
use Rattle.registry_urls.specs.Meaning.{RegistryMeaning}
use Rattle.registry_urls.specs.Packages.{version_file_url}
use Rattle.semver_npm.specs.declared.package.PackageNv.{PackageNv}
use Rattle.url.specs.Parts.{Parts}
use Rattle.graph_errors.specs.declared.jsr_error.JsrLoadError.{JsrLoadError}
use Rattle.graph_errors.specs.declared.jsr_error.JsrLoadError.TheVariants.{UnsupportedManifestChecksum}
use Rattle.module_slots.specs.declared.load.Load.{Load}
use Rattle.graph_turns.specs.declared.question_of.Asked.{Asked}
use Rattle.graph_turns.specs.declared.later_content.LaterContent.{LaterContent}
use Rattle.graph_turns.specs.declared.manner.Manner.{Manner}
use Rattle.graph_turns.specs.declared.manner.Manner.TheVariants.{Asks as IsAskedAs, Reads as ReadsFirst, Unread, Unsupported}
use Rattle.graph_turns.specs.declared.outcome.Outcome.{Outcome}
use Rattle.graph_turns.specs.Machine.Outcomes.{failure_outcome}
use Rattle.graph_turns.specs.Machine.Turns.{manner_in, gone_on}
use Rattle.graph_turns.specs.Promise.Contents.{content_question}
use Rattle.graph_turns.specs.Promise.Versions.{answer_in, is_stored, kept_of, version_question, store_with}
use Rattle.open_loads.specs.declared.turn_stage.Stage.TheVariants.{Asks, AsksAgain, Reads, Looks, Fills}
use Rattle.open_loads.specs.Order.Asking.{asked_question, again_question, file_url, wanted_question}
use Rattle.open_loads.specs.Order.OpenLoads.{OpenLoads, known_now}
use Rattle.spec_base.specs.Options.{by_option}
use Rattle.version_dates.specs.declared.newest_date.NewestDependencyDateOptions.{NewestDependencyDateOptions}
use Rattle.metadata_store.specs.declared.store.JsrMetadataStore.{JsrMetadataStore}
use Rattle.registry_files.specs.Answers.{FileAnswer}
use Rattle.graph_turns.specs.declared.next.Next.{Next}
use Rattle.graph_turns.specs.declared.next.Next.TheVariants.{Notes, Load as ALoad, Wanted, Restart, Item, Versions, Exports, Deferred, Waiting, Dynamic, Content, End}
use Rattle.graph_turns.specs.declared.registry.RegistryFile.{RegistryFile}
use Rattle.graph_turns.specs.declared.registry.RegistryFile.TheVariants.{Version}
use Rattle.graph_turns.specs.Machine.Entering.{stored}
use Rattle.graph_turns.specs.Machine.Files.{file_kept}
use Rattle.graph_turns.specs.Machine.Next.{next_of}
use Rattle.graph_turns.specs.Machine.RegistryFiles.{wanted_kept}
use Rattle.graph_turns.specs.Machine.Runs.{is_second, setting_for}

-- a question is queued under the next ticket
abbrev pub put : OpenLoads → Question → OpenLoads
put b q = record b { queue = b.queue ++ q ∷ []; queued = b.queued + 1 }

-- how the turn of a load goes
abbrev pub manner_at : RegistryMeaning → OpenLoads → Load → Manner
manner_at registry b load = manner_in (known_now b).sums registry b.state load

-- under what a load is asked about before all else, where it is
abbrev pub asked_in : Manner → Option Asked
asked_in (IsAskedAs asked) = Some asked
asked_in (ReadsFirst nv) = None
asked_in (Unread name e) = None
asked_in Unsupported = None

-- ---- ahead of their turns

-- a load has its place behind the turn that stands, and its first question is put, where it is due before any other one
abbrev pub ahead_by : OpenLoads → Load → Manner → OpenLoads
ahead_by b load (IsAskedAs asked) = record b { behind = b.behind ++ Some (b.queued, asked) ∷ []; queue = b.queue ++ asked_question (known_now b) load asked ∷ []; queued = b.queued + 1 }
ahead_by b load (ReadsFirst nv) = record b { behind = b.behind ++ None ∷ [] }
ahead_by b load (Unread name e) = record b { behind = b.behind ++ None ∷ [] }
ahead_by b load Unsupported = record b { behind = b.behind ++ None ∷ [] }

abbrev pub one_ahead : RegistryMeaning → OpenLoads → Load → OpenLoads
one_ahead registry b load = ahead_by b load (manner_at registry b load)

-- some loads have, in order
unfoldable pub ahead_all : RegistryMeaning → List Load → OpenLoads → OpenLoads
ahead_all registry [] b = b
ahead_all registry (load ∷ loads) b = ahead_all registry loads (one_ahead registry b load)

-- the question about a content is put
abbrev pub one_later : OpenLoads → LaterContent → OpenLoads
one_later b l = record b { later = b.later ++ b.queued ∷ []; queue = b.queue ++ content_question (known_now b) l ∷ []; queued = b.queued + 1 }

unfoldable pub later_all : List LaterContent → OpenLoads → OpenLoads
later_all [] b = b
later_all (l ∷ ls) b = later_all ls (one_later b l)

-- ---- files of the registry

-- a file has its place behind the turn that stands, and its question is put, unless the given store has its answer
abbrev pub wanted_by : RegistryMeaning → OpenLoads → RegistryFile → Bool → OpenLoads
wanted_by registry b file true = record b { wanted = b.wanted ++ None ∷ [] }
wanted_by registry b file false = record b {
  wanted = b.wanted ++ Some (b.queued, file_url registry file) ∷ [];
  queue = b.queue ++ wanted_question (setting_for b.state.run) (known_now b) file (file_url registry file) ∷ [];
  queued = b.queued + 1;
}

abbrev pub one_wanted : RegistryMeaning → OpenLoads → RegistryFile → OpenLoads
one_wanted registry b file = wanted_by registry b file (is_stored (known_now b).store file)

unfoldable pub wanted_all : RegistryMeaning → List RegistryFile → OpenLoads → OpenLoads
wanted_all registry [] b = b
wanted_all registry (file ∷ files) b = wanted_all registry files (one_wanted registry b file)

-- the given store is to get an answer about a file, in a first run
abbrev pub with_added : OpenLoads → RegistryFile → FileAnswer → OpenLoads
with_added b file answer = if is_second b.state.run || not (is_some b.known.store) then b else record b { added = b.added ++ (file, answer) ∷ [] }

abbrev pub first_added : OpenLoads → FileAnswer → List RegistryFile → OpenLoads
first_added b answer [] = b
first_added b answer (file ∷ files) = with_added b file answer

-- ---- the next turn

-- the first open load is asked about now
abbrev pub asked_now : OpenLoads → Load → Asked → OpenLoads
asked_now b load asked = record b { stage = Asks b.queued asked; queue = b.queue ++ asked_question (known_now b) load asked ∷ []; queued = b.queued + 1 }

-- the file of a version is asked about first
abbrev pub file_asked : RegistryMeaning → OpenLoads → PackageNv → OpenLoads
file_asked registry b nv = record b { stage = Reads b.queued nv (version_file_url registry.url nv); queue = b.queue ++ version_question (setting_for b.state.run) registry (known_now b).manifests nv ∷ []; queued = b.queued + 1 }

-- the first open load, before the others, fails without a question
abbrev pub failed : OpenLoads → Load → List Load → Outcome → OpenLoads
failed b load loads outcome = record b { state = stored b.redirects (record b.state { loads = loads }) load outcome }

abbrev pub asked_first_of : OpenLoads → Asked → List Load → OpenLoads
asked_first_of b asked [] = b
asked_first_of b asked (load ∷ loads) = asked_now b load asked

abbrev pub asked_first : OpenLoads → Asked → OpenLoads
asked_first b asked = asked_first_of b asked b.state.loads

-- the first open load fails at a name, or where it leads
abbrev pub failed_first_of : OpenLoads → Option Parts → JsrLoadError → List Load → OpenLoads
failed_first_of b name e [] = b
failed_first_of b name e (load ∷ loads) = failed b load loads (failure_outcome load.context (by_option name load.specifier (λ n. n)) e)

abbrev pub failed_first : OpenLoads → Option Parts → JsrLoadError → OpenLoads
failed_first b name e = failed_first_of b name e b.state.loads

-- a given store with what was answered about files
abbrev pub filled_store : Option JsrMetadataStore → List (RegistryFile × FileAnswer) → Option JsrMetadataStore
filled_store store added = option_map (λ own. fold (λ s e. store_with s e.0 e.1) own added) store

-- the file of a version was read in the given store
abbrev pub stored_read : RegistryMeaning → OpenLoads → PackageNv → FileAnswer → OpenLoads
stored_read registry b nv answer = record b { state = file_kept b.state nv (kept_of registry nv answer) }

-- whether a turn stands now, and what it is, where no file is read in the given store
abbrev pub begun_known : RegistryMeaning → OpenLoads → Load → List Load → Manner → Bool × OpenLoads
begun_known registry b load loads (IsAskedAs asked) = (true, asked_now b load asked)
begun_known registry b load loads (ReadsFirst nv) = (true, file_asked registry b nv)
begun_known registry b load loads (Unread name e) = (false, failed b load loads (failure_outcome load.context name e))
begun_known registry b load loads Unsupported = (false, failed b load loads (failure_outcome load.context load.specifier UnsupportedManifestChecksum))

-- the file of a version is read in the given store first, where it stands there
abbrev pub read_so : RegistryMeaning → OpenLoads → Load → List Load → PackageNv → Option FileAnswer → Bool × OpenLoads
read_so registry b load loads nv None = (true, file_asked registry b nv)
read_so registry b load loads nv (Some answer) = begun_known registry (stored_read registry b nv answer) load loads (manner_at registry (stored_read registry b nv answer) load)

abbrev pub begun_so : RegistryMeaning → OpenLoads → Load → List Load → Manner → Bool × OpenLoads
begun_so registry b load loads (IsAskedAs asked) = begun_known registry b load loads (IsAskedAs asked)
begun_so registry b load loads (ReadsFirst nv) = read_so registry b load loads nv (answer_in (known_now b).store (Version nv))
begun_so registry b load loads (Unread name e) = begun_known registry b load loads (Unread name e)
begun_so registry b load loads Unsupported = begun_known registry b load loads Unsupported

-- the turn of the first open load begins whose first question wasn't put ahead
abbrev pub late_by : RegistryMeaning → OpenLoads → List Load → Bool × OpenLoads
late_by registry b [] = (true, b)
late_by registry b (load ∷ loads) = begun_so registry b load loads (manner_at registry b load)

abbrev pub late : RegistryMeaning → OpenLoads → Bool × OpenLoads
late registry b = late_by registry b b.state.loads

-- the turn of the first open load begins, once all first questions are put
abbrev pub load_begun : RegistryMeaning → OpenLoads → List (Option (ℕ × Asked)) → Bool × OpenLoads
load_begun registry b [] = (true, b)
load_begun registry b (Some p ∷ ps) = (true, record b { behind = ps; stage = Asks p.0 p.1 })
load_begun registry b (None ∷ ps) = late registry (record b { behind = ps })

abbrev pub load_next : RegistryMeaning → OpenLoads → Bool × OpenLoads
load_next registry b = load_begun registry b b.behind

-- the turn of the first file that a pass wants begins: its answer is awaited, or stands in the given store
abbrev pub stored_begun : RegistryMeaning → OpenLoads → List RegistryFile → Bool × OpenLoads
stored_begun registry b [] = (true, b)
stored_begun registry b (file ∷ files) = by_option (answer_in (known_now b).store file) (true, b) (λ answer. (false, record b { state = wanted_kept registry b.state answer }))

abbrev pub file_begun : RegistryMeaning → OpenLoads → List (Option (ℕ × Parts)) → Bool × OpenLoads
file_begun registry b [] = (true, b)
file_begun registry b (Some p ∷ ps) = (true, record b { wanted = ps; stage = Looks p.0 p.1 })
file_begun registry b (None ∷ ps) = stored_begun registry (record b { wanted = ps }) b.state.wanted

abbrev pub file_next : RegistryMeaning → OpenLoads → Bool × OpenLoads
file_next registry b = file_begun registry b b.wanted

-- the turn of the first content that comes later begins
abbrev pub content_begun : OpenLoads → List ℕ → OpenLoads
content_begun b [] = b
content_begun b (t ∷ ts) = record b { stage = Fills t; later = ts }

abbrev pub content_next : OpenLoads → OpenLoads
content_next b = content_begun b b.later

-- what comes next begins: whether it stands, or nothing is left; else it went through without a question
abbrev pub turn_begun_by : RegistryMeaning → NewestDependencyDateOptions → OpenLoads → Next → Bool × OpenLoads
turn_begun_by registry newest b Notes = (false, record b { state = gone_on registry newest b.state Notes })
turn_begun_by registry newest b ALoad = load_next registry (ahead_all registry (drop (length b.behind) b.state.loads) b)
turn_begun_by registry newest b Wanted = file_next registry (wanted_all registry (drop (length b.wanted) b.state.wanted) b)
turn_begun_by registry newest b Restart = (false, record b { state = gone_on registry newest b.state Restart })
turn_begun_by registry newest b Item = (false, record b { state = gone_on registry newest b.state Item })
turn_begun_by registry newest b Versions = (false, record b { state = gone_on registry newest b.state Versions })
turn_begun_by registry newest b Exports = (false, record b { state = gone_on registry newest b.state Exports })
turn_begun_by registry newest b Deferred = (false, record b { state = gone_on registry newest b.state Deferred })
turn_begun_by registry newest b Waiting = (false, record b { state = gone_on registry newest b.state Waiting })
turn_begun_by registry newest b Dynamic = (false, record b { state = gone_on registry newest b.state Dynamic })
turn_begun_by registry newest b Content = (true, content_next (later_all (drop (length b.later) b.state.contents) b))
turn_begun_by registry newest b End = (true, b)

abbrev pub turn_begun : RegistryMeaning → NewestDependencyDateOptions → OpenLoads → Bool × OpenLoads
turn_begun registry newest b = turn_begun_by registry newest b (next_of b.state)

-- a turn is through: the next one begins, until one stands or nothing is left
pub data Arranged (registry : RegistryMeaning) (newest : NewestDependencyDateOptions) : OpenLoads → OpenLoads → Type 0 where
  stands : {b new : OpenLoads} → turn_begun registry newest b ≡ (true, new) → Arranged registry newest b new
  passes : {b next new : OpenLoads} → turn_begun registry newest b ≡ (false, next) → Arranged registry newest next new → Arranged registry newest b new

-- a turn that began stands, or the next ones begin
abbrev pub GoesOnBy : RegistryMeaning → NewestDependencyDateOptions → Bool → OpenLoads → OpenLoads → Type 0
GoesOnBy registry newest true b new = new ≡ b
GoesOnBy registry newest false b new = Arranged registry newest b new

abbrev pub GoesOn : RegistryMeaning → NewestDependencyDateOptions → Bool × OpenLoads → OpenLoads → Type 0
GoesOn registry newest begun new = GoesOnBy registry newest begun.0 begun.1 new

-- a load is asked about once more
abbrev pub again_by : OpenLoads → Asked → Answer → List Load → OpenLoads
again_by b asked first [] = b
again_by b asked first (load ∷ loads) = record b { stage = AsksAgain b.queued asked first; queue = b.queue ++ again_question (known_now b) load asked ∷ []; queued = b.queued + 1 }

abbrev pub asked_again : OpenLoads → Asked → Answer → OpenLoads
asked_again b asked first = again_by b asked first b.state.loads
