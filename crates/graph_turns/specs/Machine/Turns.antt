-- A build by turns, with no tickets and no order of arrival: the first open load is answered, what its
-- answer gives is stored, and the edges of a module are entered in order. Where no load is open, the files that a pass over the registry
-- wants are answered, the pass goes on, deferred loads enter, a pass begins over what waits, and then, once, the dynamic imports enter.
use Rattle.std.specs.Prelude.{◌≡◌, ◌<◌, ◌≤◌, ℕ, suc, zero, ◌+◌, true, false, List, [], ◌∷◌, map, Option, Some, None, if◌then◌else◌, option_map}
use Rattle.url.specs.Parts.{Parts}
use Rattle.source_sums.specs.Sums.{KnownSums}
use Rattle.source_io.specs.Answers.{answer_of}
use Rattle.source_io.specs.Tickets.{IsPut}
use Rattle.source_io.specs.declared.types.World.{World}
use Rattle.registry_urls.specs.Meaning.{RegistryMeaning}
use Rattle.graph_errors.specs.declared.jsr_error.JsrLoadError.TheVariants.{UnsupportedManifestChecksum}
use Rattle.graph_dependencies.specs.declared.graph_kind.GraphKind.{GraphKind}
use Rattle.graph_core.specs.declared.graph.ModuleGraph.{ModuleGraph}
use Rattle.module_slots.specs.declared.load.Load.{Load}
use Rattle.graph_turns.specs.declared.question_of.Asked.{Asked}
use Rattle.graph_turns.specs.declared.later_content.LaterContent.{LaterContent}
use Rattle.graph_turns.specs.declared.manner.Manner.{Manner}
use Rattle.graph_turns.specs.declared.manner.Manner.TheVariants.{Asks, Reads, Unread, Unsupported}
use Rattle.graph_turns.specs.declared.outcome.Outcome.{Outcome}
use Rattle.graph_turns.specs.declared.state.State.{State}
use Rattle.graph_turns.specs.Promise.Contents.{content_question}
use Rattle.graph_turns.specs.Promise.Taken.{asks_again, first_to, taken_answer}
use Rattle.graph_turns.specs.Promise.Told.{Told, making_of}
use Rattle.graph_turns.specs.Promise.Versions.{is_stored, told_file, told_version, store_with}
use Rattle.graph_turns.specs.Machine.Contents.{content_stored}
use Rattle.graph_turns.specs.Machine.Files.{file_kept}
use Rattle.graph_turns.specs.Machine.Known.{Known}
use Rattle.graph_turns.specs.Machine.Manners.{manner_of}
use Rattle.graph_turns.specs.Machine.Outcomes.{failure_outcome, outcome_of}
use Rattle.graph_turns.specs.Machine.Sums.{IsTaught}
use Rattle.version_dates.specs.declared.newest_date.NewestDependencyDateOptions.{NewestDependencyDateOptions}
use Rattle.graph_turns.specs.declared.next.Next.{Next}
use Rattle.graph_turns.specs.declared.next.Next.TheVariants.{Notes, Load as ALoad, Wanted, Restart, Item, Versions, Exports, Deferred, Waiting, Dynamic, Content, End}
use Rattle.graph_turns.specs.declared.registry.RegistryFile.{RegistryFile}
use Rattle.graph_turns.specs.declared.registry.RegistryFile.TheVariants.{Version}
use Rattle.graph_turns.specs.Machine.Choosing.{judged}
use Rattle.graph_turns.specs.Machine.Entering.{Imports, Waits, enter_all, stored, with_mark}
use Rattle.graph_turns.specs.Machine.Next.{next_of, stands}
use Rattle.graph_turns.specs.Machine.Npm.{ended_graph}
use Rattle.graph_turns.specs.Machine.Passes.{exports_entered, pass_begun, versions_asked}
use Rattle.graph_turns.specs.Machine.RegistryFiles.{wanted_kept}
use Rattle.graph_turns.specs.Machine.Runs.{begun_over, is_due, restarted, told_for, is_second}
use Rattle.graph_turns.specs.Machine.Starting.{given_start}
use Rattle.graph_core.specs.Graph.{new_graph}
use Rattle.graph_turns.specs.Promise.Input.{Given}
use Rattle.graph_turns.specs.Machine.Waiting.{notes_added}
use Rattle.metadata_store.specs.declared.store.JsrMetadataStore.{JsrMetadataStore}
use Rattle.spec_base.specs.Options.{by_option}
use Rattle.std.specs.FinMap as finite

-- ---- where no load is open

-- loads that waited
abbrev pub waited_loads : Waits → List Load
waited_loads es = map (λ e. record { specifier = e.0; context = e.1; is_type = false }) es

-- the dynamic imports that waited, those of names that roots' answers gave as roots
abbrev pub waited_imports : List Parts → Imports → List Load
waited_imports names es = map (λ e. with_mark names e.1) es

-- deferred loads enter
unfoldable pub deferred_entered : State → State
deferred_entered s = enter_all (record s { deferred = [] }) (waited_loads s.deferred)

-- the dynamic phase begins, and the dynamic imports that waited enter
unfoldable pub dynamic_entered : State → State
dynamic_entered s = enter_all (record s { dynamic = []; is_dynamic = true }) (waited_imports s.root_names s.dynamic)

-- nothing is open, deferred, noted, wanted or waits, and no pass goes on
pub record IsIdle (s : State) : Type 0 where
  pub none_open : s.loads ≡ []
  pub none_deferred : s.deferred ≡ []
  pub none_waits : s.dynamic ≡ []
  pub none_noted : s.notes ≡ []
  pub none_wanted : s.wanted ≡ []
  pub none_waiting : s.waiting ≡ []
  pub none_passing : s.pass ≡ None
  pub none_due : is_due s.run ≡ false

-- and no content is to come
pub record IsAtEnd (s : State) : Type 0 where
  pub idle : IsIdle s
  pub none_comes : s.contents ≡ []

-- what comes next waits for an answer, or nothing is left
abbrev pub IsStanding : State → Type 0
IsStanding s = stands (next_of s) ≡ true

-- ---- turns

-- what the answer that counts gives a load
abbrev pub told_outcome : Told → GraphKind → Load → Asked → Outcome
told_outcome told kind load asked = outcome_of (making_of told kind) load.specifier load.context asked (taken_answer told.world told.known asked load.specifier load.context)

-- how the turn of a load goes by what was answered about version files
abbrev pub manner_in : Option KnownSums → RegistryMeaning → State → Load → Manner
manner_in sums registry s load = manner_of sums registry (finite.get s.files) load.specifier load.context

-- the error of a load that fails without a question, where its manner is one
abbrev pub failing : Load → Manner → Option Outcome
failing load (Asks asked) = None
failing load (Reads nv) = None
failing load (Unread name e) = Some (failure_outcome load.context name e)
failing load Unsupported = Some (failure_outcome load.context load.specifier UnsupportedManifestChecksum)

-- the turn of the first open load, before the others: its version's file is read, and it stays the first; or it is answered, or fails
abbrev pub load_turn : Told → GraphKind → State → Load → List Load → Manner → State
load_turn told kind s load loads (Asks asked) = stored told.world.max_redirects (record s { loads = loads }) load (told_outcome told kind load asked)
load_turn told kind s load loads (Reads nv) = file_kept s nv (told_version told nv)
load_turn told kind s load loads (Unread name e) = stored told.world.max_redirects (record s { loads = loads }) load (failure_outcome load.context name e)
load_turn told kind s load loads Unsupported = stored told.world.max_redirects (record s { loads = loads }) load (failure_outcome load.context load.specifier UnsupportedManifestChecksum)

abbrev pub first_load_turn : Told → GraphKind → State → List Load → State
first_load_turn told kind s [] = s
first_load_turn told kind s (load ∷ loads) = load_turn told kind s load loads (manner_in told.known.sums told.registry s load)

-- the turn of the first file that a pass wants
abbrev pub first_file_turn : Told → State → List RegistryFile → State
first_file_turn told s [] = s
first_file_turn told s (file ∷ files) = wanted_kept told.registry s (told_file told file)

-- the turn of the first content that comes later
abbrev pub first_content_turn : Told → State → List LaterContent → State
first_content_turn told s [] = s
first_content_turn told s (l ∷ ls) = content_stored s (answer_of told.world (content_question told.known l))

-- what comes next is done, where it needs no answer
abbrev pub gone_on : RegistryMeaning → NewestDependencyDateOptions → State → Next → State
gone_on registry newest s Notes = notes_added registry s
gone_on registry newest s ALoad = s
gone_on registry newest s Wanted = s
gone_on registry newest s Restart = restarted s
gone_on registry newest s Item = judged newest s
gone_on registry newest s Versions = versions_asked s
gone_on registry newest s Exports = exports_entered s
gone_on registry newest s Deferred = deferred_entered s
gone_on registry newest s Waiting = pass_begun s
gone_on registry newest s Dynamic = dynamic_entered s
gone_on registry newest s Content = s
gone_on registry newest s End = s

-- a turn by what comes next: that of a load, a file or a content by the world's answers
abbrev pub turn_by : Told → GraphKind → State → Next → State
turn_by told kind s Notes = gone_on told.registry told.newest s Notes
turn_by told kind s ALoad = first_load_turn told kind s s.loads
turn_by told kind s Wanted = first_file_turn told s s.wanted
turn_by told kind s Restart = gone_on told.registry told.newest s Restart
turn_by told kind s Item = gone_on told.registry told.newest s Item
turn_by told kind s Versions = gone_on told.registry told.newest s Versions
turn_by told kind s Exports = gone_on told.registry told.newest s Exports
turn_by told kind s Deferred = gone_on told.registry told.newest s Deferred
turn_by told kind s Waiting = gone_on told.registry told.newest s Waiting
turn_by told kind s Dynamic = gone_on told.registry told.newest s Dynamic
turn_by told kind s Content = first_content_turn told s s.contents
turn_by told kind s End = s

-- one turn, by what is told to the run
unfoldable pub turn : Told → GraphKind → State → State
turn told kind s = turn_by (told_for told s.run) kind s (next_of s)

unfoldable pub turns : Told → GraphKind → ℕ → State → State
turns told kind zero s = s
turns told kind (suc n) s = turn told kind (turns told kind n s)

-- ---- the questions that turns put

-- the turn of a load puts one, and a second one after a refusal for its sum
abbrev pub turn_cost : World → Known → Load → Asked → ℕ
turn_cost w known load asked = if asks_again asked (first_to w known asked load.specifier load.context) then 2 else 1

-- a file puts one, unless its answer stands in the given store
abbrev pub file_cost : Known → RegistryFile → ℕ
file_cost known file = if is_stored known.store file then 0 else 1

-- one about the file of its version; none where it fails without one
abbrev pub manner_cost : World → Known → Load → Manner → ℕ
manner_cost w known load (Asks asked) = turn_cost w known load asked
manner_cost w known load (Reads nv) = file_cost known (Version nv)
manner_cost w known load (Unread name e) = 0
manner_cost w known load Unsupported = 0

abbrev pub load_cost : Told → State → List Load → ℕ
load_cost told s [] = 0
load_cost told s (load ∷ loads) = manner_cost told.world told.known load (manner_in told.known.sums told.registry s load)

abbrev pub wanted_cost : Known → List RegistryFile → ℕ
wanted_cost known [] = 0
wanted_cost known (file ∷ files) = file_cost known file

-- what a turn puts, by what comes next
abbrev pub cost_by : Told → State → Next → ℕ
cost_by told s Notes = 0
cost_by told s ALoad = load_cost told s s.loads
cost_by told s Wanted = wanted_cost told.known s.wanted
cost_by told s Restart = 0
cost_by told s Item = 0
cost_by told s Versions = 0
cost_by told s Exports = 0
cost_by told s Deferred = 0
cost_by told s Waiting = 0
cost_by told s Dynamic = 0
cost_by told s Content = 1
cost_by told s End = 0

abbrev pub next_cost : Told → State → ℕ
next_cost told s = cost_by (told_for told s.run) s (next_of s)

-- how many questions so many turns put
unfoldable pub put_by : Told → GraphKind → ℕ → State → ℕ
put_by told kind zero s = 0
put_by told kind (suc n) s = next_cost told (turns told kind n s) + put_by told kind n s

-- some number of turns puts more questions than a budget has
pub record PutsOver (told : Told) (kind : GraphKind) (start : State) (budget : ℕ) : Type 0 where
  pub count : ℕ
  pub over : budget < put_by told kind count start

-- some number of turns puts as many questions at least as a count of them rose meanwhile
pub record PutsAtLeast (told : Told) (kind : GraphKind) (start : State) (before now : ℕ) : Type 0 where
  pub count : ℕ
  pub enough : now ≤ before + put_by told kind count start

-- whatever their number, turns put at most as many as it has
abbrev pub PutsWithin : Told → GraphKind → State → ℕ → Type 0
PutsWithin told kind start budget = (count : ℕ) → put_by told kind count start ≤ budget

-- ---- what a given store gets

abbrev pub load_reads : Manner → Option RegistryFile
load_reads (Asks asked) = None
load_reads (Reads nv) = Some (Version nv)
load_reads (Unread name e) = None
load_reads Unsupported = None

abbrev pub first_load_reads : Told → State → List Load → Option RegistryFile
first_load_reads told s [] = None
first_load_reads told s (load ∷ loads) = load_reads (manner_in told.known.sums told.registry s load)

abbrev pub first_wanted : List RegistryFile → Option RegistryFile
first_wanted [] = None
first_wanted (file ∷ files) = Some file

-- the file that a turn reads, by what comes next
abbrev pub reads_by : Told → State → Next → Option RegistryFile
reads_by told s Notes = None
reads_by told s ALoad = first_load_reads told s s.loads
reads_by told s Wanted = first_wanted s.wanted
reads_by told s Restart = None
reads_by told s Item = None
reads_by told s Versions = None
reads_by told s Exports = None
reads_by told s Deferred = None
reads_by told s Waiting = None
reads_by told s Dynamic = None
reads_by told s Content = None
reads_by told s End = None

-- a given store with the answer about a file, which a first run reads under Use
abbrev pub store_reading : Told → Option JsrMetadataStore → RegistryFile → Option JsrMetadataStore
store_reading told store file = option_map (λ own. store_with own file (told_file told file)) store

abbrev pub store_after : Told → State → Option JsrMetadataStore → Option JsrMetadataStore
store_after told s store =
    if is_second s.run then store
    else by_option (reads_by (told_for told s.run) s (next_of s)) store (store_reading (told_for told s.run) store)

-- the given store as so many turns leave it
unfoldable pub store_by : Told → GraphKind → ℕ → State → Option JsrMetadataStore
store_by told kind zero s = told.known.store
store_by told kind (suc n) s = store_after told (turns told kind n s) (store_by told kind n s)

-- ---- one meaning for every order

-- the graph that turns leave once nothing is open, deferred, waits for a pass or is to come, with what an npm resolver says of specifiers
-- that wait for the end, the sums of sources that they tell, the given store as
-- they leave it, and how many questions they put, whatever order answers arrive in
pub record IsTurnedFrom (told : Told) (kind : GraphKind) (start : State) (g : ModuleGraph) (sums : Option KnownSums) (store : Option JsrMetadataStore) (put : ℕ) : Type 0 where
  pub count : ℕ
  pub done : IsAtEnd (turns told kind count start)
  pub graph_is : g ≡ ended_graph told (turns told kind count start)
  pub sums_are : sums ≡ (turns told kind count start).sums
  pub store_is : store ≡ store_by told kind count start
  pub questions : put ≡ put_by told kind count start

-- the same where a count of the questions put rose so meanwhile
abbrev pub TurnsOut : Told → GraphKind → State → ModuleGraph → Option KnownSums → Option JsrMetadataStore → ℕ → ℕ → Type 0
TurnsOut told kind start g sums store before now = (put : ℕ) × IsTurnedFrom told kind start g sums store put × IsPut put before now

-- the same where the sums that turns tell were told to a locker, which knows these now
abbrev pub TellsTurns : Told → GraphKind → State → ModuleGraph → Option KnownSums → Option JsrMetadataStore → ℕ → ℕ → Type 0
TellsTurns told kind start g now_known store before now =
    (sums : Option KnownSums) × TurnsOut told kind start g sums store before now × IsTaught told.known.sums sums now_known

-- the state in which turns of a build of what is given begin, over the empty graph
abbrev pub begun : Told → Given → State
begun told given = begun_over told.known (new_graph given.kind) (given_start told given)

-- the graph of a build of what is given into the empty graph
abbrev pub IsTurned : Told → Given → ModuleGraph → Type 0
IsTurned told given g = (sums : Option KnownSums) × (store : Option JsrMetadataStore) × (put : ℕ) × IsTurnedFrom told given.kind (begun told given) g sums store put
