-- Runs of turns by what the answers gave, told world or not.
use Rattle.std.specs.Prelude.{◌≡◌, ◌<◌, ◌+◌, true, false, ℕ, zero, suc, List, [], ◌∷◌, Option, Some, IfSome, option_map, if◌then◌else◌, Bool}
use Rattle.semver_npm.specs.declared.package.PackageNv.{PackageNv}
use Rattle.source_io.specs.declared.types.Answer.{Answer}
use Rattle.source_io.specs.declared.types.World.{World}
use Rattle.module_slots.specs.declared.load.Load.{Load}
use Rattle.graph_turns.specs.declared.question_of.Asked.{Asked}
use Rattle.graph_turns.specs.declared.later_content.LaterContent.{LaterContent}
use Rattle.graph_turns.specs.declared.manner.Manner.TheVariants.{Asks, Reads}
use Rattle.graph_turns.specs.declared.outcome.Outcome.{Outcome}
use Rattle.graph_turns.specs.declared.state.State.{State}
use Rattle.graph_turns.specs.Machine.Contents.{content_stored}
use Rattle.graph_turns.specs.Machine.Files.{file_kept}
use Rattle.graph_turns.specs.Machine.Known.{Known}
use Rattle.graph_turns.specs.Machine.Outcomes.{Suits, outcome_of}
use Rattle.graph_turns.specs.Machine.Turns.{failing, manner_in, gone_on}
use Rattle.graph_turns.specs.Promise.Contents.{content_question}
use Rattle.graph_turns.specs.Promise.Taken.{asks_again, taken_answer}
use Rattle.graph_turns.specs.Promise.Versions.{answer_in, file_question, is_stored, kept_of, loaded, store_with, version_question}
use Rattle.open_loads.specs.declared.turn_stage.Stage.{Stage}
use Rattle.open_loads.specs.Budget.Open.{open_by}
use Rattle.open_loads.specs.Order.Asking.{AnswersAs, IsNext, asked_question, through}
use Rattle.open_loads.specs.Order.Means.{Means}
use Rattle.metadata_store.specs.declared.store.JsrMetadataStore.{JsrMetadataStore}
use Rattle.registry_files.specs.Answers.{FileAnswer}
use Rattle.graph_core.specs.declared.graph.ModuleGraph.{ModuleGraph}
use Rattle.graph_turns.specs.declared.next.Next.{Next}
use Rattle.graph_turns.specs.declared.next.Next.TheVariants.{Notes, Load as ALoad, Wanted, Restart, Item, Versions, Exports, Deferred, Waiting, Dynamic, Content, End}
use Rattle.graph_turns.specs.declared.registry.RegistryFile.{RegistryFile}
use Rattle.graph_turns.specs.declared.registry.RegistryFile.TheVariants.{Version}
use Rattle.graph_turns.specs.Machine.Entering.{IsFinal, stored}
use Rattle.graph_turns.specs.Machine.Next.{next_of}
use Rattle.graph_turns.specs.Machine.RegistryFiles.{wanted_kept}
use Rattle.graph_turns.specs.Machine.Runs.{is_second, known_for, restarted, setting_for}

-- what a load that is asked about so may be given: a final slot or a redirect, and what the world gives where loader and making tell theirs
pub record MayGive (known : Known) (loader : Option World) (means : Means) (load : Load) (asked : Asked) (outcome : Outcome) : Type 0 where
  pub final : IsFinal load outcome
  pub suits : Suits load asked outcome
  pub told : IfSome loader (λ w. IfSome means.making (λ made. outcome ≡ outcome_of made load.specifier load.context asked (taken_answer w known asked load.specifier load.context)))

-- its turn may put one question, or a second one after a refusal for its sum
pub data MayCost (known : Known) (loader : Option World) (load : Load) (asked : Asked) : ℕ → Type 0 where
  once : (a : Answer) → AnswersAs loader (asked_question known load asked) a → asks_again asked a ≡ false → MayCost known loader load asked 1
  twice : (a : Answer) → AnswersAs loader (asked_question known load asked) a → asks_again asked a ≡ true → MayCost known loader load asked 2

-- what a turn asked about, or that the build began once more, over what graph and behind so many questions
pub data Passed : Type 0 where
  Answered : Load → Asked → Passed
  Read : PackageNv → Passed
  LookedUp : RegistryFile → Passed
  Filled : LaterContent → Passed
  BeganAgain : ModuleGraph → ℕ → Passed

-- what turns asked about since the build began once more, or since it began
abbrev pub since : List Passed → List Passed
since [] = []
since (Answered load asked ∷ past) = Answered load asked ∷ since past
since (Read nv ∷ past) = Read nv ∷ since past
since (LookedUp file ∷ past) = LookedUp file ∷ since past
since (Filled l ∷ past) = Filled l ∷ since past
since (BeganAgain g put ∷ past) = []

-- what passes without a question and isn't a beginning
abbrev pub goes_on : Next → Bool
goes_on Notes = true
goes_on ALoad = false
goes_on Wanted = false
goes_on Restart = false
goes_on Item = true
goes_on Versions = true
goes_on Exports = true
goes_on Deferred = true
goes_on Waiting = true
goes_on Dynamic = true
goes_on Content = false
goes_on End = false

module _ (most : ℕ) (known : Known) (loader : Option World) (means : Means) (start : State) where
  -- from start, turns lead to a state; what they asked about, the last one first, and how many questions they put
  pub data Runs : List Passed → ℕ → State → Type 0 where
    none : Runs [] zero start
    answered : {past : List Passed} {put cost : ℕ} {s rest next : State} {load : Load} {asked : Asked} {outcome : Outcome} → Runs past put s → next_of s ≡ ALoad → s ≡ record rest { loads = load ∷ rest.loads } → manner_in (known_for known s.run).sums means.registry s load ≡ Asks asked → MayGive (known_for known s.run) loader means load asked outcome → MayCost (known_for known s.run) loader load asked cost → next ≡ stored most rest load outcome → Runs (Answered load asked ∷ past) (cost + put) next
    failed : {past : List Passed} {put : ℕ} {s rest next : State} {load : Load} {outcome : Outcome} → Runs past put s → next_of s ≡ ALoad → s ≡ record rest { loads = load ∷ rest.loads } → failing load (manner_in (known_for known s.run).sums means.registry s load) ≡ Some outcome → next ≡ stored most rest load outcome → Runs past put next
    read : {past : List Passed} {put : ℕ} {s rest next : State} {load : Load} {nv : PackageNv} (a : Answer) → Runs past put s → next_of s ≡ ALoad → s ≡ record rest { loads = load ∷ rest.loads } → manner_in (known_for known s.run).sums means.registry s load ≡ Reads nv → AnswersAs loader (version_question (setting_for s.run) means.registry (known_for known s.run).manifests nv) a → is_stored (known_for known s.run).store (Version nv) ≡ false → next ≡ file_kept s nv (kept_of means.registry nv (loaded a)) → Runs (Read nv ∷ past) (suc put) next
    read_stored : {past : List Passed} {put : ℕ} {s rest next : State} {load : Load} {nv : PackageNv} {answer : FileAnswer} → Runs past put s → next_of s ≡ ALoad → s ≡ record rest { loads = load ∷ rest.loads } → manner_in (known_for known s.run).sums means.registry s load ≡ Reads nv → answer_in (known_for known s.run).store (Version nv) ≡ Some answer → next ≡ file_kept s nv (kept_of means.registry nv answer) → Runs past put next
    looked_up : {past : List Passed} {put : ℕ} {s next : State} {file : RegistryFile} {files : List RegistryFile} (a : Answer) → Runs past put s → next_of s ≡ Wanted → s.wanted ≡ file ∷ files → AnswersAs loader (file_question (setting_for s.run) means.registry (known_for known s.run).manifests file) a → is_stored (known_for known s.run).store file ≡ false → next ≡ wanted_kept means.registry s (loaded a) → Runs (LookedUp file ∷ past) (suc put) next
    looked_up_stored : {past : List Passed} {put : ℕ} {s next : State} {file : RegistryFile} {files : List RegistryFile} {answer : FileAnswer} → Runs past put s → next_of s ≡ Wanted → s.wanted ≡ file ∷ files → answer_in (known_for known s.run).store file ≡ Some answer → next ≡ wanted_kept means.registry s answer → Runs past put next
    filled : {past : List Passed} {put : ℕ} {s next : State} {l : LaterContent} {ls : List LaterContent} (a : Answer) → Runs past put s → next_of s ≡ Content → s.contents ≡ l ∷ ls → AnswersAs loader (content_question (known_for known s.run) l) a → next ≡ content_stored s a → Runs (Filled l ∷ past) (suc put) next
    went_on : {past : List Passed} {put : ℕ} {s next : State} → Runs past put s → goes_on (next_of s) ≡ true → next ≡ gone_on means.registry means.newest s (next_of s) → Runs past put next
    began_again : {past : List Passed} {put : ℕ} {s next : State} → Runs past put s → next_of s ≡ Restart → next ≡ restarted s → Runs (BeganAgain s.graph put ∷ past) put next

  -- the given store as they leave it: what a first run is answered about files stands in it
  abbrev pub store_of : {past : List Passed} {put : ℕ} {s : State} → Runs past put s → Option JsrMetadataStore
  store_of none = known.store
  store_of (answered run comes left how may costs is) = store_of run
  store_of (failed run comes left fails is) = store_of run
  store_of (read {s = s} {nv = nv} a run comes left how right fresh is) = if is_second s.run then store_of run else option_map (λ own. store_with own (Version nv) (loaded a)) (store_of run)
  store_of (read_stored run comes left how there is) = store_of run
  store_of (looked_up {s = s} {file = file} a run comes left right fresh is) = if is_second s.run then store_of run else option_map (λ own. store_with own file (loaded a)) (store_of run)
  store_of (looked_up_stored run comes left there is) = store_of run
  store_of (filled a run comes left right is) = store_of run
  store_of (went_on run goes is) = store_of run
  store_of (began_again run comes is) = store_of run

  -- a state has so many questions to put at most before the next turn is through
  abbrev pub open_count : State → ℕ
  open_count s = open_by (known_for known s.run) means.registry s (next_of s)

  -- the questions that turns put, those of the next one that are answered, and those to put are more than the budget
  pub record IsOver (budget : ℕ) : Type 0 where
    pub past : List Passed
    pub put : ℕ
    pub state : State
    pub run : Runs past put state
    pub stage : Stage
    pub next : IsNext loader (known_for known state.run) means.registry state stage
    pub more_open : budget < put + through stage + open_count state
