-- Answers in any order of arrival, used in the order of asking.
use Rattle.std.specs.Prelude.{◌≡◌, ◌≢◌, ⊤, ℕ, suc, ◌+◌, ◌≤◌, ◌<◌, Bool, true, false, List, [], ◌∷◌, length, slice_get, All, Option, Some, None, IfSome}
use Rattle.std.specs.Ordering.{nat_cmp}
use Rattle.semver_npm.specs.declared.package.PackageNv.{PackageNv}
use Rattle.source_io.specs.declared.types.Answer.{Answer}
use Rattle.source_io.specs.declared.types.Question.{Question}
use Rattle.source_io.specs.declared.types.World.{World}
use Rattle.graph_dependencies.specs.declared.graph_kind.GraphKind.{GraphKind}
use Rattle.registry_files.specs.Kept.{FilesAt}
use Rattle.module_slots.specs.declared.load.Load.{Load}
use Rattle.graph_turns.specs.declared.question_of.Asked.{Asked}
use Rattle.graph_turns.specs.declared.outcome.Outcome.{Outcome}
use Rattle.graph_turns.specs.declared.state.State.{State}
use Rattle.graph_turns.specs.Machine.Contents.{content_stored}
use Rattle.graph_turns.specs.Machine.Files.{file_kept}
use Rattle.graph_turns.specs.Machine.Held.{AreNamed, IsHeld, IsReadAt}
use Rattle.graph_turns.specs.Machine.Outcomes.{Suits, outcome_of}
use Rattle.graph_turns.specs.Machine.Turns.{put_by, turns, store_by}
use Rattle.graph_turns.specs.Promise.Taken.{asks_again, counted_of, info_for, or_info, redirect_sum, taken_form}
use Rattle.graph_turns.specs.Promise.Told.{Told}
use Rattle.graph_turns.specs.Promise.Versions.{kept_of, loaded}
use Rattle.open_loads.specs.Budget.Runs.{Passed, Runs, store_of}
use Rattle.open_loads.specs.declared.turn_stage.Stage.{Stage}
use Rattle.open_loads.specs.declared.turn_stage.Stage.TheVariants.{Idle, Asks, AsksAgain, Reads, Looks, Fills}
use Rattle.open_loads.specs.Order.Asking.{AnswersAs, AreAhead, AreStored, IsNext, awaited, through, AreWanted}
use Rattle.open_loads.specs.Order.Unused.{Due, IsDue, OnceDue, due_at, dues, loads_behind, files_behind}
use Rattle.open_loads.specs.Order.Means.{Means}
use Rattle.open_loads.specs.Order.OpenLoads.{OpenLoads, known_now}
use Rattle.open_loads.specs.Order.Numbered.{Arranged, GoesOn, asked_again, late, first_added, with_added, filled_store}
use Rattle.graph_turns.specs.declared.next.Next.TheVariants.{Load as ALoad, Wanted, Content, End}
use Rattle.graph_turns.specs.Machine.Entering.{IsFinal, stored}
use Rattle.graph_turns.specs.Machine.Next.{next_of}
use Rattle.graph_turns.specs.Machine.RegistryFiles.{wanted_kept}
use Rattle.graph_turns.specs.Machine.Runs.{setting_for}
use Rattle.graph_turns.specs.declared.registry.RegistryFile.TheVariants.{Version}
use Rattle.std.specs.FinMap.{FinMap}
use Rattle.std.specs.FinMap as finite

-- what is due
abbrev pub all_due : OpenLoads → List Due
all_due b = dues (setting_for b.state.run) (known_now b) b.stage b.behind b.state.loads b.wanted b.state.wanted b.later b.state.contents

-- the question that is due under a ticket
abbrev pub asked_at : OpenLoads → ℕ → Option Question
asked_at b ticket = due_at (all_due b) ticket

-- an answer to a question is the world's, where one is told
abbrev pub IsToldAnswer : Option World → Option Question → Answer → Type 0
IsToldAnswer told None a = ⊤
IsToldAnswer told (Some q) a = AnswersAs told q a

-- something is due under a ticket
pub record HasDue (ticket : ℕ) (xs : List Due) : Type 0 where
  pub due : Due
  pub among : IsDue due xs
  pub is : due.ticket ≡ ticket

-- handed out, and its answer isn't there yet
pub record IsInFlight (b : OpenLoads) (ticket : ℕ) : Type 0 where
  pub was_taken : ticket < b.taken
  pub is_due : HasDue ticket (all_due b)
  pub not_kept : finite.get b.kept ticket ≡ None

-- tickets number the questions in the order in which they are queued, each is due once, those that aren't handed out are
-- the queue, and kept answers belong to due ones that were
pub record Numbered (queue : List Question) (kept : finite.FinMap nat_cmp Answer) (taken queued most : ℕ) (xs : List Due) : Type 0 where
  pub once : OnceDue xs
  pub within : (x : Due) → IsDue x xs → x.ticket < queued
  pub numbers : queued ≡ taken + length queue
  pub in_budget : taken ≤ most
  pub queue_due : (i : ℕ) (q : Question) → slice_get queue i ≡ Some q → IsDue (record { ticket = taken + i; question = q }) xs
  pub kept_due : (t : ℕ) (a : Answer) → finite.get kept t ≡ Some a → (t < taken) × HasDue t xs

abbrev pub IsNumbered : OpenLoads → Type 0
IsNumbered b = Numbered b.queue b.kept b.taken b.queued b.max_loads (all_due b)

-- the turn of the first open load stands: each load behind it has its place, and no question about a file or a content is put
pub record FitsLoad (b : OpenLoads) : Type 0 where
  pub places : length b.state.loads ≡ suc (length b.behind)
  pub no_file : b.wanted ≡ []
  pub no_content : b.later ≡ []

-- that of the first file that a pass wants: each one behind it has its place
pub record FitsFile (b : OpenLoads) : Type 0 where
  pub no_load : b.behind ≡ []
  pub places : length b.state.wanted ≡ suc (length b.wanted)
  pub no_content : b.later ≡ []

-- that of the first content
pub record FitsContent (b : OpenLoads) : Type 0 where
  pub no_load : b.behind ≡ []
  pub no_file : b.wanted ≡ []
  pub places : length b.state.contents ≡ suc (length b.later)

-- nothing is left
pub record FitsEnd (b : OpenLoads) : Type 0 where
  pub no_load : b.behind ≡ []
  pub no_file : b.wanted ≡ []
  pub no_content : b.later ≡ []

-- a turn stands that is what comes next, and what is behind it has its place
abbrev pub FitsTurn : OpenLoads → Stage → Type 0
FitsTurn b Idle = (next_of b.state ≡ End) × FitsEnd b
FitsTurn b (Asks ticket asked) = (next_of b.state ≡ ALoad) × FitsLoad b
FitsTurn b (AsksAgain ticket asked first) = (next_of b.state ≡ ALoad) × FitsLoad b
FitsTurn b (Reads ticket nv at) = (next_of b.state ≡ ALoad) × FitsLoad b
FitsTurn b (Looks ticket at) = (next_of b.state ≡ Wanted) × FitsFile b
FitsTurn b (Fills ticket) = (next_of b.state ≡ Content) × FitsContent b

-- the version in which the first open load counts, under which it is asked about, was read
abbrev pub IsStageRead : FilesAt → Stage → Type 0
IsStageRead files Idle = Unit {0}
IsStageRead files (Asks ticket asked) = IsReadAt files asked.held
IsStageRead files (AsksAgain ticket asked first) = IsReadAt files asked.held
IsStageRead files (Reads ticket nv at) = Unit {0}
IsStageRead files (Looks ticket at) = Unit {0}
IsStageRead files (Fills ticket) = Unit {0}

-- and that of a load behind it
abbrev pub IsAheadRead : FilesAt → Option (ℕ × Asked) → Type 0
IsAheadRead files None = Unit {0}
IsAheadRead files (Some p) = IsReadAt files p.1.held

pub record IsInOrder (b : OpenLoads) : Type 0 where
  pub fits : FitsTurn b b.stage
  pub numbered : IsNumbered b
  pub held : IsHeld b.state
  pub named : AreNamed (finite.get b.state.files)
  pub stage_read : IsStageRead (finite.get b.state.files) b.stage
  pub ahead_read : All (IsAheadRead (finite.get b.state.files)) b.behind
  pub stored : AreStored (known_now b).store b.wanted (files_behind b.stage b.state.wanted)

-- the answer that the turn waits for isn't there
abbrev pub IsResting : OpenLoads → Type 0
IsResting b = (ticket : ℕ) → awaited b.stage ≡ Some ticket → finite.get b.kept ticket ≡ None

-- the turns so far are a run from a start, and the one that stands is the next; the answers so far are a world's where
-- one is told; as many questions were queued as the turns put, those of this turn that are answered, and those that are due
pub record IsBuilding (told : Option World) (means : Means) (start : State) (b : OpenLoads) : Type 0 where
  pub past : List Passed
  pub put : ℕ
  pub run : Runs b.redirects b.known told means start past put b.state
  -- the given store is to get what these turns leave in it
  pub store : filled_store b.known.store b.added ≡ store_of b.redirects b.known told means start run
  pub next : IsNext told (known_now b) means.registry b.state b.stage
  pub ahead : AreAhead (known_now b) means.registry b.state b.behind (loads_behind b.stage b.state.loads)
  pub wanted : AreWanted (known_now b) means.registry b.wanted (files_behind b.stage b.state.wanted)
  pub count : b.queued ≡ put + through b.stage + length (all_due b)
  pub kept_right : (x : Due) (a : Answer) → IsDue x (all_due b) → finite.get b.kept x.ticket ≡ Some a → AnswersAs told x.question a

-- a build drives turns: its state is that of so many of them, and the turn that stands is the next; the answers so far are the
-- world's, and as many questions were queued as the turns put, those of this turn that are answered, and those that are due
pub record Drives (told : Told) (kind : GraphKind) (start : State) (b : OpenLoads) : Type 0 where
  pub turn_count : ℕ
  pub state_is : b.state ≡ turns told kind turn_count start
  -- the given store is to get what these turns leave in it
  pub store_is : filled_store b.known.store b.added ≡ store_by told kind turn_count start
  pub next : IsNext (Some told.world) (known_now b) told.registry b.state b.stage
  pub ahead : AreAhead (known_now b) told.registry b.state b.behind (loads_behind b.stage b.state.loads)
  pub wanted : AreWanted (known_now b) told.registry b.wanted (files_behind b.stage b.state.wanted)
  pub count : b.queued ≡ put_by told kind turn_count start + through b.stage + length (all_due b)
  pub kept_right : (x : Due) (a : Answer) → IsDue x (all_due b) → finite.get b.kept x.ticket ≡ Some a → AnswersAs (Some told.world) x.question a

pub record IsTaken (old new : OpenLoads) (ticket : ℕ) (question : Question) : Type 0 where
  pub is_next : ticket ≡ old.taken
  pub about : asked_at old ticket ≡ Some question
  pub one_more : new ≡ record old { taken = old.taken + 1; queue = new.queue }
  pub was_queued : old.queue ≡ question ∷ new.queue
  pub in_budget : old.taken < old.max_loads

-- ---- turns

-- the turn of the first open load ended with an answer that counts, what that gives was stored, and the next one began
pub record EndsWithAnswer (means : Means) (old : OpenLoads) (asked : Asked) (a : Answer) (new : OpenLoads) : Type 0 where
  pub load : Load
  pub rest : State
  pub outcome : Outcome
  pub was : old.state ≡ record rest { loads = load ∷ rest.loads }
  pub final : IsFinal load outcome
  pub suits : Suits load asked outcome
  pub given : IfSome means.making (λ made. outcome ≡ outcome_of made load.specifier load.context asked (or_info load.specifier (info_for load.context asked) (taken_form (redirect_sum asked) a)))
  pub is_now : Arranged means.registry means.newest (record old { state = stored old.redirects rest load outcome; stage = Idle }) new

-- the answer to a first question is used: another one is put where it refuses the load for its sum, else it counts
abbrev pub IsUsedFirst : Means → OpenLoads → Asked → Answer → OpenLoads → Bool → Type 0
IsUsedFirst means old asked a new true = new ≡ asked_again (record old { stage = Idle }) asked a
IsUsedFirst means old asked a new false = EndsWithAnswer means old asked a new

-- the answer about the file of a version is kept, and the turn of the first open load goes on
abbrev pub IsRead : Means → OpenLoads → PackageNv → Answer → OpenLoads → Type 0
IsRead means old nv a new =
    GoesOn means.registry means.newest (late means.registry (with_added (record old { state = file_kept old.state nv (kept_of means.registry nv (loaded a)); stage = Idle }) (Version nv) (loaded a))) new

-- the answer about the first file that a pass wants is kept
abbrev pub IsLookedUp : Means → OpenLoads → Answer → OpenLoads → Type 0
IsLookedUp means old a new = Arranged means.registry means.newest (first_added (record old { state = wanted_kept means.registry old.state (loaded a); stage = Idle }) (loaded a) old.state.wanted) new

-- the answer about the first content that comes later is stored
abbrev pub IsFilled : Means → OpenLoads → Answer → OpenLoads → Type 0
IsFilled means old a new = Arranged means.registry means.newest (record old { state = content_stored old.state a; stage = Idle }) new

-- the answer to the question that is due in the turn that stands is used
abbrev pub IsUsedAt : Means → OpenLoads → Answer → OpenLoads → Stage → Type 0
IsUsedAt means old a new Idle = new ≡ old
IsUsedAt means old a new (Asks ticket asked) = IsUsedFirst means old asked a new (asks_again asked a)
IsUsedAt means old a new (AsksAgain ticket asked first) = EndsWithAnswer means old asked (counted_of first a) new
IsUsedAt means old a new (Reads ticket nv at) = IsRead means old nv a new
IsUsedAt means old a new (Looks ticket at) = IsLookedUp means old a new
IsUsedAt means old a new (Fills ticket) = IsFilled means old a new

abbrev pub IsUsed : Means → OpenLoads → Answer → OpenLoads → Type 0
IsUsed means old a new = IsUsedAt means old a new old.stage

-- the kept answer that the turn waits for was taken out
pub record TakesOut (old : OpenLoads) (a : Answer) (new : OpenLoads) : Type 0 where
  pub ticket : ℕ
  pub waits : awaited old.stage ≡ Some ticket
  pub here : finite.get old.kept ticket ≡ Some a
  pub left : new ≡ record old { kept = finite.remove old.kept ticket }

-- what processing leaves as it was
pub record IsCaughtUp (means : Means) (old new : OpenLoads) : Type 0 where
  pub same_taken : new.taken ≡ old.taken
  pub same_known : new.known ≡ old.known
  pub same_redirects : new.redirects ≡ old.redirects
  pub same_budget : new.max_loads ≡ old.max_loads
  pub in_order : IsInOrder old → IsInOrder new
  pub building : IsInOrder old → (told : Option World) (start : State) → IsBuilding told means start old → IsBuilding told means start new
  pub flight_from : IsInOrder old → (t : ℕ) → IsInFlight new t → IsInFlight old t
  pub flight_to : IsInOrder old → (t : ℕ) → IsInFlight old t → IsInFlight new t
  pub same_questions : IsInOrder old → (t : ℕ) → IsInFlight new t → asked_at new t ≡ asked_at old t

-- an answer came, and all whose turn had come were processed
pub record TakesAnswer (means : Means) (old new : OpenLoads) (ticket : ℕ) (answer : Answer) : Type 0 where
  pub same_taken : new.taken ≡ old.taken
  pub same_known : new.known ≡ old.known
  pub same_redirects : new.redirects ≡ old.redirects
  pub same_budget : new.max_loads ≡ old.max_loads
  pub in_order : IsInOrder new
  pub resting : IsResting new
  pub building : (told : Option World) (start : State) → IsBuilding told means start old → IsToldAnswer told (asked_at old ticket) answer → IsBuilding told means start new
  pub flight_from : (t : ℕ) → IsInFlight new t → IsInFlight old t × (t ≢ ticket)
  pub flight_to : (t : ℕ) → IsInFlight old t → t ≢ ticket → IsInFlight new t
  pub same_questions : (t : ℕ) → IsInFlight new t → asked_at new t ≡ asked_at old t
