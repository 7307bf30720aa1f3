-- What a caller that drives a build keeps.
use Rattle.std.specs.Prelude.{◌≡◌, ℕ, true, Option}
use Rattle.import_records.specs.Target.{Resolving}
use Rattle.source_io.specs.declared.types.World.{World}
use Rattle.graph_turns.specs.declared.state.State.{State}
use Rattle.graph_core.specs.declared.graph.ModuleGraph.{ModuleGraph}
use Rattle.graph_turns.specs.declared.unresolved_input.LeftOver.{LeftOver}
use Rattle.graph_turns.specs.declared.starting.ResolvedStart.{ResolvedStart}
use Rattle.graph_builder.specs.Calls.Builds.{BuildsOn, GoesBy}
use Rattle.graph_turns.specs.Promise.Told.{Told}
use Rattle.graph_builder.specs.Calls.Steps.{BuildState, is_begun, left_at, IsDone, IsGoing}
use Rattle.open_loads.specs.Order.Ordered.{IsBuilding, IsInFlight}
use Rattle.open_loads.specs.Budget.Runs.{IsOver}
use Rattle.open_loads.specs.Order.Means.{Directions, IsTold, Means}
use Rattle.graph_turns.specs.Machine.Runs.{run_begun}
use Rattle.graph_turns.specs.Machine.Starting.{IsResolved}

module _ {O : Type 0} where
  -- from a build in which nothing is left over to a later state of it, where each answer was a world's where one is told
  pub record IsLater (told : Option World) (means : Means) (old new : BuildState O) : Type 0 where
    pub begun : is_begun new.phase ≡ true
    pub redirects : new.turns.redirects ≡ old.turns.redirects
    pub known : new.turns.known ≡ old.turns.known
    pub budget : new.turns.max_loads ≡ old.turns.max_loads
    pub building : (start : State) → IsBuilding told means start old.turns → IsBuilding told means start new.turns
    pub builds_on : (directions : Directions) (g : ModuleGraph) (given : LeftOver) → directions.registry ≡ means.registry → directions.newest ≡ means.newest → BuildsOn directions g given old → BuildsOn directions g given new
    pub goes_by : (t : Told) (g : ModuleGraph) (given : LeftOver) → IsTold told means t g.kind → GoesBy t g given old → GoesBy t g given new

  -- all queued questions were taken
  pub record IsAllAsked (old new : BuildState O) : Type 0 where
    pub going : IsGoing new
    pub later : (told : Option World) (means : Means) → IsLater told means old new
    pub done : ((t : ℕ) → IsInFlight new.turns t → ⊥) → IsDone new

  -- a question was answered
  pub record IsOneAnswered (told : Option World) (means : Means) (old new : BuildState O) : Type 0 where
    pub going : IsGoing new
    pub later : IsLater told means old new
    pub same_taken : new.turns.taken ≡ old.turns.taken

  -- the loads of some run of its turns are more than the budget
  abbrev pub GoesOver : Option World → Means → BuildState O → Type 0
  GoesOver told means b = (start : State) → IsBuilding told means start b.turns → IsOver b.turns.redirects b.turns.known told means start b.turns.max_loads

  -- whatever answered
  abbrev pub IsSpent : BuildState O → Type 0
  IsSpent b = (told : Option World) (means : Means) → GoesOver told means b

  -- those of a run that begins where what is left over has entered are
  abbrev pub EndsOver : Option World → Option Resolving → Means → BuildState O → Type 0
  EndsOver told resolver means b = (start : ResolvedStart) × IsResolved resolver (left_at b.phase) start × IsOver b.turns.redirects b.turns.known told means (run_begun b.turns.state start) b.turns.max_loads
