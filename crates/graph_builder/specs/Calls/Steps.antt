-- A build as contracts see it, and what holds of it between two calls.
use Rattle.std.specs.Prelude.{◌≡◌, ◌<◌, ℕ, Bool, true, false, List, [], ◌∷◌, length, Option, IfSome, IfNone, if◌then◌else◌}
use Rattle.url.specs.Parts.{Parts}
use Rattle.registry_urls.specs.Meaning.{RegistryMeaning}
use Rattle.source_io.specs.declared.types.Question.{Question}
use Rattle.graph_core.specs.declared.graph.ModuleGraph.{ModuleGraph}
use Rattle.graph_dependencies.specs.declared.graph_kind.GraphKind.{GraphKind}
use Rattle.graph_core.specs.Graph.{new_graph}
use Rattle.graph_dependencies.specs.declared.referrer_imports.ReferrerImports.{ReferrerImports}
use Rattle.graph_turns.specs.declared.unresolved_input.LeftOver.{LeftOver}
use Rattle.open_loads.specs.Order.OpenLoads.{OpenLoads}
use Rattle.graph_builder.specs.declared.build_phase.Phase.{Phase}
use Rattle.graph_builder.specs.declared.build_phase.Phase.TheVariants.{Unbegun, Going, Finished, Ended}
use Rattle.open_loads.specs.declared.turn_stage.Stage.TheVariants.{Idle}
use Rattle.graph_turns.specs.declared.starting.ResolvedStart.{ResolvedStart}
use Rattle.open_loads.specs.Order.Means.{Directions}
use Rattle.open_loads.specs.Order.Entered.{TurnsWith, no_turns}
use Rattle.open_loads.specs.Order.Numbered.{Arranged}
use Rattle.open_loads.specs.Order.Ordered.{IsInOrder, IsResting, IsTaken}
use Rattle.graph_turns.specs.Machine.Starting.{IsResolved, nothing_left}
use Rattle.graph_turns.specs.Machine.Turns.{IsAtEnd}
use Rattle.graph_turns.specs.Machine.Known.{Known}
use Rattle.version_dates.specs.declared.newest_date.NewestDependencyDateOptions.{NewestDependencyDateOptions}
use Rattle.graph_turns.specs.Machine.Entering.{resting_state}
use Rattle.graph_turns.specs.Machine.Runs.{run_begun}
use Rattle.std.specs.FinMap as finite

-- roots and imports that are given to a build
abbrev pub given_over : List Parts → List ReferrerImports → LeftOver
given_over roots imports = record { roots = roots; imports = imports }

-- ---- phases

-- what is given has entered
abbrev pub is_begun : Phase → Bool
is_begun (Unbegun left) = false
is_begun Going = true
is_begun Finished = true
is_begun Ended = true

-- `finish` was Ok
abbrev pub is_finished : Phase → Bool
is_finished (Unbegun left) = false
is_finished Going = false
is_finished Finished = true
is_finished Ended = false

-- a call answered a fault
abbrev pub has_ended : Phase → Bool
has_ended (Unbegun left) = false
has_ended Going = false
has_ended Finished = false
has_ended Ended = true

-- the phase of a build before its first call; where nothing is given, nothing is to enter
abbrev pub first_phase : List Parts → List ReferrerImports → Phase
first_phase [] [] = Going
first_phase [] (i ∷ is) = Unbegun (record { roots = []; imports = i ∷ is })
first_phase (r ∷ rs) imports = Unbegun (record { roots = r ∷ rs; imports = imports })

-- what hasn't entered
abbrev pub left_at : Phase → LeftOver
left_at (Unbegun left) = left
left_at Going = nothing_left
left_at Finished = nothing_left
left_at Ended = nothing_left

-- ---- builds

-- a build: its turns, how far it is, the kind of its graph, and its options
pub record BuildState (O : Type 0) : Type 0 where
  pub turns : OpenLoads
  pub phase : Phase
  pub kind : GraphKind
  pub options : O

module _ {O : Type 0} where
  -- what a build keeps to its end: its options and the kind of its graph
  pub record KeepsGiven (old new : BuildState O) : Type 0 where
    pub options : new.options ≡ old.options
    pub kind : new.kind ≡ old.kind

  -- what each step before the end keeps of it, among it what it goes by
  pub record KeepsBuild (old new : BuildState O) : Type 0 where
    pub options : new.options ≡ old.options
    pub kind : new.kind ≡ old.kind
    pub known : new.turns.known ≡ old.turns.known

  -- the graph that a build gives: what it built after an Ok of `finish`, else the empty graph of its kind
  abbrev pub given_graph : BuildState O → ModuleGraph
  given_graph b = if is_finished b.phase then b.turns.state.graph else new_graph b.kind

  -- a build over a graph before its first turn
  abbrev pub started : Known → ModuleGraph → List Parts → List ReferrerImports → ℕ → ℕ → O → BuildState O
  started known g roots imports redirects budget options = record { turns = no_turns known g redirects budget; phase = first_phase roots imports; kind = g.kind; options = options }

  -- what is given enters, with its imports resolved, where it hasn't yet
  pub record EntersStart (directions : Directions) (old new : BuildState O) (left : LeftOver) : Type 0 where
    pub start : ResolvedStart
    pub resolved : IsResolved directions.resolving left start
    pub begun : TurnsWith directions.registry directions.newest old.turns start new.turns
    pub same : new ≡ record old { turns = new.turns; phase = Going }

  abbrev pub EntersAt : Directions → BuildState O → BuildState O → Phase → Type 0
  EntersAt directions old new (Unbegun left) = EntersStart directions old new left
  EntersAt directions old new Going = new ≡ old
  EntersAt directions old new Finished = new ≡ old
  EntersAt directions old new Ended = new ≡ old

  abbrev pub Enters : Directions → BuildState O → BuildState O → Type 0
  Enters directions old new = EntersAt directions old new old.phase

  abbrev pub ended : BuildState O → BuildState O
  ended b = record b { phase = Ended }

  -- a question is queued that isn't handed out yet
  abbrev pub HasQueued : BuildState O → Type 0
  HasQueued b = 0 < length b.turns.queue

  -- what is given has entered, and the next queued question was handed out, or none is queued
  pub record HandsOut (directions : Directions) (old new : BuildState O) (next : Option (ℕ × Question)) : Type 0 where
    pub entered : BuildState O
    pub enters : Enters directions old entered
    pub same_taken : entered.turns.taken ≡ old.turns.taken
    pub some : IfSome next (λ q. IsTaken entered.turns new.turns q.0 q.1)
    pub none : IfNone next ((new ≡ entered) × (HasQueued new → ⊥))
    pub same : new ≡ record entered { turns = new.turns }

  -- what is given has entered, as many questions as the budget allows were handed out, and one is queued
  pub record SpendsBudget (directions : Directions) (old new : BuildState O) : Type 0 where
    pub entered : BuildState O
    pub enters : Enters directions old entered
    pub all_taken : old.turns.taken ≡ old.turns.max_loads
    pub queued : HasQueued entered
    pub is : new ≡ ended entered

  -- nothing is queued, open, wanted, deferred, waiting, to come or left over
  pub record IsDone (b : BuildState O) : Type 0 where
    pub begun : is_begun b.phase ≡ true
    pub at_end : IsAtEnd b.turns.state

  -- no call answered a fault; the tickets are in order, the turn that stands waits for its answer, and no turn begins before
  -- what is given has entered
  pub record IsGoing (b : BuildState O) : Type 0 where
    pub not_ended : has_ended b.phase ≡ false
    pub in_order : IsInOrder b.turns
    pub resting : IsResting b.turns
    pub start_first : is_begun b.phase ≡ false → b.turns ≡ no_turns b.turns.known b.turns.state.graph b.turns.redirects b.turns.max_loads
