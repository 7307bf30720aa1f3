-- What a run says at its end of what its phases handed on.
use Rattle.std.proofs.Common.{◌≡◌, ℕ, List, [], Option, Some, None, sym, ap, append-nil, inl, inr}
use Rattle.std.specs.Prelude.{IfSome, IsSome, is_some, Ok}
use Rattle.graph_core.specs.declared.graph.ModuleGraph.{ModuleGraph}
use Rattle.graph_dependencies.specs.declared.graph_kind.GraphKind.TheVariants.{All}
use Rattle.graph_core.specs.Graph.{new_graph}
use Rattle.world_file.specs.declared.input.Input.{Input}
use Rattle.world_file.specs.WorldFile.{world_of}
use Rattle.program_phases.specs.declared.status.Status.{Status}
use Rattle.program_phases.specs.declared.status.Status.TheVariants.{Valid, Invalid, Words, NotAWorld, ReadFault, WriteFault, Budget, LoaderFault, Memory, TooLong}
use Rattle.program_phases.specs.Outcome.{SaysOfInput, SaysOfGraph, IsBuilt, IsUnbuilt, KeepsPromise}
use Rattle.program_phases.specs.Outcome.IsAtHand.{unread, unbuilt, built}
use Rattle.program_phases.specs.Phases.{IsInputBy, IsRefusedStatus, SaysOfRun, SaysOfVerdict}

-- ---- a graph that was built

-- the verdict on a graph that keeps the promise
pub says_by_verdict : (input : Input) (g : ModuleGraph) (status : Status) → KeepsPromise input g → SaysOfVerdict g status → SaysOfRun input g status
says_by_verdict input g Valid promise v = (promise, v)
says_by_verdict input g Invalid promise v = (promise, v.0, v.1)
says_by_verdict input g WriteFault promise v = promise
says_by_verdict input g Memory promise v = inr promise
says_by_verdict input g Words promise v = absurd v
says_by_verdict input g NotAWorld promise v = absurd v
says_by_verdict input g ReadFault promise v = absurd v
says_by_verdict input g Budget promise v = absurd v
says_by_verdict input g LoaderFault promise v = absurd v
says_by_verdict input g TooLong promise v = absurd v

-- ---- the input

module _ (bytes : List ℕ) (left : Option (List ℕ)) (input : Input) (g : ModuleGraph) (read : IsInputBy bytes left (Ok input)) where
  is_world : IsSome (world_of bytes)
  is_world = ap is_some read.1

  at_end : (status : Status) → SaysOfRun input g status → SaysOfInput bytes left status
  at_end Valid says = (read.0, is_world, read.2)
  at_end Invalid says = (read.0, is_world, read.2)
  at_end WriteFault says = (read.0, is_world, read.2)
  at_end Budget says = (read.0, is_world, read.2)
  at_end LoaderFault says = (read.0, is_world, read.2)
  at_end Memory says = record { taken = bytes; rest = []; parts = sym (append-nil bytes); leaves = read.0; ends = read.2 }
  at_end Words says = absurd says
  at_end NotAWorld says = absurd says
  at_end ReadFault says = absurd says
  at_end TooLong says = absurd says

-- the same where the source tells its bytes
pub told_at_end : (told left : Option (List ℕ)) (input : Input) (g : ModuleGraph) (status : Status) → IfSome told (λ bytes. IsInputBy bytes left (Ok input)) → SaysOfRun input g status → IfSome told (λ bytes. SaysOfInput bytes left status)
told_at_end None left input g status read says = tt
told_at_end (Some bytes) left input g status read says = at_end bytes left input g read status says

-- ---- the graph

-- the input that was read, where the source tells its bytes
input_told : (told left : Option (List ℕ)) (input : Input) → IfSome told (λ bytes. IsInputBy bytes left (Ok input)) → IfSome told (λ bytes. world_of bytes ≡ Some input)
input_told None left input read = tt
input_told (Some bytes) left input read = read.1

module _ (told left : Option (List ℕ)) (input : Input) (g : ModuleGraph) (read : IfSome told (λ bytes. IsInputBy bytes left (Ok input))) where
  is_built : KeepsPromise input g → IsBuilt told g
  is_built promise = record { input = input; promise = promise; input_is = input_told told left input read }

  is_unbuilt : (Cause : Input → Type 0) → g ≡ new_graph input.kind → Cause input → IsUnbuilt Cause told g
  is_unbuilt Cause empty cause = record { input = input; empty = empty; cause = cause; input_is = input_told told left input read }

  pub graph_at_end : (status : Status) → SaysOfRun input g status → SaysOfGraph told g status
  graph_at_end Valid says = (is_built says.0, says.1)
  graph_at_end Invalid says = (is_built says.0, says.1, says.2)
  graph_at_end WriteFault says = is_built says
  graph_at_end Budget says = is_unbuilt _ says.0 says.1
  graph_at_end LoaderFault says = is_unbuilt _ says.0 says.1
  graph_at_end Memory says = elim says [ inl empty ↦ unbuilt (is_unbuilt _ empty tt) | inr promise ↦ built (is_built promise) ]
  graph_at_end Words says = absurd says
  graph_at_end NotAWorld says = absurd says
  graph_at_end ReadFault says = absurd says
  graph_at_end TooLong says = absurd says

-- the graph where there is no input
pub graph_refused : (told : Option (List ℕ)) (g : ModuleGraph) (status : Status) → IsRefusedStatus status → g ≡ new_graph All → SaysOfGraph told g status
graph_refused told g NotAWorld refused empty = empty
graph_refused told g ReadFault refused empty = empty
graph_refused told g TooLong refused empty = empty
graph_refused told g Memory refused empty = unread empty
graph_refused told g Valid refused empty = absurd refused
graph_refused told g Invalid refused empty = absurd refused
graph_refused told g Words refused empty = absurd refused
graph_refused told g WriteFault refused empty = absurd refused
graph_refused told g Budget refused empty = absurd refused
graph_refused told g LoaderFault refused empty = absurd refused
