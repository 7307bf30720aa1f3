-- What a run says at its end of what its phases handed on.
use Rattle.std.proofs.Common.{◌≡◌, ℕ, List, [], Option, Some, None, sym, ap, append-nil, inl, inr}
use Rattle.std.specs.Prelude.{IfSome, IsSome, is_some, Ok}
use Rattle.graph_core.specs.declared.graph.ModuleGraph.{ModuleGraph}
use Rattle.graph_dependencies.specs.declared.graph_kind.GraphKind.TheVariants.{All as Whole}
use Rattle.graph_core.specs.Graph.{new_graph}
use Rattle.graph_walk.specs.Errors.{validity}
use Rattle.world_file.specs.declared.input.Input.{Input}
use Rattle.world_file.specs.WorldFile.{world_of}
use Rattle.program_phases.specs.declared.status.Status.{Status}
use Rattle.program_phases.specs.declared.status.Status.TheVariants.{Valid, Invalid, Words, NotAWorld, ReadFault, WriteFault, Budget, LoaderFault, Memory, TooLong}
use Rattle.program_phases.specs.Outcome.{SaysOfInput}
use Rattle.program_phases.specs.Phases.{IsInputBy, IsRefusedStatus, SaysOfVerdict}
use Rattle.calls_program.specs.declared.call.Call.{Call}
use Rattle.calls_program.specs.Called.{IsCalled, IsLeft, SaysOfCall, SaysOfFound, SaysOfRun}
use Rattle.calls_program.specs.Lines.{found_by_call}

-- what a call finds in the graph that it leaves
pub says_by_found : (input : Input) (call : Call) (g : ModuleGraph) (status : Status) → IsCalled input call g → SaysOfFound (found_by_call call g) status → SaysOfCall input call g status
says_by_found input call g Valid called found = (called, found)
says_by_found input call g Invalid called found = (called, found.0, found.1)
says_by_found input call g WriteFault called found = called
says_by_found input call g Memory called found = inr called
says_by_found input call g Words called found = absurd found
says_by_found input call g NotAWorld called found = absurd found
says_by_found input call g ReadFault called found = absurd found
says_by_found input call g Budget called found = absurd found
says_by_found input call g LoaderFault called found = absurd found
says_by_found input call g TooLong called found = absurd found

-- the verdict on a graph is what was found
pub found_by_verdict : (g : ModuleGraph) (status : Status) → SaysOfVerdict g status → SaysOfFound (validity g) status
found_by_verdict g Valid v = v
found_by_verdict g Invalid v = v
found_by_verdict g WriteFault v = v
found_by_verdict g Memory v = v
found_by_verdict g Words v = v
found_by_verdict g NotAWorld v = v
found_by_verdict g ReadFault v = v
found_by_verdict g Budget v = v
found_by_verdict g LoaderFault v = v
found_by_verdict g TooLong v = v

module _ (bytes : List ℕ) (left : Option (List ℕ)) (input : Input) (call : Call) (g : ModuleGraph) (read : IsInputBy bytes left (Ok input)) where
  is_world : IsSome (world_of bytes)
  is_world = ap is_some read.1

  at_end : (status : Status) → SaysOfCall input call g status → SaysOfInput bytes left status
  at_end Valid says = (read.0, is_world, read.2)
  at_end Invalid says = (read.0, is_world, read.2)
  at_end WriteFault says = (read.0, is_world, read.2)
  at_end Budget says = (read.0, is_world, read.2)
  at_end LoaderFault says = (read.0, is_world, read.2)
  at_end Memory says = record { taken = bytes; rest = []; parts = sym (append-nil bytes); leaves = read.0; ends = read.2 }
  at_end Words says = absurd says
  at_end NotAWorld says = absurd says
  at_end ReadFault says = absurd says
  at_end TooLong says = absurd says

-- the same where the source tells its bytes
pub told_at_end : (told left : Option (List ℕ)) (input : Input) (call : Call) (g : ModuleGraph) (status : Status) → IfSome told (λ bytes. IsInputBy bytes left (Ok input)) → SaysOfCall input call g status → IfSome told (λ bytes. SaysOfInput bytes left status)
told_at_end None left input call g status read says = tt
told_at_end (Some bytes) left input call g status read says = at_end bytes left input call g read status says

-- the input that was read, where the source tells its bytes
input_told : (told left : Option (List ℕ)) (input : Input) → IfSome told (λ bytes. IsInputBy bytes left (Ok input)) → IfSome told (λ bytes. world_of bytes ≡ Some input)
input_told None left input read = tt
input_told (Some bytes) left input read = read.1

module _ (told left : Option (List ℕ)) (input : Input) (named : Option Call) (call : Call) (g : ModuleGraph) (read : IfSome told (λ bytes. IsInputBy bytes left (Ok input))) (call_is : named ≡ Some call) where
  run : (status : Status) → SaysOfCall input call g status → SaysOfRun told named g status
  run status says = record { input = input; named = call; input_is = input_told told left input read; call_is = call_is; says = says }

  pub left_at_end : (status : Status) → SaysOfCall input call g status → IsLeft told named g status
  left_at_end Valid says = run Valid says
  left_at_end Invalid says = run Invalid says
  left_at_end WriteFault says = run WriteFault says
  left_at_end Budget says = run Budget says
  left_at_end LoaderFault says = run LoaderFault says
  left_at_end Memory says = inr (run Memory says)
  left_at_end Words says = absurd says
  left_at_end NotAWorld says = absurd says
  left_at_end ReadFault says = absurd says
  left_at_end TooLong says = absurd says

-- the graph where there is no input
pub left_refused : (told : Option (List ℕ)) (named : Option Call) (g : ModuleGraph) (status : Status) → IsRefusedStatus status → g ≡ new_graph Whole → IsLeft told named g status
left_refused told named g NotAWorld refused empty = empty
left_refused told named g ReadFault refused empty = empty
left_refused told named g TooLong refused empty = empty
left_refused told named g Memory refused empty = inl empty
left_refused told named g Valid refused empty = absurd refused
left_refused told named g Invalid refused empty = absurd refused
left_refused told named g Words refused empty = absurd refused
left_refused told named g WriteFault refused empty = absurd refused
left_refused told named g Budget refused empty = absurd refused
left_refused told named g LoaderFault refused empty = absurd refused
