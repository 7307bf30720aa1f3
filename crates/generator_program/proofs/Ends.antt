-- A run that nothing stops ends by no refusal.
use Rattle.std.proofs.Common.{◌≡◌, refl}
use Rattle.graph_core.specs.declared.graph.ModuleGraph.{ModuleGraph}
use Rattle.world_file.specs.declared.input.Input.{Input}
use Rattle.program_phases.proofs.Finishes.{never_large}
use Rattle.program_phases.specs.Phases.{SaysOfRun}
use Rattle.program_phases.specs.declared.status.Status.{Status}
use Rattle.program_phases.specs.declared.status.Status.TheVariants.{Valid, Invalid, Words, NotAWorld, ReadFault, WriteFault, Budget, LoaderFault, Memory, TooLong}
use Rattle.generator_program.specs.Completes.{CompletesOver}

pub run_ends : (input : Input) (SinkFails : Type 0) (g : ModuleGraph) (status : Status) → SaysOfRun input g status → (status ≡ WriteFault → SinkFails) → (status ≡ LoaderFault → ⊥) → CompletesOver input SinkFails status
run_ends input SinkFails g Valid says fails loads = λ enough calm. tt
run_ends input SinkFails g Invalid says fails loads = λ enough calm. tt
run_ends input SinkFails g Memory says fails loads = λ enough calm. tt
run_ends input SinkFails g WriteFault says fails loads = λ enough calm. calm (fails refl)
run_ends input SinkFails g Budget says fails loads = λ enough calm. never_large input enough says.1
run_ends input SinkFails g LoaderFault says fails loads = λ enough calm. loads refl
run_ends input SinkFails g Words says fails loads = λ enough calm. says
run_ends input SinkFails g NotAWorld says fails loads = λ enough calm. says
run_ends input SinkFails g ReadFault says fails loads = λ enough calm. says
run_ends input SinkFails g TooLong says fails loads = λ enough calm. says
