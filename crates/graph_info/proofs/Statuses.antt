-- Statuses that a run with workers never ends by.
use Rattle.std.proofs.Common.{◌≡◌, subst}
use Rattle.graph_core.specs.declared.graph.ModuleGraph.{ModuleGraph}
use Rattle.program_phases.specs.Phases.{IsRefusedStatus, SaysOfRun, SaysOfVerdict}
use Rattle.program_phases.specs.declared.status.Status.{Status}
use Rattle.program_phases.specs.declared.status.Status.TheVariants.{LoaderFault, Words}
use Rattle.world_file.specs.declared.input.Input.{Input}

-- no verdict is that the loader failed
pub verdict_no_fault : (g : ModuleGraph) (status : Status) → SaysOfVerdict g status → status ≡ LoaderFault → ⊥
verdict_no_fault g status says is = subst (SaysOfVerdict g) is says

-- nor is it the cause where there is no input
pub refused_no_fault : (status : Status) → IsRefusedStatus status → status ≡ LoaderFault → ⊥
refused_no_fault status refused is = subst IsRefusedStatus is refused

-- other words aren't the cause where there is no input
pub refused_no_words : (status : Status) → IsRefusedStatus status → status ≡ Words → ⊥
refused_no_words status refused is = subst IsRefusedStatus is refused

-- nor where there is one
pub run_no_words : (input : Input) (g : ModuleGraph) (status : Status) → SaysOfRun input g status → status ≡ Words → ⊥
run_no_words input g status says is = subst (SaysOfRun input g) is says
