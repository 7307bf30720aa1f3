-- A loader of which no call is to fail never fails.
use Rattle.std.proofs.Common.{◌≡◌, true, [], Result, Ok, Err, sym, subst}
use Rattle.std.specs.Prelude.{IfErr}
use Rattle.std.proofs.lemmas.Bool.{true≢false}
use Rattle.source_io.specs.Calls.{lists_within}
use Rattle.open_loads.specs.declared.fault.BuildFault.{BuildFault}
use Rattle.open_loads.specs.declared.fault.BuildFault.TheVariants.{Loader}
use Rattle.graph_core.specs.declared.graph.ModuleGraph.{ModuleGraph}
use Rattle.program_phases.specs.Outcome.{FailsWithin}
use Rattle.program_phases.specs.Phases.{SaysOfVerdict}
use Rattle.program_phases.specs.declared.status.Status.{Status}
use Rattle.program_phases.specs.declared.status.Status.TheVariants.{LoaderFault}
use Rattle.world_file.specs.declared.input.Input.{Input}

none_within : (input : Input) → input.fail_next ≡ [] → FailsWithin input → ⊥
none_within input none some = true≢false (sym (subst (λ ks. lists_within ks input.max_loads ≡ true) none some))

pub never_fails : (input : Input) (r : Result Unit BuildFault) → input.fail_next ≡ [] → IfErr r (λ fault. fault ≡ Loader → FailsWithin input) → IfErr r (λ fault. fault ≡ Loader → ⊥)
never_fails input (Ok u) none fails = tt
never_fails input (Err fault) none fails = λ is. none_within input none (fails is)

-- no verdict is that the loader failed
pub verdict_is_calm : (g : ModuleGraph) (status : Status) → SaysOfVerdict g status → status ≡ LoaderFault → ⊥
verdict_is_calm g status says is = subst (SaysOfVerdict g) is says
