-- What faults say, and the graph promise over an input's own answers.
use Rattle.std.proofs.Common.{◌≡◌, Bool, true, refl, sym, subst, ◌∙◌, inl, inr, Result, Ok, Err}
use Rattle.std.specs.Prelude.{IfErr, IfOk, OnOk}
use Rattle.source_io.specs.Calls.{lists_within}
use Rattle.source_io.specs.declared.types.World.{World}
use Rattle.graph_core.specs.declared.graph.ModuleGraph.{ModuleGraph}
use Rattle.graph_core.specs.Graph.{new_graph}
use Rattle.open_loads.specs.declared.fault.BuildFault.{BuildFault}
use Rattle.open_loads.specs.declared.fault.BuildFault.TheVariants as fault
use Rattle.world_file.specs.declared.input.Input.{Input}
use Rattle.program_phases.specs.Outcome.{KeepsPromise}
use Rattle.tools_program.specs.Tasks.{Task}
use Rattle.tools_program.specs.Told.{IsTooLargeBy, IsTooLargeOver, KeepsPromiseBy, KeepsPromiseOver, SaysOfFault, SaysOfOwnFault, fails_by, world_by}

-- the promise of an input is the one over its own answers
own_promise : (input : Input) (g : ModuleGraph) → KeepsPromise input g → KeepsPromiseOver input.world input g
own_promise input g p = record {
  newest = p.newest;
  limit = p.limit;
  complete = p.complete;
  explained = p.explained;
  static_first = p.static_first;
  turned = p.turned;
}

module _ (task : Task) (input : Input) (g : ModuleGraph) (own : world_by task input ≡ input.world) where
  pub promise_by : KeepsPromise input g → KeepsPromiseBy task input g
  promise_by p = subst (λ (w : World). KeepsPromiseOver w input g) (sym own) (own_promise input g p)

  pub fault_by : (f : BuildFault) → fails_by task input ≡ lists_within input.fail_next input.max_loads → SaysOfOwnFault input g f → SaysOfFault task input g f
  fault_by fault.Memory fails (inl empty) = inl empty
  fault_by fault.Memory fails (inr promise) = inr (promise_by promise)
  fault_by fault.Budget fails says = (says.0, subst (λ (w : World). IsTooLargeOver w input) (sym own) (says.1.newest, says.1.limit, says.1.uncovered))
  fault_by fault.Loader fails says = (says.0, fails ∙ says.1)

  -- the same of what a call answers
  pub promise_of : {T : Type 0} (r : Result T BuildFault) → OnOk r (KeepsPromise input g) → OnOk r (KeepsPromiseBy task input g)
  promise_of (Ok x) says = promise_by says
  promise_of (Err f) says = tt

  pub fault_of : {T : Type 0} (r : Result T BuildFault) → fails_by task input ≡ lists_within input.fail_next input.max_loads → IfErr r (λ f. SaysOfOwnFault input g f) → IfErr r (λ f. SaysOfFault task input g f)
  fault_of (Ok x) fails says = tt
  fault_of (Err f) fails says = fault_by f fails says

-- a fault of a build leaves the empty graph, for its cause
pub fault_over : (task : Task) (input : Input) (g : ModuleGraph) (f : BuildFault) → g ≡ new_graph input.kind → (f ≡ fault.Budget → IsTooLargeBy task input) → (f ≡ fault.Loader → fails_by task input ≡ true) → SaysOfFault task input g f
fault_over task input g fault.Memory empty large fails = inl empty
fault_over task input g fault.Budget empty large fails = (empty, large refl)
fault_over task input g fault.Loader empty large fails = (empty, fails refl)

-- the empty graph of a graph's kind, where that is the empty one of an input's kind
pub emptied : (input : Input) (old g : ModuleGraph) → old ≡ new_graph input.kind → g ≡ new_graph old.kind → g ≡ new_graph input.kind
emptied input old g fresh empty = subst (λ (x : ModuleGraph). g ≡ new_graph x.kind) fresh empty
