-- Finished graphs.
use Rattle.std.specs.Prelude.{◌≡◌, ℕ, Bool, List, All, Option, Some}
use Rattle.std.specs.FinMap as finite
use Rattle.import_records.specs.Target.{Resolving}
use Rattle.graph_core.specs.declared.graph.ModuleGraph.{ModuleGraph}
use Rattle.module_slots.specs.declared.load.LoadContext.{LoadContext}
use Rattle.module_slots.specs.declared.slot.Module.{Module}
use Rattle.module_slots.specs.declared.slot.ModuleSlot.TheVariants.{Module as Stands, Pending}
use Rattle.graph_core.specs.Edges.{loads_of, import_loads}
use Rattle.graph_core.specs.Graph.{HasLead}
use Rattle.graph_turns.specs.Promise.Input.{EnteredGraph, Given, Begins, starts}
use Rattle.graph_turns.specs.declared.flags.Flags.{Flags}

-- a graph that begins as was given: nothing is pending, and each root, each target of a configured import and
-- each followed edge of a stored module leads to a slot
pub record IsComplete (resolver : Option Resolving) (flags : Flags) (given : Given) (g : ModuleGraph) : Type 0 where
  pub begins : Begins resolver given (starts g)
  pub none_pending : (k : List ℕ) (asset : Bool) → finite.get g.slots k ≡ Some (Pending asset) → ⊥
  pub roots_lead : All (λ s. HasLead g s) g.roots
  pub imports_lead : (dynamic : Bool) → All (λ load. HasLead g load.specifier) (import_loads dynamic g.imports)
  pub edges_lead : (k : List ℕ) (m : Module) (c : LoadContext) → finite.get g.slots k ≡ Some (Stands m) → All (λ load. HasLead g load.specifier) (loads_of g.kind flags.skip_dynamic_deps m c)

-- no load is under way
abbrev pub NonePending : ModuleGraph → Type 0
NonePending g = (k : List ℕ) (asset : Bool) → finite.get g.slots k ≡ Some (Pending asset) → ⊥

-- a graph that a call leaves: it has the kind, the roots and the imports of its entry, nothing is pending, and each
-- specifier that was loaded and each followed edge of a module that was stored since leads to a slot
pub record IsCompleteFrom (flags : Flags) (entry : EnteredGraph) (g : ModuleGraph) : Type 0 where
  pub begins : starts g ≡ starts entry.graph
  pub none_pending : NonePending g
  pub loads_lead : All (λ load. HasLead g load.specifier) entry.loads
  pub edges_lead : (k : List ℕ) (m : Module) (c : LoadContext) → finite.get g.slots k ≡ Some (Stands m) → (finite.get entry.graph.slots k ≡ Some (Stands m) → ⊥) → All (λ load. HasLead g load.specifier) (loads_of g.kind flags.skip_dynamic_deps m c)
