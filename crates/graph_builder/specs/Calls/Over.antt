-- Builds over a graph into which loads enter.
use Rattle.std.specs.Prelude.{◌≡◌, false, None, List, All, fold}
use Rattle.registry_urls.specs.Meaning.{RegistryMeaning}
use Rattle.version_dates.specs.declared.newest_date.NewestDependencyDateOptions.{NewestDependencyDateOptions}
use Rattle.graph_core.specs.declared.graph.ModuleGraph.{ModuleGraph}
use Rattle.module_slots.specs.declared.load.Load.{Load}
use Rattle.module_slots.specs.declared.slot.ModuleSlot.TheVariants.{Pending}
use Rattle.graph_core.specs.Graph.{with_slot}
use Rattle.graph_turns.specs.declared.flags.Flags.{Flags}
use Rattle.graph_turns.specs.Machine.Entering.{enter_all}
use Rattle.graph_turns.specs.Machine.Redirects.{HasNoCircle}
use Rattle.turn_laws.specs.Promise.Complete.{IsCompleteFrom}
use Rattle.graph_turns.specs.Promise.Input.{EnteredGraph}
use Rattle.open_loads.specs.Order.Numbered.{Arranged}
use Rattle.open_loads.specs.Order.OpenLoads.{OpenLoads}

-- a graph that loads enter
abbrev pub entered : ModuleGraph → List Load → EnteredGraph
entered g loads = record { graph = g; loads = loads }

-- no redirect led to them, and they are in no package
abbrev pub AreOutset : List Load → Type 0
AreOutset loads = All (λ load. (load.context.hops ≡ 0) × (load.context.«package» ≡ None)) loads

-- a graph in which each of some loads has a slot
abbrev pub with_loads : ModuleGraph → List Load → ModuleGraph
with_loads g loads = fold (λ u load. with_slot u load.specifier (Pending false)) g loads

-- each circle of redirects has a slot on it, or one of the loads
abbrev pub IsMended : EnteredGraph → Type 0
IsMended entry = HasNoCircle (with_loads entry.graph entry.loads)

-- what is left of a graph that loads entered: nothing is pending, all that was loaded leads to a slot, and each circle of redirects
-- has one on it
pub record IsLeftBy (flags : Flags) (entry : EnteredGraph) (new : ModuleGraph) : Type 0 where
  pub complete : IsCompleteFrom flags entry new
  pub no_circle : HasNoCircle new
