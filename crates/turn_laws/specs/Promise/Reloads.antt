-- What is loaded again.
use Rattle.std.specs.Prelude.{Bool, List, [], map, fold}
use Rattle.indexmap.specs.IndexSet.{insert_all}
use Rattle.url.specs.Parts.{Parts}
use Rattle.spec_base.specs.Specifier.{same_specifier}
use Rattle.graph_core.specs.declared.graph.ModuleGraph.{ModuleGraph}
use Rattle.module_slots.specs.declared.load.Load.{Load}
use Rattle.graph_core.specs.Graph.{resolved, without_slot}
use Rattle.graph_turns.specs.declared.state.State.{State}
use Rattle.graph_turns.specs.Promise.Input.{EnteredGraph, root_load}
use Rattle.graph_turns.specs.Machine.Known.{Known}
use Rattle.graph_turns.specs.Machine.Entering.{begun_at}

-- where specifiers lead along redirects, each text once
abbrev pub reloaded_of : ModuleGraph → List Parts → List Parts
reloaded_of g given = insert_all same_specifier [] (map (resolved g) given)

-- their loads
abbrev pub reload_loads : Bool → ModuleGraph → List Parts → List Load
reload_loads dynamic g given = map (root_load dynamic) (reloaded_of g given)

-- a graph without the slots of some loads
abbrev pub without_slots : ModuleGraph → List Load → ModuleGraph
without_slots g loads = fold (λ u load. without_slot u load.specifier) g loads

-- the entry of a reload: the slots of what is loaded again are gone
abbrev pub reload_entry : Bool → ModuleGraph → List Parts → EnteredGraph
reload_entry dynamic g given = record { graph = without_slots g (reload_loads dynamic g given); loads = reload_loads dynamic g given }

-- the state in which turns over a graph begin that load again: those slots are gone, and their loads have entered in order
abbrev pub reloading : Known → ModuleGraph → List Parts → State
reloading known g given = begun_at known (reload_entry known.flags.is_dynamic g given)
