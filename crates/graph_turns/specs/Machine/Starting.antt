-- Roots and configured imports that enter a graph.
use Rattle.std.specs.Prelude.{◌≡◌, Bool, List, [], ◌++◌, map, drop, length, Option, IfSome}
use Rattle.indexmap.specs.IndexSet.{insert_all}
use Rattle.url.specs.Parts.{Parts}
use Rattle.spec_base.specs.Specifier.{same_specifier}
use Rattle.graph_core.specs.declared.graph.ModuleGraph.{ModuleGraph}
use Rattle.graph_dependencies.specs.declared.graph_import.GraphImport.{GraphImport}
use Rattle.module_slots.specs.declared.load.Load.{Load}
use Rattle.graph_core.specs.Edges.{import_loads}
use Rattle.import_records.specs.Target.{Resolving}
use Rattle.graph_turns.specs.Promise.Told.{Told}
use Rattle.graph_turns.specs.declared.unresolved_input.LeftOver.{LeftOver}
use Rattle.graph_turns.specs.declared.starting.ResolvedStart.{ResolvedStart}
use Rattle.graph_turns.specs.declared.state.State.{State}
use Rattle.graph_turns.specs.Promise.Input.{EnteredGraph, Given, root_load, imports_with, resolved_import}
use Rattle.graph_turns.specs.Machine.Entering.{enter_all}

-- no roots or imports
abbrev pub nothing_left : LeftOver
nothing_left = record { roots = []; imports = [] }

-- what is left over with its imports resolved: those of each referrer, by what texts are resolved by, where that is told
pub record IsResolved (resolver : Option Resolving) (left : LeftOver) (start : ResolvedStart) : Type 0 where
  pub roots_are : start.roots ≡ left.roots
  pub referrers_are : map (λ i. i.0) start.imports ≡ map (λ i. i.referrer) left.imports
  pub imports_are : IfSome resolver (λ m. start.imports ≡ map (resolved_import m) left.imports)

-- the roots of a graph, and behind them those given that aren't among them yet, each text once
abbrev pub roots_with : List Parts → List Parts → List Parts
roots_with old given = insert_all same_specifier old given

-- those that were added
abbrev pub added_roots : List Parts → List Parts → List Parts
added_roots old given = drop (length old) (roots_with old given)

-- the imports that were added
abbrev pub added_imports : List (Parts × GraphImport) → List (Parts × GraphImport) → List (Parts × GraphImport)
added_imports old given = drop (length old) (imports_with old given)

-- a graph with the roots and the imports that it hasn't yet
abbrev pub with_start : ModuleGraph → ResolvedStart → ModuleGraph
with_start g start = record g { roots = roots_with g.roots start.roots; imports = imports_with g.imports start.imports }

-- the loads of what is added: the roots, then the targets of the imports
abbrev pub added_loads : Bool → ModuleGraph → ResolvedStart → List Load
added_loads dynamic g start = map (root_load dynamic) (added_roots g.roots start.roots) ++ import_loads dynamic (added_imports g.imports start.imports)

-- the entry of a build over a graph
abbrev pub start_entry : Bool → ModuleGraph → ResolvedStart → EnteredGraph
start_entry dynamic g start = record { graph = with_start g start; loads = added_loads dynamic g start }

-- what is left over, with its imports resolved by what is told
abbrev pub told_start : Told → LeftOver → ResolvedStart
told_start told left = record { roots = left.roots; imports = map (resolved_import told.resolving) left.imports }

-- the start of a build of what is given
abbrev pub given_start : Told → Given → ResolvedStart
given_start told given = record { roots = given.roots; imports = map (resolved_import told.resolving) given.imports }

-- the entry of a build of what is left over, over a graph
abbrev pub told_entry : Told → ModuleGraph → LeftOver → EnteredGraph
told_entry told g left = start_entry told.known.flags.is_dynamic g (told_start told left)

-- roots and imports that the graph hasn't yet are added, and their loads enter in order
unfoldable pub start_entered : State → ResolvedStart → State
start_entered s start = enter_all (record s { graph = with_start s.graph start }) (added_loads s.flags.is_dynamic s.graph start)
