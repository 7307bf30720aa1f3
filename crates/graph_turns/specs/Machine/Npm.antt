-- `npm:` specifiers that wait in a build, and the graph that the build leaves.
use Rattle.std.specs.Prelude.{◌≡◌, true, false, [], ◌∷◌, ◌++◌, Option, if◌then◌else◌}
use Rattle.npm_resolver.specs.declared.types.NpmTable.{NpmTable}
use Rattle.graph_core.specs.Npm.{IsNpmSettled, npm_told}
use Rattle.graph_core.specs.declared.graph.ModuleGraph.{ModuleGraph}
use Rattle.module_slots.specs.declared.npm_load.NpmLoad.{NpmLoad}
use Rattle.graph_turns.specs.declared.state.State.{State}
use Rattle.graph_turns.specs.Promise.Told.{Told}

-- a specifier waits for the end
abbrev pub npm_waiting_with : State → NpmLoad → State
npm_waiting_with s item = record s { npm = s.npm ++ item ∷ [] }

-- a graph that a build leaves whose turns end so: where specifiers wait for the end, they are settled
pub data IsEnded (table : Option NpmTable) (s : State) : ModuleGraph → Type 0 where
  as_it_is : s.flags.resolves_npm ≡ false → IsEnded table s s.graph
  settled : {g : ModuleGraph} → s.flags.resolves_npm ≡ true → IsNpmSettled table s.npm s.graph g → IsEnded table s g

-- the graph that a build leaves whose turns end so
abbrev pub ended_graph : Told → State → ModuleGraph
ended_graph told s = if s.flags.resolves_npm then npm_told told.npm s.npm s.graph else s.graph
