-- What the build of a tool is told, and what its graph keeps.
use Rattle.std.specs.Prelude.{◌≡◌, ◌⊎◌, ℕ, ◌≤◌, Bool, true, false, List, Option, Some, option_map}
use Rattle.source_io.specs.Calls.{lists_within}
use Rattle.source_io.specs.declared.types.World.{World}
use Rattle.graph_core.specs.declared.graph.ModuleGraph.{ModuleGraph}
use Rattle.graph_core.specs.Graph.{new_graph}
use Rattle.turn_laws.specs.Budget.Covers.{Counted, Covers}
use Rattle.graph_turns.specs.Machine.Turns.{IsTurned}
use Rattle.graph_turns.specs.Promise.Choices.{IsMade}
use Rattle.turn_laws.specs.Promise.Complete.{IsComplete}
use Rattle.graph_turns.specs.Promise.Runs.{AreStaticFirst, IsStaticFirst}
use Rattle.graph_turns.specs.Promise.Told.{Told}
use Rattle.open_loads.specs.declared.fault.BuildFault.{BuildFault}
use Rattle.open_loads.specs.declared.fault.BuildFault.TheVariants as fault
use Rattle.graph_store.specs.Worlds.{store_world}
use Rattle.version_dates.specs.declared.newest_date.NewestDependencyDateOptions.{NewestDependencyDateOptions}
use Rattle.world_file.specs.WorldRegistry.{IsLimit}
use Rattle.world_file.specs.declared.input.Input.{Input}
use Rattle.program_phases.specs.Outcome.{FailsWithin, IsTooLarge, KeepsPromise, enough_for, given_in, told_of_input}
use Rattle.source_io.specs.Answers.{lists_cache_info}
use Rattle.cache_filling.specs.Noted.{Noted}
use Rattle.program_phases.specs.Phases.{TellsInput}
use Rattle.program_phases.specs.Sums.{flags_in, locker_manifests, locker_sums}
use Rattle.tools_program.specs.declared.building.BuildParts.{BuildParts}
use Rattle.tools_program.specs.Tasks.{Task}
use Rattle.tools_program.specs.Tasks.Task.{Locks, Judges, Maps, Stores, Replays}

-- ---- a build over some answers

-- what an input tells a build for which a world answers
abbrev pub told_over : World → Input → NewestDependencyDateOptions → Told
told_over world input newest = record (told_of_input input newest) { world = world }

-- a graph of which something holds but for what a world lists of cached copies, which is noted at its modules where it lists any
abbrev pub ButCopiesOf : World → (ModuleGraph → Type 0) → ModuleGraph → Type 0
ButCopiesOf world P g = Noted (lists_cache_info world) (Some world) P g

-- the graph promise of an input, of a build for which a world answers, but for what is noted of cached copies: complete; made by one run, or a
-- second one; static imports before dynamic ones; and the graph of the turns
pub record KeepsPromiseOver (world : World) (input : Input) (g : ModuleGraph) : Type 0 where
  pub newest : NewestDependencyDateOptions
  pub limit : IsLimit input.registry.newest newest
  pub complete : ButCopiesOf world (IsComplete (Some (told_over world input newest).resolving) (flags_in input) (given_in input)) g
  pub explained : ButCopiesOf world (IsMade (told_over world input newest) (given_in input)) g
  pub static_first : AreStaticFirst (told_over world input newest) (given_in input) → ButCopiesOf world (IsStaticFirst (told_over world input newest) (given_in input)) g
  pub turned : ButCopiesOf world (IsTurned (told_over world input newest) (given_in input)) g

-- no list covers the input, answered by a world, for which as many questions as may be put are enough
abbrev pub IsTooLargeOver : World → Input → Type 0
IsTooLargeOver world input =
    (newest : NewestDependencyDateOptions) × IsLimit input.registry.newest newest
    × ((questions : List Counted) → Covers (told_over world input newest) (given_in input) questions → enough_for input questions ≤ input.max_loads → ⊥)

-- what a build of an input goes by beside its loader
pub record ArePartsOf (input : Input) (parts : BuildParts) : Type 0 where
  pub roots : parts.roots ≡ input.roots
  pub imports : parts.imports ≡ input.imports
  pub sums : option_map (λ l. l.remote) parts.locker ≡ locker_sums input
  pub manifests : option_map (λ l. l.manifests) parts.locker ≡ locker_manifests input
  pub settings : parts.settings ≡ input.settings
  pub max_loads : parts.max_loads ≡ input.max_loads
  pub tells : TellsInput input parts.tellers

-- ---- a build over an input's own answers

-- what each fault says of the graph where no report was made: it is empty, but where memory fails after it was built
abbrev pub SaysOfOwnFault : Input → ModuleGraph → BuildFault → Type 0
SaysOfOwnFault input g fault.Memory = (g ≡ new_graph input.kind) ⊎ KeepsPromise input g
SaysOfOwnFault input g fault.Budget = (g ≡ new_graph input.kind) × IsTooLarge input
SaysOfOwnFault input g fault.Loader = (g ≡ new_graph input.kind) × FailsWithin input

-- ---- the build of a task

-- the world whose answers the build of a task gets: its input's own, or that of a store
abbrev pub world_by : Task → Input → World
world_by (Locks strict) input = input.world
world_by (Judges rules) input = input.world
world_by (Maps map) input = input.world
world_by Stores input = input.world
world_by (Replays entries) input = store_world entries input.world.max_redirects

-- what it is told
abbrev pub told_by : Task → Input → NewestDependencyDateOptions → Told
told_by task input newest = told_over (world_by task input) input newest

-- whether a call that may come is to fail: by a number of the input, and none where a store answers
abbrev pub fails_by : Task → Input → Bool
fails_by (Locks strict) input = lists_within input.fail_next input.max_loads
fails_by (Judges rules) input = lists_within input.fail_next input.max_loads
fails_by (Maps map) input = lists_within input.fail_next input.max_loads
fails_by Stores input = lists_within input.fail_next input.max_loads
fails_by (Replays entries) input = false

abbrev pub KeepsPromiseBy : Task → Input → ModuleGraph → Type 0
KeepsPromiseBy task input g = KeepsPromiseOver (world_by task input) input g

abbrev pub IsTooLargeBy : Task → Input → Type 0
IsTooLargeBy task input = IsTooLargeOver (world_by task input) input

-- what each fault says of the graph where no report was made
abbrev pub SaysOfFault : Task → Input → ModuleGraph → BuildFault → Type 0
SaysOfFault task input g fault.Memory = (g ≡ new_graph input.kind) ⊎ KeepsPromiseBy task input g
SaysOfFault task input g fault.Budget = (g ≡ new_graph input.kind) × IsTooLargeBy task input
SaysOfFault task input g fault.Loader = (g ≡ new_graph input.kind) × (fails_by task input ≡ true)
