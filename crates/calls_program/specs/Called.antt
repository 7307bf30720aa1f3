-- What a call on the graph of an input leaves, and what each status of a run says.
use Rattle.std.specs.Prelude.{◌≡◌, ◌⊎◌, ℕ, ◌≤◌, ⊤, All, List, [], length, Option, Some, None, IfSome, Result, Ok, Err}
use Rattle.url.specs.Parts.{Parts}
use Rattle.graph_errors.specs.declared.errors.ModuleGraphError.{ModuleGraphError}
use Rattle.graph_core.specs.declared.graph.ModuleGraph.{ModuleGraph}
use Rattle.graph_dependencies.specs.declared.graph_kind.GraphKind.TheVariants.{All as Whole}
use Rattle.graph_core.specs.Graph.{new_graph}
use Rattle.graph_walk.specs.Prune.{Prunes}
use Rattle.graph_walk.specs.Segment.{segment_of}
use Rattle.turn_laws.specs.Budget.Covers.{Counted, CoversFrom}
use Rattle.metadata_store.specs.declared.store.JsrMetadataStore.{JsrMetadataStore}
use Rattle.source_sums.specs.Sums.{KnownSums}
use Rattle.turn_laws.specs.Promise.Reloads.{reload_entry, reloading}
use Rattle.graph_turns.specs.Machine.Entering.{begun_at}
use Rattle.graph_turns.specs.Machine.Turns.{IsTurnedFrom, PutsOver}
use Rattle.graph_turns.specs.Promise.Input.{EnteredGraph}
use Rattle.graph_turns.specs.Promise.Told.{Told}
use Rattle.turn_laws.specs.Promise.Reloaded.{IsReloaded, IsRenewed}
use Rattle.graph_reloads.specs.Packages.{HasNoNpm, IsPackaged, packages_entry}
use Rattle.world_file.specs.declared.input.Input.{Input}
use Rattle.world_file.specs.WorldFile.{world_of}
use Rattle.program_phases.specs.declared.status.Status.{Status}
use Rattle.program_phases.specs.declared.status.Status.TheVariants.{Valid, Invalid, Words, NotAWorld, ReadFault, WriteFault, Budget, LoaderFault, Memory, TooLong}
use Rattle.program_phases.specs.Outcome.{ButCopies, KeepsPromise, IsTooLarge, FailsWithin, told_of_input}
use Rattle.program_phases.specs.Sums.{flags_in}
use Rattle.calls_program.specs.declared.call.Call.{Call}
use Rattle.calls_program.specs.declared.call.PackagesCall.{PackagesCall}
use Rattle.calls_program.specs.declared.call.Call.TheVariants.{Walk, Entries, Errors, Segment, Prune, Reload, Packages}
use Rattle.calls_program.specs.Lines.{found_by_call}
use Rattle.graph_turns.specs.Promise.Runs.{IsGrownBy}
use Rattle.world_file.specs.WorldRegistry.{IsLimit}
use Rattle.version_dates.specs.declared.newest_date.NewestDependencyDateOptions.{NewestDependencyDateOptions}
use Rattle.graph_turns.specs.Machine.Runs.{told_for}
use Rattle.graph_turns.specs.declared.run.Run.TheVariants.{Only}
use Rattle.graph_turns.specs.declared.state.State.{State}

-- the graph of the turns that load specifiers again over a built one
abbrev pub IsTurnedAgain : Told → ModuleGraph → List Parts → ModuleGraph → Type 0
IsTurnedAgain told built given g =
    (sums : Option KnownSums) × (store : Option JsrMetadataStore) × (put : ℕ) × IsTurnedFrom told built.kind (reloading told.known built given) g sums store put

-- what a reload of specifiers leaves of a built graph, but for what is noted of cached copies: roots and imports stay and nothing is pending; each slot and redirect
-- stood so, or is what the world's answers give a load leading to it; so is each slot where a given specifier led; and it is the graph of
-- the turns that load these again, which know no order of arrival
pub record IsLoadedAgain (input : Input) (given : List Parts) (built g : ModuleGraph) : Type 0 where
  pub promise : KeepsPromise input built
  pub reloaded : ButCopies input (IsReloaded (flags_in input) built given) g
  pub newest : NewestDependencyDateOptions
  pub limit : IsLimit input.registry.newest newest
  pub explained : ButCopies input (λ bare. IsGrownBy bare (told_for (told_of_input input newest) Only) (reload_entry input.settings.is_dynamic built given)) g
  pub renewed : ButCopies input (λ bare. All (IsRenewed (told_for (told_of_input input newest) Only) built given bare) given) g
  pub turned : ButCopies input (IsTurnedAgain (told_of_input input newest) built given) g

-- what the segment of some roots leaves of a built graph
pub record IsSegmentOf (input : Input) (roots : List Parts) (built g : ModuleGraph) : Type 0 where
  pub promise : KeepsPromise input built
  pub segment : g ≡ segment_of built roots

-- what is left of a built graph where it loses its types
pub record IsPrunedOf (input : Input) (built g : ModuleGraph) : Type 0 where
  pub promise : KeepsPromise input built
  pub prunes : Prunes built g

-- ---- packages of npm

-- an input without the resolutions of its world
abbrev pub without_resolutions : Input → Input
without_resolutions input = record input { world = record input.world { resolutions = [] } }

-- an input without what npm answers
abbrev pub without_npm : Input → Input
without_npm input = record input { npm = None }

-- what an input tells a build of the packages of npm, which has no npm resolver
abbrev pub told_to_packages : Input → NewestDependencyDateOptions → Told
told_to_packages input newest = told_of_input (without_npm input) newest

-- the entry of that build over a graph
abbrev pub packages_in : Input → NewestDependencyDateOptions → PackagesCall → ModuleGraph → EnteredGraph
packages_in input newest called built = packages_entry (told_to_packages input newest) called.kind called.root_dir built

-- where its turns begin
abbrev pub begun_packages : Input → NewestDependencyDateOptions → PackagesCall → ModuleGraph → State
begun_packages input newest called built = begun_at (told_to_packages input newest).known (packages_in input newest called built)

-- the graph of these turns
abbrev pub IsTurnedByPackages : Input → NewestDependencyDateOptions → PackagesCall → ModuleGraph → ModuleGraph → Type 0
IsTurnedByPackages input newest called built g =
    (sums : Option KnownSums) × (store : Option JsrMetadataStore) × (put : ℕ) × IsTurnedFrom (told_to_packages input newest) built.kind (begun_packages input newest called built) g sums store put

-- what is left of a graph, built without the resolutions of its world, where packages take the place of its modules of npm, but for what
-- is noted of cached copies: edges and roots that led to npm are resolved again by all that the world tells; nothing is pending; each slot and redirect stood so from then on, or
-- is what the world's answers give a load leading to it; no module of npm stands; and it is the graph of the turns, which know no order of
-- arrival
pub record IsRepackaged (input : Input) (called : PackagesCall) (built g : ModuleGraph) : Type 0 where
  pub promise : KeepsPromise (without_resolutions input) built
  pub packaged : ButCopies input (IsPackaged (flags_in (without_npm input)) built) g
  pub newest : NewestDependencyDateOptions
  pub limit : IsLimit input.registry.newest newest
  pub explained : ButCopies input (λ bare. IsGrownBy bare (told_for (told_to_packages input newest) Only) (packages_in input newest called built)) g
  pub without_modules : ButCopies input HasNoNpm g
  pub turned : ButCopies input (IsTurnedByPackages input newest called built) g

-- ---- calls

-- the graph that a call leaves: a graph of the input itself where the call only reads it, else what it makes of one
abbrev pub IsCalled : Input → Call → ModuleGraph → Type 0
IsCalled input (Walk kind) g = KeepsPromise input g
IsCalled input (Entries called) g = KeepsPromise input g
IsCalled input (Errors listed) g = KeepsPromise input g
IsCalled input (Segment roots) g = (built : ModuleGraph) × IsSegmentOf input roots built g
IsCalled input Prune g = (built : ModuleGraph) × IsPrunedOf input built g
IsCalled input (Reload given) g = (built : ModuleGraph) × IsLoadedAgain input given built g
IsCalled input (Packages called) g = (built : ModuleGraph) × IsRepackaged input called built g

-- some number of turns that load again over a built graph puts more questions than may be put, and no list of as many covers what is
-- loaded
pub record IsTooMuch (input : Input) (given : List Parts) : Type 0 where
  pub built : ModuleGraph
  pub promise : KeepsPromise input built
  pub newest : NewestDependencyDateOptions
  pub limit : IsLimit input.registry.newest newest
  pub over : PutsOver (told_of_input input newest) built.kind (reloading (told_of_input input newest).known built given) input.max_loads
  pub more : (questions : List Counted) → CoversFrom (told_for (told_of_input input newest) Only) (reload_entry input.settings.is_dynamic built given) questions → length questions ≤ input.max_loads → ⊥

-- some number of turns that build the packages of npm over a built graph puts more questions than may be put, and no list of as many
-- covers what is loaded
pub record HasTooManyPackages (input : Input) (called : PackagesCall) : Type 0 where
  pub built : ModuleGraph
  pub promise : KeepsPromise (without_resolutions input) built
  pub newest : NewestDependencyDateOptions
  pub limit : IsLimit input.registry.newest newest
  pub over : PutsOver (told_to_packages input newest) built.kind (begun_packages input newest called built) input.max_loads
  pub more : (questions : List Counted) → CoversFrom (told_for (told_to_packages input newest) Only) (packages_in input newest called built) questions → length questions ≤ input.max_loads → ⊥

-- the build or the call had more questions than may be put; a reload and packages of npm alone put questions of their own
abbrev pub Exceeds : Input → Call → Type 0
Exceeds input (Walk kind) = IsTooLarge input
Exceeds input (Entries called) = IsTooLarge input
Exceeds input (Errors listed) = IsTooLarge input
Exceeds input (Segment roots) = IsTooLarge input
Exceeds input Prune = IsTooLarge input
Exceeds input (Reload given) = IsTooLarge input ⊎ IsTooMuch input given
Exceeds input (Packages called) = IsTooLarge (without_resolutions input) ⊎ HasTooManyPackages input called

-- what the statuses of a call that is written say of what it found: none is an error, or the first is this one
abbrev pub SaysOfFound : Result (Unit {0}) ModuleGraphError → Status → Type 0
SaysOfFound found Valid = found ≡ Ok tt
SaysOfFound found Invalid = (e : ModuleGraphError) × (found ≡ Err e)
SaysOfFound found WriteFault = ⊤
SaysOfFound found Memory = ⊤
SaysOfFound found Words = ⊥
SaysOfFound found NotAWorld = ⊥
SaysOfFound found ReadFault = ⊥
SaysOfFound found Budget = ⊥
SaysOfFound found LoaderFault = ⊥
SaysOfFound found TooLong = ⊥

-- what each status of a call on the graph of an input says of the graph
abbrev pub SaysOfCall : Input → Call → ModuleGraph → Status → Type 0
SaysOfCall input call g Valid = IsCalled input call g × (found_by_call call g ≡ Ok tt)
SaysOfCall input call g Invalid = IsCalled input call g × (e : ModuleGraphError) × (found_by_call call g ≡ Err e)
SaysOfCall input call g WriteFault = IsCalled input call g
SaysOfCall input call g Budget = (g ≡ new_graph input.kind) × Exceeds input call
SaysOfCall input call g LoaderFault = (g ≡ new_graph input.kind) × FailsWithin input
SaysOfCall input call g Memory = (g ≡ new_graph input.kind) ⊎ IsCalled input call g
SaysOfCall input call g Words = ⊥
SaysOfCall input call g NotAWorld = ⊥
SaysOfCall input call g ReadFault = ⊥
SaysOfCall input call g TooLong = ⊥

-- the same of an input and a call that were read; one that wasn't leaves the empty graph
pub record SaysOfRun (told : Option (List ℕ)) (call : Option Call) (g : ModuleGraph) (status : Status) : Type 0 where
  pub input : Input
  pub named : Call
  pub input_is : IfSome told (λ bytes. world_of bytes ≡ Some input)
  pub call_is : call ≡ Some named
  pub says : SaysOfCall input named g status

-- words that name no call are refused, unless there is no memory to read them
abbrev pub RefusesWords : Option Call → Status → Type 0
RefusesWords call status = call ≡ None → (status ≡ Words) ⊎ (status ≡ Memory)

-- what a run leaves: the empty graph of the kind `All` where there is no call or no input, else what its call says
abbrev pub IsLeft : Option (List ℕ) → Option Call → ModuleGraph → Status → Type 0
IsLeft told call g Words = (g ≡ new_graph Whole) × (call ≡ None)
IsLeft told call g NotAWorld = g ≡ new_graph Whole
IsLeft told call g ReadFault = g ≡ new_graph Whole
IsLeft told call g TooLong = g ≡ new_graph Whole
IsLeft told call g Memory = (g ≡ new_graph Whole) ⊎ SaysOfRun told call g Memory
IsLeft told call g Valid = SaysOfRun told call g Valid
IsLeft told call g Invalid = SaysOfRun told call g Invalid
IsLeft told call g WriteFault = SaysOfRun told call g WriteFault
IsLeft told call g Budget = SaysOfRun told call g Budget
IsLeft told call g LoaderFault = SaysOfRun told call g LoaderFault
