-- What the phases of a run hand on.
use Rattle.std.specs.Prelude.{◌≡◌, ◌⊎◌, ◌≤◌, length, ⊤, List, [], ℕ, Option, Some, None, Result, Ok, Err}
use Rattle.registry_urls.specs.Names.{nv_of_url}
use Rattle.source_io.specs.Resolvers.{meaning_in, meaning_of}
use Rattle.graph_errors.specs.declared.errors.ModuleGraphError.{ModuleGraphError}
use Rattle.graph_core.specs.declared.graph.ModuleGraph.{ModuleGraph}
use Rattle.graph_core.specs.Graph.{new_graph}
use Rattle.import_records.specs.Target.{Resolving}
use Rattle.graph_walk.specs.Walk.{validity}
use Rattle.world_file.specs.declared.input.Input.{Input}
use Rattle.program_phases.specs.Outcome.{FailsInTurns, IsTooLarge, KeepsPromise}
use Rattle.program_phases.specs.declared.status.Status.{Status}
use Rattle.program_phases.specs.declared.status.Status.TheVariants.{Valid, Invalid, Words, NotAWorld, ReadFault, WriteFault, Budget, LoaderFault, Memory, TooLong}
use Rattle.program_phases.specs.declared.world_services.Tellers.{Tellers}
use Rattle.byte_io.specs.Reading.{ReadsAll, most_bytes}
use Rattle.world_file.specs.WorldFile.{world_of}
use Rattle.world_file.specs.WorldRegistry.{IsLimit}
use Rattle.byte_io.specs.declared.reading.ReadRefusal.TheVariants as refusal

-- the statuses of a run whose input is no world that was read
abbrev pub IsRefusedStatus : Status → Type 0
IsRefusedStatus NotAWorld = ⊤
IsRefusedStatus ReadFault = ⊤
IsRefusedStatus TooLong = ⊤
IsRefusedStatus Memory = ⊤
IsRefusedStatus Valid = ⊥
IsRefusedStatus Invalid = ⊥
IsRefusedStatus Words = ⊥
IsRefusedStatus WriteFault = ⊥
IsRefusedStatus Budget = ⊥
IsRefusedStatus LoaderFault = ⊥

-- why there is no input
abbrev pub SaysOfRefusal : List ℕ → Option (List ℕ) → Status → Type 0
SaysOfRefusal bytes left NotAWorld = (left ≡ Some []) × (world_of bytes ≡ None) × (length bytes ≤ most_bytes)
SaysOfRefusal bytes left ReadFault = ReadsAll bytes left (Err refusal.Failed)
SaysOfRefusal bytes left TooLong = ReadsAll bytes left (Err refusal.TooLong)
SaysOfRefusal bytes left _ = ReadsAll bytes left (Err refusal.Memory)

-- the input that was read whole, or why there is none
abbrev pub IsInputBy : List ℕ → Option (List ℕ) → Result Input Status → Type 0
IsInputBy bytes left (Ok input) = (left ≡ Some []) × (world_of bytes ≡ Some input) × (length bytes ≤ most_bytes)
IsInputBy bytes left (Err status) = SaysOfRefusal bytes left status

-- what texts are resolved by, by a resolver and a registry
abbrev pub resolving_by : Tellers → Resolving
resolving_by t = record { resolver = meaning_in t.resolver; nv_of = nv_of_url t.urls.url }

-- the analyzer, the tree of files and the resolver tell what the world of an input tells, and the registry, the limit for its versions and
-- what npm answers are the input's
pub record TellsInput (input : Input) (t : Tellers) : Type 0 where
  pub infos : t.analyzer.infos ≡ input.world.infos
  pub tree : t.tree ≡ input.world.tree
  pub urls : t.urls.url ≡ input.registry.provider.url
  pub resolver : meaning_in t.resolver ≡ meaning_of input.world
  pub limit : IsLimit input.registry.newest t.versions.newest_dependency_date_options
  pub passthrough : t.passthrough_jsr ≡ input.registry.passthrough_jsr
  pub npm : t.npm ≡ input.npm

-- what the statuses of a graph that was built say of its validity
abbrev pub SaysOfVerdict : ModuleGraph → Status → Type 0
SaysOfVerdict g Valid = validity g ≡ Ok tt
SaysOfVerdict g Invalid = (e : ModuleGraphError) × (validity g ≡ Err e)
SaysOfVerdict g WriteFault = ⊤
SaysOfVerdict g Memory = ⊤
SaysOfVerdict g Words = ⊥
SaysOfVerdict g NotAWorld = ⊥
SaysOfVerdict g ReadFault = ⊥
SaysOfVerdict g Budget = ⊥
SaysOfVerdict g LoaderFault = ⊥
SaysOfVerdict g TooLong = ⊥

-- what each status of a run over an input says of the graph
abbrev pub SaysOfRun : Input → ModuleGraph → Status → Type 0
SaysOfRun input g Valid = KeepsPromise input g × (validity g ≡ Ok tt)
SaysOfRun input g Invalid = KeepsPromise input g × (e : ModuleGraphError) × (validity g ≡ Err e)
SaysOfRun input g WriteFault = KeepsPromise input g
SaysOfRun input g Budget = (g ≡ new_graph input.kind) × IsTooLarge input
SaysOfRun input g LoaderFault = (g ≡ new_graph input.kind) × FailsInTurns input
SaysOfRun input g Memory = (g ≡ new_graph input.kind) ⊎ KeepsPromise input g
SaysOfRun input g Words = ⊥
SaysOfRun input g NotAWorld = ⊥
SaysOfRun input g ReadFault = ⊥
SaysOfRun input g TooLong = ⊥
