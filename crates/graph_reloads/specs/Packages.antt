-- The packages of npm in the place of its modules.
use Rattle.std.specs.Prelude.{◌≡◌, ℕ, Bool, List, Option, Some, None, true}
use denote.Bor.{Bor}
use Rattle.source_io.specs.Resolvers.{ResolverMeaning}
use Rattle.import_records.specs.Target.{NvOf, Resolving, meant}
use Rattle.std.specs.FinMap as finite
use Rattle.url.specs.Parts.{Parts}
use Rattle.spec_base.specs.declared.position.ResolutionKind.{ResolutionKind}
use Rattle.import_records.specs.TypesDependency.{beginning}
use Rattle.npm_targets.specs.Edges.{Repointing}
use Rattle.npm_targets.specs.Graphs.{IsRepointed, repointed_graph, repointed_loads}
use Rattle.graph_core.specs.declared.graph.ModuleGraph.{ModuleGraph}
use Rattle.module_slots.specs.declared.slot.Module.TheVariants.{Npm}
use Rattle.module_slots.specs.declared.slot.ModuleSlot.TheVariants.{Module as Stands}
use Rattle.module_slots.specs.declared.slot.NpmModule.{NpmModule}
use Rattle.graph_turns.specs.declared.flags.Flags.{Flags}
use Rattle.graph_turns.specs.Promise.Input.{EnteredGraph}
use Rattle.graph_turns.specs.Promise.Packages.{names_npm}
use Rattle.graph_turns.specs.Promise.Told.{Told}
use Rattle.build_options.specs.declared.options.BuildOptions.{BuildOptions}
use Rattle.graph_builder.specs.Calls.Over.{IsLeftBy, entered}

-- some options without their npm resolver
abbrev pub without_npm : {S L T U A R N C Q : Type 0} → BuildOptions S L T U A R N C Q → BuildOptions S L T U A R N C Q
without_npm options = record options { npm_resolver = None }

-- each module of npm stands at a specifier of npm
abbrev pub IsNpmAtNpm : ModuleGraph → Type 0
IsNpmAtNpm g = (k : List ℕ) (m : NpmModule) → finite.get g.slots k ≡ Some (Stands (Npm m)) → names_npm k ≡ true

-- no module of npm stands in a graph
abbrev pub HasNoNpm : ModuleGraph → Type 0
HasNoNpm g = (k : List ℕ) (m : NpmModule) → finite.get g.slots k ≡ Some (Stands (Npm m)) → ⊥

-- what texts are resolved by, where that is told
abbrev pub resolving_by : {R : Type 0} → NvOf → (R → ResolverMeaning) → Option (Bor R) → Resolving
resolving_by nv_of meaning resolver = record { resolver = meant meaning resolver; nv_of = nv_of }

-- how edges and roots are resolved again: by what texts are resolved, for code or for types, in a phase
abbrev pub repointing_by : Resolving → ResolutionKind → Bool → Repointing
repointing_by m kind dynamic = record { resolving = m; kind = kind; in_dynamic_phase = dynamic }

-- a graph whose edges and roots that lead to npm are resolved again, the roots at the beginning of a folder, without the modules of
-- npm, and the loads of where edges and roots lead then
abbrev pub repointed_entry : Repointing → Parts → ModuleGraph → EnteredGraph
repointed_entry how dir g = entered (repointed_graph how (beginning dir) g) (repointed_loads how (beginning dir) g)

-- the entry of a build of the packages of npm, by what is told
abbrev pub packages_entry : Told → ResolutionKind → Parts → ModuleGraph → EnteredGraph
packages_entry told kind dir g = repointed_entry (repointing_by told.resolving kind told.known.flags.is_dynamic) dir g

-- what a build of the packages of npm leaves of a graph, whatever the resolver answers
pub record IsPackaged (flags : Flags) (old new : ModuleGraph) : Type 0 where
  pub entry : EnteredGraph
  pub repointed : IsRepointed old entry.graph entry.loads
  pub left : IsLeftBy flags entry new
