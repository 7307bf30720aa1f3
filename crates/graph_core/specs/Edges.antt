-- The followed edges of a module and of configured imports, as the loads that they are.
use Rattle.std.specs.Prelude.{ℕ, List, [], ◌∷◌, ◌++◌, flat_map, Bool, true, false, not, ◌&&◌, ◌||◌, Option, Some, None, is_some, option_map, if◌then◌else◌}
use Rattle.url.specs.Parts.{Parts}
use Rattle.spec_base.specs.declared.position.Range.{Range}
use Rattle.graph_dependencies.specs.Assets.{all_take_assets, source_phase_of}
use Rattle.graph_dependencies.specs.Kinds.{include_code}
use Rattle.graph_dependencies.specs.declared.dependency.Dependency.{Dependency}
use Rattle.graph_dependencies.specs.declared.dependency.TypesDependency.{TypesDependency}
use Rattle.graph_dependencies.specs.declared.graph_import.GraphImport.{GraphImport}
use Rattle.graph_dependencies.specs.declared.graph_kind.GraphKind.{GraphKind}
use Rattle.module_slots.specs.declared.load.Load.{Load}
use Rattle.module_slots.specs.declared.load.LoadContext.{LoadContext}
use Rattle.graph_errors.specs.declared.resolution.Resolution.{Resolution}
use Rattle.graph_errors.specs.declared.resolution.Resolution.TheVariants.{None as Nowhere, Ok as Leads, Err as Fails}
use Rattle.module_slots.specs.declared.slot.JsModule.{JsModule}
use Rattle.module_slots.specs.declared.slot.Module.{Module}
use Rattle.module_slots.specs.declared.slot.Module.TheVariants.{Js, Json, Wasm, Npm, Node, External}

-- ---- contexts

-- what a module's phase and a dependency make the phase of its edge
abbrev pub phase_of : LoadContext → Dependency → Bool
phase_of c d = c.in_dynamic_phase || d.is_dynamic

-- the context of an edge of a dependency: the import that names its target, with what the dependency's imports say of it, in the
-- package of the module
abbrev pub edge_context : LoadContext → Dependency → Range → LoadContext
edge_context c d range = record {
  attribute = option_map (λ t. (t, range)) d.maybe_attribute_type;
  asset = all_take_assets d;
  source_phase = source_phase_of d;
  range = Some range;
  in_dynamic_phase = phase_of c d;
  is_dynamic = phase_of c d;
  is_root = false;
  hops = 0;
  «package» = c.«package»;
}

-- the context of an edge that no import says more of, in the static phase and in no package
abbrev pub plain_context : Range → LoadContext
plain_context range = record {
  attribute = None;
  asset = false;
  source_phase = None;
  range = Some range;
  in_dynamic_phase = false;
  is_dynamic = false;
  is_root = false;
  hops = 0;
  «package» = None;
}

-- where the source map of a module stands: an asset, in the module's phase
abbrev pub source_map_context : LoadContext → Range → LoadContext
source_map_context c range =
    record (plain_context range) { asset = true; in_dynamic_phase = c.in_dynamic_phase; is_dynamic = c.in_dynamic_phase; «package» = c.«package» }

-- where the types of a module stand: in the module's phase, but its question never says so
abbrev pub types_context : LoadContext → Range → LoadContext
types_context c range = record (plain_context range) { in_dynamic_phase = c.in_dynamic_phase; «package» = c.«package» }

-- a target of a configured import; in the dynamic phase where the build begins in it
abbrev pub import_context : Bool → Range → LoadContext
import_context dynamic range = record (plain_context range) { in_dynamic_phase = dynamic; is_dynamic = dynamic }

-- ---- edges

-- a resolved target alone is followed
abbrev pub edge_of : (Range → LoadContext) → Bool → Resolution → List Load
edge_of context is_type Nowhere = []
edge_of context is_type (Leads r) = (record { specifier = r.specifier; context = context r.range; is_type = is_type }) ∷ []
edge_of context is_type (Fails e) = []

-- the code of a dependency, then its type
abbrev pub both_edges : (Range → LoadContext) → Dependency → List Load
both_edges context d = edge_of context false d.maybe_code ++ edge_of context true d.maybe_type

-- those of one dependency; a dynamic one has none where those are skipped
abbrev pub edges_by : Bool → LoadContext → Dependency → List Load
edges_by skip c d = if d.is_dynamic && skip then [] else both_edges (edge_context c d) d

-- those of each dependency, in order
abbrev pub edges_of : Bool → LoadContext → List (List ℕ × Dependency) → List Load
edges_of skip c dependencies = flat_map (λ d. edges_by skip c d.1) dependencies

-- the source map, where it leads to a target
abbrev pub source_map_edge : LoadContext → Option TypesDependency → List Load
source_map_edge c None = []
source_map_edge c (Some t) = edge_of (source_map_context c) false t.dependency

-- a graph of types alone follows no source map of a module whose types stand elsewhere
abbrev pub source_map_edges : GraphKind → JsModule → LoadContext → List Load
source_map_edges kind m c =
    if not (include_code kind) && is_some m.maybe_types_dependency then [] else source_map_edge c m.maybe_source_map_dependency

-- the types dependency, where it leads to a target
abbrev pub types_edge : LoadContext → Option TypesDependency → List Load
types_edge c None = []
types_edge c (Some t) = edge_of (types_context c) true t.dependency

-- the edges that a graph of a kind follows from a module that was loaded under a context, in order: those of dynamic dependencies may
-- be skipped
unfoldable pub loads_of : GraphKind → Bool → Module → LoadContext → List Load
loads_of kind skip (Js m) c = source_map_edges kind m c ++ edges_of skip c m.dependencies ++ types_edge c m.maybe_types_dependency
loads_of kind skip (Json m) c = []
loads_of kind skip (Wasm m) c = edges_of skip c m.dependencies
loads_of kind skip (Npm m) c = []
loads_of kind skip (Node m) c = []
loads_of kind skip (External m) c = []

-- ---- configured imports

-- the targets of one referrer's imports
abbrev pub import_edges : Bool → List (List ℕ × Dependency) → List Load
import_edges dynamic dependencies = flat_map (λ d. both_edges (import_context dynamic) d.1) dependencies

-- the targets of configured imports, in order
abbrev pub import_loads : Bool → List (Parts × GraphImport) → List Load
import_loads dynamic imports = flat_map (λ i. import_edges dynamic i.1.dependencies) imports
