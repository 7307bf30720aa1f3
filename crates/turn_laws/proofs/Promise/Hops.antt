-- Edges begin without hops, in the package of their module.
use Rattle.std.proofs.Common.{◌≡◌, ℕ, List, [], ◌∷◌, ◌++◌, Bool, true, false, ◌&&◌, not, if◌then◌else◌, Option, None, Some, is_some, refl, subst}
use Rattle.std.specs.List.{All}
use Rattle.std.proofs.lemmas.List.Elements.{All-nil, All-cons, All-append}
use Rattle.url.specs.Parts.{Parts}
use Rattle.spec_base.specs.declared.position.Range.{Range}
use Rattle.graph_dependencies.specs.Kinds.{include_code}
use Rattle.graph_dependencies.specs.declared.dependency.Dependency.{Dependency}
use Rattle.graph_dependencies.specs.declared.dependency.TypesDependency.{TypesDependency}
use Rattle.graph_dependencies.specs.declared.graph_import.GraphImport.{GraphImport}
use Rattle.graph_dependencies.specs.declared.graph_kind.GraphKind.{GraphKind}
use Rattle.graph_errors.specs.declared.resolution.Resolution.{Resolution}
use Rattle.graph_errors.specs.declared.resolution.Resolution.TheVariants.{None as Nowhere, Ok as Leads, Err as Fails}
use Rattle.module_slots.specs.declared.load.Load.{Load}
use Rattle.module_slots.specs.declared.load.LoadContext.{LoadContext}
use Rattle.module_slots.specs.declared.slot.Module.{Module}
use Rattle.module_slots.specs.declared.slot.JsModule.{JsModule}
use Rattle.module_slots.specs.declared.slot.Module.TheVariants.{Js, Json, Wasm, Npm, Node, External}
use Rattle.module_slots.specs.declared.slot.ModuleSlot.{ModuleSlot}
use Rattle.module_slots.specs.declared.slot.ModuleSlot.TheVariants.{Module as Stands, Err as Failed, Pending}
use Rattle.graph_core.specs.Edges.{edge_context, source_map_context, source_map_edge, source_map_edges, types_context, import_context, edge_of, both_edges, edges_by, edges_of, types_edge, import_edges, import_loads, loads_of}
use Rattle.graph_turns.specs.Promise.Reached.{IsEdge, in_package}
use Rattle.graph_turns.specs.Promise.Reached.IsEdge.{from}
use Rattle.graph_turns.specs.Promise.Told.{Told}
use Rattle.graph_turns.specs.Machine.Entering.{edges_from}

abbrev pub HasNoHops : Load → Type 0
HasNoHops load = load.context.hops ≡ 0

-- a load that a call begins with has no hops, and comes from no package
abbrev pub IsOutset : Load → Type 0
IsOutset load = (load.context.hops ≡ 0) × (load.context.«package» ≡ None)

-- what holds of the contexts of edges
module _ (Q : LoadContext → Type 0) where
  abbrev Has : Load → Type 0
  Has load = Q load.context

  edge_all : (F : Range → LoadContext) (t : Bool) (r : Resolution) → ((range : Range) → Q (F range)) → All Has (edge_of F t r)
  edge_all F t Nowhere here = All-nil Has
  edge_all F t (Leads r) here = All-cons Has _ [] (here r.range) (All-nil Has)
  edge_all F t (Fails e) here = All-nil Has

  both_all : (F : Range → LoadContext) (d : Dependency) → ((range : Range) → Q (F range)) → All Has (both_edges F d)
  both_all F d here = All-append Has (edge_of F false d.maybe_code) (edge_of F true d.maybe_type) (edge_all F false d.maybe_code here) (edge_all F true d.maybe_type here)

  if_all : (b : Bool) (xs : List Load) → All Has xs → All Has (if b then [] else xs)
  if_all true xs all = All-nil Has
  if_all false xs all = all

  edges_all : (skip : Bool) (c : LoadContext) (dependencies : List (List ℕ × Dependency)) → ((d : Dependency) (range : Range) → Q (edge_context c d range)) → All Has (edges_of skip c dependencies)
  edges_all skip c [] here = All-nil Has
  edges_all skip c (d ∷ ds) here = All-append Has (edges_by skip c d.1) (edges_of skip c ds)
      (if_all (d.1.is_dynamic && skip) (both_edges (edge_context c d.1) d.1) (both_all (edge_context c d.1) d.1 (here d.1)))
      (edges_all skip c ds here)

  map_all : (c : LoadContext) (map : Option TypesDependency) → ((range : Range) → Q (source_map_context c range)) → All Has (source_map_edge c map)
  map_all c None here = All-nil Has
  map_all c (Some t) here = edge_all (source_map_context c) false t.dependency here

  source_map_all : (kind : GraphKind) (m : JsModule) (c : LoadContext) → ((range : Range) → Q (source_map_context c range)) → All Has (source_map_edges kind m c)
  source_map_all kind m c here = if_all (not (include_code kind) && is_some m.maybe_types_dependency) (source_map_edge c m.maybe_source_map_dependency) (map_all c m.maybe_source_map_dependency here)

  types_all : (c : LoadContext) (types : Option TypesDependency) → ((range : Range) → Q (types_context c range)) → All Has (types_edge c types)
  types_all c None here = All-nil Has
  types_all c (Some t) here = edge_all (types_context c) true t.dependency here

  loads_all : (kind : GraphKind) (skip : Bool) (m : Module) (c : LoadContext) → ((d : Dependency) (range : Range) → Q (edge_context c d range)) → ((range : Range) → Q (source_map_context c range)) → ((range : Range) → Q (types_context c range)) → All Has (loads_of kind skip m c)
  unfolding loads_of
  loads_all kind skip (Js m) c edges map types = All-append Has (source_map_edges kind m c ++ edges_of skip c m.dependencies) (types_edge c m.maybe_types_dependency)
      (All-append Has (source_map_edges kind m c) (edges_of skip c m.dependencies) (source_map_all kind m c map) (edges_all skip c m.dependencies edges))
      (types_all c m.maybe_types_dependency types)
  loads_all kind skip (Json m) c edges map types = All-nil Has
  loads_all kind skip (Wasm m) c edges map types = edges_all skip c m.dependencies edges
  loads_all kind skip (Npm m) c edges map types = All-nil Has
  loads_all kind skip (Node m) c edges map types = All-nil Has
  loads_all kind skip (External m) c edges map types = All-nil Has

no_hops : (kind : GraphKind) (skip : Bool) (m : Module) (c : LoadContext) → All HasNoHops (loads_of kind skip m c)
no_hops kind skip m c = loads_all (λ (x : LoadContext). x.hops ≡ 0) kind skip m c (λ d range. refl) (λ range. refl) (λ range. refl)

-- the edges of a slot count in the package of its context
pub edges_in_package : (kind : GraphKind) (skip : Bool) (v : ModuleSlot) (c : LoadContext) → All (λ (load : Load). load.context.«package» ≡ c.«package») (edges_from kind skip v c)
edges_in_package kind skip (Stands m) c = loads_all (λ (x : LoadContext). x.«package» ≡ c.«package») kind skip m c (λ d range. refl) (λ range. refl) (λ range. refl)
edges_in_package kind skip (Failed e) c = All-nil (λ (load : Load). load.context.«package» ≡ c.«package»)
edges_in_package kind skip (Pending asset) c = All-nil (λ (load : Load). load.context.«package» ≡ c.«package»)

imports_of_one : (dynamic : Bool) (dependencies : List (List ℕ × Dependency)) → All IsOutset (import_edges dynamic dependencies)
imports_of_one dynamic [] = All-nil IsOutset
imports_of_one dynamic (d ∷ ds) = All-append IsOutset (both_edges (import_context dynamic) d.1) (import_edges dynamic ds) (both_all (λ (x : LoadContext). (x.hops ≡ 0) × (x.«package» ≡ None)) (import_context dynamic) d.1 (λ range. (refl, refl))) (imports_of_one dynamic ds)

pub imports_outset : (dynamic : Bool) (imports : List (Parts × GraphImport)) → All IsOutset (import_loads dynamic imports)
imports_outset dynamic [] = All-nil IsOutset
imports_outset dynamic (i ∷ is) = All-append IsOutset (import_edges dynamic i.1.dependencies) (import_loads dynamic is) (imports_of_one dynamic i.1.dependencies) (imports_outset dynamic is)

pub edge_begins : {w : Told} {kind : GraphKind} {s : Parts} {c : LoadContext} {load : Load} → IsEdge w kind s c load → load.context.hops ≡ 0
edge_begins {w = w} {kind = kind} {c = c} (from {asked = asked} {m = m} {load = load} takes is among) = subst HasNoHops among.2 (no_hops kind w.known.flags.skip_dynamic_deps m (in_package asked.held c) among.0 load among.1)
