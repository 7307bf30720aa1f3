-- Edges that lead to npm, resolved again for code or for types, and the loads of where they lead then.
use Rattle.std.specs.Prelude.{ℕ, nat_eq, List, [], map, flat_map, codes, Bool, true, Option, Some, None, option_map, if◌then◌else◌}
use Rattle.std.specs.List.{list_all, starts_with}
use Rattle.std.specs.Option.{unwrap_or}
use Rattle.module_info.specs.Attributes.{has_asset}
use Rattle.url.specs.Parts.{Parts}
use Rattle.spec_base.specs.Options.{by_option}
use Rattle.spec_base.specs.Position.{is_types}
use Rattle.spec_base.specs.Specifier.{specifier_text}
use Rattle.spec_base.specs.declared.position.Range.{Range}
use Rattle.spec_base.specs.declared.position.ResolutionKind.{ResolutionKind}
use Rattle.spec_base.specs.declared.position.ResolutionKind.TheVariants.{Execution, Types}
use Rattle.registry_urls.specs.Meaning.{RegistryMeaning}
use Rattle.source_io.specs.Resolvers.{ResolverMeaning}
use Rattle.graph_errors.specs.declared.resolution.Resolution.{Resolution}
use Rattle.graph_errors.specs.declared.resolution.Resolution.TheVariants.{None as Nowhere, Ok as Leads, Err as Fails}
use Rattle.graph_dependencies.specs.Assets.{source_phase_of}
use Rattle.import_records.specs.Target.{Resolving, resolving as resolving_of, target_of}
use Rattle.graph_dependencies.specs.declared.dependency.Dependency.{Dependency}
use Rattle.graph_dependencies.specs.declared.dependency.TypesDependency.{TypesDependency}
use Rattle.graph_core.specs.Edges.{edge_of, plain_context}
use Rattle.module_slots.specs.declared.load.Load.{Load}
use Rattle.module_slots.specs.declared.load.LoadContext.{LoadContext}
use Rattle.npm_targets.specs.declared.repointing.Repointing.{Repointing as Given}

-- how edges are resolved again: by what texts are resolved, for code or for types, and in which phase what they lead to is loaded
pub record Repointing : Type 0 where
  pub resolving : Resolving
  pub kind : ResolutionKind
  pub in_dynamic_phase : Bool

-- how these targets, kind and phase resolve edges again
abbrev pub repointing : {U R : Type 0} → (U → RegistryMeaning) → (R → ResolverMeaning) → Given U R → Repointing
repointing registry meaning r = record {
  resolving = resolving_of registry meaning r.targets;
  kind = r.resolution_kind;
  in_dynamic_phase = r.in_dynamic_phase;
}

-- ---- which edges

-- a specifier of a package of npm
abbrev pub is_npm : Parts → Bool
is_npm s = starts_with nat_eq (specifier_text s) (codes "npm:")

-- the range of an edge that leads to npm
abbrev pub npm_range : Resolution → Option Range
npm_range Nowhere = None
npm_range (Leads r) = if is_npm r.specifier then Some r.range else None
npm_range (Fails e) = None

-- the range in which a dependency is resolved again, where it is: for code that of its code, and for types that of its type or else
-- of its code, each where that edge leads to npm
abbrev pub range_again : ResolutionKind → Dependency → Option Range
range_again Execution d = npm_range d.maybe_code
range_again Types d = by_option (npm_range d.maybe_type) (npm_range d.maybe_code) Some

-- ---- where they lead then

-- where the text of a dependency leads from a range, for its code or its types; a types text of its own names its types
abbrev pub target_for : ResolutionKind → Resolving → List ℕ → Dependency → Range → Resolution
target_for Execution m text d range = target_of m text range Execution None
target_for Types m text d range = target_of m (unwrap_or d.maybe_deno_types_specifier text) range Types None

abbrev pub target_again : Repointing → List ℕ → Dependency → Range → Resolution
target_again how text d range = target_for how.kind how.resolving text d range

-- the code of a dependency, or its type, leads elsewhere
abbrev pub pointed : ResolutionKind → Dependency → Resolution → Dependency
pointed Execution d r = record d { maybe_code = r }
pointed Types d r = record d { maybe_type = r }

abbrev pub repointed : Repointing → List ℕ → Dependency → Dependency
repointed how text d = by_option (range_again how.kind d) d (λ range. pointed how.kind d (target_again how text d range))

abbrev pub repointed_all : Repointing → List (List ℕ × Dependency) → List (List ℕ × Dependency)
repointed_all how dependencies = map (λ e. (e.0, repointed how e.0 e.1)) dependencies

-- the range in which a types dependency is resolved again, where it is: for types that of its edge, where that leads to npm
abbrev pub types_range_again : ResolutionKind → TypesDependency → Option Range
types_range_again Execution t = None
types_range_again Types t = npm_range t.dependency

abbrev pub types_again : Repointing → TypesDependency → Range → Resolution
types_again how t range = target_of how.resolving t.specifier range Types None

abbrev pub repointed_types : Repointing → TypesDependency → TypesDependency
repointed_types how t = by_option (types_range_again how.kind t) t (λ range. record t { dependency = types_again how t range })

-- ---- loads

-- each of its imports has an asset's type; the source phase alone doesn't count
abbrev pub all_have_asset_type : Dependency → Bool
all_have_asset_type d = list_all (λ i. has_asset i.attributes) d.imports

-- the context in which the target of a dependency is loaded: its own attribute and source phase, an asset where each import has an
-- asset's type, and its question says that it is dynamic where the dependency is
abbrev pub again_context : Bool → Dependency → Range → LoadContext
again_context dynamic d range = record (plain_context range) {
  attribute = option_map (λ t. (t, range)) d.maybe_attribute_type;
  asset = all_have_asset_type d;
  source_phase = source_phase_of d;
  in_dynamic_phase = dynamic;
  is_dynamic = d.is_dynamic;
}

-- the load of where a dependency leads then, if it leads anywhere
abbrev pub loads_again : Repointing → List ℕ → Dependency → List Load
loads_again how text d =
    by_option (range_again how.kind d) []
    (λ range. edge_of (again_context how.in_dynamic_phase d) (is_types how.kind) (target_again how text d range))

abbrev pub all_loads_again : Repointing → List (List ℕ × Dependency) → List Load
all_loads_again how dependencies = flat_map (λ e. loads_again how e.0 e.1) dependencies

-- the load of where a types dependency leads then; its question never says that it is dynamic
abbrev pub types_loads_again : Repointing → TypesDependency → List Load
types_loads_again how t =
    by_option (types_range_again how.kind t) []
    (λ range. edge_of (λ at. record (plain_context at) { in_dynamic_phase = how.in_dynamic_phase }) true (types_again how t range))
