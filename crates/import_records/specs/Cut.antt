-- The dependencies of a module, cut to what a graph of a kind holds, and resolved again.
use Rattle.std.specs.Prelude.{ℕ, List, [], ◌∷◌, Bool, not, ◌&&◌, Option, None, is_some, map, if◌then◌else◌}
use Rattle.std.specs.Option.{unwrap_or}
use Rattle.spec_base.specs.declared.position.ResolutionKind.{ResolutionKind}
use Rattle.spec_base.specs.declared.position.ResolutionKind.TheVariants.{Execution, Types}
use Rattle.graph_dependencies.specs.declared.dependency.Dependency.{Dependency}
use Rattle.graph_dependencies.specs.declared.dependency.TypesDependency.{TypesDependency}
use Rattle.graph_dependencies.specs.declared.graph_kind.GraphKind.{GraphKind}
use Rattle.graph_errors.specs.declared.resolution.Resolution.{Resolution}
use Rattle.graph_errors.specs.declared.resolution.Resolution.TheVariants.{None as Nowhere, Ok as Leads, Err as Fails}
use Rattle.graph_dependencies.specs.Kinds.{include_code, include_types}
use Rattle.graph_errors.specs.Resolutions.{is_nowhere, failed_range}
use Rattle.import_records.specs.Target.{Resolving, target_of}

-- ---- cut to a kind

-- without code in the kind the code goes where a type was resolved, and without types the type goes
abbrev pub cut_to : GraphKind → Dependency → Dependency
cut_to kind d = record d {
  maybe_code = if not (include_code kind) && not (is_nowhere d.maybe_type) then Nowhere else d.maybe_code;
  maybe_type = if include_types kind then d.maybe_type else Nowhere;
}

-- a dynamic dependency is left as it is where those are skipped
abbrev pub cut_one : GraphKind → Bool → Dependency → Dependency
cut_one kind skip d = if d.is_dynamic && skip then d else cut_to kind d

abbrev pub cut : {K : Type 0} → GraphKind → Bool → List (K × Dependency) → List (K × Dependency)
cut kind skip es = map (λ e. (e.0, cut_one kind skip e.1)) es

-- a graph of types alone holds no dependencies of a module whose types stand elsewhere
abbrev pub kept : GraphKind → Bool → Option TypesDependency → List (List ℕ × Dependency) → List (List ℕ × Dependency)
kept kind skip types es = if not (include_code kind) && is_some types then [] else cut kind skip es

-- ---- resolved again

-- a resolution, where it was made, once more in its own range
abbrev pub again : Resolving → List ℕ → ResolutionKind → Resolution → Resolution
again m text kind Nowhere = Nowhere
again m text kind (Leads r) = target_of m text r.range kind None
again m text kind (Fails e) = target_of m text (failed_range e) kind None

-- the dependency of a text by another resolver; a types text of its own names its types
abbrev pub renewed : Resolving → List ℕ → Dependency → Dependency
renewed m text d = record d {
  maybe_code = again m text Execution d.maybe_code;
  maybe_type = again m (unwrap_or d.maybe_deno_types_specifier text) Types d.maybe_type;
}

-- a types dependency by another resolver
abbrev pub renewed_types : Resolving → TypesDependency → TypesDependency
renewed_types m t = record t { dependency = again m t.specifier Types t.dependency }
