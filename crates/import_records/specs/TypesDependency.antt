-- Where the types of a module stand.
use Rattle.std.specs.Prelude.{ℕ, List, [], ◌∷◌, Bool, not, ◌||◌, Option, None, Some, Result, Ok, Err, option_map, if◌then◌else◌}
use Rattle.std.specs.Option.{option_or, unwrap_or}
use Rattle.url.specs.Parts.{Parts, serialize}
use Rattle.media_types.specs.Media.{is_typed}
use Rattle.spec_base.specs.declared.position.Range.{Range}
use Rattle.spec_base.specs.declared.position.ResolutionKind.TheVariants.{Types as ForTypes}
use Rattle.spec_base.specs.declared.resolve_error.ResolveError.{ResolveError}
use Rattle.module_info.specs.declared.references.TypeScriptReference.{TypeScriptReference}
use Rattle.module_info.specs.declared.references.TypeScriptReference.TheVariants.{Path, Types}
use Rattle.module_info.specs.declared.types.ModuleInfo.{ModuleInfo}
use Rattle.graph_dependencies.specs.declared.dependency.TypesDependency.{TypesDependency}
use Rattle.graph_errors.specs.declared.resolution.Resolution.TheVariants.{Ok as Leads, Err as Fails}
use Rattle.graph_errors.specs.declared.resolution.ResolutionError.TheVariants.{ResolverError}
use Rattle.import_records.specs.Importing.{Importing}
use Rattle.import_records.specs.Records.{zero, is_wasm, mode_of, range_of}
use Rattle.import_records.specs.Target.{target_of}

-- a text that names the types
abbrev pub named : Importing → List ℕ → Range → TypesDependency
named a text range = record { specifier = text; dependency = target_of a.resolving text range ForTypes None }

-- as the module itself says
abbrev pub self_types : Importing → ModuleInfo → Option TypesDependency
self_types a info = option_map (λ s. named a s.text (range_of a s.range None)) info.self_types_specifier

-- the first types reference
abbrev pub first_reference : Importing → List TypeScriptReference → Option TypesDependency
first_reference a [] = None
first_reference a (Path s ∷ rest) = first_reference a rest
first_reference a (Types s mode ∷ rest) = Some (named a s.text (range_of a s.range (option_map mode_of mode)))

-- as its header `x-typescript-types` says
abbrev pub by_header : Importing → Option (List ℕ) → Option TypesDependency
by_header a header = option_map (λ text. named a text (range_of a zero None)) header

-- the beginning of a module
abbrev pub beginning : Parts → Range
beginning here = record { specifier = here; range = zero; resolution_mode = None }

-- what the resolver says of the module's types
abbrev pub by_resolver : Importing → Result (Option (Parts × Option Range)) ResolveError → Option TypesDependency
by_resolver a (Ok None) = None
by_resolver a (Ok (Some found)) = Some (record {
  specifier = serialize a.here;
  dependency = Leads (record { specifier = found.0; range = unwrap_or found.1 (beginning found.0) });
})
by_resolver a (Err e) = Some (record {
  specifier = serialize a.here;
  dependency = Fails (ResolverError e (serialize a.here) (beginning a.here));
})

-- in untyped media alone
abbrev pub in_untyped : Importing → Option TypesDependency → Option TypesDependency
in_untyped a o = if is_typed a.media then None else o

-- the types dependency of a module with this header `x-typescript-types`: of what the module says, its first
-- reference to types, the header and the resolver, the first that names one; WebAssembly has none
abbrev pub types_dependency_of : Importing → ModuleInfo → Option (List ℕ) → Option TypesDependency
types_dependency_of a info header =
    if is_wasm a.media || not a.with_types then None
    else option_or (self_types a info)
    (option_or (in_untyped a (first_reference a info.ts_references))
    (option_or (by_header a header)
    (in_untyped a (by_resolver a (a.resolving.resolver.types_of a.here)))))
