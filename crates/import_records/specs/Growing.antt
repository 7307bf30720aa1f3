-- The dependency of a text as it grows by one import record after another.
use Rattle.std.specs.Prelude.{◌≡◌, ℕ, List, [], ◌∷◌, ◌++◌, Bool, true, false, not, ◌&&◌, Option, None, Some, bytes_eq, codes, if◌then◌else◌}
use Rattle.std.specs.Option.{option_or, unwrap_or}
use Rattle.std.specs.Map.{lookup}
use Rattle.indexmap.specs.IndexMap.{insert_entry}
use Rattle.spec_base.specs.declared.position.ResolutionKind.TheVariants.{Execution, Types}
use Rattle.module_info.specs.Attributes.{attribute_text}
use Rattle.graph_dependencies.specs.declared.dependency.Dependency.{Dependency}
use Rattle.import_records.specs.declared.import_record.ImportRecord.{ImportRecord}
use Rattle.graph_errors.specs.declared.resolution.Resolution.{Resolution}
use Rattle.graph_errors.specs.declared.resolution.Resolution.TheVariants.{None as Nowhere}
use Rattle.import_records.specs.Dependencies.{is_code, type_by}
use Rattle.import_records.specs.Importing.{Importing}
use Rattle.graph_dependencies.specs.Kinds.{is_runtime}
use Rattle.graph_errors.specs.Resolutions.{is_nowhere}
use Rattle.import_records.specs.Target.{target_of}

-- a dependency without imports
abbrev pub empty_dependency : Dependency
empty_dependency = record {
  maybe_code = Nowhere;
  maybe_type = Nowhere;
  maybe_deno_types_specifier = None;
  is_dynamic = false;
  maybe_attribute_type = None;
  imports = [];
}

unfoldable pub with_attribute : Dependency → ImportRecord → Dependency
with_attribute d r = record d {
  maybe_attribute_type = option_or d.maybe_attribute_type (attribute_text r.imported.attributes (codes "type"));
}

unfoldable pub with_code : Importing → Dependency → ImportRecord → Dependency
with_code a d r =
    if not (is_code a r) then d
    else (if is_nowhere d.maybe_code then record d {
      maybe_code = target_of a.resolving r.imported.specifier r.imported.specifier_range Execution d.maybe_attribute_type;
      is_dynamic = r.imported.is_dynamic;
    }
    else record d { is_dynamic = d.is_dynamic && r.imported.is_dynamic })

-- the code is that of a record which is imported when the module runs
pub record HasOwnCode (a : Importing) (d : Dependency) (r : ImportRecord) : Type 0 where
  pub runs : is_runtime r.imported.kind ≡ true
  pub leads : d.maybe_code ≡ target_of a.resolving r.imported.specifier r.imported.specifier_range Execution d.maybe_attribute_type

-- the type that a record offers to what stands
abbrev pub offered : Importing → Dependency → ImportRecord → Option (Resolution × Option (List ℕ))
offered a d r = type_by a r d.maybe_code
    (target_of a.resolving r.imported.specifier r.imported.specifier_range Types
    (if is_runtime r.imported.kind then d.maybe_attribute_type else None)) r.types_text

abbrev pub take_offer : Dependency → Option (Resolution × Option (List ℕ)) → Dependency
take_offer d None = d
take_offer d (Some o) = record d { maybe_type = o.0; maybe_deno_types_specifier = o.1 }

unfoldable pub with_type : Importing → Dependency → ImportRecord → Dependency
with_type a d r = if a.with_types && is_nowhere d.maybe_type then take_offer d (offered a d r) else d

abbrev pub with_import : Dependency → ImportRecord → Dependency
with_import d r = record d { imports = d.imports ++ r.imported ∷ [] }

unfoldable pub grown : Importing → Dependency → ImportRecord → Dependency
grown a d r = with_import (with_type a (with_code a (with_attribute d r) r) r) r

-- the entries with one record more
abbrev pub put : Importing → List (List ℕ × Dependency) → ImportRecord → List (List ℕ × Dependency)
put a es r =
    insert_entry bytes_eq es r.imported.specifier
    (grown a (unwrap_or (lookup (bytes_eq r.imported.specifier) es) empty_dependency) r)
