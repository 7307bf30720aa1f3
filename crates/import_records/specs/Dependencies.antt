-- The dependencies of a module: what the import records of each text make of it.
use Rattle.std.specs.Prelude.{ℕ, List, [], ◌∷◌, ◌++◌, Bool, true, false, not, ◌&&◌, ◌||◌, Option, None, Some, is_some, length, ◌==◌, bytes_eq, codes, map, filter, fold, if◌then◌else◌}
use Rattle.std.specs.Option.{option_or, option_map_or, unwrap_or}
use Rattle.std.specs.List.{list_any, list_all}
use Rattle.url.specs.Parts.{Parts}
use Rattle.media_types.specs.Media.{is_declaration, is_typed}
use Rattle.spec_base.specs.Specifier.{same_specifier}
use Rattle.spec_base.specs.declared.position.ResolutionKind.TheVariants.{Execution, Types}
use Rattle.module_info.specs.Attributes.{attribute_text}
use Rattle.module_info.specs.declared.types.ModuleInfo.{ModuleInfo}
use Rattle.graph_dependencies.specs.declared.dependency.Dependency.{Dependency}
use Rattle.graph_dependencies.specs.declared.dependency.ImportKind.{ImportKind}
use Rattle.graph_dependencies.specs.declared.dependency.ImportKind.TheVariants.{TsModuleAugmentation}
use Rattle.import_records.specs.declared.import_record.ImportRecord.{ImportRecord}
use Rattle.import_records.specs.declared.import_record.TypesText.{TypesText}
use Rattle.graph_errors.specs.declared.resolution.Resolution.{Resolution}
use Rattle.graph_errors.specs.declared.resolution.Resolution.TheVariants.{None as Nowhere, Err as Fails}
use Rattle.import_records.specs.Importing.{Importing}
use Rattle.graph_dependencies.specs.Kinds.{is_runtime}
use Rattle.import_records.specs.Records.{records_of}
use Rattle.graph_errors.specs.Resolutions.{specifier_in}
use Rattle.import_records.specs.Target.{target_of}

-- ---- where two texts lead

abbrev pub is_failure : Resolution → Bool
is_failure (Fails e) = true
is_failure r = false

abbrev pub leads : Resolution → Bool
leads r = is_some (specifier_in r)

-- both lead to one specifier, or both to none
abbrev pub same_target : Option Parts → Option Parts → Bool
same_target None None = true
same_target (Some a) (Some b) = same_specifier a b
same_target a b = false

-- ---- what the records of one text offer

-- what the first record offers that offers something; each is asked with the records so far, up to and with itself
abbrev pub first_offer : {B : Type 0} → (List ImportRecord → ImportRecord → Option B) → List ImportRecord → List ImportRecord → Option B
first_offer offer before [] = None
first_offer offer before (r ∷ rs) =
    option_or (offer (before ++ r ∷ []) r) (first_offer offer (before ++ r ∷ []) rs)

-- the first known attribute `type`
abbrev pub attribute_of : List ImportRecord → Option (List ℕ)
attribute_of rs = first_offer (λ so_far r. attribute_text r.imported.attributes (codes "type")) [] rs

-- a record of the code: imported when the module runs, which a declaration file does not
abbrev pub is_code : Importing → ImportRecord → Bool
is_code a r = is_runtime r.imported.kind && not (is_declaration a.media)

-- the target of a code record, with the attribute so far
abbrev pub code_offer : Importing → List ImportRecord → ImportRecord → Option Resolution
code_offer a so_far r =
    if is_code a r
    then Some (target_of a.resolving r.imported.specifier r.imported.specifier_range Execution (attribute_of so_far))
    else None

-- where the code leads: as the first code record says
abbrev pub code_of : Importing → List ImportRecord → Resolution
code_of a rs = unwrap_or (first_offer (code_offer a) [] rs) Nowhere

-- there is a code record, and all of them are calls
abbrev pub is_dynamic : Importing → List ImportRecord → Bool
is_dynamic a rs = list_any (is_code a) rs && list_all (λ r. not (is_code a r) || r.imported.is_dynamic) rs

-- the type that a record offers, and its types text where it has one: one without is passed over where its
-- types lead to the same as the code so far, or nowhere where it imports no name
abbrev pub type_by : Importing → ImportRecord → Resolution → Resolution → Option TypesText → Option (Resolution × Option (List ℕ))
type_by a r code found (Some types) = Some (target_of a.resolving types.text types.range Types None, Some types.text)
type_by a r code found None =
    if is_runtime r.imported.kind && (same_target (specifier_in found) (specifier_in code)
    || (r.imported.is_side_effect && is_failure found))
    then None else Some (found, None)

-- a record that is imported when the module runs counts the attribute so far
abbrev pub type_offer : Importing → List ImportRecord → ImportRecord → Option (Resolution × Option (List ℕ))
type_offer a so_far r = type_by a r (code_of a so_far)
    (target_of a.resolving r.imported.specifier r.imported.specifier_range Types
    (if is_runtime r.imported.kind then attribute_of so_far else None)) r.types_text

-- where the types lead, and their text
abbrev pub type_of : Importing → List ImportRecord → Option (Resolution × Option (List ℕ))
type_of a rs = if a.with_types then first_offer (type_offer a) [] rs else None

-- the dependency of the records of one text
abbrev pub dependency_of : Importing → List ImportRecord → Dependency
dependency_of a rs = record {
  maybe_code = code_of a rs;
  maybe_type = option_map_or (λ o. o.0) (type_of a rs) Nowhere;
  maybe_deno_types_specifier = option_map_or (λ o. o.1) (type_of a rs) None;
  is_dynamic = is_dynamic a rs;
  maybe_attribute_type = attribute_of rs;
  imports = map (λ r. r.imported) rs;
}

-- ---- all texts

-- the records of one text, in order
abbrev pub with_text : List ℕ → List ImportRecord → List ImportRecord
with_text text rs = filter (λ r. bytes_eq text r.imported.specifier) rs

-- the texts, each once, in order of the first record
abbrev pub add_text : List (List ℕ) → ImportRecord → List (List ℕ)
add_text texts r =
    if list_any (bytes_eq r.imported.specifier) texts then texts else texts ++ r.imported.specifier ∷ []

abbrev pub texts_of : List ImportRecord → List (List ℕ)
texts_of rs = fold add_text [] rs

-- what the records of each text make
unfoldable pub all_dependencies : Importing → List ImportRecord → List (List ℕ × Dependency)
all_dependencies a rs = map (λ text. (text, dependency_of a (with_text text rs))) (texts_of rs)

-- ---- augmentations, in typed media

abbrev pub is_augmentation : ImportKind → Bool
is_augmentation TsModuleAugmentation = true
is_augmentation kind = false

-- without a resolved type the augmentations go
abbrev pub settled : Dependency → Dependency
settled d =
    if leads d.maybe_type then d
    else record d { imports = filter (λ i. not (is_augmentation i.kind)) d.imports }

-- texts without imports go
abbrev pub settled_and_kept : {K : Type 0} → List (K × Dependency) → List (K × Dependency)
settled_and_kept es = filter (λ e. not (length e.1.imports == 0)) (map (λ e. (e.0, settled e.1)) es)

-- in typed media
abbrev pub cleaned : Importing → List (List ℕ × Dependency) → List (List ℕ × Dependency)
cleaned a es = if is_typed a.media then settled_and_kept es else es

-- the dependencies of a module
abbrev pub dependencies_of : Importing → ModuleInfo → List (List ℕ × Dependency)
dependencies_of a info = cleaned a (all_dependencies a (records_of a info))
