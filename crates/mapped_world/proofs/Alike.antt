-- What a module makes by two resolvers that lead its texts to the same.
use Rattle.std.proofs.Common.{◌≡◌, ℕ, inl, inr, List, [], ◌∷◌, ◌++◌, Bool, true, false, cond, ◌&&◌, ◌||◌, refl, sym, ap, subst, ◌∙◌, IfSome, not, map, filter}
use Rattle.std.specs.Prelude.{Some, None, Option, Result, Ok, Err, bytes_eq, is_some, option_map, option_and_then, if◌then◌else◌}
use Rattle.std.specs.List.{cons_option, filter_map}
use Rattle.std.specs.Option.{option_map_or, option_or, unwrap_or}
use Rattle.url.specs.Parts.{Parts}
use Rattle.media_types.specs.Media.{is_declaration, is_jsx, is_typed}
use Rattle.media_types.specs.declared.media.MediaType.{MediaType}
use Rattle.spec_base.specs.declared.position.Range.{Range}
use Rattle.spec_base.specs.declared.position.ResolutionKind.{ResolutionKind}
use Rattle.spec_base.specs.declared.position.ResolutionKind.TheVariants.{Execution, Types as ForTypes}
use Rattle.spec_base.specs.declared.position.ResolutionMode.{ResolutionMode}
use Rattle.spec_base.specs.declared.resolve_error.ResolveError.{ResolveError}
use Rattle.module_info.specs.declared.argument.DynamicArgument.{DynamicArgument}
use Rattle.module_info.specs.declared.argument.DynamicArgument.TheVariants as argument_is
use Rattle.module_info.specs.declared.attributes.ImportAttributes.{ImportAttributes}
use Rattle.module_info.specs.declared.references.JsDocImportInfo.{JsDocImportInfo}
use Rattle.module_info.specs.declared.references.SpecifierWithRange.{SpecifierWithRange}
use Rattle.module_info.specs.declared.references.TypeScriptReference.{TypeScriptReference}
use Rattle.module_info.specs.declared.references.TypeScriptReference.TheVariants.{Path, Types}
use Rattle.module_info.specs.declared.types.DependencyDescriptor.{DependencyDescriptor}
use Rattle.module_info.specs.declared.types.DependencyDescriptor.TheVariants.{Static, Dynamic}
use Rattle.module_info.specs.declared.types.DynamicDependencyDescriptor.{DynamicDependencyDescriptor}
use Rattle.module_info.specs.declared.types.DynamicDependencyKind.{DynamicDependencyKind}
use Rattle.module_info.specs.declared.types.DynamicDependencyKind.TheVariants as call_is
use Rattle.module_info.specs.declared.types.ModuleInfo.{ModuleInfo}
use Rattle.module_info.specs.declared.types.StaticDependencyDescriptor.{StaticDependencyDescriptor}
use Rattle.module_info.specs.declared.types.StaticDependencyKind.{StaticDependencyKind}
use Rattle.module_info.specs.declared.types.StaticDependencyKind.TheVariants as kind_is
use Rattle.source_io.specs.Resolvers.{ResolverMeaning}
use Rattle.graph_errors.specs.declared.resolution.Resolution.{Resolution}
use Rattle.graph_errors.specs.declared.resolution.Resolution.TheVariants.{None as Nowhere}
use Rattle.graph_errors.specs.Resolutions.{specifier_in}
use Rattle.import_records.specs.Dependencies.{all_dependencies, attribute_of, cleaned, code_of, code_offer, dependencies_of, dependency_of, first_offer, is_code, is_dynamic, is_failure, same_target, texts_of, type_by, type_of, type_offer, with_text}
use Rattle.import_records.specs.Importing.{Importing}
use Rattle.graph_dependencies.specs.Kinds.{is_runtime}
use Rattle.import_records.specs.Records.{argument_record, comment_records, descriptor_record, dynamic_mode, dynamic_record, is_wasm, jsdoc_record, jsx_records, listed, mode_of, range_of, records_of, reference_record, static_kind, static_mode, static_record, wants_types, with_types, zero}
use Rattle.import_records.specs.SourceMap.{source_map_of}
use Rattle.import_records.specs.Target.{NvOf, target_of}
use Rattle.import_records.specs.TypesDependency.{by_header, by_resolver, first_reference, in_untyped, named, self_types, types_dependency_of}
use Rattle.graph_dependencies.specs.declared.dependency.Dependency.{Dependency}
use Rattle.graph_dependencies.specs.declared.dependency.TypesDependency.{TypesDependency}
use Rattle.import_records.specs.declared.import_record.ImportRecord.{ImportRecord}
use Rattle.import_records.specs.declared.import_record.TypesText.{TypesText}
use Rattle.mapped_world.specs.Leads.{IsAmong, LeadsAlike, importing_by}
use Rattle.mapped_world.proofs.AnswerLemmas.{Each, each_append}

-- ---- lists

filter_map_same : {X Y : Type 0} (h k : X → Option Y) (xs : List X) → ((x : X) → h x ≡ k x) → filter_map h xs ≡ filter_map k xs
filter_map_same h k [] same = refl
filter_map_same {X} {Y} h k (x ∷ xs) same =
    ap (λ (o : Option Y). cons_option o (filter_map h xs)) (same x) ∙ ap (cons_option (k x)) (filter_map_same h k xs same)

pub each_filter_map : {X Y : Type 0} (P : Y → Type 0) (h : X → Option Y) (xs : List X) → ((x : X) → IsAmong x xs → IfSome (h x) P) → Each P (filter_map h xs)
each_filter_map P h [] all = tt
each_filter_map P h (x ∷ xs) all = by (h x) (all x (inl refl)) (each_filter_map P h xs (λ y among. all y (inr among)))
  where
    by : (o : Option _) → IfSome o P → Each P (filter_map h xs) → Each P (cons_option o (filter_map h xs))
    by None here rest = rest
    by (Some y) here rest = (here, rest)

each_filter : {X : Type 0} (P : X → Type 0) (test : X → Bool) (xs : List X) → Each P xs → Each P (filter test xs)
each_filter P test [] all = tt
each_filter P test (x ∷ xs) all = kept_or (test x) all.0 (each_filter P test xs all.1)
  where
    kept_or : (b : Bool) → P x → Each P (filter test xs) → Each P (cond b (x ∷ filter test xs) (filter test xs))
    kept_or true here rest = (here, rest)
    kept_or false here rest = rest

map_same : {X Y : Type 0} (h k : X → Y) (xs : List X) → ((x : X) → h x ≡ k x) → map h xs ≡ map k xs
map_same h k [] same = refl
map_same {X} {Y} h k (x ∷ xs) same = ap (λ (y : Y). y ∷ map h xs) (same x) ∙ ap (λ (ys : List Y). k x ∷ ys) (map_same h k xs same)

-- a record of a module, whose texts are among some
pub record IsGood (here : Parts) (IsText : List ℕ → Type 0) (r : ImportRecord) : Type 0 where
  pub text : IsText r.imported.specifier
  pub from_here : r.imported.specifier_range.specifier ≡ here
  pub types : IfSome r.types_text (λ t. IsText t.text × (t.range.specifier ≡ here))

-- ---- two resolvers

module _ (meaning : ResolverMeaning) (resolve : List ℕ → Range → ResolutionKind → Result Parts ResolveError) (by_attribute : List ℕ → Range → ResolutionKind → List ℕ → Option (Result Parts ResolveError)) (nv_of : NvOf) (media : MediaType) (types_wanted : Bool) (here : Parts) where
  abbrev one : Importing
  one = importing_by meaning nv_of media types_wanted here

  abbrev other : Importing
  other = importing_by (record meaning { resolve = resolve; by_attribute = by_attribute }) nv_of media types_wanted here

  -- ---- records

  reference_same : (r : TypeScriptReference) → reference_record one r ≡ reference_record other r
  reference_same (Path s) = refl
  reference_same (Types s mode) = refl

  static_mode_same : (k : StaticDependencyKind) (attributes : ImportAttributes) → static_mode one k attributes ≡ static_mode other k attributes
  static_mode_same kind_is.Import attributes = refl
  static_mode_same kind_is.ImportDefer attributes = refl
  static_mode_same kind_is.ImportSource attributes = refl
  static_mode_same kind_is.ImportType attributes = refl
  static_mode_same kind_is.ImportEquals attributes = refl
  static_mode_same kind_is.Export attributes = refl
  static_mode_same kind_is.ExportType attributes = refl
  static_mode_same kind_is.ExportEquals attributes = refl
  static_mode_same kind_is.MaybeTsModuleAugmentation attributes = refl

  dynamic_mode_same : (k : DynamicDependencyKind) → dynamic_mode one k ≡ dynamic_mode other k
  dynamic_mode_same call_is.Import = refl
  dynamic_mode_same call_is.ImportDefer = refl
  dynamic_mode_same call_is.ImportSource = refl
  dynamic_mode_same call_is.Require = refl

  argument_same : (d : DynamicDependencyDescriptor) (x : DynamicArgument) → argument_record one d x ≡ argument_record other d x
  argument_same d argument_is.Expr = refl
  argument_same d (argument_is.String text) = ap (λ (mode : Option ResolutionMode). Some (dynamic_record one d text mode)) (dynamic_mode_same d.kind)
  argument_same d (argument_is.Template parts) = refl

  descriptor_same : (d : DependencyDescriptor) → descriptor_record one d ≡ descriptor_record other d
  descriptor_same (Static d) =
      ap (λ (mode : Option ResolutionMode). if wants_types (static_kind d.kind) then (if types_wanted then Some (static_record one d (static_kind d.kind) mode) else None) else Some (static_record one d (static_kind d.kind) mode)) (static_mode_same d.kind d.import_attributes)
  descriptor_same (Dynamic d) = argument_same d d.argument

  comments_same : (info : ModuleInfo) → comment_records one info ≡ comment_records other info
  comments_same info =
      ap (λ (rs : List ImportRecord). if is_wasm media then [] else with_types one rs ++ (listed (jsx_records one info) ++ with_types one (filter_map (jsdoc_record one) info.jsdoc_imports))) (filter_map_same (reference_record one) (reference_record other) info.ts_references reference_same)
      ∙ ap (λ (rs : List ImportRecord). if is_wasm media then [] else with_types one (filter_map (reference_record other) info.ts_references) ++ (listed (jsx_records one info) ++ with_types one rs)) (filter_map_same (jsdoc_record one) (jsdoc_record other) info.jsdoc_imports (λ j. refl))

  records_same : (info : ModuleInfo) → records_of one info ≡ records_of other info
  records_same info =
      ap (λ (rs : List ImportRecord). rs ++ filter_map (descriptor_record one) info.dependencies) (comments_same info)
      ∙ ap (λ (rs : List ImportRecord). comment_records other info ++ rs) (filter_map_same (descriptor_record one) (descriptor_record other) info.dependencies descriptor_same)

  -- ---- where both lead texts to the same

  module _ (IsText : List ℕ → Type 0) (alike : (text : List ℕ) (range : Range) (kind : ResolutionKind) (attribute : Option (List ℕ)) → IsText text → range.specifier ≡ here → target_of one.resolving text range kind attribute ≡ target_of other.resolving text range kind attribute) where
    offers_same : {B : Type 0} (f g : List ImportRecord → ImportRecord → Option B) (before rs : List ImportRecord) → Each (IsGood here IsText) before → Each (IsGood here IsText) rs → ((so_far : List ImportRecord) (r : ImportRecord) → Each (IsGood here IsText) so_far → IsGood here IsText r → f so_far r ≡ g so_far r) → first_offer f before rs ≡ first_offer g before rs
    offers_same f g before [] good all same = refl
    offers_same {B} f g before (r ∷ rs) good all same =
        let now = each_append (IsGood here IsText) before (r ∷ []) good (all.0, tt) in
        ap (λ (o : Option B). option_or o (first_offer f (before ++ r ∷ []) rs)) (same (before ++ r ∷ []) r now all.0)
        ∙ ap (option_or (g (before ++ r ∷ []) r)) (offers_same f g (before ++ r ∷ []) rs now all.1 same)

    code_same : (so_far : List ImportRecord) (r : ImportRecord) → Each (IsGood here IsText) so_far → IsGood here IsText r → code_offer one so_far r ≡ code_offer other so_far r
    code_same so_far r before good =
        ap (λ (t : Resolution). if is_code one r then Some t else None) (alike r.imported.specifier r.imported.specifier_range Execution (attribute_of so_far) good.text good.from_here)

    codes_same : (rs : List ImportRecord) → Each (IsGood here IsText) rs → code_of one rs ≡ code_of other rs
    codes_same rs all = ap (λ (o : Option Resolution). unwrap_or o Nowhere) (offers_same (code_offer one) (code_offer other) [] rs tt all code_same)

    type_by_same : (r : ImportRecord) (code as_code found as_found : Resolution) (types : Option TypesText) → code ≡ as_code → found ≡ as_found → IfSome types (λ t. IsText t.text × (t.range.specifier ≡ here)) → type_by one r code found types ≡ type_by other r as_code as_found types
    type_by_same r code as_code found as_found (Some types) same_code same_found good = ap (λ (t : Resolution). Some (t, Some types.text)) (alike types.text types.range ForTypes None good.0 good.1)
    type_by_same r code as_code found as_found None same_code same_found good =
        ap (λ (c : Resolution). type_by one r c found None) same_code ∙ ap (λ (f : Resolution). type_by one r as_code f None) same_found

    type_same : (so_far : List ImportRecord) (r : ImportRecord) → Each (IsGood here IsText) so_far → IsGood here IsText r → type_offer one so_far r ≡ type_offer other so_far r
    type_same so_far r before good =
        type_by_same r (code_of one so_far) (code_of other so_far)
        (target_of one.resolving r.imported.specifier r.imported.specifier_range ForTypes (if is_runtime r.imported.kind then attribute_of so_far else None))
        (target_of other.resolving r.imported.specifier r.imported.specifier_range ForTypes (if is_runtime r.imported.kind then attribute_of so_far else None))
        r.types_text (codes_same so_far before)
        (alike r.imported.specifier r.imported.specifier_range ForTypes (if is_runtime r.imported.kind then attribute_of so_far else None) good.text good.from_here) good.types

    types_same : (rs : List ImportRecord) → Each (IsGood here IsText) rs → type_of one rs ≡ type_of other rs
    types_same rs all = ap (λ (o : Option (Resolution × Option (List ℕ))). if types_wanted then o else None) (offers_same (type_offer one) (type_offer other) [] rs tt all type_same)

    dependency_same : (rs : List ImportRecord) → Each (IsGood here IsText) rs → dependency_of one rs ≡ dependency_of other rs
    dependency_same rs all =
        ap (λ (c : Resolution). record (dependency_of one rs) { maybe_code = c }) (codes_same rs all)
        ∙ ap (λ (t : Option (Resolution × Option (List ℕ))). record (dependency_of one rs) { maybe_code = code_of other rs; maybe_type = option_map_or (λ o. o.0) t Nowhere; maybe_deno_types_specifier = option_map_or (λ o. o.1) t None }) (types_same rs all)

    all_same : (rs : List ImportRecord) → Each (IsGood here IsText) rs → all_dependencies one rs ≡ all_dependencies other rs
    unfolding all_dependencies
    all_same rs all =
        map_same (λ text. (text, dependency_of one (with_text text rs))) (λ text. (text, dependency_of other (with_text text rs))) (texts_of rs)
        (λ text. ap (λ (d : Dependency). (text, d)) (dependency_same (with_text text rs) (each_filter (IsGood here IsText) (λ r. bytes_eq text r.imported.specifier) rs all)))

    pub dependencies_same : (info : ModuleInfo) → Each (IsGood here IsText) (records_of one info) → dependencies_of one info ≡ dependencies_of other info
    dependencies_same info all =
        ap (cleaned one) (all_same (records_of one info) all ∙ ap (all_dependencies other) (records_same info))

    -- ---- types and source maps

    named_same : (text : List ℕ) (range : Range) → IsText text → range.specifier ≡ here → named one text range ≡ named other text range
    named_same text range is from_here = ap (λ (t : Resolution). record { specifier = text; dependency = t }) (alike text range ForTypes None is from_here)

    self_same : (o : Option SpecifierWithRange) → IfSome o (λ s. IsText s.text) → option_map (λ s. named one s.text (range_of one s.range None)) o ≡ option_map (λ s. named other s.text (range_of other s.range None)) o
    self_same None is = refl
    self_same (Some s) is = ap Some (named_same s.text (range_of one s.range None) is refl)

    references_same : (rs : List TypeScriptReference) → ((s : SpecifierWithRange) (mode : Option _) → IsAmong (Types s mode) rs → IsText s.text) → first_reference one rs ≡ first_reference other rs
    references_same [] is = refl
    references_same (Path s ∷ rs) is = references_same rs (λ t mode among. is t mode (inr among))
    references_same (Types s mode ∷ rs) is = ap Some (named_same s.text (range_of one s.range (option_map mode_of mode)) (is s mode (inl refl)) refl)

    header_same : (header : Option (List ℕ)) → IfSome header IsText → by_header one header ≡ by_header other header
    header_same None is = refl
    header_same (Some text) is = ap Some (named_same text (range_of one zero None) is refl)

    resolver_same : (x : Result (Option (Parts × Option Range)) ResolveError) → by_resolver one x ≡ by_resolver other x
    resolver_same (Ok None) = refl
    resolver_same (Ok (Some found)) = refl
    resolver_same (Err e) = refl

    pub types_dependency_same : (info : ModuleInfo) (header : Option (List ℕ)) → IfSome info.self_types_specifier (λ s. IsText s.text) → ((s : SpecifierWithRange) (mode : Option _) → IsAmong (Types s mode) info.ts_references → IsText s.text) → IfSome header IsText → types_dependency_of one info header ≡ types_dependency_of other info header
    types_dependency_same info header own references is =
        let chain = λ (a b c d : Option TypesDependency). if is_wasm media || not types_wanted then None else option_or a (option_or (if is_typed media then None else b) (option_or c (if is_typed media then None else d))) in
        ap (λ (a : Option TypesDependency). chain a (first_reference one info.ts_references) (by_header one header) (by_resolver one (meaning.types_of here))) (self_same info.self_types_specifier own)
        ∙ ap (λ (b : Option TypesDependency). chain (self_types other info) b (by_header one header) (by_resolver one (meaning.types_of here))) (references_same info.ts_references references)
        ∙ ap (λ (c : Option TypesDependency). chain (self_types other info) (first_reference other info.ts_references) c (by_resolver one (meaning.types_of here))) (header_same header is)
        ∙ ap (λ (d : Option TypesDependency). chain (self_types other info) (first_reference other info.ts_references) (by_header other header) d) (resolver_same (meaning.types_of here))

    map_led : (o : Option SpecifierWithRange) → IfSome o (λ s. IsText s.text) → option_map {U = TypesDependency} (λ s. record { specifier = s.text; dependency = target_of one.resolving s.text (range_of one s.range None) Execution None }) o ≡ option_map {U = TypesDependency} (λ s. record { specifier = s.text; dependency = target_of other.resolving s.text (range_of other s.range None) Execution None }) o
    map_led None is = refl
    map_led (Some s) is = ap (λ (t : Resolution). Some (record { specifier = s.text; dependency = t })) (alike s.text (range_of one s.range None) Execution None is refl)

    pub source_map_same : (info : ModuleInfo) → IfSome info.source_map_url (λ s. IsText s.text) → source_map_of one info ≡ source_map_of other info
    source_map_same info is = map_led info.source_map_url is
