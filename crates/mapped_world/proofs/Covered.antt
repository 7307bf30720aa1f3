-- All texts of a module stand among the resolutions of a world with a map.
use Rattle.std.proofs.Common.{◌≡◌, ℕ, inl, inr, ⊎_elim, ◌⊎◌, List, [], ◌∷◌, ◌++◌, Bool, true, false, refl, sym, ap, subst, ◌∙◌, IfSome, map, flat_map}
use Rattle.std.specs.Prelude.{Some, None, Option, Result, Ok, Err, bytes_eq, codes, is_some, option_map, option_and_then, if◌then◌else◌}
use Rattle.std.specs.List.{AllByRecursion, filter_map, list_any}
use Rattle.std.specs.Map.{lookup}
use Rattle.std.specs.Option.{option_or}
use Rattle.url.specs.Parts.{Parts}
use Rattle.media_types.specs.Media.{is_jsx, is_typed}
use Rattle.seen_pending.specs.Once.{each_once, unseen}
use Rattle.media_types.specs.declared.media.MediaType.{MediaType}
use Rattle.spec_base.specs.declared.position.Range.{Range}
use Rattle.spec_base.specs.declared.position.ResolutionKind.{ResolutionKind}
use Rattle.spec_base.specs.declared.position.ResolutionKind.TheVariants.{Types as ForTypes}
use Rattle.spec_base.specs.declared.position.ResolutionMode.{ResolutionMode}
use Rattle.spec_base.specs.declared.refusal.Fault.{Fault}
use Rattle.spec_base.specs.declared.resolve_error.ResolveError.{ResolveError}
use Rattle.module_info.specs.Infos.{empty_info}
use Rattle.module_info.specs.declared.argument.DynamicArgument.{DynamicArgument}
use Rattle.module_info.specs.declared.argument.DynamicArgument.TheVariants as argument_is
use Rattle.module_info.specs.declared.references.JsDocImportInfo.{JsDocImportInfo}
use Rattle.module_info.specs.declared.references.SpecifierWithRange.{SpecifierWithRange}
use Rattle.module_info.specs.declared.references.TypeScriptReference.{TypeScriptReference}
use Rattle.module_info.specs.declared.references.TypeScriptReference.TheVariants.{Path, Types}
use Rattle.module_info.specs.declared.types.DependencyDescriptor.{DependencyDescriptor}
use Rattle.module_info.specs.declared.types.DependencyDescriptor.TheVariants.{Static, Dynamic}
use Rattle.module_info.specs.declared.types.DynamicDependencyDescriptor.{DynamicDependencyDescriptor}
use Rattle.module_info.specs.declared.types.ModuleInfo.{ModuleInfo}
use Rattle.module_info.specs.declared.types.StaticDependencyDescriptor.{StaticDependencyDescriptor}
use Rattle.source_io.specs.Resolvers.{listed_result, meaning_of}
use Rattle.source_io.specs.declared.types.Answer.{Answer}
use Rattle.source_io.specs.declared.types.Answer.TheVariants.{Load}
use Rattle.source_io.specs.declared.types.JsxDefaults.{JsxDefaults}
use Rattle.source_io.specs.declared.types.LoadResponse.TheVariants as response_is
use Rattle.source_io.specs.declared.types.Purpose.{Purpose}
use Rattle.source_io.specs.declared.types.World.{World}
use Rattle.source_io.specs.declared.types.WorldResolution.{WorldResolution}
use Rattle.import_records.specs.Importing.{Importing}
use Rattle.source_io.specs.Resolvers.{or_other}
use Rattle.import_records.specs.Records.{zero, argument_record, comment_record, comment_records, descriptor_record, dynamic_mode, dynamic_record, is_wasm, jsdoc_record, jsx_records, jsx_record, jsx_source, jsx_types, jsx_types_text, listed, records_of, reference_record, static_kind, static_mode, static_record, types_text, wants_types, with_types}
use Rattle.import_records.specs.Imports.{graph_import, imported_types}
use Rattle.import_records.specs.Target.{NvOf, Resolving, permitted, target_by, target_of}
use Rattle.import_records.specs.TypesDependency.{beginning}
use Rattle.graph_dependencies.specs.declared.dependency.Dependency.{Dependency}
use Rattle.import_records.specs.declared.import_record.ImportRecord.{ImportRecord}
use Rattle.import_records.specs.declared.import_record.TypesText.{TypesText}
use Rattle.graph_dependencies.specs.declared.referrer_imports.ReferrerImports.{ReferrerImports}
use Rattle.import_map.specs.Lookup.{meaning_by}
use Rattle.import_map.specs.declared.map.ImportMap.{ImportMap}
use Rattle.mapped_world.specs.Entries.{entries_at}
use Rattle.mapped_world.specs.Leads.{HasOwnUrls, IsAmong, IsModuleOf, IsOwnUrl, LeadsAlike, NamesOwn, importing_by, map_meaning, mapped_meaning, types_header}
use Rattle.mapped_world.specs.Mapped.{analysis_texts, of_answer, of_imports, of_info, of_listed, with_map}
use Rattle.mapped_world.specs.Texts.{argument_texts, default_texts, descriptor_texts, header_texts, info_texts, jsdoc_texts, listed_text, jsx_module, jsx_text, jsx_texts, optional_texts, reference_texts}
use Rattle.mapped_world.proofs.AnswerLemmas.{Each, each_append}
use Rattle.mapped_world.proofs.Alike.{IsGood, dependencies_same, each_filter_map, source_map_same, types_dependency_same}
use Rattle.mapped_world.proofs.Listed.{among_flat, among_left, among_right, leads_by_map, none_by_attribute}

-- ---- lists

pub all_at : {A : Type 0} (P : A → Type 0) (x : A) (xs : List A) → AllByRecursion P xs → IsAmong x xs → P x
all_at P x [] all h = absurd h
all_at P x (y ∷ xs) all h = ⊎_elim (λ e. subst P (sym e) all.0) (λ r. all_at P x xs all.1 r) h

among_map : {A B : Type 0} (f : A → B) (x : A) (xs : List A) → IsAmong x xs → IsAmong (f x) (map f xs)
among_map f x [] h = absurd h
among_map f x (y ∷ xs) h = ⊎_elim (λ e. inl (ap f e)) (λ r. inr (among_map f x xs r)) h

-- ---- the texts of an info

module _ (jsx : JsxDefaults) (info : ModuleInfo) where
  abbrev first_three : List (List ℕ)
  first_three = flat_map descriptor_texts info.dependencies ++ flat_map reference_texts info.ts_references ++ flat_map jsdoc_texts info.jsdoc_imports

  abbrev own_source : List (List ℕ)
  own_source = map (jsx_text (jsx_module jsx)) (optional_texts info.jsx_import_source)

  abbrev own_types : List (List ℕ)
  own_types = map (jsx_text (jsx_module jsx)) (optional_texts info.jsx_import_source_types)

  in_three : (t : List ℕ) → IsAmong t first_three → IsAmong t (info_texts jsx info)
  in_three t h =
      among_left t (first_three ++ optional_texts info.self_types_specifier ++ optional_texts info.source_map_url ++ own_source) own_types
      (among_left t (first_three ++ optional_texts info.self_types_specifier ++ optional_texts info.source_map_url) own_source
      (among_left t (first_three ++ optional_texts info.self_types_specifier) (optional_texts info.source_map_url)
      (among_left t first_three (optional_texts info.self_types_specifier) h)))

  of_descriptor : (d : DependencyDescriptor) (t : List ℕ) → IsAmong d info.dependencies → IsAmong t (descriptor_texts d) → IsAmong t (info_texts jsx info)
  of_descriptor d t among h =
      in_three t (among_left t (flat_map descriptor_texts info.dependencies ++ flat_map reference_texts info.ts_references) (flat_map jsdoc_texts info.jsdoc_imports)
      (among_left t (flat_map descriptor_texts info.dependencies) (flat_map reference_texts info.ts_references) (among_flat descriptor_texts d t info.dependencies among h)))

  of_reference : (r : TypeScriptReference) (t : List ℕ) → IsAmong r info.ts_references → IsAmong t (reference_texts r) → IsAmong t (info_texts jsx info)
  of_reference r t among h =
      in_three t (among_left t (flat_map descriptor_texts info.dependencies ++ flat_map reference_texts info.ts_references) (flat_map jsdoc_texts info.jsdoc_imports)
      (among_right t (flat_map descriptor_texts info.dependencies) (flat_map reference_texts info.ts_references) (among_flat reference_texts r t info.ts_references among h)))

  of_jsdoc : (j : JsDocImportInfo) (t : List ℕ) → IsAmong j info.jsdoc_imports → IsAmong t (jsdoc_texts j) → IsAmong t (info_texts jsx info)
  of_jsdoc j t among h = in_three t (among_right t (flat_map descriptor_texts info.dependencies ++ flat_map reference_texts info.ts_references) (flat_map jsdoc_texts info.jsdoc_imports) (among_flat jsdoc_texts j t info.jsdoc_imports among h))

  of_self : (t : List ℕ) → IsAmong t (optional_texts info.self_types_specifier) → IsAmong t (info_texts jsx info)
  of_self t h =
      among_left t (first_three ++ optional_texts info.self_types_specifier ++ optional_texts info.source_map_url ++ own_source) own_types
      (among_left t (first_three ++ optional_texts info.self_types_specifier ++ optional_texts info.source_map_url) own_source
      (among_left t (first_three ++ optional_texts info.self_types_specifier) (optional_texts info.source_map_url)
      (among_right t first_three (optional_texts info.self_types_specifier) h)))

  of_source_map : (t : List ℕ) → IsAmong t (optional_texts info.source_map_url) → IsAmong t (info_texts jsx info)
  of_source_map t h =
      among_left t (first_three ++ optional_texts info.self_types_specifier ++ optional_texts info.source_map_url ++ own_source) own_types
      (among_left t (first_three ++ optional_texts info.self_types_specifier ++ optional_texts info.source_map_url) own_source
      (among_right t (first_three ++ optional_texts info.self_types_specifier) (optional_texts info.source_map_url) h))

  of_own_source : (t : List ℕ) → IsAmong t own_source → IsAmong t (info_texts jsx info)
  of_own_source t h =
      among_left t (first_three ++ optional_texts info.self_types_specifier ++ optional_texts info.source_map_url ++ own_source) own_types
      (among_right t (first_three ++ optional_texts info.self_types_specifier ++ optional_texts info.source_map_url) own_source h)

  of_own_types : (t : List ℕ) → IsAmong t own_types → IsAmong t (info_texts jsx info)
  of_own_types t h = among_right t (first_three ++ optional_texts info.self_types_specifier ++ optional_texts info.source_map_url ++ own_source) own_types h

-- ---- the texts of a module

module _ (w : World) (imports : List ReferrerImports) (m : ImportMap) (here : Parts) (headers : Option (List (List ℕ × List ℕ))) (info : ModuleInfo) (media : MediaType) (types_wanted : Bool) (nv_of : NvOf) where
  -- of its info, of the JSX defaults, or of its header
  abbrev IsText : List ℕ → Type 0
  IsText t = IsAmong t (info_texts w.jsx info) ⊎ (IsAmong t (default_texts w.jsx) ⊎ IsAmong t (header_texts headers))

  abbrev a : Importing
  a = importing_by (mapped_meaning w imports m) nv_of media types_wanted here

  abbrev Good : ImportRecord → Type 0
  Good r = IsGood here IsText r

  if_some : {Y : Type 0} (P : Y → Type 0) (b : Bool) (y : Y) → P y → IfSome (if b then Some y else None) P
  if_some P true y h = h
  if_some P false y h = tt

  with_types_good : (rs : List ImportRecord) → Each Good rs → Each Good (with_types a rs)
  with_types_good rs all = by types_wanted
    where
      by : (b : Bool) → Each Good (if b then rs else [])
      by true = all
      by false = tt

  -- references, and imports of JSDoc
  reference_good : (r : TypeScriptReference) → IsAmong r info.ts_references → IfSome (reference_record a r) Good
  reference_good (Path s) among = record { text = inl (of_reference w.jsx info (Path s) s.text among (inl refl)); from_here = refl; types = tt }
  reference_good (Types s mode) among = if_some Good (is_typed media) _ (record { text = inl (of_reference w.jsx info (Types s mode) s.text among (inl refl)); from_here = refl; types = tt })

  jsdoc_good : (j : JsDocImportInfo) → IsAmong j info.jsdoc_imports → IfSome (jsdoc_record a j) Good
  jsdoc_good j among = record { text = inl (of_jsdoc w.jsx info j j.specifier.text among (inl refl)); from_here = refl; types = tt }

  -- the JSX source
  default_in : (o : Option (List ℕ)) (s : List ℕ) → o ≡ Some s → IsAmong (jsx_text (jsx_module w.jsx) s) (jsx_texts (jsx_module w.jsx) o)
  default_in o s is = subst (λ (x : Option (List ℕ)). IsAmong (jsx_text (jsx_module w.jsx) s) (jsx_texts (jsx_module w.jsx) x)) (sym is) (inl refl)

  own_in : (o : Option SpecifierWithRange) (s : SpecifierWithRange) → o ≡ Some s → IsAmong (jsx_text (jsx_module w.jsx) s.text) (map (jsx_text (jsx_module w.jsx)) (optional_texts o))
  own_in o s is = subst (λ (x : Option SpecifierWithRange). IsAmong (jsx_text (jsx_module w.jsx) s.text) (map (jsx_text (jsx_module w.jsx)) (optional_texts x))) (sym is) (inl refl)

  source_good : (own : Option SpecifierWithRange) (given : Option (List ℕ)) → info.jsx_import_source ≡ own → w.jsx.source ≡ given
      → IfSome (option_or own (option_map (λ (text : List ℕ). record { text = text; range = zero }) given)) (λ s. IsText (jsx_text (jsx_module w.jsx) s.text))
  source_good (Some s) given own_is given_is = inl (of_own_source w.jsx info _ (own_in info.jsx_import_source s own_is))
  source_good None (Some text) own_is given_is = inr (inl (among_left _ (jsx_texts (jsx_module w.jsx) w.jsx.source) (jsx_texts (jsx_module w.jsx) w.jsx.types) (default_in w.jsx.source text given_is)))
  source_good None None own_is given_is = tt

  types_good : (own : Option SpecifierWithRange) (given : Option (List ℕ)) (b : Bool) → info.jsx_import_source_types ≡ own → w.jsx.types ≡ given
      → IfSome (option_or own (if b then None else option_map (λ (text : List ℕ). record { text = text; range = zero }) given)) (λ s. IsText (jsx_text (jsx_module w.jsx) s.text))
  types_good (Some s) given b own_is given_is = inl (of_own_types w.jsx info _ (own_in info.jsx_import_source_types s own_is))
  types_good None given true own_is given_is = tt
  types_good None (Some text) false own_is given_is = inr (inl (among_right _ (jsx_texts (jsx_module w.jsx) w.jsx.source) (jsx_texts (jsx_module w.jsx) w.jsx.types) (default_in w.jsx.types text given_is)))
  types_good None None false own_is given_is = tt

  jsx_types_good : IfSome (jsx_types a info) (λ s. IsText (jsx_text (jsx_module w.jsx) s.text))
  jsx_types_good = by types_wanted
    where
      by : (b : Bool) → IfSome (if b then option_or info.jsx_import_source_types (if is_some info.jsx_import_source then None else option_map (λ (text : List ℕ). record { text = text; range = zero }) w.jsx.types) else None) (λ s. IsText (jsx_text (jsx_module w.jsx) s.text))
      by true = types_good info.jsx_import_source_types w.jsx.types (is_some info.jsx_import_source) refl refl
      by false = tt

  types_text_good : (types : Option SpecifierWithRange) → IfSome types (λ s. IsText (jsx_text (jsx_module w.jsx) s.text)) → IfSome (jsx_types_text a types) (λ t. IsText t.text × (t.range.specifier ≡ here))
  types_text_good None is = tt
  types_text_good (Some s) is = (is, refl)

  source_record : (source : Option SpecifierWithRange) → IfSome source (λ s. IsText (jsx_text (jsx_module w.jsx) s.text)) → Each Good (listed (option_map (jsx_record a (jsx_types a info)) source))
  source_record None is = tt
  source_record (Some s) is = (record { text = is; from_here = refl; types = types_text_good (jsx_types a info) jsx_types_good }, tt)

  jsx_good : Each Good (listed (jsx_records a info))
  jsx_good = by (is_jsx media)
    where
      by : (b : Bool) → Each Good (listed (if b then option_map (jsx_record a (jsx_types a info)) (jsx_source a info) else None))
      by true = source_record (jsx_source a info) (source_good info.jsx_import_source w.jsx.source refl refl)
      by false = tt

  -- declarations and calls
  optional_good : (types : Option SpecifierWithRange) (mode : Option ResolutionMode) → ((t : List ℕ) → IsAmong t (optional_texts types) → IsText t) → IfSome (types_text a types mode) (λ t. IsText t.text × (t.range.specifier ≡ here))
  optional_good types mode covers = by types_wanted types covers
    where
      by : (b : Bool) (o : Option SpecifierWithRange) → ((t : List ℕ) → IsAmong t (optional_texts o) → IsText t) → IfSome {T = TypesText} (if b then option_map (λ (s : SpecifierWithRange). record { text = s.text; range = record { specifier = here; range = s.range; resolution_mode = mode } }) o else None) (λ t. IsText t.text × (t.range.specifier ≡ here))
      by true None h = tt
      by true (Some s) h = (h s.text (inl refl), refl)
      by false o h = tt

  static_good : (d : StaticDependencyDescriptor) (mode : Option ResolutionMode) → IsAmong (Static d) info.dependencies → Good (static_record a d (static_kind d.kind) mode)
  static_good d mode among = record {
    text = inl (of_descriptor w.jsx info (Static d) d.specifier among (inl refl));
    from_here = refl;
    types = optional_good d.types_specifier mode (λ t h. inl (of_descriptor w.jsx info (Static d) t among (inr h)));
  }

  argument_good : (d : DynamicDependencyDescriptor) (x : DynamicArgument) → d.argument ≡ x → IsAmong (Dynamic d) info.dependencies → IfSome (argument_record a d x) Good
  argument_good d argument_is.Expr is among = tt
  argument_good d (argument_is.String text) is among = record {
    text = inl (of_descriptor w.jsx info (Dynamic d) text among (among_left text (argument_texts d.argument) (optional_texts d.types_specifier) (subst (λ (y : DynamicArgument). IsAmong text (argument_texts y)) (sym is) (inl refl))));
    from_here = refl;
    types = optional_good d.types_specifier (dynamic_mode a d.kind) (λ t h. inl (of_descriptor w.jsx info (Dynamic d) t among (among_right t (argument_texts d.argument) (optional_texts d.types_specifier) h)));
  }
  argument_good d (argument_is.Template parts) is among = tt

  descriptor_good : (d : DependencyDescriptor) → IsAmong d info.dependencies → IfSome (descriptor_record a d) Good
  descriptor_good (Static d) among = by (wants_types (static_kind d.kind)) types_wanted
    where
      by : (b c : Bool) → IfSome (if b then (if c then Some (static_record a d (static_kind d.kind) (static_mode a d.kind d.import_attributes)) else None) else Some (static_record a d (static_kind d.kind) (static_mode a d.kind d.import_attributes))) Good
      by true true = static_good d (static_mode a d.kind d.import_attributes) among
      by true false = tt
      by false c = static_good d (static_mode a d.kind d.import_attributes) among
  descriptor_good (Dynamic d) among = argument_good d d.argument refl among

  comments_good : Each Good (comment_records a info)
  comments_good = by (is_wasm media)
    where
      parts : Each Good (with_types a (filter_map (reference_record a) info.ts_references) ++ (listed (jsx_records a info) ++ with_types a (filter_map (jsdoc_record a) info.jsdoc_imports)))
      parts =
          each_append Good (with_types a (filter_map (reference_record a) info.ts_references)) (listed (jsx_records a info) ++ with_types a (filter_map (jsdoc_record a) info.jsdoc_imports))
          (with_types_good (filter_map (reference_record a) info.ts_references) (each_filter_map Good (reference_record a) info.ts_references reference_good))
          (each_append Good (listed (jsx_records a info)) (with_types a (filter_map (jsdoc_record a) info.jsdoc_imports)) jsx_good
          (with_types_good (filter_map (jsdoc_record a) info.jsdoc_imports) (each_filter_map Good (jsdoc_record a) info.jsdoc_imports jsdoc_good)))

      by : (b : Bool) → Each Good (if b then [] else with_types a (filter_map (reference_record a) info.ts_references) ++ (listed (jsx_records a info) ++ with_types a (filter_map (jsdoc_record a) info.jsdoc_imports)))
      by true = tt
      by false = parts

  records_good : Each Good (records_of a info)
  records_good = each_append Good (comment_records a info) (filter_map (descriptor_record a) info.dependencies) comments_good (each_filter_map Good (descriptor_record a) info.dependencies descriptor_good)

  -- ---- where its texts lead

  module _ (none : w.resolutions ≡ []) (own : HasOwnUrls w imports) (of : IsModuleOf w here headers info) where
    here_own : IsOwnUrl here
    here_own = all_at (λ (e : Parts × Purpose × Answer). NamesOwn e.2) (of.specifier, of.purpose, Load (Ok (Some (response_is.Module of.content of.mtime here headers)))) w.answers own.answers of.answered

    abbrev infos_listed : List WorldResolution
    infos_listed = w.resolutions ++ flat_map (of_info w.jsx m) w.infos

    abbrev answers_listed : List WorldResolution
    answers_listed = infos_listed ++ flat_map (of_listed w.jsx m) w.answers

    answer_covers : (e : WorldResolution) → IsAmong e (entries_at m here (header_texts headers) ++ entries_at m here (default_texts w.jsx)) → IsAmong e (with_map w imports m)
    answer_covers e h =
        among_left e answers_listed (flat_map (of_imports w.jsx m) imports)
        (among_right e infos_listed (flat_map (of_listed w.jsx m) w.answers)
        (among_flat (of_listed w.jsx m) (of.specifier, of.purpose, Load (Ok (Some (response_is.Module of.content of.mtime here headers)))) e w.answers of.answered h))

    info_covers : IsAmong (here, Ok info) w.infos → (e : WorldResolution) → IsAmong e (entries_at m here (info_texts w.jsx info)) → IsAmong e (with_map w imports m)
    info_covers among e h =
        among_left e answers_listed (flat_map (of_imports w.jsx m) imports)
        (among_left e infos_listed (flat_map (of_listed w.jsx m) w.answers)
        (among_right e w.resolutions (flat_map (of_info w.jsx m) w.infos)
        (among_flat (of_info w.jsx m) (here, Ok info) e w.infos among (among_left e (entries_at m here (info_texts w.jsx info)) (entries_at m here (default_texts w.jsx)) h))))

    no_text : (t : List ℕ) → IsAmong t (info_texts w.jsx empty_info) → ⊥
    no_text t h = h

    led : (t : List ℕ) (range : Range) (kind : ResolutionKind) → IsText t → range.specifier ≡ here → (mapped_meaning w imports m).resolve t range kind ≡ (meaning_by m).resolve t range kind
    led t range kind (inl of_info_text) from = ⊎_elim
        (λ among. leads_by_map w imports m here (info_texts w.jsx info) t range kind none own here_own (info_covers among) of_info_text from)
        (λ empty. absurd (no_text t (subst (λ (i : ModuleInfo). IsAmong t (info_texts w.jsx i)) empty of_info_text)))
        of.analyzed
    led t range kind (inr (inl of_default)) from = leads_by_map w imports m here (default_texts w.jsx) t range kind none own here_own (λ e h. answer_covers e (among_right e (entries_at m here (header_texts headers)) (entries_at m here (default_texts w.jsx)) h)) of_default from
    led t range kind (inr (inr of_header)) from = leads_by_map w imports m here (header_texts headers) t range kind none own here_own (λ e h. answer_covers e (among_left e (entries_at m here (header_texts headers)) (entries_at m here (default_texts w.jsx)) h)) of_header from

    abbrev b : Importing
    b = importing_by (map_meaning w m) nv_of media types_wanted here

    plain_target : (t : List ℕ) (range : Range) (kind : ResolutionKind) (attribute : Option (List ℕ)) → target_of a.resolving t range kind attribute ≡ permitted nv_of t range kind ((mapped_meaning w imports m).resolve t range kind)
    plain_target t range kind None = refl
    plain_target t range kind (Some attribute) = ap (λ o. target_by a.resolving t range kind (option_map or_other o)) (none_by_attribute w imports m t range.specifier kind attribute none own)

    map_target : (t : List ℕ) (range : Range) (kind : ResolutionKind) (attribute : Option (List ℕ)) → target_of b.resolving t range kind attribute ≡ permitted nv_of t range kind ((meaning_by m).resolve t range kind)
    map_target t range kind None = refl
    map_target t range kind (Some attribute) = refl

    alike : (t : List ℕ) (range : Range) (kind : ResolutionKind) (attribute : Option (List ℕ)) → IsText t → range.specifier ≡ here → target_of a.resolving t range kind attribute ≡ target_of b.resolving t range kind attribute
    alike t range kind attribute is from =
        plain_target t range kind attribute ∙ ap (permitted nv_of t range kind) (led t range kind is from) ∙ sym (map_target t range kind attribute)

    optional_in : (o : Option SpecifierWithRange) → ((t : List ℕ) → IsAmong t (optional_texts o) → IsText t) → IfSome o (λ s. IsText s.text)
    optional_in None h = tt
    optional_in (Some s) h = h s.text (inl refl)

    header_in : (hs : Option (List (List ℕ × List ℕ))) → ((t : List ℕ) → IsAmong t (header_texts hs) → IsText t) → IfSome (types_header hs) IsText
    header_in None h = tt
    header_in (Some list) h = by (lookup (bytes_eq (codes "x-typescript-types")) list) refl
      where
        by : (o : Option (List ℕ)) → lookup (bytes_eq (codes "x-typescript-types")) list ≡ o → IfSome o IsText
        by None is = tt
        by (Some t) is = h t (subst (λ (x : Option (List ℕ)). IsAmong t (listed_text x)) (sym is) (inl refl))

    -- all that the module imports leads as the map says
    pub module_leads : LeadsAlike a b info (types_header headers)
    module_leads = record {
      dependencies = dependencies_same (mapped_meaning w imports m) (meaning_by m).resolve (meaning_by m).by_attribute nv_of media types_wanted here IsText alike info records_good;
      types = types_dependency_same (mapped_meaning w imports m) (meaning_by m).resolve (meaning_by m).by_attribute nv_of media types_wanted here IsText alike info (types_header headers)
          (optional_in info.self_types_specifier (λ t h. inl (of_self w.jsx info t h)))
          (λ s mode among. inl (of_reference w.jsx info (Types s mode) s.text among (inl refl)))
          (header_in headers (λ t h. inr (inr h)));
      source_map = source_map_same (mapped_meaning w imports m) (meaning_by m).resolve (meaning_by m).by_attribute nv_of media types_wanted here IsText alike info (optional_in info.source_map_url (λ t h. inl (of_source_map w.jsx info t h)));
    }

-- ---- configured imports

once_by : {A : Type 0} (b : Bool) (x y : A) (without with rest : List A) → IsAmong x (if b then without else y ∷ with) → (IsAmong x without → IsAmong x rest) → (IsAmong x with → IsAmong x rest) → IsAmong x (y ∷ rest)
once_by true x y without with rest h first second = inr (first h)
once_by false x y without with rest h first second = ⊎_elim (λ e. inl e) (λ r. inr (second r)) h

once_among : {A : Type 0} (same : A → A → Bool) (x : A) (seen items : List A) → IsAmong x (unseen same seen items) → IsAmong x items
unfolding unseen
once_among same x seen [] h = h
once_among same x seen (y ∷ ys) h =
    once_by (list_any (same y) seen) x y (unseen same seen ys) (unseen same (seen ++ y ∷ []) ys) ys h (once_among same x seen ys) (once_among same x (seen ++ y ∷ []) ys)

map_alike : {X Y : Type 0} (h k : X → Y) (xs : List X) → ((x : X) → IsAmong x xs → h x ≡ k x) → map h xs ≡ map k xs
map_alike h k [] same = refl
map_alike {X} {Y} h k (x ∷ xs) same = ap (λ (y : Y). y ∷ map h xs) (same x (inl refl)) ∙ ap (λ (ys : List Y). k x ∷ ys) (map_alike h k xs (λ y among. same y (inr among)))

module _ (w : World) (imports : List ReferrerImports) (m : ImportMap) (i : ReferrerImports) (nv_of : NvOf) (none : w.resolutions ≡ []) (own : HasOwnUrls w imports) (among : IsAmong i imports) where
  abbrev mapped_by : Resolving
  mapped_by = record { resolver = mapped_meaning w imports m; nv_of = nv_of }

  abbrev by_map : Resolving
  by_map = record { resolver = map_meaning w m; nv_of = nv_of }

  import_covers : (e : WorldResolution) → IsAmong e (entries_at m i.referrer i.imports) → IsAmong e (with_map w imports m)
  import_covers e h =
      among_right e (w.resolutions ++ flat_map (of_info w.jsx m) w.infos ++ flat_map (of_listed w.jsx m) w.answers) (flat_map (of_imports w.jsx m) imports)
      (among_flat (of_imports w.jsx m) i e imports among (among_left e (entries_at m i.referrer i.imports) (entries_at m i.referrer (default_texts w.jsx)) h))

  import_same : (text : List ℕ) → IsAmong text i.imports → imported_types mapped_by i.referrer text ≡ imported_types by_map i.referrer text
  import_same text is = ap (λ (r : Result Parts ResolveError). record (imported_types by_map i.referrer text) { maybe_type = permitted nv_of text (beginning i.referrer) ForTypes r })
      (leads_by_map w imports m i.referrer i.imports text (beginning i.referrer) ForTypes none own (all_at (λ (x : ReferrerImports). IsOwnUrl x.referrer) i imports own.configured among) import_covers is refl)

  -- all that is configured for a referrer leads as the map says
  pub import_leads : graph_import mapped_by i.referrer i.imports ≡ graph_import by_map i.referrer i.imports
  import_leads =
      ap (λ (ds : List (List ℕ × Dependency)). record { dependencies = ds })
      (map_alike (λ text. (text, imported_types mapped_by i.referrer text)) (λ text. (text, imported_types by_map i.referrer text)) (each_once bytes_eq i.imports)
      (λ text h. ap (λ (d : Dependency). (text, d)) (import_same text (once_among bytes_eq text [] i.imports h))))
