-- What a source makes by two resolvers that lead its texts to the same.
use Rattle.std.proofs.Common.{◌≡◌, ℕ, List, [], ◌∷◌, Bool, true, false, refl, sym, ap, subst, ◌∙◌, inl, inr, ⊎_elim, ◌⊎◌, ◌&&◌}
use Rattle.std.specs.Prelude.{Some, None, Option, Result, Ok, Err, bytes_eq, codes, if◌then◌else◌}
use Rattle.std.specs.List.{AllByRecursion}
use Rattle.url.specs.Parts.{Parts}
use Rattle.spec_base.specs.Specifier.{same_specifier}
use Rattle.media_types.specs.declared.decoding.DecodeFault.{DecodeFault}
use Rattle.media_types.specs.declared.decoding.ModuleTextSource.{ModuleTextSource}
use Rattle.media_types.specs.declared.media.MediaType.{MediaType}
use Rattle.media_types.specs.declared.media.MediaType.TheVariants.{Dmts, Wasm as WasmMedia}
use Rattle.spec_base.specs.declared.position.Range.{Range}
use Rattle.spec_base.specs.declared.refusal.Fault.{Fault}
use Rattle.file_tree.specs.Written.{written_answer}
use Rattle.module_info.specs.Infos.{empty_info, info_in}
use Rattle.module_info.specs.declared.types.ModuleInfo.{ModuleInfo}
use Rattle.source_io.specs.declared.types.Answer.{Answer}
use Rattle.source_io.specs.declared.types.Answer.TheVariants.{Load}
use Rattle.source_io.specs.declared.types.LoadResponse.TheVariants.{Module as Sourced}
use Rattle.source_io.specs.declared.types.Purpose.{Purpose}
use Rattle.source_io.specs.declared.types.World.{World}
use Rattle.wasm_dts.specs.declared.refusal.WasmRefusal.{WasmRefusal}
use Rattle.import_records.specs.Cut.{kept}
use Rattle.import_records.specs.Dependencies.{dependencies_of}
use Rattle.import_records.specs.Importing.{Importing}
use Rattle.graph_dependencies.specs.Kinds.{include_types}
use Rattle.import_records.specs.Records.{is_wasm}
use Rattle.import_records.specs.SourceMap.{source_map_of}
use Rattle.import_records.specs.Target.{NvOf}
use Rattle.import_records.specs.TypesDependency.{types_dependency_of}
use Rattle.graph_dependencies.specs.declared.dependency.Dependency.{Dependency}
use Rattle.graph_dependencies.specs.declared.dependency.TypesDependency.{TypesDependency}
use Rattle.graph_dependencies.specs.declared.graph_kind.GraphKind.{GraphKind}
use Rattle.graph_dependencies.specs.declared.referrer_imports.ReferrerImports.{ReferrerImports}
use Rattle.slot_making.specs.Made.{asserted_slot, by_attribute, by_info, by_phase, declaration_by, given_or_told, is_json, is_plain_type, is_supported_media, json_by, made_slot, Making, media_under, plain_slot, refused_slot, script_by, suits_source_phase, takes_json, text_in, told_info, types_header as slot_header, unphased_slot, unsupported_slot, wasm_by, wasm_by_info}
use Rattle.module_slots.specs.declared.load.LoadContext.{LoadContext}
use Rattle.module_slots.specs.declared.slot.Module.TheVariants.{Js, Wasm}
use Rattle.module_slots.specs.declared.slot.ModuleSlot.{ModuleSlot}
use Rattle.module_slots.specs.declared.slot.ModuleSlot.TheVariants.{Module as Stands}
use Rattle.slot_making.specs.declared.source.Source.{Source}
use Rattle.import_map.specs.declared.map.ImportMap.{ImportMap}
use Rattle.mapped_world.specs.Leads.{HasOwnUrls, IsAmong, IsModuleOf, IsOwnUrl, LeadsAlike, NamesOwn, importing_by, map_meaning, mapped_meaning, types_header}
use Rattle.mapped_world.proofs.Covered.{all_at, module_leads}
use Rattle.mapped_world.proofs.Listed.{same_own}
use Rattle.mapped_targets.specs.Slots.{HasNoTemplates, IsSourceOf, making_by}

same_info : (a b : ModuleInfo) → ◌≡◌ {A = Result ModuleInfo Fault} (Ok a) (Ok b) → a ≡ b
same_info a b e = cc

-- an info is listed, or the empty one
analyzed_by : (e : Parts × Result ModuleInfo Fault) (s : Parts) (info : ModuleInfo) (more : Result ModuleInfo Fault) (es : List (Parts × Result ModuleInfo Fault)) (b : Bool) → same_specifier e.0 s ≡ b → IsOwnUrl e.0 → IsOwnUrl s
    → ◌≡◌ {A = Result ModuleInfo Fault} (if b then e.1 else more) (Ok info) → (more ≡ Ok info → IsAmong (s, Ok info) es ⊎ (info ≡ empty_info)) → IsAmong (s, Ok info) (e ∷ es) ⊎ (info ≡ empty_info)
analyzed_by e s info more es true same own_e own_s is rest =
    let name : e.0 ≡ s = same_own e.0 s own_e own_s same in
    let whole : (s, Ok info) ≡ e = ap (λ (x : Parts). let p : Parts × Result ModuleInfo Fault = (x, Ok info) in p) (sym name) ∙ ap (λ (r : Result ModuleInfo Fault). let p : Parts × Result ModuleInfo Fault = (e.0, r) in p) (sym is) in
    inl (inl whole)
analyzed_by e s info more es false same own_e own_s is rest = ⊎_elim (λ among. inl (inr among)) (λ empty. inr empty) (rest is)

analyzed_in : (es : List (Parts × Result ModuleInfo Fault)) (s : Parts) (info : ModuleInfo) → AllByRecursion (λ e. IsOwnUrl e.0) es → IsOwnUrl s → info_in es s ≡ Ok info → IsAmong (s, Ok info) es ⊎ (info ≡ empty_info)
unfolding info_in
analyzed_in [] s info all own is = inr (sym (same_info empty_info info is))
analyzed_in (e ∷ es) s info all own is = analyzed_by e s info (info_in es s) es (same_specifier e.0 s) refl all.0 own is (analyzed_in es s info all.1 own)

header_same : (headers : Option (List (List ℕ × List ℕ))) → types_header headers ≡ slot_header headers
header_same None = refl
header_same (Some headers) = refl

module _ (w : World) (imports : List ReferrerImports) (m : ImportMap) (source : Source) (nv_of : NvOf) (kind : GraphKind) (skip config : Bool) (none : w.resolutions ≡ []) (own : HasOwnUrls w imports) (plain : HasNoTemplates w) (of : IsSourceOf w source) where
  abbrev mapped : Making
  mapped = making_by w (mapped_meaning w imports m) nv_of kind skip config

  abbrev by_map : Making
  by_map = making_by w (map_meaning w m) nv_of kind skip config

  abbrev one : MediaType → Importing
  one media = importing_by (mapped_meaning w imports m) nv_of media (include_types kind) source.name

  abbrev other : MediaType → Importing
  other media = importing_by (map_meaning w m) nv_of media (include_types kind) source.name

  here_own : IsOwnUrl source.name
  here_own = all_at (λ (e : Parts × Purpose × Answer). NamesOwn e.2) (of.specifier, of.purpose, Load (Ok (Some (Sourced source.content source.mtime source.name source.headers)))) w.answers own.answers of.answered

  -- its info is the world's
  told_is : (text : List ℕ) (media : MediaType) → told_info mapped.infos mapped.paths source.info source.name text media ≡ info_in w.infos source.name
  told_is text media =
      ap (λ (o : Option ModuleInfo). written_answer w.tree source.name (given_or_told o (info_in w.infos source.name))) of.no_info ∙ plain source.name

  leads : (media : MediaType) (info : ModuleInfo) → info_in w.infos source.name ≡ Ok info → LeadsAlike (one media) (other media) info (types_header source.headers)
  leads media info is =
      let module_of : IsModuleOf w source.name source.headers info = record { specifier = of.specifier; purpose = of.purpose; content = source.content; mtime = source.mtime; answered = of.answered; analyzed = analyzed_in w.infos source.name info own.infos here_own is } in
      module_leads w imports m source.name source.headers info media (include_types kind) nv_of none own module_of

  -- ---- scripts

  info_alike : (media : MediaType) (text : ModuleTextSource) (told : Result ModuleInfo Fault) → info_in w.infos source.name ≡ told → by_info (one media) kind skip (slot_header source.headers) source.mtime text told ≡ by_info (other media) kind skip (slot_header source.headers) source.mtime text told
  info_alike media text (Err fault) is = refl
  info_alike media text (Ok info) is =
      let alike = leads media info is in
      let types : types_dependency_of (one media) info (slot_header source.headers) ≡ types_dependency_of (other media) info (slot_header source.headers) =
      subst (λ (h : Option (List ℕ)). types_dependency_of (one media) info h ≡ types_dependency_of (other media) info h) (header_same source.headers) alike.types in
      let slot = λ (t s : Option TypesDependency) (ds : List (List ℕ × Dependency)). Stands (Js (record {
        is_script = info.is_script;
        maybe_types_dependency = t;
        maybe_source_map_dependency = s;
        dependencies = kept kind skip t ds;
        source = text;
        media_type = media;
        specifier = source.name;
        mtime = source.mtime;
        fast_check = None;
        maybe_cache_info = None;
      })) in
      ap (λ (t : Option TypesDependency). slot t (source_map_of (one media) info) (dependencies_of (one media) info)) types
      ∙ ap (λ (s : Option TypesDependency). slot (types_dependency_of (other media) info (slot_header source.headers)) s (dependencies_of (one media) info)) alike.source_map
      ∙ ap (λ (ds : List (List ℕ × Dependency)). slot (types_dependency_of (other media) info (slot_header source.headers)) (source_map_of (other media) info) ds) alike.dependencies

  script_alike : (media : MediaType) (r : Result ModuleTextSource DecodeFault) → script_by mapped source media r ≡ script_by by_map source media r
  script_alike media (Err fault) = refl
  script_alike media (Ok text) =
      let told = told_is text.text media in
      ap (by_info (one media) kind skip (slot_header source.headers) source.mtime text) told
      ∙ info_alike media text (info_in w.infos source.name) refl
      ∙ sym (ap (by_info (other media) kind skip (slot_header source.headers) source.mtime text) told)

  -- ---- WebAssembly

  wasm_info_alike : (declaration : List ℕ) (told : Result ModuleInfo Fault) → info_in w.infos source.name ≡ told → wasm_by_info (one WasmMedia) kind skip source.mtime source.content declaration told ≡ wasm_by_info (other WasmMedia) kind skip source.mtime source.content declaration told
  wasm_info_alike declaration (Err fault) is = refl
  wasm_info_alike declaration (Ok info) is =
      ap (λ (ds : List (List ℕ × Dependency)). Stands (Wasm (record {
        specifier = source.name;
        mtime = source.mtime;
        dependencies = kept kind skip None ds;
        source = source.content;
        source_dts = declaration;
        maybe_cache_info = None;
      }))) (leads WasmMedia info is).dependencies

  wasm_alike : (r : Result (List ℕ) WasmRefusal) → wasm_by mapped source r ≡ wasm_by by_map source r
  wasm_alike (Err refusal) = refl
  wasm_alike (Ok declaration) =
      let told = told_is declaration Dmts in
      ap (wasm_by_info (one WasmMedia) kind skip source.mtime source.content declaration) told
      ∙ wasm_info_alike declaration (info_in w.infos source.name) refl
      ∙ sym (ap (wasm_by_info (other WasmMedia) kind skip source.mtime source.content declaration) told)

  -- ---- slots

  plain_alike : (media : MediaType) (c : LoadContext) → plain_slot mapped source media c ≡ plain_slot by_map source media c
  plain_alike media c =
      let slot = λ (script wasm : ModuleSlot). if is_json media && takes_json c then json_by source (text_in source) else (if is_supported_media source.name media then script else (if is_wasm media then wasm else refused_slot source.name media c)) in
      ap (λ (s : ModuleSlot). slot s (wasm_by mapped source (declaration_by source.info source.content))) (script_alike media (text_in source))
      ∙ ap (λ (s : ModuleSlot). slot (script_by by_map source media (text_in source)) s) (wasm_alike (declaration_by source.info source.content))

  attribute_alike : (media : MediaType) (c : LoadContext) (attribute : Option (List ℕ × Range)) → by_attribute mapped source media c attribute ≡ by_attribute by_map source media c attribute
  attribute_alike media c None = plain_alike media c
  attribute_alike media c (Some a) =
      ap (λ (s : ModuleSlot). if bytes_eq a.0 (codes "json") then asserted_slot source media a.1 else (if is_plain_type config a.0 then s else unsupported_slot source.name a.0 a.1)) (plain_alike media c)

  phase_alike : (media : MediaType) (c : LoadContext) (phase : Option Range) → by_phase mapped source media c phase ≡ by_phase by_map source media c phase
  phase_alike media c None = attribute_alike media c c.attribute
  phase_alike media c (Some range) =
      ap (λ (s : ModuleSlot). if suits_source_phase media c.attribute then s else unphased_slot source.name media c range) (attribute_alike media c c.attribute)

  pub slots_alike : (c : LoadContext) → made_slot mapped source c ≡ made_slot by_map source c
  unfolding made_slot
  slots_alike c = phase_alike (media_under source c) c c.source_phase
