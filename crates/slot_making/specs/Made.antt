-- The slot that a source makes.
use Rattle.std.specs.Prelude.{ℕ, List, [], Bool, true, false, not, ◌&&◌, ◌||◌, bytes_eq, codes, Option, Some, None, is_some, option_map, Result, Ok, Err, if◌then◌else◌}
use Rattle.std.specs.Map.{lookup}
use Rattle.url.specs.Parts.{Parts}
use Rattle.media_types.specs.ContentType.{content_type_in, media_by}
use Rattle.media_types.specs.Decode.{decoded, source_charset}
use Rattle.media_types.specs.Media.{is_script}
use Rattle.spec_base.specs.declared.position.Range.{Range}
use Rattle.media_types.specs.declared.decoding.DecodeFault.{DecodeFault}
use Rattle.media_types.specs.declared.decoding.ModuleTextSource.{ModuleTextSource}
use Rattle.media_types.specs.declared.media.MediaType.{MediaType}
use Rattle.media_types.specs.declared.media.MediaType.TheVariants.{JavaScript, Json as JsonMedia, Cjs, Cts, Dmts, Wasm as WasmMedia, Unknown}
use Rattle.spec_base.specs.declared.refusal.Fault.{Fault}
use Rattle.module_info.specs.Infos.{Infos}
use Rattle.module_info.specs.declared.types.ModuleInfo.{ModuleInfo}
use Rattle.file_tree.specs.Written.{written_answer}
use Rattle.import_records.specs.Cut.{kept}
use Rattle.import_records.specs.Dependencies.{dependencies_of}
use Rattle.graph_errors.specs.Errors.{assertion_error, attribute_error, decode_error, media_error, parse_error, source_phase_error, wasm_error}
use Rattle.import_records.specs.Importing.{Importing}
use Rattle.graph_dependencies.specs.Kinds.{include_types}
use Rattle.import_records.specs.Records.{is_wasm}
use Rattle.import_records.specs.SourceMap.{source_map_of}
use Rattle.import_records.specs.Target.{Resolving}
use Rattle.import_records.specs.TypesDependency.{types_dependency_of}
use Rattle.graph_dependencies.specs.declared.graph_kind.GraphKind.{GraphKind}
use Rattle.module_slots.specs.declared.load.LoadContext.{LoadContext}
use Rattle.module_slots.specs.declared.slot.ModuleSlot.{ModuleSlot}
use Rattle.slot_making.specs.declared.source.Source.{Source}
use Rattle.module_slots.specs.declared.slot.ModuleSlot.TheVariants.{Module as Stands, Err as Failed}
use Rattle.module_slots.specs.declared.slot.Module.TheVariants.{Js, Json, Wasm}
use Rattle.wasm_dts.specs.Declarations.{module_declarations}
use Rattle.wasm_dts.specs.declared.refusal.WasmRefusal.{WasmRefusal}

-- ---- what is told

-- the absolute paths of the files of a tree
abbrev pub Paths : Type 0
Paths = List (List ℕ)

-- what an analyzer and a tree of files tell, what texts are resolved by, which part of its modules a graph holds, whether it
-- skips dynamic dependencies, and whether modules are made under the attributes of configurations
pub record Making : Type 0 where
  pub infos : Infos
  pub paths : Paths
  pub resolving : Resolving
  pub kind : GraphKind
  pub skip_dynamic_deps : Bool
  pub config : Bool

-- what makes modules, where the analyzer and the resolver are told
abbrev pub told_making : Option Infos → Paths → Option Resolving → GraphKind → Bool → Bool → Option Making
told_making None paths resolving kind skip config = None
told_making (Some infos) paths None kind skip config = None
told_making (Some infos) paths (Some resolving) kind skip config =
    Some (record { infos = infos; paths = paths; resolving = resolving; kind = kind; skip_dynamic_deps = skip; config = config })

-- an info that is given stands in the place of what the analyzer tells
abbrev pub given_or_told : Option ModuleInfo → Result ModuleInfo Fault → Result ModuleInfo Fault
given_or_told None told = told
given_or_told (Some info) told = Ok info

-- the info of a module's text, read as this media, given or told, its templates written out over the tree
abbrev pub told_info : Infos → Paths → Option ModuleInfo → Parts → List ℕ → MediaType → Result ModuleInfo Fault
told_info infos paths given name text media = written_answer paths name (given_or_told given (infos name text media))

-- ---- the slot

-- headers: their values by their names in ASCII lower case
abbrev pub HeaderList : Type 0
HeaderList = List (List ℕ × List ℕ)

-- the header that names the module of a module's types
abbrev pub types_header : Option HeaderList → Option (List ℕ)
types_header None = None
types_header (Some headers) = lookup (bytes_eq (codes "x-typescript-types")) headers

-- the text of bytes in their charset
abbrev pub text_by : Parts → Option HeaderList → List ℕ → Result ModuleTextSource DecodeFault
text_by name headers content = decoded (source_charset name headers content) content

abbrev pub text_in : Source → Result ModuleTextSource DecodeFault
text_in source = text_by source.name source.headers source.content

-- ---- media types

-- unknown media at a root goes on as JavaScript
abbrev pub at_root : Bool → MediaType → MediaType
at_root true Unknown = JavaScript
at_root is_root media = media

-- the media type of a source, by its headers or else by its name
abbrev pub source_media : Source → MediaType
source_media source = media_by source.name (content_type_in source.headers)

-- its media type under a context
abbrev pub media_under : Source → LoadContext → MediaType
media_under source c = at_root c.is_root (source_media source)

abbrev pub is_json : MediaType → Bool
is_json JsonMedia = true
is_json media = false

-- whether scripts of this media are taken: those of CommonJS from local files alone
abbrev pub is_supported_media : Parts → MediaType → Bool
is_supported_media name Cjs = bytes_eq name.scheme (codes "file")
is_supported_media name Cts = bytes_eq name.scheme (codes "file")
is_supported_media name media = is_script media

-- ---- errors

-- bytes that have no text
abbrev pub undecoded_slot : Parts → Option ℕ → DecodeFault → ModuleSlot
undecoded_slot name mtime fault = Failed (decode_error name mtime fault)

-- media that isn't taken
abbrev pub refused_slot : Parts → MediaType → LoadContext → ModuleSlot
refused_slot name media c = Failed (media_error name media c.range)

-- an attribute under which no module is made
abbrev pub unsupported_slot : Parts → List ℕ → Range → ModuleSlot
unsupported_slot name type range = Failed (attribute_error name range type)

-- ---- scripts

-- what the dependencies of the module at a specifier depend on
abbrev pub importing_at : Making → Parts → MediaType → Importing
importing_at making name media = record {
  resolving = making.resolving;
  media = media;
  with_types = include_types making.kind;
  here = name;
}

-- a script of this text that came with this header, with what its info makes, as far as a graph of the kind holds it
abbrev pub by_info : Importing → GraphKind → Bool → Option (List ℕ) → Option ℕ → ModuleTextSource → Result ModuleInfo Fault → ModuleSlot
by_info a kind skip header mtime text (Ok info) = Stands (Js (record {
  is_script = info.is_script;
  maybe_types_dependency = types_dependency_of a info header;
  maybe_source_map_dependency = source_map_of a info;
  dependencies = kept kind skip (types_dependency_of a info header) (dependencies_of a info);
  maybe_cache_info = None;
  source = text;
  media_type = a.media;
  specifier = a.here;
  mtime = mtime;
  fast_check = None;
}))
by_info a kind skip header mtime text (Err fault) = Failed (parse_error a.here mtime fault)

abbrev pub script_by : Making → Source → MediaType → Result ModuleTextSource DecodeFault → ModuleSlot
script_by making source media (Ok text) =
    by_info (importing_at making source.name media) making.kind making.skip_dynamic_deps
    (types_header source.headers) source.mtime text (told_info making.infos making.paths source.info source.name text.text media)
script_by making source media (Err fault) = undecoded_slot source.name source.mtime fault

-- ---- JSON

abbrev pub json_by : Source → Result ModuleTextSource DecodeFault → ModuleSlot
json_by source (Ok text) = Stands (Json (record { specifier = source.name; maybe_cache_info = None; source = text; mtime = source.mtime; media_type = JsonMedia }))
json_by source (Err fault) = undecoded_slot source.name source.mtime fault

-- ---- WebAssembly

-- the declaration of the module that bytes spell, or the rule that they break
unfoldable pub declaration_of : List ℕ → Result (List ℕ) WasmRefusal
declaration_of bytes = module_declarations bytes

-- the declaration of a source: the empty one where its info is given, so that its bytes aren't read
abbrev pub declaration_by : Option ModuleInfo → List ℕ → Result (List ℕ) WasmRefusal
declaration_by None bytes = declaration_of bytes
declaration_by (Some info) bytes = Ok []

-- a module of these bytes and this declaration, with what the info of the declaration makes
abbrev pub wasm_by_info : Importing → GraphKind → Bool → Option ℕ → List ℕ → List ℕ → Result ModuleInfo Fault → ModuleSlot
wasm_by_info a kind skip mtime bytes declaration (Ok info) = Stands (Wasm (record {
  specifier = a.here;
  mtime = mtime;
  dependencies = kept kind skip None (dependencies_of a info);
  source = bytes;
  source_dts = declaration;
  maybe_cache_info = None;
}))
wasm_by_info a kind skip mtime bytes declaration (Err fault) = Failed (parse_error a.here mtime fault)

-- the module of a source that has this declaration, or the rule that its bytes break
abbrev pub wasm_by : Making → Source → Result (List ℕ) WasmRefusal → ModuleSlot
wasm_by making source (Ok declaration) =
    wasm_by_info (importing_at making source.name WasmMedia) making.kind making.skip_dynamic_deps
    source.mtime source.content declaration (told_info making.infos making.paths source.info source.name declaration Dmts)
wasm_by making source (Err refusal) = Failed (wasm_error source.name source.mtime refusal)

-- ---- the slot

-- whether JSON is taken where no attribute names it: at a root, and where the question says that an import is dynamic
abbrev pub takes_json : LoadContext → Bool
takes_json c = c.is_root || c.is_dynamic

-- where no attribute decides: JSON where it is taken, else a script that is taken, else WebAssembly, else the error of its media
abbrev pub plain_slot : Making → Source → MediaType → LoadContext → ModuleSlot
plain_slot making source media c =
    if is_json media && takes_json c then json_by source (text_in source)
    else (if is_supported_media source.name media then script_by making source media (text_in source)
    else (if is_wasm media then wasm_by making source (declaration_by source.info source.content)
    else refused_slot source.name media c))

-- under the attribute `json` of an import
abbrev pub asserted_slot : Source → MediaType → Range → ModuleSlot
asserted_slot source media range =
    if is_json media then json_by source (text_in source)
    else Failed (assertion_error source.name range media JsonMedia)

-- the attributes of configurations
abbrev pub is_config_type : List ℕ → Bool
is_config_type type =
    bytes_eq type (codes "yaml") || bytes_eq type (codes "toml") || bytes_eq type (codes "json5") || bytes_eq type (codes "jsonc")

-- whether modules are made under an attribute as under none; under those of configurations where that is set
unfoldable pub is_plain_type : Bool → List ℕ → Bool
is_plain_type config type = bytes_eq type (codes "text") || bytes_eq type (codes "bytes") || (config && is_config_type type)

-- by the attribute `type` of the import
abbrev pub by_attribute : Making → Source → MediaType → LoadContext → Option (List ℕ × Range) → ModuleSlot
by_attribute making source media c None = plain_slot making source media c
by_attribute making source media c (Some a) =
    if bytes_eq a.0 (codes "json") then asserted_slot source media a.1
    else (if is_plain_type making.config a.0 then plain_slot making source media c
    else unsupported_slot source.name a.0 a.1)

-- what is taken in the source phase: WebAssembly without an attribute
abbrev pub suits_source_phase : MediaType → Option (List ℕ × Range) → Bool
suits_source_phase media attribute = is_wasm media && not (is_some attribute)

-- what isn't taken there
abbrev pub unphased_slot : Parts → MediaType → LoadContext → Range → ModuleSlot
unphased_slot name media c range = Failed (source_phase_error name range media (option_map (λ a. a.0) c.attribute))

-- by the import in the source phase, where there is one
abbrev pub by_phase : Making → Source → MediaType → LoadContext → Option Range → ModuleSlot
by_phase making source media c None = by_attribute making source media c c.attribute
by_phase making source media c (Some range) =
    if suits_source_phase media c.attribute then by_attribute making source media c c.attribute
    else unphased_slot source.name media c range

-- the module or the error that a source makes, loaded under a context
unfoldable pub made_slot : Making → Source → LoadContext → ModuleSlot
made_slot making source c = by_phase making source (media_under source c) c c.source_phase
