-- The imports of a module as records, in one list.
use Rattle.std.specs.Prelude.{ℕ, List, [], ◌∷◌, ◌++◌, Bool, true, false, ◌||◌, Option, None, Some, is_some, bytes_eq, codes, option_map, if◌then◌else◌}
use Rattle.std.specs.Option.{option_or}
use Rattle.std.specs.List.{filter_map}
use Rattle.media_types.specs.Media.{is_declaration, is_typed, is_jsx}
use Rattle.media_types.specs.declared.media.MediaType.{MediaType}
use Rattle.media_types.specs.declared.media.MediaType.TheVariants.{Wasm}
use Rattle.spec_base.specs.declared.position.PositionRange.{PositionRange}
use Rattle.spec_base.specs.declared.position.Range.{Range}
use Rattle.spec_base.specs.declared.position.ResolutionMode.{ResolutionMode}
use Rattle.spec_base.specs.declared.position.ResolutionMode.TheVariants as mode_is
use Rattle.module_info.specs.Attributes.{attribute_text}
use Rattle.module_info.specs.declared.references.SpecifierWithRange.{SpecifierWithRange}
use Rattle.module_info.specs.declared.references.TypeScriptReference.{TypeScriptReference}
use Rattle.module_info.specs.declared.references.TypeScriptReference.TheVariants.{Path, Types}
use Rattle.module_info.specs.declared.references.TypeScriptTypesResolutionMode.{TypeScriptTypesResolutionMode}
use Rattle.module_info.specs.declared.references.TypeScriptTypesResolutionMode.TheVariants as told_mode_is
use Rattle.module_info.specs.declared.references.JsDocImportInfo.{JsDocImportInfo}
use Rattle.module_info.specs.declared.attributes.ImportAttributes.{ImportAttributes}
use Rattle.module_info.specs.declared.attributes.ImportAttributes.TheVariants.{None as NoAttributes}
use Rattle.module_info.specs.declared.argument.DynamicArgument.{DynamicArgument}
use Rattle.module_info.specs.declared.argument.DynamicArgument.TheVariants.{String as Text}
use Rattle.module_info.specs.declared.types.ModuleInfo.{ModuleInfo}
use Rattle.module_info.specs.declared.types.DependencyDescriptor.{DependencyDescriptor}
use Rattle.module_info.specs.declared.types.DependencyDescriptor.TheVariants.{Static, Dynamic}
use Rattle.module_info.specs.declared.types.StaticDependencyDescriptor.{StaticDependencyDescriptor}
use Rattle.module_info.specs.declared.types.StaticDependencyKind.{StaticDependencyKind}
use Rattle.module_info.specs.declared.types.StaticDependencyKind.TheVariants.{ImportSource, ImportType, ImportEquals, ExportType, ExportEquals, MaybeTsModuleAugmentation}
use Rattle.module_info.specs.declared.types.DynamicDependencyDescriptor.{DynamicDependencyDescriptor}
use Rattle.module_info.specs.declared.types.DynamicDependencyKind.{DynamicDependencyKind}
use Rattle.module_info.specs.declared.types.DynamicDependencyKind.TheVariants.{ImportSource as CallSource, Require as CallRequire}
use Rattle.graph_dependencies.specs.declared.dependency.ImportKind.{ImportKind}
use Rattle.graph_dependencies.specs.declared.dependency.ImportKind.TheVariants.{Es, EsSource, Require, TsType, TsModuleAugmentation, TsReferencePath, TsReferenceTypes, JsxImportSource, JsDoc}
use Rattle.import_records.specs.declared.import_record.ImportRecord.{ImportRecord}
use Rattle.import_records.specs.declared.import_record.TypesText.{TypesText}
use Rattle.import_records.specs.Importing.{Importing}

-- ---- ranges and modes

-- the range at the beginning of a text
abbrev pub zero : PositionRange
zero = record { start = record { line = 0; character = 0 }; end = record { line = 0; character = 0 } }

abbrev pub is_wasm : MediaType → Bool
is_wasm Wasm = true
is_wasm media = false

-- the mode that an info tells
abbrev pub mode_of : TypeScriptTypesResolutionMode → ResolutionMode
mode_of told_mode_is.Import = mode_is.Import
mode_of told_mode_is.Require = mode_is.Require

-- a range of the module
abbrev pub range_of : Importing → PositionRange → Option ResolutionMode → Range
range_of a range mode = record { specifier = a.here; range = range; resolution_mode = mode }

-- ---- comments

-- an import by a comment or by the JSX syntax
abbrev pub comment_record : Importing → ImportKind → SpecifierWithRange → Option ResolutionMode → ImportRecord
comment_record a kind s mode = record {
  imported = record {
    specifier = s.text;
    kind = kind;
    specifier_range = range_of a s.range mode;
    is_dynamic = false;
    is_side_effect = false;
    attributes = NoAttributes;
  };
  types_text = None;
}

-- by a reference; references to types count in typed media alone
abbrev pub reference_record : Importing → TypeScriptReference → Option ImportRecord
reference_record a (Path s) = Some (comment_record a TsReferencePath s None)
reference_record a (Types s mode) =
    if is_typed a.media then Some (comment_record a TsReferenceTypes s (option_map mode_of mode)) else None

-- by a comment of JSDoc
abbrev pub jsdoc_record : Importing → JsDocImportInfo → Option ImportRecord
jsdoc_record a j = Some (comment_record a JsDoc j.specifier (option_map mode_of j.resolution_mode))

-- ---- JSX

-- a text that stands nowhere in the module
abbrev pub at_beginning : List ℕ → SpecifierWithRange
at_beginning text = record { text = text; range = zero }

-- the JSX source: the module's own, or else the resolver's default
abbrev pub jsx_source : Importing → ModuleInfo → Option SpecifierWithRange
jsx_source a info = option_or info.jsx_import_source (option_map at_beginning (a.resolving.resolver.jsx_source a.here))

-- the JSX source of types: the module's own, or else, where the module names no JSX source, the resolver's default
abbrev pub jsx_types : Importing → ModuleInfo → Option SpecifierWithRange
jsx_types a info =
    if a.with_types then option_or info.jsx_import_source_types
    (if is_some info.jsx_import_source then None
    else option_map at_beginning (a.resolving.resolver.jsx_types a.here))
    else None

-- the module of a JSX source in which its runtime stands
abbrev pub jsx_module : Importing → SpecifierWithRange → SpecifierWithRange
jsx_module a s = record s { text = s.text ++ (codes "/" ++ a.resolving.resolver.jsx_module a.here) }

abbrev pub jsx_types_text : Importing → Option SpecifierWithRange → Option TypesText
jsx_types_text a types =
    option_map (λ s. record { text = (jsx_module a s).text; range = range_of a s.range None }) types

abbrev pub jsx_record : Importing → Option SpecifierWithRange → SpecifierWithRange → ImportRecord
jsx_record a types source =
    record (comment_record a JsxImportSource (jsx_module a source) None) { types_text = jsx_types_text a types }

abbrev pub jsx_records : Importing → ModuleInfo → Option ImportRecord
jsx_records a info =
    if is_jsx a.media then option_map (jsx_record a (jsx_types a info)) (jsx_source a info) else None

-- ---- descriptors

abbrev pub static_kind : StaticDependencyKind → ImportKind
static_kind ImportType = TsType
static_kind ExportType = TsType
static_kind MaybeTsModuleAugmentation = TsModuleAugmentation
static_kind ImportSource = EsSource
static_kind _ = Es

abbrev pub dynamic_kind : DynamicDependencyKind → ImportKind
dynamic_kind CallSource = EsSource
dynamic_kind CallRequire = Require
dynamic_kind _ = Es

-- the kinds that count where types are wanted alone
abbrev pub wants_types : ImportKind → Bool
wants_types TsType = true
wants_types TsModuleAugmentation = true
wants_types _ = false

-- the mode of this name
abbrev pub mode_named : Option (List ℕ) → Option ResolutionMode
mode_named None = None
mode_named (Some text) =
    if bytes_eq text (codes "import") then Some mode_is.Import
    else (if bytes_eq text (codes "require") then Some mode_is.Require else None)

-- the mode of an import that names none
abbrev pub plain_mode : Importing → Option ResolutionMode
plain_mode a = if is_declaration a.media then None else Some mode_is.Import

-- the mode that the attribute `resolution-mode` names, in a type import and in declaration media; or else the plain one
abbrev pub attribute_mode : Importing → Bool → ImportAttributes → Option ResolutionMode
attribute_mode a is_type attributes =
    if is_type || is_declaration a.media
    then option_or (mode_named (attribute_text attributes (codes "resolution-mode"))) (plain_mode a)
    else plain_mode a

abbrev pub static_mode : Importing → StaticDependencyKind → ImportAttributes → Option ResolutionMode
static_mode a MaybeTsModuleAugmentation attributes = Some mode_is.Import
static_mode a ImportEquals attributes = Some mode_is.Require
static_mode a ExportEquals attributes = Some mode_is.Require
static_mode a ImportType attributes = attribute_mode a true attributes
static_mode a ExportType attributes = attribute_mode a true attributes
static_mode a _ attributes = attribute_mode a false attributes

abbrev pub dynamic_mode : Importing → DynamicDependencyKind → Option ResolutionMode
dynamic_mode a CallRequire = Some mode_is.Require
dynamic_mode a _ = plain_mode a

-- the text of the types of a descriptor, where types are wanted
abbrev pub types_text : Importing → Option SpecifierWithRange → Option ResolutionMode → Option TypesText
types_text a types mode =
    if a.with_types then option_map (λ s. record { text = s.text; range = range_of a s.range mode }) types else None

abbrev pub static_record : Importing → StaticDependencyDescriptor → ImportKind → Option ResolutionMode → ImportRecord
static_record a d kind mode = record {
  imported = record {
    specifier = d.specifier;
    kind = kind;
    specifier_range = range_of a d.specifier_range mode;
    is_dynamic = false;
    is_side_effect = d.is_side_effect;
    attributes = d.import_attributes;
  };
  types_text = types_text a d.types_specifier mode;
}

abbrev pub dynamic_record : Importing → DynamicDependencyDescriptor → List ℕ → Option ResolutionMode → ImportRecord
dynamic_record a d text mode = record {
  imported = record {
    specifier = text;
    kind = dynamic_kind d.kind;
    specifier_range = range_of a d.argument_range mode;
    is_dynamic = true;
    is_side_effect = false;
    attributes = d.import_attributes;
  };
  types_text = types_text a d.types_specifier mode;
}

-- a call with a known text; what else it is called with is passed over
abbrev pub argument_record : Importing → DynamicDependencyDescriptor → DynamicArgument → Option ImportRecord
argument_record a d (Text text) = Some (dynamic_record a d text (dynamic_mode a d.kind))
argument_record a d _ = None

-- by a declaration or a call
abbrev pub descriptor_record : Importing → DependencyDescriptor → Option ImportRecord
descriptor_record a (Static d) =
    if wants_types (static_kind d.kind)
    then (if a.with_types then Some (static_record a d (static_kind d.kind) (static_mode a d.kind d.import_attributes)) else None)
    else Some (static_record a d (static_kind d.kind) (static_mode a d.kind d.import_attributes))
descriptor_record a (Dynamic d) = argument_record a d d.argument

-- ---- all

-- where types are wanted
abbrev pub with_types : Importing → List ImportRecord → List ImportRecord
with_types a records = if a.with_types then records else []

abbrev pub listed : Option ImportRecord → List ImportRecord
listed None = []
listed (Some r) = r ∷ []

-- the records of comments and of the JSX syntax, of which WebAssembly has none
abbrev pub comment_records : Importing → ModuleInfo → List ImportRecord
comment_records a info =
    if is_wasm a.media then []
    else with_types a (filter_map (reference_record a) info.ts_references)
    ++ (listed (jsx_records a info)
    ++ with_types a (filter_map (jsdoc_record a) info.jsdoc_imports))

-- the import records of a module: those of comments first, then those of declarations and calls, each in order
abbrev pub records_of : Importing → ModuleInfo → List ImportRecord
records_of a info = comment_records a info ++ filter_map (descriptor_record a) info.dependencies
