-- What is written of a module's info reads back.
use Rattle.std.proofs.Common.{◌≡◌, [], false, codes, Option, Some, None, Ok, option_map, refl, ap}
use Rattle.std.specs.Option.{option_or}
use Rattle.json_forms.specs.Form.{text, flag, list_of, choice}
use Rattle.json_forms.specs.Member.{or_else}
use Rattle.json_forms.specs.Range.{position_range}
use Rattle.json_forms.specs.Infos.Attributes.{attribute, attributes, attribute_json, attributes_json}
use Rattle.json_forms.specs.Infos.Argument.{part, argument, part_json, argument_json}
use Rattle.json_forms.specs.Infos.References.{modes, mode_json, specifier_with_range, specifier_json, reference, reference_json, jsdoc_import, jsdoc_json}
use Rattle.json_forms.specs.Infos.Descriptor.{static_kinds, static_kind_json, dynamic_kinds, dynamic_kind_json, descriptor_types, static_descriptor, static_rows, static_json, dynamic_descriptor, dynamic_rows, dynamic_json, descriptor, descriptor_json}
use Rattle.json_forms.specs.Infos.Info.{info_of, info_json}
use Rattle.json_forms.proofs.DictionaryLemmas.{dictionary_back}
use Rattle.json_forms.proofs.RoundTrip.{default_back, required_back, optional_back, flag_back, there_back, items_back, list_back}
use Rattle.module_info.specs.declared.attributes.ImportAttribute.{ImportAttribute}
use Rattle.module_info.specs.declared.attributes.ImportAttribute.TheVariants as attribute_is
use Rattle.module_info.specs.declared.attributes.ImportAttributes.{ImportAttributes}
use Rattle.module_info.specs.declared.attributes.ImportAttributes.TheVariants as attributes_are
use Rattle.module_info.specs.declared.argument.DynamicArgument.{DynamicArgument}
use Rattle.module_info.specs.declared.argument.DynamicArgument.TheVariants as argument_is
use Rattle.module_info.specs.declared.argument.DynamicTemplatePart.{DynamicTemplatePart}
use Rattle.module_info.specs.declared.argument.DynamicTemplatePart.TheVariants as part_is
use Rattle.module_info.specs.declared.references.SpecifierWithRange.{SpecifierWithRange}
use Rattle.module_info.specs.declared.references.TypeScriptTypesResolutionMode.{TypeScriptTypesResolutionMode}
use Rattle.module_info.specs.declared.references.TypeScriptTypesResolutionMode.TheVariants as mode_is
use Rattle.module_info.specs.declared.references.TypeScriptReference.{TypeScriptReference}
use Rattle.module_info.specs.declared.references.TypeScriptReference.TheVariants as reference_is
use Rattle.module_info.specs.declared.references.JsDocImportInfo.{JsDocImportInfo}
use Rattle.module_info.specs.declared.types.StaticDependencyKind.{StaticDependencyKind}
use Rattle.module_info.specs.declared.types.StaticDependencyKind.TheVariants as static_is
use Rattle.module_info.specs.declared.types.StaticDependencyDescriptor.{StaticDependencyDescriptor}
use Rattle.module_info.specs.declared.types.DynamicDependencyKind.{DynamicDependencyKind}
use Rattle.module_info.specs.declared.types.DynamicDependencyKind.TheVariants as dynamic_is
use Rattle.module_info.specs.declared.types.DynamicDependencyDescriptor.{DynamicDependencyDescriptor}
use Rattle.module_info.specs.declared.types.DependencyDescriptor.{DependencyDescriptor}
use Rattle.module_info.specs.declared.types.DependencyDescriptor.TheVariants as descriptor_is
use Rattle.module_info.specs.declared.types.ModuleInfo.{ModuleInfo}
use Rattle.json_forms.specs.declared.infos.descriptor.DescriptorType.TheVariants as type_is

-- ---- references

mode_back : (m : TypeScriptTypesResolutionMode) → choice modes (mode_json m) ≡ Some m
mode_back mode_is.Import = refl
mode_back mode_is.Require = refl

specifier_back : (s : SpecifierWithRange) → specifier_with_range (specifier_json s) ≡ Some s
specifier_back s = refl

reference_back : (r : TypeScriptReference) → reference (reference_json r) ≡ Some r
reference_back (reference_is.Path s) = refl
reference_back (reference_is.Types s None) = refl
reference_back (reference_is.Types s (Some m)) = rw (mode_back m)

jsdoc_at : (s : SpecifierWithRange) (m : Option TypeScriptTypesResolutionMode) → jsdoc_import (jsdoc_json (record { specifier = s; resolution_mode = m })) ≡ Some (record { specifier = s; resolution_mode = m })
jsdoc_at s None = refl
jsdoc_at s (Some m) = rw (mode_back m)

jsdoc_back : (j : JsDocImportInfo) → jsdoc_import (jsdoc_json j) ≡ Some j
jsdoc_back j = jsdoc_at j.specifier j.resolution_mode

-- ---- attributes and arguments

attribute_back : (a : ImportAttribute) → attribute (attribute_json a) ≡ Some a
attribute_back attribute_is.Unknown = refl
attribute_back (attribute_is.Known t) = refl

attributes_back : (a : ImportAttributes) → or_else attributes_are.None attributes (option_or (attributes_json a) None) ≡ Some a
attributes_back attributes_are.None = refl
attributes_back attributes_are.Unknown = refl
attributes_back (attributes_are.Known es) = ap (option_map attributes_are.Known) (dictionary_back attribute attribute_json attribute_back es)

part_back : (p : DynamicTemplatePart) → part (part_json p) ≡ Some p
part_back (part_is.String t) = refl
part_back part_is.Expr = refl

argument_back : (a : DynamicArgument) → or_else argument_is.Expr argument (option_or (argument_json a) None) ≡ Some a
argument_back argument_is.Expr = refl
argument_back (argument_is.String t) = refl
argument_back (argument_is.Template ps) = ap (option_map argument_is.Template) (items_back part part_json part_back ps)

-- ---- imports

static_kind_back : (k : StaticDependencyKind) → choice static_kinds (static_kind_json k) ≡ Some k
static_kind_back static_is.Import = refl
static_kind_back static_is.ImportDefer = refl
static_kind_back static_is.ImportSource = refl
static_kind_back static_is.ImportType = refl
static_kind_back static_is.ImportEquals = refl
static_kind_back static_is.Export = refl
static_kind_back static_is.ExportType = refl
static_kind_back static_is.ExportEquals = refl
static_kind_back static_is.MaybeTsModuleAugmentation = refl

dynamic_kind_back : (k : DynamicDependencyKind) → choice dynamic_kinds (dynamic_kind_json k) ≡ Some k
dynamic_kind_back dynamic_is.Import = refl
dynamic_kind_back dynamic_is.ImportDefer = refl
dynamic_kind_back dynamic_is.ImportSource = refl
dynamic_kind_back dynamic_is.Require = refl

static_back : (s : StaticDependencyDescriptor) → static_descriptor (static_json s) ≡ Some s
static_back s =
    rw (
      required_back (choice static_kinds) (codes "kind") _ s.kind (static_kind_back s.kind),
      optional_back specifier_with_range (codes "typesSpecifier") _ s.types_specifier (there_back specifier_with_range specifier_json specifier_back s.types_specifier),
      required_back text (codes "specifier") _ s.specifier refl,
      required_back position_range (codes "specifierRange") _ s.specifier_range refl,
      default_back attributes_are.None attributes (codes "importAttributes") _ s.import_attributes (attributes_back s.import_attributes),
      default_back false flag (codes "sideEffect") _ s.is_side_effect (flag_back s.is_side_effect),
    )

dynamic_back : (s : DynamicDependencyDescriptor) → dynamic_descriptor (dynamic_json s) ≡ Some s
dynamic_back s =
    rw (
      default_back dynamic_is.Import (choice dynamic_kinds) (codes "kind") _ s.kind (dynamic_kind_back s.kind),
      optional_back specifier_with_range (codes "typesSpecifier") _ s.types_specifier (there_back specifier_with_range specifier_json specifier_back s.types_specifier),
      default_back argument_is.Expr argument (codes "argument") _ s.argument (argument_back s.argument),
      required_back position_range (codes "argumentRange") _ s.argument_range refl,
      default_back attributes_are.None attributes (codes "importAttributes") _ s.import_attributes (attributes_back s.import_attributes),
    )

descriptor_back : (d : DependencyDescriptor) → descriptor (descriptor_json d) ≡ Some d
descriptor_back (descriptor_is.Static s) = rw (required_back (choice descriptor_types) (codes "type") (static_rows s) type_is.Static refl, static_back s)
descriptor_back (descriptor_is.Dynamic s) = rw (required_back (choice descriptor_types) (codes "type") (dynamic_rows s) type_is.Dynamic refl, dynamic_back s)

-- ---- the info

pub info_back : (i : ModuleInfo) → info_of (info_json i) ≡ Ok i
info_back i =
    let place = λ (o : Option SpecifierWithRange). there_back specifier_with_range specifier_json specifier_back o in
    rw (
      default_back [] (list_of descriptor) (codes "dependencies") _ i.dependencies (list_back descriptor descriptor_json descriptor_back i.dependencies),
      default_back [] (list_of jsdoc_import) (codes "jsdocImports") _ i.jsdoc_imports (list_back jsdoc_import jsdoc_json jsdoc_back i.jsdoc_imports),
      optional_back specifier_with_range (codes "jsxImportSource") _ i.jsx_import_source (place i.jsx_import_source),
      optional_back specifier_with_range (codes "jsxImportSourceTypes") _ i.jsx_import_source_types (place i.jsx_import_source_types),
      default_back false flag (codes "script") _ i.is_script (flag_back i.is_script),
      optional_back specifier_with_range (codes "selfTypesSpecifier") _ i.self_types_specifier (place i.self_types_specifier),
      optional_back specifier_with_range (codes "sourceMapUrl") _ i.source_map_url (place i.source_map_url),
      default_back [] (list_of reference) (codes "tsReferences") _ i.ts_references (list_back reference reference_json reference_back i.ts_references),
    )
