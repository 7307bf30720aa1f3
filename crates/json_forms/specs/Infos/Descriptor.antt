-- The JSON of imports of a module.
use Rattle.std.specs.Prelude.{ℕ, List, [], ◌∷◌, false, codes, Some, option_map}
use Rattle.serde_json.specs.Data.{Data, string}
use Rattle.json_forms.specs.Form.{Form, text, flag, choice, ◌>>=◌}
use Rattle.json_forms.specs.Member.{required, optional, with_default}
use Rattle.json_forms.specs.Range.{position_range, range_json}
use Rattle.json_forms.specs.Infos.Attributes.{attributes, attributes_json}
use Rattle.json_forms.specs.Infos.Argument.{argument, argument_json}
use Rattle.json_forms.specs.Infos.References.{specifier_with_range, specifier_json}
use Rattle.json_forms.specs.Rows.{Rows, object_of, if_true}
use Rattle.module_info.specs.declared.attributes.ImportAttributes.TheVariants as attributes_are
use Rattle.module_info.specs.declared.argument.DynamicArgument.TheVariants as argument_is
use Rattle.module_info.specs.declared.types.StaticDependencyKind.{StaticDependencyKind}
use Rattle.module_info.specs.declared.types.StaticDependencyKind.TheVariants as static_is
use Rattle.module_info.specs.declared.types.StaticDependencyDescriptor.{StaticDependencyDescriptor}
use Rattle.module_info.specs.declared.types.DynamicDependencyKind.{DynamicDependencyKind}
use Rattle.module_info.specs.declared.types.DynamicDependencyKind.TheVariants as dynamic_is
use Rattle.module_info.specs.declared.types.DynamicDependencyDescriptor.{DynamicDependencyDescriptor}
use Rattle.module_info.specs.declared.types.DependencyDescriptor.{DependencyDescriptor}
use Rattle.module_info.specs.declared.types.DependencyDescriptor.TheVariants as descriptor_is
use Rattle.json_forms.specs.declared.infos.descriptor.DescriptorType.{DescriptorType}
use Rattle.json_forms.specs.declared.infos.descriptor.DescriptorType.TheVariants as type_is

-- ---- forms

abbrev pub static_kinds : List (List ℕ × StaticDependencyKind)
static_kinds =
    (codes "import", static_is.Import)
    ∷ (codes "importDefer", static_is.ImportDefer)
    ∷ (codes "importSource", static_is.ImportSource)
    ∷ (codes "importType", static_is.ImportType)
    ∷ (codes "importEquals", static_is.ImportEquals)
    ∷ (codes "export", static_is.Export)
    ∷ (codes "exportType", static_is.ExportType)
    ∷ (codes "exportEquals", static_is.ExportEquals)
    ∷ (codes "maybeTsModuleAugmentation", static_is.MaybeTsModuleAugmentation)
    ∷ []

abbrev pub dynamic_kinds : List (List ℕ × DynamicDependencyKind)
dynamic_kinds =
    (codes "import", dynamic_is.Import)
    ∷ (codes "importDefer", dynamic_is.ImportDefer)
    ∷ (codes "importSource", dynamic_is.ImportSource)
    ∷ (codes "require", dynamic_is.Require)
    ∷ []

-- an import by a declaration; its members with other names are passed over
abbrev pub static_descriptor : Form StaticDependencyDescriptor
static_descriptor d = do
  kind ← required (choice static_kinds) (codes "kind") d
  types_specifier ← optional specifier_with_range (codes "typesSpecifier") d
  specifier ← required text (codes "specifier") d
  specifier_range ← required position_range (codes "specifierRange") d
  import_attributes ← with_default attributes_are.None attributes (codes "importAttributes") d
  is_side_effect ← with_default false flag (codes "sideEffect") d
  Some (record {
    kind = kind;
    types_specifier = types_specifier;
    specifier = specifier;
    specifier_range = specifier_range;
    import_attributes = import_attributes;
    is_side_effect = is_side_effect;
  })

-- an import by a call; its members with other names are passed over
abbrev pub dynamic_descriptor : Form DynamicDependencyDescriptor
dynamic_descriptor d = do
  kind ← with_default dynamic_is.Import (choice dynamic_kinds) (codes "kind") d
  types_specifier ← optional specifier_with_range (codes "typesSpecifier") d
  argument ← with_default argument_is.Expr argument (codes "argument") d
  argument_range ← required position_range (codes "argumentRange") d
  import_attributes ← with_default attributes_are.None attributes (codes "importAttributes") d
  Some (record {
    kind = kind;
    types_specifier = types_specifier;
    argument = argument;
    argument_range = argument_range;
    import_attributes = import_attributes;
  })

abbrev pub descriptor_types : List (List ℕ × DescriptorType)
descriptor_types = (codes "static", type_is.Static) ∷ (codes "dynamic", type_is.Dynamic) ∷ []

abbrev pub descriptor_of : DescriptorType → Form DependencyDescriptor
descriptor_of type_is.Static d = option_map descriptor_is.Static (static_descriptor d)
descriptor_of type_is.Dynamic d = option_map descriptor_is.Dynamic (dynamic_descriptor d)

-- one import, by its type
abbrev pub descriptor : Form DependencyDescriptor
descriptor d = do
  type ← required (choice descriptor_types) (codes "type") d
  descriptor_of type d

-- ---- what they are as JSON

abbrev pub static_kind_name : StaticDependencyKind → List ℕ
static_kind_name static_is.Import = codes "import"
static_kind_name static_is.ImportDefer = codes "importDefer"
static_kind_name static_is.ImportSource = codes "importSource"
static_kind_name static_is.ImportType = codes "importType"
static_kind_name static_is.ImportEquals = codes "importEquals"
static_kind_name static_is.Export = codes "export"
static_kind_name static_is.ExportType = codes "exportType"
static_kind_name static_is.ExportEquals = codes "exportEquals"
static_kind_name static_is.MaybeTsModuleAugmentation = codes "maybeTsModuleAugmentation"

abbrev pub static_kind_json : StaticDependencyKind → Data
static_kind_json kind = string (static_kind_name kind)

abbrev pub dynamic_kind_name : DynamicDependencyKind → List ℕ
dynamic_kind_name dynamic_is.Import = codes "import"
dynamic_kind_name dynamic_is.ImportDefer = codes "importDefer"
dynamic_kind_name dynamic_is.ImportSource = codes "importSource"
dynamic_kind_name dynamic_is.Require = codes "require"

abbrev pub dynamic_kind_json : DynamicDependencyKind → Data
dynamic_kind_json kind = string (dynamic_kind_name kind)

abbrev pub static_rows : StaticDependencyDescriptor → Rows
static_rows s =
    (codes "importAttributes", attributes_json s.import_attributes)
    ∷ (codes "kind", Some (static_kind_json s.kind))
    ∷ (codes "sideEffect", if_true s.is_side_effect)
    ∷ (codes "specifier", Some (string s.specifier))
    ∷ (codes "specifierRange", Some (range_json s.specifier_range))
    ∷ (codes "type", Some (string (codes "static")))
    ∷ (codes "typesSpecifier", option_map specifier_json s.types_specifier)
    ∷ []

abbrev pub static_json : StaticDependencyDescriptor → Data
static_json s = object_of (static_rows s)

abbrev pub dynamic_rows : DynamicDependencyDescriptor → Rows
dynamic_rows s =
    (codes "argument", argument_json s.argument)
    ∷ (codes "argumentRange", Some (range_json s.argument_range))
    ∷ (codes "importAttributes", attributes_json s.import_attributes)
    ∷ (codes "kind", Some (dynamic_kind_json s.kind))
    ∷ (codes "type", Some (string (codes "dynamic")))
    ∷ (codes "typesSpecifier", option_map specifier_json s.types_specifier)
    ∷ []

abbrev pub dynamic_json : DynamicDependencyDescriptor → Data
dynamic_json s = object_of (dynamic_rows s)

abbrev pub descriptor_json : DependencyDescriptor → Data
descriptor_json (descriptor_is.Static s) = static_json s
descriptor_json (descriptor_is.Dynamic s) = dynamic_json s
