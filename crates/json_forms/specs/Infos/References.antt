-- The JSON of texts of a module that name others.
use Rattle.std.specs.Prelude.{ℕ, List, [], ◌∷◌, codes, Option, Some, option_map}
use Rattle.serde_json.specs.Data.{Data, string}
use Rattle.json_forms.specs.Form.{Form, text, choice, ◌>>=◌}
use Rattle.json_forms.specs.Member.{required, optional}
use Rattle.json_forms.specs.Range.{position_range, range_json}
use Rattle.json_forms.specs.Rows.{Rows, object_of}
use Rattle.module_info.specs.declared.references.SpecifierWithRange.{SpecifierWithRange}
use Rattle.module_info.specs.declared.references.TypeScriptTypesResolutionMode.{TypeScriptTypesResolutionMode}
use Rattle.module_info.specs.declared.references.TypeScriptTypesResolutionMode.TheVariants as mode_is
use Rattle.module_info.specs.declared.references.TypeScriptReference.{TypeScriptReference}
use Rattle.module_info.specs.declared.references.TypeScriptReference.TheVariants as reference_is
use Rattle.json_forms.specs.declared.infos.references.ReferenceType.{ReferenceType}
use Rattle.json_forms.specs.declared.infos.references.ReferenceType.TheVariants as type_is
use Rattle.module_info.specs.declared.references.JsDocImportInfo.{JsDocImportInfo}

-- ---- forms

abbrev pub specifier_with_range : Form SpecifierWithRange
specifier_with_range d = do
  content ← required text (codes "text") d
  range ← required position_range (codes "range") d
  Some (record { text = content; range = range })

abbrev pub modes : List (List ℕ × TypeScriptTypesResolutionMode)
modes = (codes "import", mode_is.Import) ∷ (codes "require", mode_is.Require) ∷ []

abbrev pub reference_types : List (List ℕ × ReferenceType)
reference_types = (codes "path", type_is.Path) ∷ (codes "types", type_is.Types) ∷ []

-- what a reference of a type is; only one to types is resolved in a mode
abbrev pub reference_of : ReferenceType → SpecifierWithRange → Form TypeScriptReference
reference_of type_is.Path specifier d = Some (reference_is.Path specifier)
reference_of type_is.Types specifier d = option_map (reference_is.Types specifier) (optional (choice modes) (codes "resolutionMode") d)

abbrev pub reference : Form TypeScriptReference
reference d = do
  type ← required (choice reference_types) (codes "type") d
  specifier ← specifier_with_range d
  reference_of type specifier d

abbrev pub jsdoc_import : Form JsDocImportInfo
jsdoc_import d = do
  specifier ← specifier_with_range d
  resolution_mode ← optional (choice modes) (codes "resolutionMode") d
  Some (record { specifier = specifier; resolution_mode = resolution_mode })

-- ---- what they are as JSON

abbrev pub specifier_rows : SpecifierWithRange → Rows
specifier_rows s = (codes "range", Some (range_json s.range)) ∷ (codes "text", Some (string s.text)) ∷ []

abbrev pub specifier_json : SpecifierWithRange → Data
specifier_json s = object_of (specifier_rows s)

abbrev pub mode_name : TypeScriptTypesResolutionMode → List ℕ
mode_name mode_is.Import = codes "import"
mode_name mode_is.Require = codes "require"

abbrev pub mode_json : TypeScriptTypesResolutionMode → Data
mode_json mode = string (mode_name mode)

abbrev pub path_rows : SpecifierWithRange → Rows
path_rows s = (codes "range", Some (range_json s.range)) ∷ (codes "text", Some (string s.text)) ∷ (codes "type", Some (string (codes "path"))) ∷ []

abbrev pub types_rows : SpecifierWithRange → Option TypeScriptTypesResolutionMode → Rows
types_rows s mode =
    (codes "range", Some (range_json s.range)) ∷ (codes "resolutionMode", option_map mode_json mode) ∷ (codes "text", Some (string s.text)) ∷ (codes "type", Some (string (codes "types"))) ∷ []

abbrev pub reference_json : TypeScriptReference → Data
reference_json (reference_is.Path s) = object_of (path_rows s)
reference_json (reference_is.Types s mode) = object_of (types_rows s mode)

abbrev pub jsdoc_rows : JsDocImportInfo → Rows
jsdoc_rows j =
    (codes "range", Some (range_json j.specifier.range)) ∷ (codes "resolutionMode", option_map mode_json j.resolution_mode) ∷ (codes "text", Some (string j.specifier.text)) ∷ []

abbrev pub jsdoc_json : JsDocImportInfo → Data
jsdoc_json j = object_of (jsdoc_rows j)
