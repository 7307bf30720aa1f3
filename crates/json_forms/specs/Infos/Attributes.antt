-- The JSON of import attributes.
use Rattle.std.specs.Prelude.{ℕ, List, [], ◌∷◌, codes, Option, Some, None, option_map, if◌then◌else◌}
use Rattle.std.specs.Str.{bytes_eq}
use Rattle.serde_json.specs.Data.{Data, null, boolean, number, string, array, object}
use Rattle.json_forms.specs.Form.{Form, text, given, ◌>>=◌}
use Rattle.json_forms.specs.Member.{has_names, required}
use Rattle.json_forms.specs.Dictionary.{dictionary, dictionary_json}
use Rattle.json_forms.specs.Rows.{Rows, object_of}
use Rattle.module_info.specs.declared.attributes.ImportAttribute.{ImportAttribute}
use Rattle.module_info.specs.declared.attributes.ImportAttribute.TheVariants as attribute_is
use Rattle.module_info.specs.declared.attributes.ImportAttributes.{ImportAttributes}
use Rattle.module_info.specs.declared.attributes.ImportAttributes.TheVariants as attributes_are

-- an object whose one member is `known`
abbrev pub known : {A : Type 0} → Form A → Form A
known f d = do
  alone ← given (has_names (codes "known" ∷ []) d)
  required f (codes "known") d

-- the text `unknown`, or an object whose one member is `known`
abbrev pub unknown_or : {A : Type 0} → A → Form A → Form A
unknown_or unknown f null = None
unknown_or unknown f (boolean b) = None
unknown_or unknown f (number n) = None
unknown_or unknown f (string s) = if bytes_eq s (codes "unknown") then Some unknown else None
unknown_or unknown f (array ds) = None
unknown_or unknown f (object ms) = known f (object ms)

abbrev pub attribute : Form ImportAttribute
attribute d = unknown_or attribute_is.Unknown (λ e. option_map attribute_is.Known (text e)) d

abbrev pub attributes : Form ImportAttributes
attributes d = unknown_or attributes_are.Unknown (λ e. option_map attributes_are.Known (dictionary attribute e)) d

abbrev pub known_rows : Data → Rows
known_rows d = (codes "known", Some d) ∷ []

abbrev pub attribute_json : ImportAttribute → Data
attribute_json attribute_is.Unknown = string (codes "unknown")
attribute_json (attribute_is.Known t) = object_of (known_rows (string t))

-- no member where no attributes are written
abbrev pub attributes_json : ImportAttributes → Option Data
attributes_json attributes_are.None = None
attributes_json attributes_are.Unknown = Some (string (codes "unknown"))
attributes_json (attributes_are.Known entries) = Some (object_of (known_rows (dictionary_json attribute_json entries)))
