-- The JSON of what a dynamic import is called with.
use Rattle.std.specs.Prelude.{ℕ, List, [], ◌∷◌, codes, Option, Some, None, option_map}
use Rattle.serde_json.specs.Data.{Data, null, boolean, number, string, array, object}
use Rattle.json_forms.specs.Form.{Form, text, items_of, choice, ◌>>=◌}
use Rattle.json_forms.specs.Member.{required}
use Rattle.json_forms.specs.Rows.{Rows, object_of, list_json}
use Rattle.module_info.specs.declared.argument.DynamicArgument.{DynamicArgument}
use Rattle.module_info.specs.declared.argument.DynamicArgument.TheVariants as argument_is
use Rattle.module_info.specs.declared.argument.DynamicTemplatePart.{DynamicTemplatePart}
use Rattle.module_info.specs.declared.argument.DynamicTemplatePart.TheVariants as part_is
use Rattle.json_forms.specs.declared.infos.argument.PartType.{PartType}
use Rattle.json_forms.specs.declared.infos.argument.PartType.TheVariants as type_is

-- ---- forms

abbrev pub part_types : List (List ℕ × PartType)
part_types = (codes "string", type_is.String) ∷ (codes "expr", type_is.Expr) ∷ []

abbrev pub part_of : PartType → Form DynamicTemplatePart
part_of type_is.String d = option_map part_is.String (required text (codes "value") d)
part_of type_is.Expr d = Some part_is.Expr

abbrev pub part : Form DynamicTemplatePart
part d = do
  type ← required (choice part_types) (codes "type") d
  part_of type d

-- a text, or a list of parts; what is neither is absent
abbrev pub argument : Form DynamicArgument
argument null = None
argument (boolean b) = None
argument (number n) = None
argument (string s) = Some (argument_is.String s)
argument (array ds) = option_map argument_is.Template (items_of part ds)
argument (object ms) = None

-- ---- what they are as JSON

abbrev pub text_part_rows : List ℕ → Rows
text_part_rows t = (codes "type", Some (string (codes "string"))) ∷ (codes "value", Some (string t)) ∷ []

abbrev pub expr_part_rows : Rows
expr_part_rows = (codes "type", Some (string (codes "expr"))) ∷ []

abbrev pub part_json : DynamicTemplatePart → Data
part_json (part_is.String t) = object_of (text_part_rows t)
part_json part_is.Expr = object_of expr_part_rows

-- no member where it is neither a text nor a template
abbrev pub argument_json : DynamicArgument → Option Data
argument_json argument_is.Expr = None
argument_json (argument_is.String t) = Some (string t)
argument_json (argument_is.Template parts) = Some (list_json part_json parts)
