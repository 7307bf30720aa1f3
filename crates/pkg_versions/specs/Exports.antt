-- The exports of a package: a text is the export `.`, and in an object the text values count.
use Rattle.std.specs.Prelude.{ℕ, List, [], ◌∷◌, codes, bytes_eq, Option, Some, None, option_and_then, if◌then◌else◌}
use Rattle.serde_json.specs.Data.{Data, null, boolean, number, string, array, object, Members, no_members, member}
use Rattle.serde_json.specs.Find.{as_str, get}
use Rattle.spec_base.specs.Options.{by_option}

-- a pair that stands where there is a text
abbrev pub with_text : List ℕ → Option (List ℕ) → List (List ℕ × List ℕ) → List (List ℕ × List ℕ)
with_text name value rest = by_option value rest (λ text. (name, text) ∷ rest)

-- the members whose values are texts
abbrev pub text_members : Members → List (List ℕ × List ℕ)
text_members no_members = []
text_members (member k d ms) = with_text k (as_str d) (text_members ms)

-- names with what each leads to, in the order of names
abbrev pub exports_of : Data → List (List ℕ × List ℕ)
exports_of null = []
exports_of (boolean b) = []
exports_of (number n) = []
exports_of (string s) = (codes ".", s) ∷ []
exports_of (array ds) = []
exports_of (object ms) = text_members ms

-- what one name leads to
abbrev pub export_of : Data → List ℕ → Option (List ℕ)
export_of null name = None
export_of (boolean b) name = None
export_of (number n) name = None
export_of (string s) name = if bytes_eq name (codes ".") then Some s else None
export_of (array ds) name = None
export_of (object ms) name = option_and_then as_str (get name (object ms))
