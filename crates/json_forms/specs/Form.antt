-- The forms that JSON values have: each gives the value that some data stands for.
use Rattle.std.specs.Prelude.{ℕ, List, [], ◌∷◌, Bool, true, false, Option, Some, None, option_and_then, option_map, Ok, Err}
use Rattle.std.specs.Map.{lookup}
use Rattle.std.specs.Str.{bytes_eq}
use Rattle.serde_json.specs.Data.{Data, Items, no_items, item}
use Rattle.serde_json.specs.Find.{as_bool, as_number, as_u64, as_str, as_array}
use Rattle.url.specs.Parser.{Parsed, parse_url}
use Rattle.url.specs.Parts.{Parts}

-- what data stands for, where it has the form
abbrev pub Form : Type 0 → Type 0
Form A = Data → Option A

-- a whole number from 0 to 18446744073709551615
abbrev pub whole : Form ℕ
whole d = option_and_then as_u64 (as_number d)

-- a truth value
abbrev pub flag : Form Bool
flag d = as_bool d

abbrev pub text : Form (List ℕ)
text d = as_str d

abbrev parsed : Parsed Parts → Option Parts
parsed (Ok url) = Some url
parsed (Err e) = None

-- the URL that a text is
unfoldable pub url_of : List ℕ → Option Parts
url_of s = parsed (parse_url None s)

abbrev pub specifier : Form Parts
specifier d = option_and_then url_of (as_str d)

-- each item has the form
abbrev pub items_of : {A : Type 0} → Form A → Items → Option (List A)
items_of f no_items = Some []
items_of f (item d ds) = option_and_then (λ v. option_map (λ vs. v ∷ vs) (items_of f ds)) (f d)

-- a list whose items have one form
abbrev pub list_of : {A : Type 0} → Form A → Form (List A)
list_of f d = option_and_then (items_of f) (as_array d)

-- the items of a list of exactly two
abbrev pub two : Items → Option (Data × Data)
two no_items = None
two (item a no_items) = None
two (item a (item b no_items)) = Some (a, b)
two (item a (item b (item c ds))) = None

abbrev pub pair : Form (Data × Data)
pair d = option_and_then two (as_array d)

-- a name of a table, and what it stands for there
abbrev pub choice : {A : Type 0} → List (List ℕ × A) → Form A
choice table d = option_and_then (λ s. lookup (bytes_eq s) table) (as_str d)

-- one form after another
infixl 10 ◌>>=◌
abbrev pub ◌>>=◌ : {A B : Type 0} → Option A → (A → Option B) → Option B
o >>= f = option_and_then f o

-- nothing, unless the test holds
abbrev pub given : Bool → Option (Unit {0})
given true = Some tt
given false = None
