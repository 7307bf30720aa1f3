-- The modules among the sources of a world file: their content, their headers and when they were changed.
use Rattle.std.specs.Prelude.{ℕ, List, Bool, not, codes, Option, Some, None, option_and_then}
use Rattle.std.specs.List.{list_all}
use Rattle.std.specs.Char.{is_ascii_uppercase}
use Rattle.serde_json.specs.Data.{Data}
use Rattle.serde_json.specs.Find.{get}
use Rattle.data_urls.specs.Base64.{base64_of}
use Rattle.json_forms.specs.Dictionary.{dictionary}
use Rattle.json_forms.specs.Form.{Form, text, whole, specifier, given, ◌>>=◌}
use Rattle.json_forms.specs.Member.{optional}
use Rattle.world_answers.specs.declared.world_modules.WorldModule.{WorldModule}

-- the bytes that a text is in base64
abbrev pub base64 : Form (List ℕ)
base64 d = option_and_then base64_of (text d)

-- exactly one of the members `text` and `base64` stands
abbrev pub text_or_base64 : Option Data → Option Data → Option (List ℕ)
text_or_base64 (Some t) None = text t
text_or_base64 None (Some b) = base64 b
text_or_base64 (Some t) (Some b) = None
text_or_base64 None None = None

-- the bytes of a module: its text in UTF-8, or what its base64 spells
abbrev pub content_of : Form (List ℕ)
content_of d = text_or_base64 (get (codes "text") d) (get (codes "base64") d)

-- a name without an ASCII letter in upper case
abbrev pub is_lower_case : List ℕ → Bool
is_lower_case name = list_all (λ b. not (is_ascii_uppercase b)) name

-- the headers of a module by their names, which stand in lower case
abbrev pub headers_of : Form (List (List ℕ × List ℕ))
headers_of d = do
  found ← dictionary text d
  lower ← given (list_all (λ h. is_lower_case h.0) found)
  Some found

-- a content, and beside it a name where it isn't the key, the headers that came with it, and when it was last changed
abbrev pub world_module : Form WorldModule
world_module d = do
  mtime ← optional whole (codes "mtime") d
  content ← content_of d
  name ← optional specifier (codes "specifier") d
  headers ← optional headers_of (codes "headers") d
  Some (record { content = content; mtime = mtime; specifier = name; headers = headers })
