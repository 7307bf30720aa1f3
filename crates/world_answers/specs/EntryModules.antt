-- The modules among the answers of a world file of version 2: their headers as pairs, and their names.
use Rattle.std.specs.Prelude.{ℕ, List, [], ◌++◌, map, fold, codes, Option, Some, None, option_map}
use Rattle.std.specs.BTreeMap.{insert_entry, is_at}
use Rattle.std.specs.Char.{to_ascii_lowercase}
use Rattle.std.specs.Map.{lookup, remove_entry}
use Rattle.json_forms.specs.Form.{Form, text, whole, specifier, pair, list_of, ◌>>=◌}
use Rattle.json_forms.specs.Member.{optional}
use Rattle.spec_base.specs.Shown.{text_cmp}
use Rattle.world_answers.specs.WorldModules.{content_of}
use Rattle.world_answers.specs.declared.entry_modules.Header.{Header}
use Rattle.world_answers.specs.declared.world_modules.WorldModule.{WorldModule}

-- a header is a pair of texts: its name, which counts in ASCII lower case, and its value
abbrev pub header : Form Header
header d = do
  parts ← pair d
  name ← text parts.0
  value ← text parts.1
  Some (record { name = map to_ascii_lowercase name; value = value })

-- a value behind those of the same name
abbrev pub joined : Option (List ℕ) → List ℕ → List ℕ
joined None value = value
joined (Some before) value = (before ++ codes ", ") ++ value

-- headers by name, with one more
abbrev pub with_header : List (List ℕ × List ℕ) → Header → List (List ℕ × List ℕ)
with_header found h =
    insert_entry text_cmp (remove_entry (is_at (text_cmp h.name)) found) h.name (joined (lookup (is_at (text_cmp h.name)) found) h.value)

-- headers by name, the values of one name joined in their order
abbrev pub headers_from : List (List ℕ × List ℕ) → List Header → List (List ℕ × List ℕ)
headers_from found hs = fold with_header found hs

-- a content, and beside it a name where it isn't the specifier, the headers that came with it, and when it was last changed
abbrev pub entry_module : Form WorldModule
entry_module d = do
  mtime ← optional whole (codes "mtime") d
  content ← content_of d
  name ← optional specifier (codes "name") d
  headers ← optional (list_of header) (codes "headers") d
  Some (record {
    content = content;
    mtime = mtime;
    specifier = name;
    headers = option_map (headers_from []) headers;
  })
