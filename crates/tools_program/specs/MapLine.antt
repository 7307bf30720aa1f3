-- The line of an import map: an object with its base and the map.
use Rattle.std.specs.Prelude.{ℕ, List, [], ◌∷◌, codes, Option, Some, None, Result, Ok, Err, option_and_then, if◌then◌else◌}
use Rattle.std.specs.Str.{is_utf8}
use Rattle.serde_json.specs.Find.{get}
use Rattle.serde_json.specs.Read.{read}
use Rattle.json_forms.specs.Form.{Form, given, specifier, ◌>>=◌}
use Rattle.json_forms.specs.Member.{has_names, required}
use Rattle.import_map.specs.Reading.{map_of}
use Rattle.import_map.specs.declared.errors.MapRefusal.{MapRefusal}
use Rattle.import_map.specs.declared.map.ImportMap.{ImportMap}

-- what is no refusal
abbrev pub ok_of : Result ImportMap MapRefusal → Option ImportMap
ok_of (Ok map) = Some map
ok_of (Err refusal) = None

-- the map over its base, and no other member
unfoldable pub map_form : Form ImportMap
map_form d = do
  known ← given (has_names (codes "base" ∷ codes "map" ∷ []) d)
  base ← required specifier (codes "base") d
  value ← get (codes "map") d
  ok_of (map_of value base)

-- the map that some bytes are, where they are such an object: a JSON text in UTF-8
unfoldable pub map_of_line : List ℕ → Option ImportMap
map_of_line bytes = if is_utf8 bytes then option_and_then map_form (read bytes) else None
