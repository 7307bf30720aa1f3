-- The names of an object's members.
use Rattle.std.specs.Prelude.{ℕ, ◌&&◌, Bool, true, false, List}
use Rattle.std.specs.List.{list_any}
use Rattle.std.specs.Str.{bytes_eq}
use Rattle.json.specs.Json as json
use Rattle.serde_json.specs.Data.{Data, null, boolean, number, string, array, object, Members, no_members, member}

-- each member has one of the names
abbrev pub names_among : List (List ℕ) → Members → Bool
names_among names no_members = true
names_among names (member k d ms) = list_any (bytes_eq k) names && names_among names ms

-- an object all of whose members have one of the names
abbrev pub has_names : List (List ℕ) → Data → Bool
has_names names null = false
has_names names (boolean b) = false
has_names names (number n) = false
has_names names (string s) = false
has_names names (array ds) = false
has_names names (object ms) = names_among names ms

-- the same of members as they were read, also of those of which there are more of one name
abbrev pub read_among : List (List ℕ) → json.Members → Bool
read_among names json.no_members = true
read_among names (json.member k j ms) = list_any (bytes_eq k) names && read_among names ms
