-- Objects of any keys, as maps from texts.
use Rattle.std.specs.Prelude.{ℕ, List, [], ◌∷◌, Option, Some, option_and_then, option_map}
use Rattle.serde_json.specs.Data.{Data, object, Members, no_members, member}
use Rattle.serde_json.specs.Find.{as_object}
use Rattle.json_forms.specs.Form.{Form}

-- the members in key order, each value of the form
abbrev pub pairs_of : {A : Type 0} → Form A → Members → Option (List (List ℕ × A))
pairs_of f no_members = Some []
pairs_of f (member k d ms) = option_and_then (λ v. option_map (λ es. (k, v) ∷ es) (pairs_of f ms)) (f d)

-- an object of any keys, each of whose values has the form
abbrev pub dictionary : {A : Type 0} → Form A → Form (List (List ℕ × A))
dictionary f d = option_and_then (pairs_of f) (as_object d)

abbrev pub members_json : {A : Type 0} → (A → Data) → List (List ℕ × A) → Members
members_json json [] = no_members
members_json json (e ∷ es) = member e.0 (json e.1) (members_json json es)

-- the object of a map
abbrev pub dictionary_json : {A : Type 0} → (A → Data) → List (List ℕ × A) → Data
dictionary_json json es = object (members_json json es)
