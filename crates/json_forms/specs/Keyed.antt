-- Objects whose keys are specifiers.
use Rattle.std.specs.Prelude.{ℕ, List, [], ◌∷◌, Bool, true, ◌&&◌, not, map, Option, Some, None, option_and_then, option_map, if◌then◌else◌}
use Rattle.std.specs.List.{list_any}
use Rattle.std.specs.Str.{bytes_eq}
use Rattle.serde_json.specs.Data.{Members, no_members, member}
use Rattle.serde_json.specs.Find.{as_object}
use Rattle.url.specs.Parts.{Parts, serialize}
use Rattle.json_forms.specs.Form.{Form, url_of}
use Rattle.json_forms.specs.Member.{with_default}

-- the members in key order, each key a URL and each value of the form
abbrev pub entries_of : {A : Type 0} → Form A → Members → Option (List (Parts × A))
entries_of f no_members = Some []
entries_of f (member k d ms) = option_and_then (λ u. option_and_then (λ v. option_map (λ es. (u, v) ∷ es) (entries_of f ms)) (f d)) (url_of k)

-- no text comes twice, nor is one of those that were seen
abbrev pub no_repeats : List (List ℕ) → List (List ℕ) → Bool
no_repeats seen [] = true
no_repeats seen (t ∷ ts) = not (list_any (bytes_eq t) seen) && no_repeats (t ∷ seen) ts

abbrev pub if_distinct : {A : Type 0} → List (Parts × A) → Option (List (Parts × A))
if_distinct es = if no_repeats [] (map (λ e. serialize e.0) es) then Some es else None

-- an object from specifiers to values of one form, no two of whose keys are the same URL
abbrev pub keyed : {A : Type 0} → Form A → Form (List (Parts × A))
keyed f d = option_and_then if_distinct (option_and_then (entries_of f) (as_object d))

-- such an object, empty where it is absent
abbrev pub keyed_or_empty : {A : Type 0} → Form A → List ℕ → Form (List (Parts × A))
keyed_or_empty f k d = with_default [] (keyed f) k d
