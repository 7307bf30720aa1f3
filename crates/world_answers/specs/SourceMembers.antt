-- The keys and the values of an object, each read by itself.
use Rattle.std.specs.Prelude.{List, [], ◌∷◌, Option, Some, option_and_then, option_map}
use Rattle.serde_json.specs.Data.{Members, no_members, member}
use Rattle.url.specs.Parts.{Parts}
use Rattle.json_forms.specs.Form.{Form, url_of}

-- the specifiers that the keys are, in their order
abbrev pub specifiers_of : Members → Option (List Parts)
specifiers_of no_members = Some []
specifiers_of (member k d ms) = option_and_then (λ u. option_map (λ us. u ∷ us) (specifiers_of ms)) (url_of k)

-- the values, each of the form, in the order of the keys
abbrev pub values_of : {A : Type 0} → Form A → Members → Option (List A)
values_of f no_members = Some []
values_of f (member k d ms) = option_and_then (λ v. option_map (λ vs. v ∷ vs) (values_of f ms)) (f d)
