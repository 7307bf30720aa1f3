-- The keys and the values of an object, each read by itself, are its entries.
use Rattle.std.proofs.Common.{◌≡◌, ℕ, List, [], ◌∷◌, ◌++◌, Option, Some, None, option_map, refl}
use Rattle.std.specs.Prelude.{option_and_then}
use Rattle.std.specs.List.{zip}
use Rattle.serde_json.specs.Data.{Data, Members, no_members, member}
use Rattle.url.specs.Parts.{Parts}
use Rattle.json_forms.specs.Form.{Form, url_of}
use Rattle.json_forms.specs.Keyed.{entries_of}
use Rattle.json_forms.proofs.Options.{option_map-push}
use Rattle.world_answers.specs.SourceMembers.{specifiers_of, values_of}

pub specifiers_of-push : (k : List ℕ) (d : Data) (ms : Members) (u : Parts) (done : List Parts) → url_of k ≡ Some u → option_map (λ us. done ++ us) (specifiers_of (member k d ms)) ≡ option_map (λ us. (done ++ u ∷ []) ++ us) (specifiers_of ms)
specifiers_of-push k d ms u done named = rw named (option_map-push done u (specifiers_of ms))

pub values_of-push : {A : Type 0} (f : Form A) (k : List ℕ) (d : Data) (ms : Members) (v : A) (done : List A) → f d ≡ Some v → option_map (λ vs. done ++ vs) (values_of f (member k d ms)) ≡ option_map (λ vs. (done ++ v ∷ []) ++ vs) (values_of f ms)
values_of-push f k d ms v done read = rw read (option_map-push done v (values_of f ms))

module _ {A : Type 0} where
  -- keys beside values, where both are there
  abbrev pub both : Option (List Parts) → Option (List A) → Option (List (Parts × A))
  both us vs = option_and_then (λ us. option_map (λ vs. zip us vs) vs) us

  both_one : (u : Option Parts) (v : Option A) (us : Option (List Parts)) (vs : Option (List A))
      → option_and_then (λ u. option_and_then (λ v. option_map (λ es. (u, v) ∷ es) (both us vs)) v) u
      ≡ both (option_and_then (λ u. option_map (λ us. u ∷ us) us) u) (option_and_then (λ v. option_map (λ vs. v ∷ vs) vs) v)
  both_one None v us vs = refl
  both_one (Some u) None None vs = refl
  both_one (Some u) None (Some us) vs = refl
  both_one (Some u) (Some v) None vs = refl
  both_one (Some u) (Some v) (Some us) None = refl
  both_one (Some u) (Some v) (Some us) (Some vs) = refl

  pub entries_apart : (f : Form A) (ms : Members) → entries_of f ms ≡ both (specifiers_of ms) (values_of f ms)
  entries_apart f no_members = refl
  entries_apart f (member k d ms) = rw (entries_apart f ms) (both_one (url_of k) (f d) (specifiers_of ms) (values_of f ms))
