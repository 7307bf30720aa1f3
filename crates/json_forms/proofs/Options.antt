-- One more item read, of a list that is read from left to right.
use Rattle.std.proofs.Common.{◌≡◌, ℕ, List, [], ◌∷◌, ◌++◌, Option, Some, None, option_map, refl, sym, ap, append_assoc}
use Rattle.serde_json.specs.Data.{Data, Items, item, Members, member}
use Rattle.url.specs.Parts.{Parts}
use Rattle.json_forms.specs.Form.{Form, items_of, url_of}
use Rattle.json_forms.specs.Keyed.{entries_of}

pub option_map-push : {A : Type 0} (done : List A) (x : A) (o : Option (List A)) → option_map (λ es. done ++ es) (option_map (λ es. x ∷ es) o) ≡ option_map (λ es. (done ++ x ∷ []) ++ es) o
option_map-push done x None = refl
option_map-push done x (Some es) = ap Some (sym (append_assoc done (x ∷ []) es))

pub entries_of-push : {A : Type 0} (f : Form A) (k : List ℕ) (d : Data) (ms : Members) (u : Parts) (v : A) (done : List (Parts × A))
    → url_of k ≡ Some u → f d ≡ Some v
    → option_map (λ es. done ++ es) (entries_of f (member k d ms)) ≡ option_map (λ es. (done ++ (u, v) ∷ []) ++ es) (entries_of f ms)
entries_of-push f k d ms u v done named read = rw (named, read) (option_map-push done (u, v) (entries_of f ms))

pub items_of-push : {A : Type 0} (f : Form A) (d : Data) (ds : Items) (v : A) (done : List A)
    → f d ≡ Some v
    → option_map (λ vs. done ++ vs) (items_of f (item d ds)) ≡ option_map (λ vs. (done ++ v ∷ []) ++ vs) (items_of f ds)
items_of-push f d ds v done read = rw read (option_map-push done v (items_of f ds))
