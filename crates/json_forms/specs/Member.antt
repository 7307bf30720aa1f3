-- The members of a JSON object, by name.
pub use Rattle.json_documents.specs.Names.{has_names, names_among}
use Rattle.std.specs.Prelude.{ℕ, List, [], Option, Some, None, option_and_then, option_map}
use Rattle.serde_json.specs.Data.{Data}
use Rattle.serde_json.specs.Find.{get}
use Rattle.json_forms.specs.Form.{Form, list_of}

-- a member that must stand
abbrev pub required : {A : Type 0} → Form A → List ℕ → Form A
required f k d = option_and_then f (get k d)

abbrev pub if_there : {A : Type 0} → Form A → Option Data → Option (Option A)
if_there f None = Some None
if_there f (Some d) = option_map Some (f d)

-- a member that may be absent
abbrev pub optional : {A : Type 0} → Form A → List ℕ → Form (Option A)
optional f k d = if_there f (get k d)

abbrev pub or_else : {A : Type 0} → A → Form A → Option Data → Option A
or_else default f None = Some default
or_else default f (Some d) = f d

-- a member with a default
abbrev pub with_default : {A : Type 0} → A → Form A → List ℕ → Form A
with_default default f k d = or_else default f (get k d)

-- a list that is empty where it is absent
abbrev pub or_empty : {A : Type 0} → Form A → List ℕ → Form (List A)
or_empty f k d = with_default [] (list_of f) k d
