-- JSON objects as tables of their members.
use Rattle.std.specs.Prelude.{◌≡◌, ℕ, List, [], ◌∷◌, map, Bool, true, false, Option, Some, None}
use Rattle.std.specs.Bool.{⊤}
use Rattle.serde_json.specs.Data.{Data, boolean, array, object, Members, no_members, put}
use Rattle.serde_json.specs.View.{items_of}
use Rattle.serde_json.specs.Written.{has_float}

-- names of members, each with its value where it stands
abbrev pub Rows : Type 0
Rows = List (List ℕ × Option Data)

-- a member that stands where there is a value for it
abbrev pub put_optional : List ℕ → Option Data → Members → Members
put_optional k None ms = ms
put_optional k (Some d) ms = put k d ms

-- the members that stand of a table, each put at its place in the order of keys
abbrev pub members_from : Members → Rows → Members
members_from found [] = found
members_from found (row ∷ rows) = members_from (put_optional row.0 row.1 found) rows

-- the object of a table
abbrev pub object_of : Rows → Data
object_of rows = object (members_from no_members rows)

-- a list, by what each item is as JSON
abbrev pub list_json : {A : Type 0} → (A → Data) → List A → Data
list_json f xs = array (items_of (map f xs))

-- a list that stands where it isn't empty
abbrev pub if_any : {A : Type 0} → (A → Data) → List A → Option Data
if_any f [] = None
if_any f (x ∷ xs) = Some (list_json f (x ∷ xs))

-- a truth value that stands where it is true
abbrev pub if_true : Bool → Option Data
if_true true = Some (boolean true)
if_true false = None

-- a member that stands has no float, so that its text is settled
abbrev pub IsFree : Option Data → Type 0
IsFree None = ⊤
IsFree (Some d) = has_float d ≡ false

-- no member that stands has a float
abbrev pub AllFree : Rows → Type 0
AllFree [] = ⊤
AllFree (row ∷ rows) = IsFree row.1 × AllFree rows
