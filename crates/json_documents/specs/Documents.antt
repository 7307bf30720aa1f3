-- The data that a JSON value read with no copies stands for.
use Rattle.std.specs.Prelude.{ℕ, ◌≡◌, ◌&&◌, Bool, true, false, Option, Some, None, option_and_then, option_map, Result, Ok, Err, ⊤, List, [], ◌∷◌, map, is_some}
use Rattle.std.specs.Borrow.{Bor}
use Rattle.std.specs.Slice.Iter.{iter_rest}
use Rattle.spec_base.specs.declared.refusal.Refusal.{Refusal}
use Rattle.spec_base.specs.declared.refusal.Refusal.TheVariants.{Memory, Is}
use Rattle.json.specs.Json as json
use Rattle.json.specs.Json.{value}
use Rattle.json.specs.Lex.{tokens}
use Rattle.json.specs.Value.{value_view}
use Rattle.json.specs.declared.value.Value.{Value}
use Rattle.std.specs.declared.alloc.Global.{Global}
use Rattle.serde_json.specs.Data.{Num, Data, null, boolean, number, string, array, object, Items, no_items, item, Members, no_members, member, put}
use Rattle.serde_json.specs.Read.{max_depth, number_of, read}
use Rattle.json_documents.specs.Whole.{is_whole, was_whole}
use Rattle.serde_json.specs.View as serde
use Rattle.json_documents.specs.declared.document.Document.{Document}
use Rattle.json_documents.specs.declared.items.JsonItems.{JsonItems}
use Rattle.json_documents.specs.declared.items.JsonItems.TheVariants.{Read as ReadItems, Owned as OwnedItems}
use Rattle.json_documents.specs.declared.value.Json.{Json}
use Rattle.json_documents.specs.declared.value.Json.TheVariants.{Read, Owned}

-- a number too large for a float stands for nothing
abbrev pub number_or_null : Option Num → Data
number_or_null None = null
number_or_null (Some n) = number n

-- what it stands for; of two members of one name the last counts
abbrev mutual
  pub data_of : json.Json → Data
  data_of json.null = null
  data_of (json.boolean b) = boolean b
  data_of (json.number s) = number_or_null (number_of s)
  data_of (json.string s) = string s
  data_of (json.array js) = array (items_of js)
  data_of (json.object ms) = object (members_of ms no_members)

  pub items_of : json.Items → Items
  items_of json.no_items = no_items
  items_of (json.item j js) = item (data_of j) (items_of js)

  -- the members put in among those that were found before
  pub members_of : json.Members → Members → Members
  members_of json.no_members found = found
  members_of (json.member k j ms) found = members_of ms (put k (data_of j) found)

-- each number in it stands for one
abbrev mutual
  pub is_data : json.Json → Bool
  is_data json.null = true
  is_data (json.boolean b) = true
  is_data (json.number s) = is_some (number_of s)
  is_data (json.string s) = true
  is_data (json.array js) = items_are_data js
  is_data (json.object ms) = members_are_data ms

  pub items_are_data : json.Items → Bool
  items_are_data json.no_items = true
  items_are_data (json.item j js) = is_data j && items_are_data js

  pub members_are_data : json.Members → Bool
  members_are_data json.no_members = true
  members_are_data (json.member k j ms) = is_data j && members_are_data ms

-- what a value stands for
abbrev pub view : Json → Data
view (Read v) = data_of (value_view v.now)
view (Owned v) = serde.view v.now

abbrev pub document_view : Document → Data
document_view d = data_of (value_view d.value)

-- the document stands for the expected data, and a text is refused only where none is expected, unless there was no memory
abbrev pub ReadsDocument : {E : Type 0} → Result Document (Refusal E) → Option Data → Type 0
ReadsDocument (Ok d) expected = expected ≡ Some (document_view d)
ReadsDocument (Err Memory) expected = ⊤
ReadsDocument (Err (Is e)) expected = expected ≡ None

-- the value that a text is, as it was read
abbrev pub read_value : List ℕ → Option json.Json
read_value text = option_and_then (λ p. json.if_last p.0 p.1) (value max_depth (tokens text))

-- the same of a text of whole numbers; nothing is given exactly where one isn't whole
abbrev pub ReadsWhole : {E : Type 0} → Result (Option Document) (Refusal E) → List ℕ → Type 0
ReadsWhole (Ok (Some d)) text = (read text ≡ Some (document_view d)) × (is_whole (document_view d) ≡ true)
ReadsWhole (Ok None) text = option_map was_whole (read_value text) ≡ Some false
ReadsWhole (Err Memory) text = ⊤
ReadsWhole (Err (Is e)) text = read text ≡ None

-- a value that is the text's, and none only where the text has none
abbrev pub IsParsed : {E : Type 0} → Result (Value Global) (Refusal E) → List ℕ → Type 0
IsParsed (Ok v) text = value max_depth (tokens text) ≡ Some (value_view v, [])
IsParsed (Err Memory) text = ⊤
IsParsed (Err (Is e)) text = read text ≡ None

-- what the items that are left stand for
abbrev pub items_left : JsonItems → List Data
items_left (ReadItems i) = map (λ v. data_of (value_view v)) (iter_rest i)
items_left (OwnedItems i) = map serde.view (iter_rest i)

-- members by name
abbrev pub named : List (Bor (List ℕ) × Json) → Members
named [] = no_members
named (e ∷ es) = member e.0.now (view e.1) (named es)
