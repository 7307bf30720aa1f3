-- What is written as a table of members reads back.
use Rattle.std.proofs.Common.{◌≡◌, ℕ, List, [], ◌∷◌, map, Bool, true, false, true≢false, Option, Some, None, option_map, option_and_then, if◌then◌else◌, bytes_eq, refl, sym, ap, ◌∙◌, subst}
use Rattle.std.proofs.lemmas.Slice.Eq.{bytes_eq-Decides}
use Rattle.std.specs.Option.{option_or}
use Rattle.serde_json.specs.Data.{Data, Members, no_members, put}
use Rattle.serde_json.specs.Find.{get_member}
use Rattle.serde_json.specs.View.{items_of as data_items}
use Rattle.serde_json.proofs.Views.{get_member-put, get_member-put_other}
use Rattle.json_forms.specs.Form.{Form, flag, items_of, list_of}
use Rattle.json_forms.specs.Member.{or_else, if_there, with_default, required, optional}
use Rattle.json_forms.specs.Rows.{Rows, put_optional, members_from, object_of, if_true, if_any}

-- ---- members of a table

-- what a table has at a key
abbrev pub found_in : List ℕ → Option Data → Rows → Option Data
found_in q start [] = start
found_in q start (row ∷ rows) = found_in q (if bytes_eq q row.0 then option_or row.1 start else start) rows

put_at : (b : Bool) (q k : List ℕ) (d : Data) (ms : Members) → bytes_eq q k ≡ b → get_member q (put k d ms) ≡ (if b then Some d else get_member q ms)
put_at true q k d ms e = subst (λ x. get_member x (put k d ms) ≡ Some d) (sym ((bytes_eq-Decides q k).0 e)) (get_member-put k d ms)
put_at false q k d ms e = get_member-put_other q k d ms (λ same. true≢false (sym ((bytes_eq-Decides q k).1 same) ∙ e))

either_way : {A : Type 0} (b : Bool) (x : A) → x ≡ (if b then x else x)
either_way true x = refl
either_way false x = refl

optional_at : (q k : List ℕ) (o : Option Data) (ms : Members) → get_member q (put_optional k o ms) ≡ (if bytes_eq q k then option_or o (get_member q ms) else get_member q ms)
optional_at q k None ms = either_way (bytes_eq q k) (get_member q ms)
optional_at q k (Some d) ms = put_at _ q k d ms refl

pub get-members_from : (q : List ℕ) (ms : Members) (rows : Rows) → get_member q (members_from ms rows) ≡ found_in q (get_member q ms) rows
get-members_from q ms [] = refl
get-members_from q ms (row ∷ rows) = get-members_from q (put_optional row.0 row.1 ms) rows ∙ ap (λ o. found_in q o rows) (optional_at q row.0 row.1 ms)

pub default_back : {A : Type 0} (default : A) (f : Form A) (q : List ℕ) (rows : Rows) (v : A) → or_else default f (found_in q None rows) ≡ Some v → with_default default f q (object_of rows) ≡ Some v
default_back default f q rows v h = ap (or_else default f) (get-members_from q no_members rows) ∙ h

pub required_back : {A : Type 0} (f : Form A) (q : List ℕ) (rows : Rows) (v : A) → option_and_then f (found_in q None rows) ≡ Some v → required f q (object_of rows) ≡ Some v
required_back f q rows v h = ap (option_and_then f) (get-members_from q no_members rows) ∙ h

pub optional_back : {A : Type 0} (f : Form A) (q : List ℕ) (rows : Rows) (o : Option A) → if_there f (found_in q None rows) ≡ Some o → optional f q (object_of rows) ≡ Some o
optional_back f q rows o h = ap (if_there f) (get-members_from q no_members rows) ∙ h

-- ---- values of members

pub flag_back : (b : Bool) → or_else false flag (option_or (if_true b) None) ≡ Some b
flag_back true = refl
flag_back false = refl

pub there_back : {A : Type 0} (f : Form A) (json : A → Data) (same : (x : A) → f (json x) ≡ Some x) (o : Option A) → if_there f (option_or (option_map json o) None) ≡ Some o
there_back f json same None = refl
there_back f json same (Some x) = ap (option_map Some) (same x)

pub items_back : {A : Type 0} (f : Form A) (json : A → Data) (same : (x : A) → f (json x) ≡ Some x) (xs : List A) → items_of f (data_items (map json xs)) ≡ Some xs
items_back f json same [] = refl
items_back f json same (x ∷ xs) = rw (same x, items_back f json same xs)

pub list_back : {A : Type 0} (f : Form A) (json : A → Data) (same : (x : A) → f (json x) ≡ Some x) (xs : List A) → or_else [] (list_of f) (option_or (if_any json xs) None) ≡ Some xs
list_back f json same [] = refl
list_back f json same (x ∷ xs) = items_back f json same (x ∷ xs)
