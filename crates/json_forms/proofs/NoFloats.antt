-- What is written as a table has no float, so that its text is settled.
use Rattle.std.proofs.Common.{◌≡◌, ℕ, List, [], ◌∷◌, ◌++◌, map, Bool, true, false, ◌||◌, Option, Some, None, Ordering, Less, Equal, Greater, nat_cmp, refl}
use Rattle.std.specs.Cmp.Lexicographic.{slice_cmp}
use Rattle.std.specs.Ordering.{match_ordering}
use Rattle.serde_json.specs.Data.{Data, Members, no_members, member, put}
use Rattle.serde_json.specs.View.{items_of, items_view, view}
use Rattle.serde_json.specs.declared.value.Value.{Value}
use Rattle.serde_json.specs.Written.{has_float, items_have_float, members_have_float}
use Rattle.json_forms.specs.Rows.{Rows, put_optional, members_from, object_of, list_json, if_true, if_any, IsFree, AllFree}

neither : (a b : Bool) → a ≡ false → b ≡ false → (a || b) ≡ false
neither true b p q = p
neither false b p q = q

left_false : (a b : Bool) → (a || b) ≡ false → a ≡ false
left_false true b p = p
left_false false b p = refl

right_false : (a b : Bool) → (a || b) ≡ false → b ≡ false
right_false true b p = absurd cc
right_false false b p = p

put_at : (o : Ordering) (k l : List ℕ) (d e : Data) (ms more : Members) → has_float d ≡ false → has_float e ≡ false → members_have_float ms ≡ false → members_have_float more ≡ false
    → members_have_float (match_ordering o (member k d (member l e ms)) (member l d ms) (member l e more)) ≡ false
put_at Less k l d e ms more p q r s = neither _ _ p (neither _ _ q r)
put_at Equal k l d e ms more p q r s = neither _ _ p r
put_at Greater k l d e ms more p q r s = neither _ _ q s

pub put_no_float : (k : List ℕ) (d : Data) (ms : Members) → has_float d ≡ false → members_have_float ms ≡ false → members_have_float (put k d ms) ≡ false
put_no_float k d no_members p q = neither _ _ p refl
put_no_float k d (member l e ms) p q =
    let rest = right_false (has_float e) _ q in
    put_at (slice_cmp nat_cmp k l) k l d e ms (put k d ms) p (left_false (has_float e) _ q) rest (put_no_float k d ms p rest)

optional_no_float : (k : List ℕ) (o : Option Data) (ms : Members) → IsFree o → members_have_float ms ≡ false → members_have_float (put_optional k o ms) ≡ false
optional_no_float k None ms p q = q
optional_no_float k (Some d) ms p q = put_no_float k d ms p q

members_no_float : (found : Members) (rows : Rows) → AllFree rows → members_have_float found ≡ false → members_have_float (members_from found rows) ≡ false
members_no_float found [] p q = q
members_no_float found (row ∷ rows) p q = members_no_float (put_optional row.0 row.1 found) rows p.1 (optional_no_float row.0 row.1 found p.0 q)

-- an object of a table
pub object_no_float : (rows : Rows) → AllFree rows → has_float (object_of rows) ≡ false
object_no_float rows p = members_no_float no_members rows p refl

items_no_float : {A : Type 0} (f : A → Data) → ((x : A) → has_float (f x) ≡ false) → (xs : List A) → items_have_float (items_of (map f xs)) ≡ false
items_no_float f p [] = refl
items_no_float f p (x ∷ xs) = neither _ _ (p x) (items_no_float f p xs)

-- one more item of a list
pub one_more_no_float : (vs : List Value) (v : Value) → items_have_float (items_view vs) ≡ false → has_float (view v) ≡ false → items_have_float (items_view (vs ++ v ∷ [])) ≡ false
one_more_no_float [] v p q = neither _ _ q refl
one_more_no_float (x ∷ xs) v p q = neither _ _ (left_false (has_float (view x)) _ p) (one_more_no_float xs v (right_false (has_float (view x)) _ p) q)

-- a list
pub list_no_float : {A : Type 0} (f : A → Data) → ((x : A) → has_float (f x) ≡ false) → (xs : List A) → has_float (list_json f xs) ≡ false
list_no_float f p xs = items_no_float f p xs

-- members that stand on a condition
pub flag_free : (b : Bool) → IsFree (if_true b)
flag_free true = refl
flag_free false = tt

pub list_free : {A : Type 0} (f : A → Data) → ((x : A) → has_float (f x) ≡ false) → (xs : List A) → IsFree (if_any f xs)
list_free f p [] = tt
list_free f p (x ∷ xs) = items_no_float f p (x ∷ xs)
