-- What is read with no copies stands for the data that the text is: as a whole, member by member, and by name.
use Rattle.std.proofs.Common.{◌≡◌, ◌&&◌, ℕ, List, [], ◌∷◌, map, Bool, true, false, cond, Option, None, Some, Ordering, Less, Equal, Greater, option_map, option_and_then, bytes_eq, is_some, string_cmp, ◌++◌, append-nil, append_assoc, subst, refl, sym, ap, ◌∙◌}
use Rattle.std.proofs.lemmas.Bool.{true≢false}
use Rattle.std.proofs.lemmas.Map.Text.{is_eq-slice_cmp}
use Rattle.std.proofs.lemmas.Slice.Eq.{bytes_eq-Decides}
use Rattle.std.specs.List.{list_any}
use Rattle.std.specs.Borrow.{Bor}
use Rattle.std.specs.Cmp.Lexicographic.{slice_cmp}
use Rattle.std.specs.Ordering.{is_eq, nat_cmp, match_ordering}
use Rattle.std.specs.Prelude.{String}
use Rattle.std.specs.List.Sorted.{IsStrictlySortedBy}
use Rattle.std.specs.Map.{keys_of}
use Rattle.std.specs.declared.alloc.Global.{Global}
use Rattle.serde_json.specs.declared.value.Value as serde_json
use Rattle.std.specs.BTreeMap.{insert_entry}
use Rattle.json.specs.Json as json
use Rattle.json.specs.Token.{Token}
use Rattle.json.specs.Find as found
use Rattle.json.specs.Value.{value_view, items_view}
use Rattle.json.specs.declared.value.Value.{Value}
use Rattle.serde_json.specs.Data.{Num, Data, number, array, object, Items, no_items, item, Members, no_members, member, put}
use Rattle.serde_json.specs.Find.{as_u64, get, get_member}
use Rattle.serde_json.specs.Read as whole
use Rattle.serde_json.specs.View as serde
use Rattle.serde_json.proofs.Views.{get_member-put, get_member-put_other, put_last}
use Rattle.json_documents.specs.Documents.{data_of, items_of, members_of, is_data, items_are_data, members_are_data, named, number_or_null, view}
use Rattle.json_documents.specs.Names.{names_among, read_among}
use Rattle.json_documents.specs.Whole.{is_whole, items_whole, members_whole, was_whole, items_were_whole, members_were_whole}
use Rattle.json_documents.specs.declared.value.Json.{Json}

-- ---- the whole

number_is : (n : Option Num) → option_map number n ≡ cond (is_some n) (Some (number_or_null n)) None
number_is None = refl
number_is (Some n) = refl

mapped : {A B : Type 0} (f : A → B) (b : Bool) (a : A) → option_map f (cond b (Some a) None) ≡ cond b (Some (f a)) None
mapped f true a = refl
mapped f false a = refl

one_item : (b c : Bool) (d : Data) (ds : Items) → option_and_then (λ x. option_map (item x) (cond c (Some ds) None)) (cond b (Some d) None) ≡ cond (b && c) (Some (item d ds)) None
one_item true c d ds = mapped (item d) c ds
one_item false c d ds = refl

one_member : (b c : Bool) (d : Data) (more : Data → Option Members) (ms : Members) → more d ≡ cond c (Some ms) None → option_and_then more (cond b (Some d) None) ≡ cond (b && c) (Some ms) None
one_member true c d more ms e = e
one_member false c d more ms e = refl

mutual
  pub of_json_is : (j : json.Json) → whole.of_json j ≡ cond (is_data j) (Some (data_of j)) None
  of_json_is json.null = refl
  of_json_is (json.boolean b) = refl
  of_json_is (json.number s) = number_is (whole.number_of s)
  of_json_is (json.string s) = refl
  of_json_is (json.array js) = ap (option_map array) (of_items_is js) ∙ mapped array (items_are_data js) (items_of js)
  of_json_is (json.object ms) = ap (option_map object) (of_members_is ms no_members) ∙ mapped object (members_are_data ms) (members_of ms no_members)

  of_items_is : (js : json.Items) → whole.of_items js ≡ cond (items_are_data js) (Some (items_of js)) None
  of_items_is json.no_items = refl
  of_items_is (json.item j js) =
      ap (λ o. option_and_then (λ d. option_map (item d) o) (whole.of_json j)) (of_items_is js)
      ∙ ap (option_and_then (λ d. option_map (item d) (cond (items_are_data js) (Some (items_of js)) None))) (of_json_is j)
      ∙ one_item (is_data j) (items_are_data js) (data_of j) (items_of js)

  of_members_is : (ms : json.Members) (before : Members) → whole.of_members ms before ≡ cond (members_are_data ms) (Some (members_of ms before)) None
  of_members_is json.no_members before = refl
  of_members_is (json.member k j ms) before =
      ap (option_and_then (λ d. whole.of_members ms (put k d before))) (of_json_is j)
      ∙ one_member (is_data j) (members_are_data ms) (data_of j) (λ d. whole.of_members ms (put k d before)) (members_of ms (put k (data_of j) before)) (of_members_is ms (put k (data_of j) before))

-- the tokens of a text after its value
abbrev last_of : Option (json.Json × List Token) → Option Data
last_of o = option_and_then whole.of_json (option_and_then (λ p. json.if_last p.0 p.1) o)

pub read_last : (o : Option (json.Json × List Token)) (j : json.Json) (rest : List Token) → o ≡ Some (j, rest) → rest ≡ [] → last_of o ≡ cond (is_data j) (Some (data_of j)) None
read_last o j rest e none = ap last_of e ∙ ap (λ ts. last_of (Some (j, ts))) none ∙ of_json_is j

-- ---- by name

abbrev either : Option Data → Option Data → Option Data
either None o = o
either (Some d) o = Some d

get_put : (q k : List ℕ) (d : Data) (ms : Members) → get_member q (put k d ms) ≡ cond (bytes_eq k q) (Some d) (get_member q ms)
get_put q k d ms = by (bytes_eq k q) refl
  where
    by : (b : Bool) → bytes_eq k q ≡ b → get_member q (put k d ms) ≡ cond b (Some d) (get_member q ms)
    by true e = ap (λ t. get_member t (put k d ms)) (sym ((bytes_eq-Decides k q).0 e)) ∙ get_member-put k d ms
    by false e = get_member-put_other q k d ms (λ same. true≢false (sym ((bytes_eq-Decides k q).1 (sym same)) ∙ e))

later : (o : Option json.Json) (b : Bool) (j : json.Json) (before : Option Data) → either (option_map data_of o) (cond b (Some (data_of j)) before) ≡ either (option_map data_of (found.later_or o (cond b (Some j) None))) before
later None true j before = refl
later None false j before = refl
later (Some i) b j before = refl

get_members : (q : List ℕ) (ms : json.Members) (before : Members) → get_member q (members_of ms before) ≡ either (option_map data_of (found.get_member q ms)) (get_member q before)
get_members q json.no_members before = refl
get_members q (json.member k j ms) before =
    get_members q ms (put k (data_of j) before)
    ∙ ap (either (option_map data_of (found.get_member q ms))) (get_put q k (data_of j) before)
    ∙ later (found.get_member q ms) (bytes_eq k q) j (get_member q before)

alone : (o : Option Data) → either o None ≡ o
alone None = refl
alone (Some d) = refl

numbers_have_none : (q : List ℕ) (n : Option Num) → None ≡ get q (number_or_null n)
numbers_have_none q None = refl
numbers_have_none q (Some n) = refl

pub get_is : (q : List ℕ) (j : json.Json) → option_map data_of (found.get q j) ≡ get q (data_of j)
get_is q json.null = refl
get_is q (json.boolean b) = refl
get_is q (json.number s) = numbers_have_none q (whole.number_of s)
get_is q (json.string s) = refl
get_is q (json.array js) = refl
get_is q (json.object ms) = sym (get_members q ms no_members ∙ alone (option_map data_of (found.get_member q ms)))

-- ---- items and members

pub same_items : {A : Type 0} (vs : List (Value A)) → serde.items_of (map (λ v. data_of (value_view v)) vs) ≡ items_of (items_view vs)
same_items [] = refl
same_items (v ∷ vs) = ap (item (data_of (value_view v))) (same_items vs)

named_by : (o : Ordering) (a b c : List (Bor (List ℕ) × Json)) → named (match_ordering o a b c) ≡ match_ordering o (named a) (named b) (named c)
named_by Less a b c = refl
named_by Equal a b c = refl
named_by Greater a b c = refl

abbrev pub name_cmp : Bor (List ℕ) → Bor (List ℕ) → Ordering
name_cmp a b = slice_cmp nat_cmp a.now b.now

pub named_insert : (es : List (Bor (List ℕ) × Json)) (k : Bor (List ℕ)) (v : Json) → named (insert_entry name_cmp es k v) ≡ put k.now (view v) (named es)
named_insert [] k v = refl
named_insert (e ∷ es) k v =
    named_by (name_cmp k e.0) ((k, v) ∷ e ∷ es) ((e.0, v) ∷ es) (e ∷ insert_entry name_cmp es k v)
    ∙ ap (λ ms. match_ordering (name_cmp k e.0) (member k.now (view v) (member e.0.now (view e.1) (named es))) (member e.0.now (view v) (named es)) (member e.0.now (view e.1) ms)) (named_insert es k v)

-- ---- members that own their texts

abbrev Entry : Type 0
Entry = String Global × serde_json.Value

-- members put in one after another
abbrev pub put_all : Members → Members → Members
put_all no_members before = before
put_all (member k d ms) before = put_all ms (put k d before)

put_sorted : (done left : List Entry) → IsStrictlySortedBy string_cmp (keys_of (done ++ left)) → put_all (serde.members_view left) (serde.members_view done) ≡ serde.members_view (done ++ left)
put_sorted done [] up = ap serde.members_view (sym (append-nil done))
put_sorted done (e ∷ left) up =
    ap (put_all (serde.members_view left)) (put_last done e left up)
    ∙ put_sorted (done ++ e ∷ []) left (subst (λ es. IsStrictlySortedBy string_cmp (keys_of es)) (sym (append_assoc done (e ∷ []) left)) up)
    ∙ ap serde.members_view (append_assoc done (e ∷ []) left)

-- those that are in order are what they are
pub all_put : (es : List Entry) → IsStrictlySortedBy string_cmp (keys_of es) → put_all (serde.members_view es) no_members ≡ serde.members_view es
all_put es up = put_sorted [] es up

-- ---- names

any_again : (b c : Bool) → b && c ≡ b && (b && c)
any_again true c = refl
any_again false c = refl

any_swapped : (a b c : Bool) → a && (b && c) ≡ b && (a && c)
any_swapped true true c = refl
any_swapped true false c = refl
any_swapped false true c = refl
any_swapped false false c = refl

-- names that are among some, after one more member was put in
among_put : (names : List (List ℕ)) (k : List ℕ) (d : Data) (ms : Members) → names_among names (put k d ms) ≡ list_any (bytes_eq k) names && names_among names ms
among_put names k d no_members = refl
among_put names k d (member l e ms) = by (slice_cmp nat_cmp k l) refl (among_put names k d ms)
  where
    a : List ℕ → Bool
    a t = list_any (bytes_eq t) names

    by : (o : Ordering) → slice_cmp nat_cmp k l ≡ o → names_among names (put k d ms) ≡ a k && names_among names ms
        → names_among names (match_ordering o (member k d (member l e ms)) (member l d ms) (member l e (put k d ms))) ≡ a k && (a l && names_among names ms)
    by Less e h = refl
    by Equal e h =
        let same : k ≡ l = (bytes_eq-Decides k l).0 (sym (is_eq-slice_cmp k l) ∙ ap is_eq e) in
        any_again (a l) (names_among names ms) ∙ ap (λ t. a t && (a l && names_among names ms)) (sym same)
    by Greater e h = ap (λ b. a l && b) h ∙ any_swapped (a l) (a k) (names_among names ms)

pub among_read : (names : List (List ℕ)) (ms : json.Members) (before : Members) → names_among names (members_of ms before) ≡ read_among names ms && names_among names before
among_read names json.no_members before = refl
among_read names (json.member k j ms) before =
    among_read names ms (put k (data_of j) before)
    ∙ ap (λ b. read_among names ms && b) (among_put names k (data_of j) before)
    ∙ any_swapped (read_among names ms) (list_any (bytes_eq k) names) (names_among names before)
    ∙ all_and (list_any (bytes_eq k) names) (read_among names ms) (names_among names before)
  where
    all_and : (a b c : Bool) → a && (b && c) ≡ (a && b) && c
    all_and true b c = refl
    all_and false b c = refl

pub among_all : (names : List (List ℕ)) (ms : json.Members) → read_among names ms ≡ names_among names (members_of ms no_members)
among_all names ms = by (read_among names ms) ∙ sym (among_read names ms no_members)
  where
    by : (b : Bool) → b ≡ b && true
    by true = refl
    by false = refl

-- ---- whole numbers

and_first : (a b : Bool) → a && b ≡ true → a ≡ true
and_first true b e = refl
and_first false b e = e

and_second : (a b : Bool) → a && b ≡ true → b ≡ true
and_second true b e = e
and_second false b e = absurd (true≢false (sym e))

and_both : (a b : Bool) → a ≡ true → b ≡ true → a && b ≡ true
and_both a b x y = ap (λ c. c && b) x ∙ y

whole_number : (n : Option Num) → is_some (option_and_then as_u64 n) ≡ true → is_whole (number_or_null n) ≡ true
whole_number None e = refl
whole_number (Some n) e = e

whole_put : (k : List ℕ) (d : Data) (ms : Members) → is_whole d ≡ true → members_whole ms ≡ true → members_whole (put k d ms) ≡ true
whole_put k d no_members one all = and_both (is_whole d) true one refl
whole_put k d (member l e ms) one all = by (slice_cmp nat_cmp k l) (whole_put k d ms one (and_second (is_whole e) (members_whole ms) all))
  where
    by : (o : Ordering) → members_whole (put k d ms) ≡ true → members_whole (match_ordering o (member k d (member l e ms)) (member l d ms) (member l e (put k d ms))) ≡ true
    by Less h = and_both (is_whole d) (is_whole e && members_whole ms) one all
    by Equal h = and_both (is_whole d) (members_whole ms) one (and_second (is_whole e) (members_whole ms) all)
    by Greater h = and_both (is_whole e) (members_whole (put k d ms)) (and_first (is_whole e) (members_whole ms) all) h

mutual
  pub whole_read : (j : json.Json) → was_whole j ≡ true → is_whole (data_of j) ≡ true
  whole_read json.null e = refl
  whole_read (json.boolean b) e = refl
  whole_read (json.number s) e = whole_number (whole.number_of s) e
  whole_read (json.string s) e = refl
  whole_read (json.array js) e = items_read js e
  whole_read (json.object ms) e = members_read ms no_members e refl

  items_read : (js : json.Items) → items_were_whole js ≡ true → items_whole (items_of js) ≡ true
  items_read json.no_items e = refl
  items_read (json.item j js) e =
      and_both (is_whole (data_of j)) (items_whole (items_of js)) (whole_read j (and_first (was_whole j) (items_were_whole js) e)) (items_read js (and_second (was_whole j) (items_were_whole js) e))

  members_read : (ms : json.Members) (before : Members) → members_were_whole ms ≡ true → members_whole before ≡ true → members_whole (members_of ms before) ≡ true
  members_read json.no_members before e all = all
  members_read (json.member k j ms) before e all =
      members_read ms (put k (data_of j) before) (and_second (was_whole j) (members_were_whole ms) e)
      (whole_put k (data_of j) before (whole_read j (and_first (was_whole j) (members_were_whole ms) e)) all)

some_number : (n : Option Num) → is_some (option_and_then as_u64 n) ≡ true → is_some n ≡ true
some_number None e = e
some_number (Some n) e = refl

-- whole numbers are in range
mutual
  pub data_whole : (j : json.Json) → was_whole j ≡ true → is_data j ≡ true
  data_whole json.null e = refl
  data_whole (json.boolean b) e = refl
  data_whole (json.number s) e = some_number (whole.number_of s) e
  data_whole (json.string s) e = refl
  data_whole (json.array js) e = items_data js e
  data_whole (json.object ms) e = members_data ms e

  items_data : (js : json.Items) → items_were_whole js ≡ true → items_are_data js ≡ true
  items_data json.no_items e = refl
  items_data (json.item j js) e = and_both (is_data j) (items_are_data js) (data_whole j (and_first (was_whole j) (items_were_whole js) e)) (items_data js (and_second (was_whole j) (items_were_whole js) e))

  members_data : (ms : json.Members) → members_were_whole ms ≡ true → members_are_data ms ≡ true
  members_data json.no_members e = refl
  members_data (json.member k j ms) e =
      and_both (is_data j) (members_are_data ms) (data_whole j (and_first (was_whole j) (members_were_whole ms) e)) (members_data ms (and_second (was_whole j) (members_were_whole ms) e))

-- ---- copies

abbrev pub items_before : List serde_json.Value → Items → Items
items_before [] rest = rest
items_before (v ∷ vs) rest = item (serde.view v) (items_before vs rest)

pub all_before : (vs : List serde_json.Value) → items_before vs no_items ≡ serde.items_view vs
all_before [] = refl
all_before (v ∷ vs) = ap (item (serde.view v)) (all_before vs)

pub one_before : (vs : List serde_json.Value) (v : serde_json.Value) (rest : Items) → items_before vs (item (serde.view v) rest) ≡ items_before (vs ++ v ∷ []) rest
one_before [] v rest = refl
one_before (w ∷ vs) v rest = ap (item (serde.view w)) (one_before vs v rest)
