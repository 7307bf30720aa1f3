-- What is written as entries holds whole numbers alone, and doesn't nest deeper than the text of a value may.
use Rattle.std.proofs.Common.{◌≡◌, ℕ, suc, ◌<◌, ◌≤◌, List, [], ◌∷◌, map, Bool, true, false, true≢false, ◌&&◌, ◌||◌, sym, Option, Some, None, Ok, Err, option_map, refl, ap, ◌∙◌, arith}
use Rattle.std.specs.Prelude.{codes, ⊤}
use Rattle.std.proofs.lemmas.Bool.{and_parts}
use Rattle.std.specs.Cmp.Lexicographic.{slice_cmp}
use Rattle.std.specs.Ordering.{nat_cmp, match_ordering}
use Rattle.std.specs.declared.cmp.Ordering.{Ordering}
use Rattle.std.specs.declared.cmp.Ordering.TheVariants.{Less, Equal, Greater}
use Rattle.serde_json.specs.Data.{unsigned, negative, float, Data, null, boolean, number, string, array, object, Items, no_items, item, Members, no_members, member, put, depth, items_depth, members_depth}
use Rattle.serde_json.specs.Find.{get, get_member}
use Rattle.serde_json.specs.Read.{max_depth}
use Rattle.serde_json.specs.View.{items_of as data_items}
use Rattle.serde_json.specs.Written.{has_float, items_have_float, members_have_float}
use Rattle.json_forms.specs.Range.{pair_json}
use Rattle.json_forms.specs.Rows.{Rows, put_optional, members_from, object_of, list_json}
use Rattle.json_forms.specs.Whole.{is_whole, items_whole, members_whole}
use Rattle.source_io.specs.declared.types.Answer.{Answer}
use Rattle.source_io.specs.declared.types.Answer.TheVariants.{Load, Ensure}
use Rattle.source_io.specs.declared.types.CacheResponse.TheVariants.{Cached, Redirect as CachedElsewhere}
use Rattle.source_io.specs.declared.types.LoadResponse.TheVariants.{External, Redirect, Module as Sourced}
use Rattle.source_io.specs.declared.types.Purpose.{Purpose}
use Rattle.spec_base.specs.declared.load_error.LoadError.TheVariants.{ChecksumIntegrity, Other}
use Rattle.url.specs.Parts.{Parts, serialize}
use Rattle.world_upgrade.specs.EntryJson.{purpose_name, url_json, headers_json, number_json, answer_rows, entry_json}

-- data that holds whole numbers alone and nests so deep at most
pub record Fits (n : ℕ) (d : Data) : Type 0 where
  pub whole : is_whole d ≡ true
  pub nests : depth d ≤ n

abbrev pub MaybeFits : ℕ → Option Data → Type 0
MaybeFits n None = ⊤
MaybeFits n (Some d) = Fits n d

record MembersFit (n : ℕ) (ms : Members) : Type 0 where
  whole : members_whole ms ≡ true
  nests : members_depth ms ≤ n

abbrev pub AllFit : ℕ → Rows → Type 0
AllFit n [] = ⊤
AllFit n (row ∷ rows) = MaybeFits n row.1 × AllFit n rows

both_true : (a b : Bool) → a ≡ true → b ≡ true → (a && b) ≡ true
both_true a b p q = ap (λ x. x && b) p ∙ q

-- ---- members that are put

put_fits : (n : ℕ) (k : List ℕ) (d : Data) (ms : Members) → Fits n d → MembersFit n ms → MembersFit n (put k d ms)
put_fits n k d no_members fits all = record { whole = both_true _ _ fits.whole refl; nests = let h = fits.nests in omega arith }
put_fits n k d (member l e ms) fits all =
    let parts = and_parts (is_whole e) (members_whole ms) all.whole in
    let deep = all.nests in
    let here : depth e ≤ n = omega (arith, deep) in
    let rest : members_depth ms ≤ n = omega (arith, deep) in
    by (slice_cmp nat_cmp k l) parts.0 here (record { whole = parts.1; nests = rest }) (put_fits n k d ms fits (record { whole = parts.1; nests = rest }))
  where
    by : (o : Ordering) → is_whole e ≡ true → depth e ≤ n → MembersFit n ms → MembersFit n (put k d ms) → MembersFit n (match_ordering o (member k d (member l e ms)) (member l d ms) (member l e (put k d ms)))
    by Less whole here rest placed =
        record { whole = both_true _ _ fits.whole all.whole; nests = let h = fits.nests in let g = all.nests in omega (arith, h, g) }
    by Equal whole here rest placed = record { whole = both_true _ _ fits.whole rest.whole; nests = let h = fits.nests in let g = rest.nests in omega (arith, h, g) }
    by Greater whole here rest placed = record { whole = both_true _ _ whole placed.whole; nests = let g = placed.nests in omega (arith, here, g) }

put_one : (n : ℕ) (k : List ℕ) (o : Option Data) (ms : Members) → MaybeFits n o → MembersFit n ms → MembersFit n (put_optional k o ms)
put_one n k None ms fits all = all
put_one n k (Some d) ms fits all = put_fits n k d ms fits all

rows_fit : (n : ℕ) (ms : Members) (rows : Rows) → AllFit n rows → MembersFit n ms → MembersFit n (members_from ms rows)
rows_fit n ms [] fit all = all
rows_fit n ms (row ∷ rows) fit all = rows_fit n (put_optional row.0 row.1 ms) rows fit.1 (put_one n row.0 row.1 ms fit.0 all)

none_fit : (n : ℕ) → MembersFit n no_members
none_fit n = record { whole = refl; nests = omega arith }

-- the object of a table
pub object_fits : (n : ℕ) (rows : Rows) → AllFit n rows → Fits (suc n) (object_of rows)
object_fits n rows fit = let all = rows_fit n no_members rows fit (none_fit n) in record { whole = all.whole; nests = let h = all.nests in omega (arith, h) }

-- ---- members that stand

member_fits : (n : ℕ) (k : List ℕ) (ms : Members) → members_whole ms ≡ true → members_depth ms ≤ n → MaybeFits n (get_member k ms)
member_fits n k no_members whole deep = tt
member_fits n k (member l e ms) whole deep =
    let parts = and_parts (is_whole e) (members_whole ms) whole in
    by (slice_cmp nat_cmp k l) (record { whole = parts.0; nests = omega (arith, deep) }) (member_fits n k ms parts.1 (omega (arith, deep)))
  where
    by : (o : Ordering) → Fits n e → MaybeFits n (get_member k ms) → MaybeFits n (match_ordering o (get_member k ms) (Some e) (get_member k ms))
    by Less here rest = rest
    by Equal here rest = here
    by Greater here rest = rest

-- a member of an object
pub get_fits : (n : ℕ) (k : List ℕ) (d : Data) → is_whole d ≡ true → depth d ≤ suc n → MaybeFits n (get k d)
get_fits n k null whole deep = tt
get_fits n k (boolean b) whole deep = tt
get_fits n k (number x) whole deep = tt
get_fits n k (string s) whole deep = tt
get_fits n k (array ds) whole deep = tt
get_fits n k (object ms) whole deep = member_fits n k ms whole (omega (arith, deep))

-- ---- lists

items_fit : {A : Type 0} (n : ℕ) (f : A → Data) → ((x : A) → Fits n (f x)) → (xs : List A) → (items_whole (data_items (map f xs)) ≡ true) × (items_depth (data_items (map f xs)) ≤ n)
items_fit n f fit [] = (refl, omega arith)
items_fit n f fit (x ∷ xs) =
    let rest = items_fit n f fit xs in
    let here = (fit x).nests in
    (both_true _ _ (fit x).whole rest.0, omega (arith, here, rest.1))

list_fits : {A : Type 0} (n : ℕ) (f : A → Data) → ((x : A) → Fits n (f x)) → (xs : List A) → Fits (suc n) (list_json f xs)
list_fits n f fit xs = let all = items_fit n f fit xs in record { whole = all.0; nests = omega (arith, all.1) }

-- ---- entries

text_fits : (n : ℕ) (s : List ℕ) → Fits n (string s)
text_fits n s = record { whole = refl; nests = omega arith }

number_fits : (n : ℕ) (o : Option ℕ) → MaybeFits n (option_map number_json o)
number_fits n None = tt
number_fits n (Some x) = record { whole = refl; nests = omega arith }

headers_fit : (o : Option (List (List ℕ × List ℕ))) → MaybeFits 2 (option_map headers_json o)
headers_fit None = tt
headers_fit (Some hs) = list_fits 1 (λ h. pair_json (string h.0) (string h.1)) (λ h. record { whole = refl; nests = omega arith }) hs

answer_fits : (a : Answer) → AllFit 2 (answer_rows a)
answer_fits (Load (Ok (Some (Sourced content mtime name headers)))) =
    (text_fits 2 _, (text_fits 2 _, (text_fits 2 _, (headers_fit headers, (number_fits 2 mtime, tt)))))
answer_fits (Load (Ok (Some (External to)))) = (text_fits 2 _, (text_fits 2 _, tt))
answer_fits (Load (Ok (Some (Redirect to)))) = (text_fits 2 _, (text_fits 2 _, tt))
answer_fits (Load (Ok None)) = (text_fits 2 _, tt)
answer_fits (Load (Err (Other fault))) = (text_fits 2 _, (text_fits 2 _, (text_fits 2 _, tt)))
answer_fits (Load (Err (ChecksumIntegrity e))) = tt
answer_fits (Ensure (Ok (Some Cached))) = (text_fits 2 _, tt)
answer_fits (Ensure (Ok (Some (CachedElsewhere to)))) = (text_fits 2 _, (text_fits 2 _, tt))
answer_fits (Ensure (Ok None)) = (text_fits 2 _, tt)
answer_fits (Ensure (Err (Other fault))) = (text_fits 2 _, (text_fits 2 _, (text_fits 2 _, tt)))
answer_fits (Ensure (Err (ChecksumIntegrity e))) = tt

entry_fits : (e : Parts × Purpose × Answer) → Fits 3 (entry_json e)
unfolding entry_json
entry_fits e =
    let rows : Rows = (codes "specifier", Some (url_json e.0)) ∷ (codes "purpose", Some (string (purpose_name e.1))) ∷ answer_rows e.2 in
    let fit : AllFit 2 rows = (text_fits 2 (serialize e.0), (text_fits 2 (purpose_name e.1), answer_fits e.2)) in
    object_fits 2 rows fit

-- all entries
pub entries_fit : (es : List (Parts × Purpose × Answer)) → Fits 126 (list_json entry_json es)
entries_fit es = let all = list_fits 3 entry_json entry_fits es in record { whole = all.whole; nests = let h = all.nests in omega (arith, h) }

-- ---- no floats

neither : (a b : Bool) → a ≡ false → b ≡ false → (a || b) ≡ false
neither a b p q = ap (λ x. x || b) p ∙ q

-- where each number is whole, none is a float
mutual
  pub whole_no_float : (d : Data) → is_whole d ≡ true → has_float d ≡ false
  whole_no_float null h = refl
  whole_no_float (boolean b) h = refl
  whole_no_float (number (unsigned n)) h = refl
  whole_no_float (number (negative z)) h = refl
  whole_no_float (number (float x)) h = absurd (true≢false (sym h))
  whole_no_float (string s) h = refl
  whole_no_float (array ds) h = items_no_float ds h
  whole_no_float (object ms) h = members_no_float ms h

  items_no_float : (ds : Items) → items_whole ds ≡ true → items_have_float ds ≡ false
  items_no_float no_items h = refl
  items_no_float (item d ds) h = let parts = and_parts (is_whole d) (items_whole ds) h in neither _ _ (whole_no_float d parts.0) (items_no_float ds parts.1)

  members_no_float : (ms : Members) → members_whole ms ≡ true → members_have_float ms ≡ false
  members_no_float no_members h = refl
  members_no_float (member k d ms) h = let parts = and_parts (is_whole d) (members_whole ms) h in neither _ _ (whole_no_float d parts.0) (members_no_float ms parts.1)
