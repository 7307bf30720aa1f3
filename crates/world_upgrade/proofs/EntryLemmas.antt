-- An answer that is written as an entry is read as it was.
use Rattle.std.proofs.Common.{◌≡◌, ℕ, List, [], ◌∷◌, ◌++◌, map, Bool, true, false, ◌&&◌, not, Option, Some, None, Ok, Err, option_map, option_and_then, refl, sym, ap, ◌∙◌, subst, arith, append_assoc, append-nil, bytes_eq}
use Rattle.std.specs.Prelude.{codes, fold}
use Rattle.std.proofs.lemmas.Bool.{and_parts}
use Rattle.std.proofs.lemmas.Bool.Decides.{nat_tests}
use Rattle.std.specs.BTreeMap.{insert_entry, is_at}
use Rattle.std.specs.Char.{to_ascii_lowercase, is_ascii_uppercase}
use Rattle.std.specs.Cmp.Lexicographic.{nat_list_cmp_total, slice_cmp}
use Rattle.std.specs.List.{AllByRecursion, list_all, list_any}
use Rattle.std.specs.List.Sorted.{IsStrictlySortedBy}
use Rattle.std.specs.Map.{lookup, keys_of, remove_entry}
use Rattle.std.specs.Ordering.{nat_cmp, match_ordering}
use Rattle.std.specs.declared.cmp.Ordering.{Ordering}
use Rattle.std.specs.declared.cmp.Ordering.TheVariants.{Less, Equal, Greater}
use Rattle.data_urls.specs.Base64.{base64_of}
use Rattle.serde_json.specs.Data.{Data, string, Members, no_members, member, put}
use Rattle.serde_json.specs.Find.{get}
use Rattle.serde_json.specs.View.{items_of as data_items}
use Rattle.spec_base.specs.Shown.{text_cmp}
use Rattle.spec_base.specs.declared.refusal.Fault.{Fault}
use Rattle.spec_base.specs.declared.load_error.LoadError.{LoadError}
use Rattle.spec_base.specs.declared.load_error.LoadError.TheVariants.{ChecksumIntegrity, Other}
use Rattle.json_forms.specs.Form.{Form, text, whole, specifier, choice, list_of, items_of, url_of, given, ◌>>=◌}
use Rattle.json_forms.specs.Member.{required, optional, has_names, names_among, if_there}
use Rattle.json_forms.specs.Range.{pair_json}
use Rattle.json_forms.specs.Rows.{Rows, put_optional, members_from, object_of}
use Rattle.json_forms.proofs.RoundTrip.{found_in, get-members_from, required_back, optional_back, there_back}
use Rattle.source_io.specs.Answers.{is_ensure}
use Rattle.source_io.specs.declared.types.Answer.{Answer}
use Rattle.source_io.specs.declared.types.Answer.TheVariants.{Load, Ensure}
use Rattle.source_io.specs.declared.types.CacheResponse.TheVariants.{Cached, Redirect as CachedElsewhere}
use Rattle.source_io.specs.declared.types.LoadResponse.{LoadResponse}
use Rattle.source_io.specs.declared.types.LoadResponse.TheVariants.{External, Redirect, Module as Sourced}
use Rattle.source_io.specs.declared.types.Purpose.{Purpose}
use Rattle.source_io.specs.declared.types.Purpose.TheVariants.{LoadUse, EnsureUse, LoadReload, EnsureReload, LoadOnly}
use Rattle.url.specs.Parts.{Parts, serialize}
use Rattle.world_answers.specs.AnswerEntries.{purposes, loaded_names, loaded_source, loaded_answer, held_kinds, held_names, held_of, held_answer, entry_answer, answer_entry}
use Rattle.world_answers.specs.EntryModules.{header, with_header, headers_from, joined, entry_module}
use Rattle.world_answers.specs.WorldModules.{content_of, text_or_base64, is_lower_case}
use Rattle.world_answers.specs.WorldSources.{source_kind, fault_of, fits_key, answer_of_source}
use Rattle.world_answers.specs.declared.answer_entries.HeldKind.{HeldKind}
use Rattle.world_answers.specs.declared.answer_entries.HeldKind.TheVariants as held_is
use Rattle.world_answers.specs.declared.entry_modules.Header.{Header}
use Rattle.world_answers.specs.declared.world_modules.WorldModule.{WorldModule}
use Rattle.world_answers.specs.declared.world_sources.Source.{Source}
use Rattle.world_answers.specs.declared.world_sources.Source.TheVariants as source_is
use Rattle.world_answers.specs.declared.world_sources.SourceKind.{SourceKind}
use Rattle.world_answers.specs.declared.world_sources.SourceKind.TheVariants as kind_is
use Rattle.world_answers.proofs.Ascending.{all_below, none_there, none_removed, put_last}
use Rattle.world_upgrade.specs.EntryJson.{purpose_name, url_json, answer_rows, base64_text, headers_json, number_json, entry_json}
use Rattle.world_upgrade.specs.Told.{AreLower, IsToldAnswer, IsTold, IsAgain, AreAgain, IsAnswerAgain, IsEntryAgain}

-- ---- reading step by step

step : {A B : Type 0} (o : Option A) (f : A → Option B) (a : A) (b : B) → o ≡ Some a → f a ≡ Some b → (o >>= f) ≡ Some b
step o f a b e h = ap (λ x. option_and_then f x) e ∙ h

-- the answer of an entry for a load, by its parts
loaded_step : (s : Parts) (d : Data) (kind : SourceKind) (found : Source) → required source_kind (codes "kind") d ≡ Some kind → has_names (loaded_names kind) d ≡ true
    → loaded_source kind d ≡ Some found → fits_key s found ≡ true → loaded_answer s d ≡ Some (answer_of_source s found)
loaded_step s d kind found is known read fit =
    step (required source_kind (codes "kind") d) (λ k. given (has_names (loaded_names k) d) >>= (λ _. loaded_source k d >>= (λ x. given (fits_key s x) >>= (λ _. Some (answer_of_source s x))))) kind (answer_of_source s found) is
    (step (given (has_names (loaded_names kind) d)) (λ _. loaded_source kind d >>= (λ x. given (fits_key s x) >>= (λ _. Some (answer_of_source s x)))) tt (answer_of_source s found) (ap given known)
    (step (loaded_source kind d) (λ x. given (fits_key s x) >>= (λ _. Some (answer_of_source s x))) found (answer_of_source s found) read
    (step (given (fits_key s found)) (λ _. Some (answer_of_source s found)) tt (answer_of_source s found) (ap given fit) refl)))

-- that of an entry for a question that keeps at hand
held_step : (d : Data) (kind : HeldKind) (a : Answer) → required (choice held_kinds) (codes "kind") d ≡ Some kind → has_names (held_names kind) d ≡ true → held_of kind d ≡ Some a → held_answer d ≡ Some a
held_step d kind a is known read =
    step (required (choice held_kinds) (codes "kind") d) (λ k. given (has_names (held_names k) d) >>= (λ _. held_of k d)) kind a is
    (step (given (has_names (held_names kind) d)) (λ _. held_of kind d) tt a (ap given known) read)

-- a module, by its parts
module_step : (d : Data) (content : List ℕ) (mtime : Option ℕ) (name : Option Parts) (hs : Option (List Header)) → optional whole (codes "mtime") d ≡ Some mtime → content_of d ≡ Some content
    → optional specifier (codes "name") d ≡ Some name → optional (list_of header) (codes "headers") d ≡ Some hs
    → entry_module d ≡ Some (record { content = content; mtime = mtime; specifier = name; headers = option_map (headers_from []) hs })
module_step d content mtime name hs a b c e =
    let made : List ℕ → Option ℕ → Option Parts → Option (List Header) → Option WorldModule =
    λ content mtime name hs. Some (record { content = content; mtime = mtime; specifier = name; headers = option_map (headers_from []) hs }) in
    λ i. (a i) >>= (λ mtime. (b i) >>= (λ content. (c i) >>= (λ name. (e i) >>= (λ hs. made content mtime name hs))))

-- an entry, by its parts
entry_step : (d : Data) (s : Parts) (p : Purpose) (a : Answer) → required specifier (codes "specifier") d ≡ Some s → required (choice purposes) (codes "purpose") d ≡ Some p
    → entry_answer (is_ensure p) s d ≡ Some a → answer_entry d ≡ Some (s, p, a)
unfolding answer_entry
entry_step d s p a x y z =
    step (required specifier (codes "specifier") d) (λ s. required (choice purposes) (codes "purpose") d >>= (λ p. entry_answer (is_ensure p) s d >>= (λ a. Some (s, p, a)))) s (s, p, a) x
    (step (required (choice purposes) (codes "purpose") d) (λ p. entry_answer (is_ensure p) s d >>= (λ a. Some (s, p, a))) p (s, p, a) y
    (step (entry_answer (is_ensure p) s d) (λ a. Some (s, p, a)) a (s, p, a) z refl))

-- ---- names

put_known : (names : List (List ℕ)) (k : List ℕ) (d : Data) (ms : Members) → list_any (bytes_eq k) names ≡ true → names_among names ms ≡ true → names_among names (put k d ms) ≡ true
put_known names k d no_members known all = ap (λ b. b && true) known
put_known names k d (member l e ms) known all = by (slice_cmp nat_cmp k l) (put_known names k d ms known (and_parts (list_any (bytes_eq l) names) (names_among names ms) all).1)
  where
    by : (o : Ordering) → names_among names (put k d ms) ≡ true → names_among names (match_ordering o (member k d (member l e ms)) (member l d ms) (member l e (put k d ms))) ≡ true
    by Less rest = ap (λ b. b && names_among names (member l e ms)) known ∙ all
    by Equal rest = all
    by Greater rest = ap (λ b. b && names_among names (put k d ms)) (and_parts (list_any (bytes_eq l) names) (names_among names ms) all).0 ∙ rest

rows_known : (names : List (List ℕ)) (ms : Members) (rows : Rows) → list_all (λ r. list_any (bytes_eq r.0) names) rows ≡ true → names_among names ms ≡ true → names_among names (members_from ms rows) ≡ true
rows_known names ms [] known all = all
rows_known names ms (row ∷ rows) known all =
    let both = and_parts (list_any (bytes_eq row.0) names) _ known in
    rows_known names (put_optional row.0 row.1 ms) rows both.1 (put_one row.1 both.0)
  where
    put_one : (o : Option Data) → list_any (bytes_eq row.0) names ≡ true → names_among names (put_optional row.0 o ms) ≡ true
    put_one None one = all
    put_one (Some d) one = put_known names row.0 d ms one all

-- the members of a table are among the names
pub names_back : (names : List (List ℕ)) (rows : Rows) → list_all (λ r. list_any (bytes_eq r.0) names) rows ≡ true → has_names names (object_of rows) ≡ true
names_back names rows known = rows_known names no_members rows known refl

-- ---- headers

lower_byte : (b : ℕ) → not (is_ascii_uppercase b) ≡ true → to_ascii_lowercase b ≡ b
lower_byte b e = grind (arith, nat_tests)

lower_same : (name : List ℕ) → is_lower_case name ≡ true → map to_ascii_lowercase name ≡ name
lower_same [] e = refl
lower_same (b ∷ name) e =
    let both = and_parts (not (is_ascii_uppercase b)) (is_lower_case name) e in
    (λ i. lower_byte b both.0 i ∷ lower_same name both.1 i)

abbrev as_header : List ℕ × List ℕ → Header
as_header h = record { name = h.0; value = h.1 }

pairs_back : (hs : List (List ℕ × List ℕ)) → AreLower (Some hs) → items_of header (data_items (map (λ h. pair_json (string h.0) (string h.1)) hs)) ≡ Some (map as_header hs)
pairs_back [] lower = refl
pairs_back (h ∷ hs) lower =
    ap (λ n. option_and_then (λ v. option_map (λ vs. v ∷ vs) (items_of header (data_items (map (λ p. pair_json (string p.0) (string p.1)) hs)))) (Some (record { name = n; value = h.1 }))) (lower_same h.0 lower.0)
    ∙ ap (option_map (λ vs. as_header h ∷ vs)) (pairs_back hs lower.1)

joined_back : (done rest : List (List ℕ × List ℕ)) → IsStrictlySortedBy text_cmp (keys_of (done ++ rest)) → headers_from done (map as_header rest) ≡ done ++ rest
joined_back done [] sorted = sym (append-nil done)
joined_back done (h ∷ rest) sorted =
    let below = all_below nat_list_cmp_total done h rest sorted in
    let last : with_header done (as_header h) ≡ done ++ h ∷ [] =
    (λ i. insert_entry text_cmp (none_removed nat_list_cmp_total h done below i) h.0 (joined (none_there nat_list_cmp_total h done below i) h.1)) ∙ put_last nat_list_cmp_total h done below in
    ap (λ found. headers_from found (map as_header rest)) last
    ∙ joined_back (done ++ h ∷ []) rest (subst (λ (es : List (List ℕ × List ℕ)). IsStrictlySortedBy text_cmp (keys_of es)) (sym (append_assoc done (h ∷ []) rest)) sorted)
    ∙ append_assoc done (h ∷ []) rest

abbrev as_headers : Option (List (List ℕ × List ℕ)) → Option (List Header)
as_headers headers = option_map (map as_header) headers

headers_there : (headers : Option (List (List ℕ × List ℕ))) → AreLower headers → if_there (list_of header) (option_map headers_json headers) ≡ Some (as_headers headers)
headers_there None lower = refl
headers_there (Some hs) lower = ap (option_map Some) (pairs_back hs lower)

headers_same : (headers : Option (List (List ℕ × List ℕ))) → AreAgain headers → option_map (headers_from []) (as_headers headers) ≡ headers
headers_same None again = refl
headers_same (Some hs) again = ap Some (joined_back [] hs again)

-- ---- entries

-- the members of an entry
abbrev rows_of : Parts → List ℕ → Answer → Rows
rows_of s purpose a = (codes "specifier", Some (url_json s)) ∷ (codes "purpose", Some (string purpose)) ∷ answer_rows a

module _ (s : Parts) (purpose : List ℕ) where
  -- a module
  module _ (content : List ℕ) (mtime : Option ℕ) (name : Parts) (headers : Option (List (List ℕ × List ℕ))) where
    abbrev module_of : Answer
    module_of = Load (Ok (Some (Sourced content mtime name headers)))

    abbrev rows : Rows
    rows = rows_of s purpose module_of

    abbrev json : Data
    json = object_of rows

    content_back : base64_of (base64_text content) ≡ Some content → content_of json ≡ Some content
    content_back e =
        (λ i. text_or_base64 (get-members_from (codes "text") no_members rows i) (get-members_from (codes "base64") no_members rows i)) ∙ e

    module_back : AreLower headers → base64_of (base64_text content) ≡ Some content → IsAgain name → AreAgain headers
        → entry_module json ≡ Some (record { content = content; mtime = mtime; specifier = Some name; headers = headers })
    module_back lower spelled named again =
        module_step json content mtime (Some name) (as_headers headers)
        (optional_back whole (codes "mtime") rows mtime (there_back whole number_json (λ n. refl) mtime))
        (content_back spelled)
        (optional_back specifier (codes "name") rows (Some name) (ap (option_map Some) named))
        (optional_back (list_of header) (codes "headers") rows (as_headers headers) (told headers lower))
        ∙ ap (λ hs. Some (record { content = content; mtime = mtime; specifier = Some name; headers = hs })) (headers_same headers again)
      where
        told : (hs : Option (List (List ℕ × List ℕ))) → AreLower hs → if_there (list_of header) (found_in (codes "headers") None (rows_of s purpose (Load (Ok (Some (Sourced content mtime name hs)))))) ≡ Some (as_headers hs)
        told None l = refl
        told (Some hs) l = headers_there (Some hs) l

    loaded_module : AreLower headers → base64_of (base64_text content) ≡ Some content → IsAgain name → AreAgain headers → loaded_answer s json ≡ Some module_of
    loaded_module lower spelled named again =
        let m : WorldModule = record { content = content; mtime = mtime; specifier = Some name; headers = headers } in
        loaded_step s json kind_is.Module (source_is.Module m) (required_back source_kind (codes "kind") rows kind_is.Module refl) (names_back (loaded_names kind_is.Module) rows refl)
        (ap (λ o. o >>= (λ x. Some (source_is.Module x))) (module_back lower spelled named again)) refl

  -- what leads to a specifier
  loaded_redirect : (to : Parts) → IsAgain to → loaded_answer s (object_of (rows_of s purpose (Load (Ok (Some (Redirect to)))))) ≡ Some (Load (Ok (Some (Redirect to))))
  loaded_redirect to again =
      let rows = rows_of s purpose (Load (Ok (Some (Redirect to)))) in
      let json = object_of rows in
      loaded_step s json kind_is.Redirect (source_is.Redirect to) (required_back source_kind (codes "kind") rows kind_is.Redirect refl) (names_back (loaded_names kind_is.Redirect) rows refl)
      (ap (λ o. o >>= (λ x. Some (source_is.Redirect x))) (required_back specifier (codes "to") rows to again)) refl

  loaded_external : (to : Parts) → IsAgain to → loaded_answer s (object_of (rows_of s purpose (Load (Ok (Some (External to)))))) ≡ Some (Load (Ok (Some (External to))))
  loaded_external to again =
      let rows = rows_of s purpose (Load (Ok (Some (External to)))) in
      let json = object_of rows in
      loaded_step s json kind_is.External (source_is.External (Some to)) (required_back source_kind (codes "kind") rows kind_is.External refl) (names_back (loaded_names kind_is.External) rows refl)
      (ap (λ o. o >>= (λ x. Some (source_is.External x))) (optional_back specifier (codes "to") rows (Some to) (ap (option_map Some) again))) refl

  -- what an error is
  fault_back : (fault : Fault) (a : Answer)
      → answer_rows a ≡ (codes "kind", Some (string (codes "error"))) ∷ (codes "class", Some (string fault.class)) ∷ (codes "message", Some (string fault.message)) ∷ []
      → fault_of (object_of (rows_of s purpose a)) ≡ Some fault
  fault_back fault a is =
      let rows : Rows = (codes "specifier", Some (url_json s)) ∷ (codes "purpose", Some (string purpose)) ∷ (codes "kind", Some (string (codes "error"))) ∷ (codes "class", Some (string fault.class)) ∷ (codes "message", Some (string fault.message)) ∷ [] in
      let json : Data = object_of rows in
      ap (λ rest. fault_of (object_of ((codes "specifier", Some (url_json s)) ∷ (codes "purpose", Some (string purpose)) ∷ rest))) is
      ∙ (λ i. (required_back text (codes "class") rows fault.class refl i) >>= (λ class. (required_back text (codes "message") rows fault.message refl i) >>= (λ message. Some (record { class = class; message = message }))))

  -- nothing, and failures
  loaded_missing : loaded_answer s (object_of (rows_of s purpose (Load (Ok None)))) ≡ Some (Load (Ok None))
  loaded_missing =
      let rows = rows_of s purpose (Load (Ok None)) in
      let json = object_of rows in
      loaded_step s json kind_is.Missing source_is.Missing (required_back source_kind (codes "kind") rows kind_is.Missing refl) (names_back (loaded_names kind_is.Missing) rows refl) refl refl

  loaded_error : (e : LoadError) → IsToldAnswer false (Load (Err e)) → loaded_answer s (object_of (rows_of s purpose (Load (Err e)))) ≡ Some (Load (Err e))
  loaded_error (ChecksumIntegrity e) told = absurd told
  loaded_error (Other fault) told =
      let rows = rows_of s purpose (Load (Err (Other fault))) in
      let json = object_of rows in
      loaded_step s json kind_is.Error (source_is.Error fault) (required_back source_kind (codes "kind") rows kind_is.Error refl) (names_back (loaded_names kind_is.Error) rows refl)
      (ap (λ o. o >>= (λ x. Some (source_is.Error x))) (fault_back fault (Load (Err (Other fault))) refl)) refl

  -- ---- at hand

  held_error : (e : LoadError) → IsToldAnswer true (Ensure (Err e)) → held_answer (object_of (rows_of s purpose (Ensure (Err e)))) ≡ Some (Ensure (Err e))
  held_error (ChecksumIntegrity e) told = absurd told
  held_error (Other fault) told =
      let rows = rows_of s purpose (Ensure (Err (Other fault))) in
      let json = object_of rows in
      held_step json held_is.Error (Ensure (Err (Other fault))) (required_back (choice held_kinds) (codes "kind") rows held_is.Error refl) (names_back (held_names held_is.Error) rows refl)
      (ap (λ o. o >>= (λ x. Some (Ensure (Err (Other x))))) (fault_back fault (Ensure (Err (Other fault))) refl))

  held_redirect : (to : Parts) → IsAgain to → held_answer (object_of (rows_of s purpose (Ensure (Ok (Some (CachedElsewhere to)))))) ≡ Some (Ensure (Ok (Some (CachedElsewhere to))))
  held_redirect to again =
      let rows = rows_of s purpose (Ensure (Ok (Some (CachedElsewhere to)))) in
      let json = object_of rows in
      held_step json held_is.Redirect (Ensure (Ok (Some (CachedElsewhere to)))) (required_back (choice held_kinds) (codes "kind") rows held_is.Redirect refl) (names_back (held_names held_is.Redirect) rows refl)
      (ap (λ o. o >>= (λ x. Some (Ensure (Ok (Some (CachedElsewhere x)))))) (required_back specifier (codes "to") rows to again))

  held_cached : held_answer (object_of (rows_of s purpose (Ensure (Ok (Some Cached))))) ≡ Some (Ensure (Ok (Some Cached)))
  held_cached =
      let rows = rows_of s purpose (Ensure (Ok (Some Cached))) in
      let json = object_of rows in
      held_step json held_is.Cached (Ensure (Ok (Some Cached))) (required_back (choice held_kinds) (codes "kind") rows held_is.Cached refl) (names_back (held_names held_is.Cached) rows refl)
      refl

  held_missing : held_answer (object_of (rows_of s purpose (Ensure (Ok None)))) ≡ Some (Ensure (Ok None))
  held_missing =
      let rows = rows_of s purpose (Ensure (Ok None)) in
      let json = object_of rows in
      held_step json held_is.Missing (Ensure (Ok None)) (required_back (choice held_kinds) (codes "kind") rows held_is.Missing refl) (names_back (held_names held_is.Missing) rows refl)
      refl

  -- an answer, by whether its purpose is to keep at hand
  answer_back : (keeps : Bool) (a : Answer) → IsToldAnswer keeps a → IsAnswerAgain a → entry_answer keeps s (object_of (rows_of s purpose a)) ≡ Some a
  answer_back false (Load (Ok (Some (Sourced content mtime name headers)))) told again = loaded_module content mtime name headers told.1 again.0 again.1 again.2
  answer_back false (Load (Ok (Some (External to)))) told again = loaded_external to again
  answer_back false (Load (Ok (Some (Redirect to)))) told again = loaded_redirect to again
  answer_back false (Load (Ok None)) told again = loaded_missing
  answer_back false (Load (Err e)) told again = loaded_error e told
  answer_back false (Ensure r) told again = absurd told
  answer_back true (Load r) told again = absurd told
  answer_back true (Ensure (Ok (Some Cached))) told again = held_cached
  answer_back true (Ensure (Ok (Some (CachedElsewhere to)))) told again = held_redirect to again
  answer_back true (Ensure (Ok None)) told again = held_missing
  answer_back true (Ensure (Err e)) told again = held_error e told

  -- the members of an answer stand beside those of its entry
  specifier_found : (x : Option Data) (a : Answer) → found_in (codes "specifier") x (answer_rows a) ≡ x
  specifier_found x (Load (Ok (Some (Sourced content mtime name headers)))) = refl
  specifier_found x (Load (Ok (Some (External to)))) = refl
  specifier_found x (Load (Ok (Some (Redirect to)))) = refl
  specifier_found x (Load (Ok None)) = refl
  specifier_found x (Load (Err (Other fault))) = refl
  specifier_found x (Load (Err (ChecksumIntegrity e))) = refl
  specifier_found x (Ensure (Ok (Some Cached))) = refl
  specifier_found x (Ensure (Ok (Some (CachedElsewhere to)))) = refl
  specifier_found x (Ensure (Ok None)) = refl
  specifier_found x (Ensure (Err (Other fault))) = refl
  specifier_found x (Ensure (Err (ChecksumIntegrity e))) = refl

  purpose_found : (x : Option Data) (a : Answer) → found_in (codes "purpose") x (answer_rows a) ≡ x
  purpose_found x (Load (Ok (Some (Sourced content mtime name headers)))) = refl
  purpose_found x (Load (Ok (Some (External to)))) = refl
  purpose_found x (Load (Ok (Some (Redirect to)))) = refl
  purpose_found x (Load (Ok None)) = refl
  purpose_found x (Load (Err (Other fault))) = refl
  purpose_found x (Load (Err (ChecksumIntegrity e))) = refl
  purpose_found x (Ensure (Ok (Some Cached))) = refl
  purpose_found x (Ensure (Ok (Some (CachedElsewhere to)))) = refl
  purpose_found x (Ensure (Ok None)) = refl
  purpose_found x (Ensure (Err (Other fault))) = refl
  purpose_found x (Ensure (Err (ChecksumIntegrity e))) = refl

purpose_back : (p : Purpose) → choice purposes (string (purpose_name p)) ≡ Some p
purpose_back LoadUse = refl
purpose_back EnsureUse = refl
purpose_back LoadReload = refl
purpose_back EnsureReload = refl
purpose_back LoadOnly = refl

-- an entry
pub entry_back : (e : Parts × Purpose × Answer) → IsTold e → IsEntryAgain e → answer_entry (entry_json e) ≡ Some e
unfolding entry_json
entry_back e told again =
    let purpose = purpose_name e.1 in
    let rows = rows_of e.0 purpose e.2 in
    entry_step (object_of rows) e.0 e.1 e.2
    (required_back specifier (codes "specifier") rows e.0 (ap (option_and_then specifier) (specifier_found e.0 purpose (Some (url_json e.0)) e.2) ∙ again.0))
    (required_back (choice purposes) (codes "purpose") rows e.1 (ap (option_and_then (choice purposes)) (purpose_found e.0 purpose (Some (string purpose)) e.2) ∙ purpose_back e.1))
    (answer_back e.0 purpose (is_ensure e.1) e.2 told.1 again.1)

-- all entries
pub entries_back : (es : List (Parts × Purpose × Answer)) → AllByRecursion IsTold es → AllByRecursion IsEntryAgain es → items_of answer_entry (data_items (map entry_json es)) ≡ Some es
entries_back [] told again = refl
entries_back (e ∷ es) told again =
    ap (option_and_then (λ v. option_map (λ vs. v ∷ vs) (items_of answer_entry (data_items (map entry_json es))))) (entry_back e told.0 again.0)
    ∙ ap (option_map (λ vs. e ∷ vs)) (entries_back es told.1 again.1)
