-- What a world file tells: each of its answers is one that an entry of version 2 can tell.
use Rattle.std.proofs.Common.{◌≡◌, ℕ, ◌==◌, List, [], ◌∷◌, ◌++◌, map, fold, Bool, true, false, true≢false, ◌&&◌, not, cond, Option, Some, None, Ok, Err, option_map, option_and_then, refl, sym, ap, ◌∙◌, subst, arith, if◌then◌else◌}
use Rattle.std.specs.Prelude.{Result, codes, ⊤}
use Rattle.std.proofs.lemmas.Bool.{and_parts}
use Rattle.std.proofs.lemmas.Bool.Decides.{nat_tests}
use Rattle.std.specs.BTreeMap.{insert_entry, is_at}
use Rattle.std.specs.Char.{to_ascii_lowercase, is_ascii_uppercase}
use Rattle.std.specs.Cmp.Lexicographic.{nat_list_cmp_total}
use Rattle.std.specs.List.{AllByRecursion, list_all}
use Rattle.std.specs.Map.{lookup, keys_of, remove_entry}
use Rattle.std.specs.Ordering.{match_ordering}
use Rattle.std.specs.declared.cmp.Ordering.{Ordering}
use Rattle.std.specs.declared.cmp.Ordering.TheVariants.{Less, Equal, Greater}
use Rattle.serde_json.specs.Data.{Data, Items, no_items, item, Members, no_members, member}
use Rattle.serde_json.specs.Find.{get, as_str, as_array, as_object}
use Rattle.data_urls.specs.DataUrls.{data_url_of}
use Rattle.data_urls.specs.declared.data_url.DataUrl.{DataUrl}
use Rattle.spec_base.specs.Shown.{text_cmp}
use Rattle.spec_base.specs.declared.refusal.Fault.{Fault}
use Rattle.json_forms.specs.Dictionary.{dictionary}
use Rattle.json_forms.specs.Form.{Form, text, whole, specifier, pair, choice, url_of, items_of, list_of, given, ◌>>=◌}
use Rattle.json_forms.specs.Keyed.{entries_of, no_repeats, if_distinct as if_no_repeats, keyed, keyed_or_empty}
use Rattle.json_forms.specs.Member.{if_there, or_else, required, optional, or_empty, has_names}
use Rattle.source_io.specs.Answers.{is_ensure, purpose_by, ensured}
use Rattle.source_io.specs.Data.{data_answer, by_data, or_failed}
use Rattle.source_io.specs.declared.types.Answer.{Answer}
use Rattle.source_io.specs.declared.types.Answer.TheVariants.{Load, Ensure}
use Rattle.source_io.specs.declared.types.CacheSetting.{CacheSetting}
use Rattle.source_io.specs.declared.types.CacheSetting.TheVariants.{Only, Use, Reload}
use Rattle.source_io.specs.declared.types.LoadResponse.TheVariants.{External, Redirect, Module as Sourced}
use Rattle.source_io.specs.declared.types.Purpose.{Purpose}
use Rattle.url.specs.Parts.{Parts, serialize}
use Rattle.world_answers.specs.AnswerEntries.{purposes, loaded_names, loaded_source, loaded_answer, held_kinds, held_names, held_of, held_answer, entry_answer, answer_entry}
use Rattle.world_answers.specs.AnswerOrder.{ordered, if_distinct}
use Rattle.world_answers.specs.EntryModules.{header, with_header, headers_from, joined, entry_module}
use Rattle.world_answers.specs.WorldAnswers.{source_answers, entry_answers, answers_in}
use Rattle.world_answers.specs.WorldModules.{content_of, is_lower_case, headers_of, world_module}
use Rattle.world_answers.specs.WorldSources.{source_kind, source_names, source_of, source, fault_of, name_or_key, fits_key, answer_of_source, sources_at, answers_under, answers_cached, answers_of}
use Rattle.world_answers.specs.declared.answer_entries.HeldKind.{HeldKind}
use Rattle.world_answers.specs.declared.answer_entries.HeldKind.TheVariants as held_is
use Rattle.world_answers.specs.declared.entry_modules.Header.{Header}
use Rattle.world_answers.specs.declared.world_modules.WorldModule.{WorldModule}
use Rattle.world_answers.specs.declared.world_sources.Source.{Source}
use Rattle.world_answers.specs.declared.world_sources.Source.TheVariants as source_is
use Rattle.world_answers.specs.declared.world_sources.SourceKind.{SourceKind}
use Rattle.world_answers.specs.declared.world_sources.SourceKind.TheVariants as kind_is
use Rattle.world_answers.proofs.Ascending.{keys_put}
use Rattle.world_answers.proofs.OrderLemmas.{ordered_all, ordered_again, ordered_distinct}
use Rattle.world_upgrade.specs.Told.{IsParsed, AreLower, IsToldAnswer, IsTold}

-- ---- reading step by step

-- what stood before a step
pub bind_some : {A B : Type 0} (o : Option A) (f : A → Option B) (b : B) → (o >>= f) ≡ Some b → (a : A) × (o ≡ Some a) × (f a ≡ Some b)
bind_some None f b h = absurd cc
bind_some (Some a) f b h = (a, refl, h)

pub inside : {A : Type 0} (a b : A) → Some a ≡ Some b → a ≡ b
inside a b e = cc

abbrev MaybeParsed : Option Parts → Type 0
MaybeParsed None = ⊤
MaybeParsed (Some u) = IsParsed u

specifier_parsed : (d : Data) (u : Parts) → specifier d ≡ Some u → IsParsed u
specifier_parsed d u h = let b = bind_some (as_str d) url_of u h in (b.0, b.2)

required_parsed : (k : List ℕ) (d : Data) (u : Parts) → required specifier k d ≡ Some u → IsParsed u
required_parsed k d u h = let b = bind_some (get k d) specifier u h in specifier_parsed b.0 u b.2

mapped_some : {A B : Type 0} (f : A → B) (o : Option A) (b : B) → option_map f o ≡ Some b → (a : A) × (o ≡ Some a) × (f a ≡ b)
mapped_some f None b h = absurd cc
mapped_some f (Some a) b h = (a, refl, cc)

optional_parsed : (k : List ℕ) (d : Data) (o : Option Parts) → optional specifier k d ≡ Some o → MaybeParsed o
optional_parsed k d o h = by (get k d) h
  where
    by : (x : Option Data) → if_there specifier x ≡ Some o → MaybeParsed o
    by None e = subst MaybeParsed (inside None o e) tt
    by (Some x) e = let m = mapped_some Some (specifier x) o e in subst MaybeParsed m.2 (specifier_parsed x m.0 m.1)

-- ---- headers

all_keys : (headers : List (List ℕ × List ℕ)) → list_all (λ h. is_lower_case h.0) headers ≡ true → AreLower (Some headers)
all_keys [] all = tt
all_keys (h ∷ hs) all = let both = and_parts (is_lower_case h.0) _ all in (both.0, all_keys hs both.1)

headers_lower : (d : Data) (headers : List (List ℕ × List ℕ)) → headers_of d ≡ Some headers → AreLower (Some headers)
headers_lower d headers h =
    let found = bind_some (dictionary text d) _ headers h in
    let lower = bind_some (given (list_all (λ h. is_lower_case h.0) found.0)) _ headers found.2 in
    by found.0 (list_all (λ h. is_lower_case h.0) found.0) refl lower.1 lower.2
  where
    by : (found : List (List ℕ × List ℕ)) (b : Bool) → list_all (λ h. is_lower_case h.0) found ≡ b → {u : Unit {0}} → given b ≡ Some u → Some found ≡ Some headers → AreLower (Some headers)
    by found true all g e = subst (λ (hs : List (List ℕ × List ℕ)). AreLower (Some hs)) (inside found headers e) (all_keys found all)
    by found false all g e = absurd cc

maybe_lower : (d : Data) (o : Option (List (List ℕ × List ℕ))) → optional headers_of (codes "headers") d ≡ Some o → AreLower o
maybe_lower d o h = by (get (codes "headers") d) h
  where
    by : (x : Option Data) → if_there headers_of x ≡ Some o → AreLower o
    by None e = subst AreLower (inside None o e) tt
    by (Some x) e = let m = mapped_some Some (headers_of x) o e in subst AreLower m.2 (headers_lower x m.0 m.1)

lowered_byte : (b : ℕ) → not (is_ascii_uppercase (to_ascii_lowercase b)) ≡ true
lowered_byte b = grind (arith, nat_tests)

lowered : (name : List ℕ) → is_lower_case (map to_ascii_lowercase name) ≡ true
lowered [] = refl
lowered (b ∷ name) = rw (lowered_byte b, lowered name) refl

header_lower : (d : Data) (h : Header) → header d ≡ Some h → is_lower_case h.name ≡ true
header_lower d h e =
    let parts = bind_some (pair d) _ h e in
    let name = bind_some (text parts.0.0) _ h parts.2 in
    let value = bind_some (text parts.0.1) _ h name.2 in
    let is : map to_ascii_lowercase name.0 ≡ h.name = ap (λ (x : Header). x.name) (inside _ h value.2) in
    subst (λ n. is_lower_case n ≡ true) is (lowered name.0)

headers_lowered : (ds : Items) (hs : List Header) → items_of header ds ≡ Some hs → AllByRecursion (λ (h : Header). is_lower_case h.name ≡ true) hs
headers_lowered no_items hs e = subst (AllByRecursion (λ (h : Header). is_lower_case h.name ≡ true)) (inside [] hs e) tt
headers_lowered (item d ds) hs e =
    let first = bind_some (header d) _ hs e in
    let rest = mapped_some (λ vs. first.0 ∷ vs) (items_of header ds) hs first.2 in
    subst (AllByRecursion (λ (h : Header). is_lower_case h.name ≡ true)) rest.2 (header_lower d first.0 first.1, headers_lowered ds rest.0 rest.1)

keys_left : (P : List ℕ → Type 0) (test : List ℕ → Bool) (es : List (List ℕ × List ℕ)) → AllByRecursion P (keys_of es) → AllByRecursion P (keys_of (remove_entry test es))
keys_left P test [] all = tt
keys_left P test (e ∷ es) all = by (test e.0) (keys_left P test es all.1)
  where
    by : (b : Bool) → AllByRecursion P (keys_of (remove_entry test es)) → AllByRecursion P (keys_of (cond b es (e ∷ remove_entry test es)))
    by true rest = all.1
    by false rest = (all.0, rest)

joined_lower : (found : List (List ℕ × List ℕ)) (hs : List Header) → AreLower (Some found) → AllByRecursion (λ (h : Header). is_lower_case h.name ≡ true) hs → AreLower (Some (headers_from found hs))
joined_lower found [] all more = all
joined_lower found (h ∷ hs) all more =
    joined_lower (with_header found h) hs
    (keys_put nat_list_cmp_total h.name _ (λ name. is_lower_case name ≡ true) (remove_entry (is_at (text_cmp h.name)) found) (keys_left (λ name. is_lower_case name ≡ true) (is_at (text_cmp h.name)) found all) more.0) more.1

pairs_lower : (d : Data) (o : Option (List Header)) → optional (list_of header) (codes "headers") d ≡ Some o → AreLower (option_map (headers_from []) o)
pairs_lower d o h = by (get (codes "headers") d) h
  where
    by : (x : Option Data) → if_there (list_of header) x ≡ Some o → AreLower (option_map (headers_from []) o)
    by None e = subst (λ (p : Option (List Header)). AreLower (option_map (headers_from []) p)) (inside None o e) tt
    by (Some x) e =
        let m = mapped_some Some (list_of header x) o e in
        let items = bind_some (as_array x) (items_of header) m.0 m.1 in
        subst (λ (p : Option (List Header)). AreLower (option_map (headers_from []) p)) m.2 (joined_lower [] m.0 tt (headers_lowered items.0 m.0 items.2))

-- ---- sources

abbrev IsToldModule : WorldModule → Type 0
IsToldModule m = MaybeParsed m.specifier × AreLower m.headers

abbrev IsToldSource : Source → Type 0
IsToldSource (source_is.Module m) = IsToldModule m
IsToldSource (source_is.Redirect to) = IsParsed to
IsToldSource (source_is.External to) = MaybeParsed to
IsToldSource source_is.Missing = ⊤
IsToldSource (source_is.Error fault) = ⊤
IsToldSource source_is.Data = ⊤

module_told : (d : Data) (m : WorldModule) → world_module d ≡ Some m → IsToldModule m
module_told d m h =
    let a = bind_some (optional whole (codes "mtime") d) _ m h in
    let b = bind_some (content_of d) _ m a.2 in
    let c = bind_some (optional specifier (codes "specifier") d) _ m b.2 in
    let e = bind_some (optional headers_of (codes "headers") d) _ m c.2 in
    subst IsToldModule (inside _ m e.2) (optional_parsed (codes "specifier") d c.0 c.1, maybe_lower d e.0 e.1)

entry_told : (d : Data) (m : WorldModule) → entry_module d ≡ Some m → IsToldModule m
entry_told d m h =
    let a = bind_some (optional whole (codes "mtime") d) _ m h in
    let b = bind_some (content_of d) _ m a.2 in
    let c = bind_some (optional specifier (codes "name") d) _ m b.2 in
    let e = bind_some (optional (list_of header) (codes "headers") d) _ m c.2 in
    subst IsToldModule (inside _ m e.2) (optional_parsed (codes "name") d c.0 c.1, pairs_lower d e.0 e.1)

of_kind_told : (kind : SourceKind) (d : Data) (s : Source) → source_of kind d ≡ Some s → IsToldSource s
of_kind_told kind_is.Module d s h = let b = bind_some (world_module d) _ s h in subst IsToldSource (inside _ s b.2) (module_told d b.0 b.1)
of_kind_told kind_is.Redirect d s h =
    let b = bind_some (required specifier (codes "to") d) _ s h in subst IsToldSource (inside _ s b.2) (required_parsed (codes "to") d b.0 b.1)
of_kind_told kind_is.External d s h =
    let b = bind_some (optional specifier (codes "to") d) _ s h in subst IsToldSource (inside _ s b.2) (optional_parsed (codes "to") d b.0 b.1)
of_kind_told kind_is.Missing d s h = subst IsToldSource (inside _ s h) tt
of_kind_told kind_is.Error d s h = let b = bind_some (fault_of d) _ s h in subst IsToldSource (inside _ s b.2) tt
of_kind_told kind_is.Data d s h = subst IsToldSource (inside _ s h) tt

source_told : (d : Data) (s : Source) → source d ≡ Some s → IsToldSource s
source_told d s h =
    let kind = bind_some (required source_kind (codes "kind") d) _ s h in
    let known = bind_some (given (has_names (source_names kind.0) d)) _ s kind.2 in
    of_kind_told kind.0 d s known.2

-- ---- answers

name_parsed : (key : Parts) (name : Option Parts) → IsParsed key → MaybeParsed name → IsParsed (name_or_key key name)
name_parsed key None k n = k
name_parsed key (Some u) k n = n

data_told : (key : Parts) (r : Result DataUrl Fault) → IsParsed key → IsToldAnswer false (or_failed (by_data key r))
data_told key (Ok d) k = (k, (refl, tt))
data_told key (Err fault) k = tt

loaded_told : (key : Parts) (s : Source) → IsParsed key → IsToldSource s → IsToldAnswer false (answer_of_source key s)
loaded_told key (source_is.Module m) k told = (name_parsed key m.specifier k told.0, told.1)
loaded_told key (source_is.Redirect to) k told = told
loaded_told key (source_is.External to) k told = name_parsed key to k told
loaded_told key source_is.Missing k told = tt
loaded_told key (source_is.Error fault) k told = tt
loaded_told key source_is.Data k told = data_told key (data_url_of key) k

held_told : (a : Answer) → IsToldAnswer false a → IsToldAnswer true (ensured a)
held_told (Load (Ok (Some (Sourced content mtime name headers)))) told = tt
held_told (Load (Ok (Some (External name)))) told = tt
held_told (Load (Ok (Some (Redirect name)))) told = told
held_told (Load (Ok None)) told = tt
held_told (Load (Err e)) told = told
held_told (Ensure r) told = absurd told

purpose_is : (keeps : Bool) (setting : CacheSetting) → is_ensure (purpose_by keeps setting) ≡ keeps
purpose_is true Only = refl
purpose_is true Use = refl
purpose_is true Reload = refl
purpose_is false Only = refl
purpose_is false Use = refl
purpose_is false Reload = refl

told_as : (keeps : Bool) (setting : CacheSetting) (a : Answer) → IsToldAnswer keeps a → IsToldAnswer (is_ensure (purpose_by keeps setting)) a
told_as keeps setting a told = subst (λ b. IsToldAnswer b a) (sym (purpose_is keeps setting)) told

abbrev AreTold : List (Parts × Source) → Type 0
AreTold = AllByRecursion (λ (e : Parts × Source). IsParsed e.0 × IsToldSource e.1)

under_told : (setting : CacheSetting) (sources : List (Parts × Source)) → AreTold sources → AllByRecursion IsTold (answers_under setting sources)
under_told setting [] all = tt
under_told setting (e ∷ es) all =
    let loaded = loaded_told e.0 e.1 all.0.0 all.0.1 in
    ((all.0.0, told_as false setting (answer_of_source e.0 e.1) loaded), ((all.0.0, told_as true setting (ensured (answer_of_source e.0 e.1)) (held_told (answer_of_source e.0 e.1) loaded)), under_told setting es all.1))

cached_told : (sources : List (Parts × Source)) → AreTold sources → AllByRecursion IsTold (answers_cached sources)
cached_told [] all = tt
cached_told (e ∷ es) all = ((all.0.0, loaded_told e.0 e.1 all.0.0 all.0.1), cached_told es all.1)

both_all : {A : Type 0} (P : A → Type 0) (xs ys : List A) → AllByRecursion P xs → AllByRecursion P ys → AllByRecursion P (xs ++ ys)
both_all P [] ys a b = b
both_all P (x ∷ xs) ys a b = (a.0, both_all P xs ys a.1 b)

answers_told : (sources reload cached : List (Parts × Source)) → AreTold sources → AreTold reload → AreTold cached → AllByRecursion IsTold (answers_of sources reload cached)
answers_told sources reload cached a b c =
    both_all IsTold _ _
    (both_all IsTold _ _ (both_all IsTold _ _ (under_told Use sources a) (under_told Reload reload b)) (under_told Reload sources a))
    (cached_told cached c)

-- ---- the members of version 1

members_told : (ms : Members) (es : List (Parts × Source)) → entries_of source ms ≡ Some es → AreTold es
members_told no_members es h = subst AreTold (inside [] es h) tt
members_told (member k d ms) es h =
    let key = bind_some (url_of k) _ es h in
    let value = bind_some (source d) _ es key.2 in
    let rest = mapped_some (λ others. (key.0, value.0) ∷ others) (entries_of source ms) es value.2 in
    subst AreTold rest.2 (((k, key.1), source_told d value.0 value.1), members_told ms rest.0 rest.1)

distinct_same : (es found : List (Parts × Source)) → if_no_repeats es ≡ Some found → es ≡ found
distinct_same es found h = by (no_repeats [] (map (λ e. serialize e.0) es)) h
  where
    by : (b : Bool) → (if b then Some es else None) ≡ Some found → es ≡ found
    by true e = inside es found e
    by false e = absurd cc

keyed_told : (d : Data) (es : List (Parts × Source)) → keyed source d ≡ Some es → AreTold es
keyed_told d es h =
    let found = bind_some (option_and_then (entries_of source) (as_object d)) if_no_repeats es h in
    let members = bind_some (as_object d) (entries_of source) found.0 found.1 in
    subst AreTold (distinct_same found.0 es found.2) (members_told members.0 found.0 members.2)

sources_told : (name : List ℕ) (d : Data) (es : List (Parts × Source)) → sources_at name d ≡ Some es → AreTold es
sources_told name d es h =
    let found = bind_some (keyed_or_empty source name d) _ es h in
    let fit = bind_some (given (list_all (λ e. fits_key e.0 e.1) found.0)) _ es found.2 in
    subst AreTold (inside found.0 es fit.2) (by (get name d) found.0 found.1)
  where
    by : (x : Option Data) (found : List (Parts × Source)) → or_else [] (keyed source) x ≡ Some found → AreTold found
    by None found e = subst AreTold (inside [] found e) tt
    by (Some x) found e = keyed_told x found e

-- ---- the entries of version 2

loaded_entry : (kind : SourceKind) (d : Data) (s : Source) → loaded_source kind d ≡ Some s → IsToldSource s
loaded_entry kind_is.Module d s h = let b = bind_some (entry_module d) _ s h in subst IsToldSource (inside _ s b.2) (entry_told d b.0 b.1)
loaded_entry kind_is.Redirect d s h = of_kind_told kind_is.Redirect d s h
loaded_entry kind_is.External d s h = of_kind_told kind_is.External d s h
loaded_entry kind_is.Missing d s h = of_kind_told kind_is.Missing d s h
loaded_entry kind_is.Error d s h = of_kind_told kind_is.Error d s h
loaded_entry kind_is.Data d s h = of_kind_told kind_is.Data d s h

loaded_by : (s : Parts) (d : Data) (a : Answer) → IsParsed s → loaded_answer s d ≡ Some a → IsToldAnswer false a
loaded_by s d a parsed h =
    let kind = bind_some (required source_kind (codes "kind") d) _ a h in
    let known = bind_some (given (has_names (loaded_names kind.0) d)) _ a kind.2 in
    let found = bind_some (loaded_source kind.0 d) _ a known.2 in
    let fit = bind_some (given (fits_key s found.0)) _ a found.2 in
    subst (IsToldAnswer false) (inside _ a fit.2) (loaded_told s found.0 parsed (loaded_entry kind.0 d found.0 found.1))

held_by_kind : (kind : HeldKind) (d : Data) (a : Answer) → held_of kind d ≡ Some a → IsToldAnswer true a
held_by_kind held_is.Cached d a h = subst (IsToldAnswer true) (inside _ a h) tt
held_by_kind held_is.Redirect d a h =
    let b = bind_some (required specifier (codes "to") d) _ a h in subst (IsToldAnswer true) (inside _ a b.2) (required_parsed (codes "to") d b.0 b.1)
held_by_kind held_is.Missing d a h = subst (IsToldAnswer true) (inside _ a h) tt
held_by_kind held_is.Error d a h = let b = bind_some (fault_of d) _ a h in subst (IsToldAnswer true) (inside _ a b.2) tt

held_by : (d : Data) (a : Answer) → held_answer d ≡ Some a → IsToldAnswer true a
held_by d a h =
    let kind = bind_some (required (choice held_kinds) (codes "kind") d) _ a h in
    let known = bind_some (given (has_names (held_names kind.0) d)) _ a kind.2 in
    held_by_kind kind.0 d a known.2

answered_by : (keeps : Bool) (s : Parts) (d : Data) (a : Answer) → IsParsed s → entry_answer keeps s d ≡ Some a → IsToldAnswer keeps a
answered_by false s d a parsed h = loaded_by s d a parsed h
answered_by true s d a parsed h = held_by d a h

entry_is_told : (d : Data) (e : Parts × Purpose × Answer) → answer_entry d ≡ Some e → IsTold e
unfolding answer_entry
entry_is_told d e h =
    let s = bind_some (required specifier (codes "specifier") d) _ e h in
    let p = bind_some (required (choice purposes) (codes "purpose") d) _ e s.2 in
    let a = bind_some (entry_answer (is_ensure p.0) s.0 d) _ e p.2 in
    let parsed = required_parsed (codes "specifier") d s.0 s.1 in
    subst IsTold (inside _ e a.2) (parsed, answered_by (is_ensure p.0) s.0 d a.0 parsed a.1)

entries_told : (ds : Items) (es : List (Parts × Purpose × Answer)) → items_of answer_entry ds ≡ Some es → AllByRecursion IsTold es
entries_told no_items es h = subst (AllByRecursion IsTold) (inside [] es h) tt
entries_told (item d ds) es h =
    let first = bind_some (answer_entry d) _ es h in
    let rest = mapped_some (λ others. first.0 ∷ others) (items_of answer_entry ds) es first.2 in
    subst (AllByRecursion IsTold) rest.2 (entry_is_told d first.0 first.1, entries_told ds rest.0 rest.1)

all_entries_told : (d : Data) (es : List (Parts × Purpose × Answer)) → or_empty answer_entry (codes "answers") d ≡ Some es → AllByRecursion IsTold es
all_entries_told d es h = by (get (codes "answers") d) h
  where
    by : (x : Option Data) → or_else [] (list_of answer_entry) x ≡ Some es → AllByRecursion IsTold es
    by None e = subst (AllByRecursion IsTold) (inside [] es e) tt
    by (Some x) e = let items = bind_some (as_array x) (items_of answer_entry) es e in entries_told items.0 es items.2

-- ---- both versions

-- answers that are told, in order, no two of which are of one specifier and purpose
pub record AreAnswers (es : List (Parts × Purpose × Answer)) : Type 0 where
  pub told : AllByRecursion IsTold es
  pub distinct : if_distinct es ≡ Some es

answers_put : (es found : List (Parts × Purpose × Answer)) → AllByRecursion IsTold es → ordered es ≡ found → AreAnswers found
answers_put es found all is = subst AreAnswers is (record { told = ordered_all IsTold es all; distinct = ordered_distinct es })

first_version : (d : Data) (found : List (Parts × Purpose × Answer)) → source_answers d ≡ Some found → AreAnswers found
first_version d found h =
    let a = bind_some (sources_at (codes "sources") d) _ found h in
    let b = bind_some (sources_at (codes "reload") d) _ found a.2 in
    let c = bind_some (sources_at (codes "cached") d) _ found b.2 in
    answers_put (answers_of a.0 b.0 c.0) found
    (answers_told a.0 b.0 c.0 (sources_told (codes "sources") d a.0 a.1) (sources_told (codes "reload") d b.0 b.1) (sources_told (codes "cached") d c.0 c.1))
    (inside _ found c.2)

second_version : (d : Data) (found : List (Parts × Purpose × Answer)) → entry_answers d ≡ Some found → AreAnswers found
second_version d found h =
    let es = bind_some (or_empty answer_entry (codes "answers") d) if_distinct found h in
    answers_put es.0 found (all_entries_told d es.0 es.1) (kept es.0 es.2)
  where
    kept : (es : List (Parts × Purpose × Answer)) → if_distinct es ≡ Some found → ordered es ≡ found
    kept es e = by _ e
      where
        by : (b : Bool) → (if b then Some (ordered es) else None) ≡ Some found → ordered es ≡ found
        by true e = inside (ordered es) found e
        by false e = absurd cc

-- the answers of a file of a version
pub answers_are : (version : ℕ) (d : Data) (found : List (Parts × Purpose × Answer)) → answers_in version d ≡ Some found → AreAnswers found
answers_are version d found h = by (version == 1) (version == 2) h
  where
    by : (first second : Bool) → (if first then source_answers d else (if second then entry_answers d else None)) ≡ Some found → AreAnswers found
    by true second e = first_version d found e
    by false true e = second_version d found e
    by false false e = absurd cc
