-- Each text of a module leads in a world with a map where the map says.
use Rattle.std.proofs.Common.{◌≡◌, ℕ, length, drop, List, [], ◌∷◌, ◌++◌, Bool, true, false, cond, ◌&&◌, flat_map, refl, sym, ap, subst, ◌∙◌, IfSome, ◌⊎◌, inl, inr, ⊎_elim}
use Rattle.std.proofs.lemmas.Bool.{and_parts}
use Rattle.std.proofs.lemmas.Option.{none-some, same_Some}
use Rattle.std.proofs.lemmas.Slice.Eq.{bytes_eq-Decides}
use Rattle.std.specs.Prelude.{Some, None, Option, Result, Ok, Err, bytes_eq, is_some, nat_eq, if◌then◌else◌}
use Rattle.std.specs.List.{AllByRecursion, starts_with}
use Rattle.url.specs.Parser.{Parsed, parse_url}
use Rattle.url.specs.Parts.{Parts, serialize}
use Rattle.spec_base.specs.Options.{by_option, same_text}
use Rattle.spec_base.specs.Resolve.{resolution}
use Rattle.spec_base.specs.Specifier.{same_specifier}
use Rattle.spec_base.specs.declared.position.Range.{Range}
use Rattle.spec_base.specs.declared.position.ResolutionKind.{ResolutionKind}
use Rattle.spec_base.specs.declared.position.ResolutionKind.TheVariants.{Execution, Types}
use Rattle.spec_base.specs.declared.refusal.Fault.{Fault}
use Rattle.spec_base.specs.declared.resolve.SpecifierError.{SpecifierError}
use Rattle.spec_base.specs.declared.resolve_error.ResolveError.{ResolveError}
use Rattle.module_info.specs.declared.types.ModuleInfo.{ModuleInfo}
use Rattle.source_io.specs.Resolvers.{listed_result, or_other, or_specifier as or_refused, plain_resolve, resolves, same_kind}
use Rattle.source_io.specs.declared.types.Answer.{Answer}
use Rattle.source_io.specs.declared.types.Answer.TheVariants.{Load, Ensure}
use Rattle.source_io.specs.declared.types.JsxDefaults.{JsxDefaults}
use Rattle.source_io.specs.declared.types.LoadResponse.TheVariants as response_is
use Rattle.source_io.specs.declared.types.Purpose.{Purpose}
use Rattle.source_io.specs.declared.types.World.{World}
use Rattle.source_io.specs.declared.types.WorldResolution.{WorldResolution}
use Rattle.graph_dependencies.specs.declared.referrer_imports.ReferrerImports.{ReferrerImports}
use Rattle.import_map.specs.Like.{like}
use Rattle.import_map.specs.Lookup.{by_address, by_entry, by_join, entry_for, found, fault_of, lookup, may_begin, name_of, or_specifier, resolved}
use Rattle.import_map.specs.declared.errors.MapError.{MapError}
use Rattle.import_map.specs.declared.errors.MapError.TheVariants.{Blocked, Unjoinable, Backtracks, Specifier}
use Rattle.import_map.specs.declared.map.ImportMap.{ImportMap}
use Rattle.mapped_world.specs.Entries.{told, both_kinds, entry, entries_for, entries_at}
use Rattle.mapped_world.specs.Leads.{HasOwnUrls, IsAmong, IsOwnUrl, NamesOwn}
use Rattle.mapped_world.specs.Mapped.{analysis_texts, of_info, of_answer, of_listed, of_imports, with_map}
use Rattle.mapped_world.specs.Texts.{default_texts, header_texts, info_texts}
use Rattle.mapped_world.proofs.AnswerLemmas.{Each, each_append, each_flat_map}

-- ---- own URLs

same_ok : (a b : Parts) → ◌≡◌ {A = Parsed Parts} (Ok a) (Ok b) → a ≡ b
same_ok a b e = cc

-- two own URLs of one text are one
pub same_own : (a b : Parts) → IsOwnUrl a → IsOwnUrl b → same_specifier a b ≡ true → a ≡ b
same_own a b own_a own_b same =
    let text = (bytes_eq-Decides (serialize a) (serialize b)).0 same in
    same_ok a b (sym own_a ∙ ap (parse_url None) text ∙ own_b)

-- ---- what is listed

-- a resolution without an attribute, from an own URL, that is the map's answer about its text
pub record IsRight (m : ImportMap) (e : WorldResolution) : Type 0 where
  pub own : IsOwnUrl e.referrer
  pub plain : e.attribute ≡ None
  pub answer : told (lookup m e.text e.referrer) ≡ Some e.result

both_right : (m : ImportMap) (s : Parts) (text : List ℕ) (own : IsOwnUrl s) (o : Option (Result Parts Fault)) → told (lookup m text s) ≡ o → Each (IsRight m) (by_option o [] (both_kinds s text))
both_right m s text own None e = tt
both_right m s text own (Some r) e = (record { own = own; plain = refl; answer = e }, (record { own = own; plain = refl; answer = e }, tt))

at_right : (m : ImportMap) (s : Parts) (texts : List (List ℕ)) → IsOwnUrl s → Each (IsRight m) (entries_at m s texts)
at_right m s texts own = each_flat_map (IsRight m) (entries_for m s) texts (λ text. both_right m s text own (told (lookup m text s)) refl)

two_right : (m : ImportMap) (s : Parts) (texts more : List (List ℕ)) → IsOwnUrl s → Each (IsRight m) (entries_at m s texts ++ entries_at m s more)
two_right m s texts more own = each_append (IsRight m) (entries_at m s texts) (entries_at m s more) (at_right m s texts own) (at_right m s more own)

answer_right : (jsx : JsxDefaults) (m : ImportMap) (answer : Answer) → NamesOwn answer → Each (IsRight m) (of_answer jsx m answer)
answer_right jsx m (Load (Ok (Some (response_is.Module content mtime name headers)))) own = two_right m name (header_texts headers) (default_texts jsx) own
answer_right jsx m (Load (Ok (Some (response_is.External name)))) own = tt
answer_right jsx m (Load (Ok (Some (response_is.Redirect name)))) own = tt
answer_right jsx m (Load (Ok None)) own = tt
answer_right jsx m (Load (Err e)) own = tt
answer_right jsx m (Ensure result) own = tt

each_all : {A B : Type 0} (P : B → Type 0) (Q : A → Type 0) (f : A → List B) (xs : List A) → AllByRecursion Q xs → ((x : A) → Q x → Each P (f x)) → Each P (flat_map f xs)
each_all P Q f [] all h = tt
each_all P Q f (x ∷ xs) all h = each_append P (f x) (flat_map f xs) (h x all.0) (each_all P Q f xs all.1 h)

all_right : (w : World) (imports : List ReferrerImports) (m : ImportMap) → w.resolutions ≡ [] → HasOwnUrls w imports → Each (IsRight m) (with_map w imports m)
all_right w imports m none own =
    let start : Each (IsRight m) w.resolutions = subst (Each (IsRight m)) (sym none) tt in
    let infos = each_all (IsRight m) (λ (e : Parts × Result ModuleInfo Fault). IsOwnUrl e.0) (of_info w.jsx m) w.infos own.infos (λ e own_e. two_right m e.0 (analysis_texts w.jsx e.1) (default_texts w.jsx) own_e) in
    let answers = each_all (IsRight m) (λ (e : Parts × Purpose × Answer). NamesOwn e.2) (of_listed w.jsx m) w.answers own.answers (λ e own_e. answer_right w.jsx m e.2 own_e) in
    let configured = each_all (IsRight m) (λ (i : ReferrerImports). IsOwnUrl i.referrer) (of_imports w.jsx m) imports own.configured (λ i own_i. two_right m i.referrer i.imports (default_texts w.jsx) own_i) in
    each_append (IsRight m) _ _ (each_append (IsRight m) _ _ (each_append (IsRight m) _ _ start infos) answers) configured

-- ---- none is listed with an attribute

and_none : (a b c : Bool) → a && (b && (c && false)) ≡ false
and_none true true true = refl
and_none true true false = refl
and_none true false c = refl
and_none false b c = refl

not_with : (e : WorldResolution) (text : List ℕ) (s : Parts) (kind : ResolutionKind) (attribute : List ℕ) → e.attribute ≡ None → resolves text s kind (Some attribute) e ≡ false
not_with e text s kind attribute plain =
    ap (λ (o : Option (List ℕ)). same_specifier e.referrer s && (bytes_eq e.text text && (same_kind e.kind kind && same_text o (Some attribute)))) plain
    ∙ and_none (same_specifier e.referrer s) (bytes_eq e.text text) (same_kind e.kind kind)

pub none_with : (m : ImportMap) (es : List WorldResolution) (text : List ℕ) (s : Parts) (kind : ResolutionKind) (attribute : List ℕ) → Each (IsRight m) es → listed_result es text s kind (Some attribute) ≡ None
unfolding listed_result
none_with m [] text s kind attribute all = refl
none_with m (e ∷ es) text s kind attribute all =
    ap (λ (b : Bool). if b then Some e.result else listed_result es text s kind (Some attribute)) (not_with e text s kind attribute all.0.plain) ∙ none_with m es text s kind attribute all.1

-- ---- what is listed is the map's answer

right_step : (m : ImportMap) (text : List ℕ) (s : Parts) (kind : ResolutionKind) (own : IsOwnUrl s) (e : WorldResolution) (rest : Option (Result Parts Fault)) → IsRight m e → IfSome rest (λ r. told (lookup m text s) ≡ Some r) → (b : Bool) → resolves text s kind None e ≡ b → IfSome (cond b (Some e.result) rest) (λ r. told (lookup m text s) ≡ Some r)
right_step m text s kind own e rest h k true t =
    let parts = and_parts (same_specifier e.referrer s) (bytes_eq e.text text && (same_kind e.kind kind && same_text e.attribute None)) t in
    let named = (bytes_eq-Decides e.text text).0 (and_parts (bytes_eq e.text text) (same_kind e.kind kind && same_text e.attribute None) parts.1).0 in
    let from = same_own e.referrer s h.own own parts.0 in
    ap (λ x. told (lookup m x s)) (sym named) ∙ ap (λ x. told (lookup m e.text x)) (sym from) ∙ h.answer
right_step m text s kind own e rest h k false t = k

listed_right : (m : ImportMap) (es : List WorldResolution) (text : List ℕ) (s : Parts) (kind : ResolutionKind) → IsOwnUrl s → Each (IsRight m) es → IfSome (listed_result es text s kind None) (λ r. told (lookup m text s) ≡ Some r)
unfolding listed_result
listed_right m [] text s kind own all = tt
listed_right m (e ∷ es) text s kind own all = right_step m text s kind own e (listed_result es text s kind None) all.0 (listed_right m es text s kind own all.1) (resolves text s kind None e) refl

-- ---- what is among a list

pub among_left : {A : Type 0} (x : A) (xs ys : List A) → IsAmong x xs → IsAmong x (xs ++ ys)
among_left x [] ys h = absurd h
among_left x (y ∷ xs) ys h = ⊎_elim (λ e. inl e) (λ r. inr (among_left x xs ys r)) h

pub among_right : {A : Type 0} (x : A) (xs ys : List A) → IsAmong x ys → IsAmong x (xs ++ ys)
among_right x [] ys h = h
among_right x (y ∷ xs) ys h = inr (among_right x xs ys h)

pub among_flat : {A B : Type 0} (f : A → List B) (x : A) (y : B) (xs : List A) → IsAmong x xs → IsAmong y (f x) → IsAmong y (flat_map f xs)
among_flat f x y [] h there = absurd h
among_flat f x y (z ∷ xs) h there = ⊎_elim (λ e. among_left y (f z) (flat_map f xs) (subst (λ v. IsAmong y (f v)) e there)) (λ r. among_right y (f z) (flat_map f xs) (among_flat f x y xs r there)) h

-- ---- each text is listed

kind_self : (k : ResolutionKind) → same_kind k k ≡ true
kind_self Execution = refl
kind_self Types = refl

resolves_self : (text : List ℕ) (s : Parts) (r : Result Parts Fault) (k : ResolutionKind) → resolves text s k None (entry s text r k) ≡ true
resolves_self text s r k =
    ap (λ (b : Bool). b && (bytes_eq text text && (same_kind k k && true))) ((bytes_eq-Decides (serialize s) (serialize s)).1 refl)
    ∙ ap (λ (b : Bool). b && (same_kind k k && true)) ((bytes_eq-Decides text text).1 refl)
    ∙ ap (λ (b : Bool). b && true) (kind_self k)

some_by : (b : Bool) (r : Result Parts Fault) (rest : Option (Result Parts Fault)) → (b ≡ false → is_some rest ≡ true) → is_some (cond b (Some r) rest) ≡ true
some_by true r rest h = refl
some_by false r rest h = h refl

listed_some : (es : List WorldResolution) (e : WorldResolution) (text : List ℕ) (s : Parts) (kind : ResolutionKind) → IsAmong e es → resolves text s kind None e ≡ true → is_some (listed_result es text s kind None) ≡ true
unfolding listed_result
listed_some [] e text s kind among fits = absurd among
listed_some (x ∷ es) e text s kind among fits =
    some_by (resolves text s kind None x) x.result (listed_result es text s kind None)
    (λ not_here. ⊎_elim (λ same. absurd (let wrong : true ≡ false = sym fits ∙ ap (resolves text s kind None) same ∙ not_here in cc)) (λ r. listed_some es e text s kind r fits) among)

both_among : (s : Parts) (text : List ℕ) (r : Result Parts Fault) (k : ResolutionKind) → IsAmong (entry s text r k) (both_kinds s text r)
both_among s text r Execution = inl refl
both_among s text r Types = inr (inl refl)

entry_among : (m : ImportMap) (s : Parts) (text : List ℕ) (texts : List (List ℕ)) (r : Result Parts Fault) (k : ResolutionKind) → told (lookup m text s) ≡ Some r → IsAmong text texts → IsAmong (entry s text r k) (entries_at m s texts)
entry_among m s text texts r k is among =
    among_flat (entries_for m s) text (entry s text r k) texts among
    (subst (λ (o : Option (Result Parts Fault)). IsAmong (entry s text r k) (by_option o [] (both_kinds s text))) (sym is) (both_among s text r k))

-- ---- where a text leads

same_error : (a b : Fault) → ◌≡◌ {A = Result Parts Fault} (Err a) (Err b) → a ≡ b
same_error a b e = cc

same_url : (a b : Parts) → ◌≡◌ {A = Result Parts Fault} (Ok a) (Ok b) → a ≡ b
same_url a b e = cc

-- a listed answer is the map's as a resolver
told_resolved : (x : Result Parts MapError) (r : Result Parts Fault) → told x ≡ Some r → or_other r ≡ resolved x
told_resolved (Ok url) r is = ap or_other (sym (same_Some (Ok url) r is))
told_resolved (Err (Blocked key)) r is = ap or_other (sym (same_Some (Err (fault_of (Blocked key))) r is))
told_resolved (Err (Unjoinable key)) r is = ap or_other (sym (same_Some (Err (fault_of (Unjoinable key))) r is))
told_resolved (Err (Backtracks key)) r is = ap or_other (sym (same_Some (Err (fault_of (Backtracks key))) r is))
told_resolved (Err (Specifier e)) r is = absurd (none-some r is)

-- what the map leaves to the plain rule
untold : (r : Result Parts SpecifierError) → told (or_specifier r) ≡ None → resolved (or_specifier r) ≡ or_refused r
untold (Ok url) is = absurd (none-some (Ok url) (sym is))
untold (Err e) is = refl

joined_told : (key : List ℕ) (address : Parts) (p : Parsed Parts) → told (by_join key address p) ≡ None → ⊥
joined_told key address (Ok url) is = by (starts_with nat_eq (serialize url) (serialize address)) is
  where
    by : (b : Bool) → told (if b then Ok url else Err (Backtracks key)) ≡ None → ⊥
    by true e = none-some (Ok url) (sym e)
    by false e = none-some (Err (fault_of (Backtracks key))) (sym e)
joined_told key address (Err e) is = none-some (Err (fault_of (Unjoinable key))) (sym is)

addressed_told : (name key : List ℕ) (o : Option Parts) → told (by_address name key o) ≡ None → ⊥
addressed_told name key None is = none-some (Err (fault_of (Blocked key))) (sym is)
addressed_told name key (Some address) is = by (bytes_eq key name) is
  where
    by : (b : Bool) → told (if b then Ok address else by_join key address (parse_url (Some address) (drop (length key) name))) ≡ None → ⊥
    by true e = none-some (Ok address) (sym e)
    by false e = joined_told key address (parse_url (Some address) (drop (length key) name)) e

found_plain : (name : List ℕ) (r : Result Parts SpecifierError) (o : Option (List ℕ × Option Parts)) → told (by_option o (or_specifier r) (by_entry name)) ≡ None → resolved (by_option o (or_specifier r) (by_entry name)) ≡ or_refused r
found_plain name r None is = untold r is
found_plain name r (Some e) is = absurd (addressed_told name e.0 e.1 is)

untold_plain : (m : ImportMap) (text : List ℕ) (s : Parts) → told (lookup m text s) ≡ None → resolved (lookup m text s) ≡ or_refused (resolution text s)
untold_plain m text s is = found_plain (name_of text (like text s)) (resolution text s) (entry_for m (may_begin (like text s)) (name_of text (like text s)) (serialize s)) is

-- a text that is listed wherever the map answers leads as the map says
lead_by : (m : ImportMap) (text : List ℕ) (range : Range) (o : Option (Result Parts Fault)) → IfSome o (λ r. told (lookup m text range.specifier) ≡ Some r) → ((r : Result Parts Fault) → told (lookup m text range.specifier) ≡ Some r → is_some o ≡ true)
    → by_option o (plain_resolve text range) or_other ≡ resolved (lookup m text range.specifier)
lead_by m text range (Some r) right listed = told_resolved (lookup m text range.specifier) r right
lead_by m text range None right listed = by (told (lookup m text range.specifier)) refl
  where
    by : (t : Option (Result Parts Fault)) → told (lookup m text range.specifier) ≡ t → plain_resolve text range ≡ resolved (lookup m text range.specifier)
    by None is = sym (untold_plain m text range.specifier is)
    by (Some r) is = absurd (let wrong : false ≡ true = listed r is in cc)

-- the texts of a module, or of a configuration, whose entries stand among the resolutions
abbrev pub Covers : ImportMap → List WorldResolution → Parts → List (List ℕ) → Type 0
Covers m es s texts = (e : WorldResolution) → IsAmong e (entries_at m s texts) → IsAmong e es

pub leads_by_map : (w : World) (imports : List ReferrerImports) (m : ImportMap) (s : Parts) (texts : List (List ℕ)) (text : List ℕ) (range : Range) (kind : ResolutionKind) → w.resolutions ≡ [] → HasOwnUrls w imports → IsOwnUrl s → Covers m (with_map w imports m) s texts → IsAmong text texts → range.specifier ≡ s
    → by_option (listed_result (with_map w imports m) text range.specifier kind None) (plain_resolve text range) or_other ≡ resolved (lookup m text range.specifier)
leads_by_map w imports m s texts text range kind none own_urls own covers among here =
    let right = all_right w imports m none own_urls in
    let own_here : IsOwnUrl range.specifier = subst IsOwnUrl (sym here) own in
    lead_by m text range (listed_result (with_map w imports m) text range.specifier kind None)
    (listed_right m (with_map w imports m) text range.specifier kind own_here right)
    (λ r is. listed_some (with_map w imports m) (entry s text r kind) text range.specifier kind
    (covers (entry s text r kind) (entry_among m s text texts r kind (ap (λ x. told (lookup m text x)) (sym here) ∙ is) among))
    (ap (λ x. resolves text x kind None (entry s text r kind)) here ∙ resolves_self text s r kind))

pub none_by_attribute : (w : World) (imports : List ReferrerImports) (m : ImportMap) (text : List ℕ) (s : Parts) (kind : ResolutionKind) (attribute : List ℕ) → w.resolutions ≡ [] → HasOwnUrls w imports → listed_result (with_map w imports m) text s kind (Some attribute) ≡ None
none_by_attribute w imports m text s kind attribute none own = none_with m (with_map w imports m) text s kind attribute (all_right w imports m none own)
