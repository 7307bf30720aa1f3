-- Each text in the folder of a web registry has a URL, which stays at the registry's host.
use Rattle.std.proofs.Common.{◌≡◌, ℕ, ◌<◌, true, false, not, ◌||◌, ◌==◌, ◌⊎◌, List, [], ◌∷◌, ◌++◌, length, get_or, take, drop, Option, None, Ok, All, refl, sym, ap, ◌∙◌, subst, inl, inr, ⊎_elim, append_assoc, append-nil, arith, length-append, take_at, drop_at}
use Rattle.std.specs.Prelude.{codes, bytes_eq, IsTrue}
use Rattle.std.specs.List.{concat}
use Rattle.std.specs.Char.{is_ascii_alphabetic}
use Rattle.std.specs.Result.{result_unwrap_or}
use Rattle.std.proofs.lemmas.Bool.{cond-true, cond-false, cases_Bool}
use Rattle.std.proofs.lemmas.Bool.Decides.{nat_tests}
use Rattle.std.proofs.lemmas.List.{get_or_append_left}
use Rattle.std.proofs.lemmas.List.Elements.{All-nil, All-cons, All-head, All-weaker}
use Rattle.std.proofs.lemmas.Slice.Eq.{bytes_eq-Decides}
use Rattle.url.specs.declared.slicing.Position.TheVariants.{BeforeUsername, AfterPort, AfterPath}
use Rattle.url.specs.declared.scheme.SchemeType.TheVariants.{SpecialNotFile}
use Rattle.url.specs.Input.{is_c0_control_or_space, is_tab_or_new_line, strip_tabs_and_new_lines, trim_end, split_once}
use Rattle.url.specs.Scheme.{default_port, scheme_type, is_special, is_file, is_slash}
use Rattle.url.specs.Host.{host_text, parse_host, IsHostOf}
use Rattle.url.specs.Path.{parse_path_start, segment_len}
use Rattle.url.specs.Parts.{Parts, kind_of, host_or_empty, pieces, serialize, text_before, text_between, IsValid, HasSameHost}
use Rattle.url.specs.Head.{head_only}
use Rattle.url.specs.Parser.{Parsed, and_then, with_path, with_tail, before_tail, skip_slashes, after_double_slash, parse_authority, parse_body, parse_parts, parse_by_scheme, split_scheme, parse_url}
use Rattle.url.proofs.InputLemmas.{IsNot, Passes, StopsAt, prefix_len_at, is_empty_nonempty}
use Rattle.url.proofs.SchemeLemmas.{scheme_letter}
use Rattle.url.proofs.ValidLemmas.{hierarchical, special_has_authority, base_from_authority}
use Rattle.url.proofs.PathLemmas.{rooted}
use Rattle.url.proofs.SetterLemmas.{own_host}
use Rattle.url.proofs.TextLemmas.{is_authority_byte, is_body_byte, authority_bytes, body_bytes}
use Rattle.url.proofs.HostRoundTrip.{parse_special_host-host_text}
use Rattle.url.proofs.ParsedCanonical.{before_special}
use Rattle.url.proofs.RoundTrip.{split_own_scheme, parse_own_authority, body_text, host_nonempty}
use Rattle.registry_urls.specs.Registry.{is_web, text_in, url_in}
use Rattle.registry_urls.proofs.CutLemmas.{GoesOn, end_trimmed, trimmed, stripped_of_lines, cut_behind}

-- ---- the text of a web URL

-- what stands between `//` and the path
abbrev pub authority : Parts → List ℕ
authority url = text_between url BeforeUsername AfterPort

-- what stands before the path
abbrev pub front : Parts → List ℕ
front url = url.scheme ++ 58 ∷ 47 ∷ 47 ∷ authority url

pub web_kind : (url : Parts) → IsTrue (is_web url) → kind_of url ≡ SpecialNotFile
unfolding scheme_type default_port
web_kind url web =
    ⊎_elim
    (λ is. ap scheme_type ((bytes_eq-Decides url.scheme (codes "http")).0 is))
    (λ other. let is : bytes_eq url.scheme (codes "https") ≡ true = rw other at web in ap scheme_type ((bytes_eq-Decides url.scheme (codes "https")).0 is))
    (cases_Bool (bytes_eq url.scheme (codes "http")))

first_slash : (path : List ℕ) → (path ≡ []) ⊎ (get_or path 0 0 ≡ 47) → 0 < length path → path ≡ 47 ∷ drop 1 path
first_slash [] first some = absurd (omega arith)
first_slash (b ∷ path) (inl none) some = absurd (let e = ap length none in omega arith)
first_slash (b ∷ path) (inr slash) some = ap (λ x. x ∷ path) slash

regroup : (scheme host path rest tail : List ℕ) → path ≡ 47 ∷ rest → (scheme ++ 58 ∷ 47 ∷ 47 ∷ (host ++ path)) ++ tail ≡ (scheme ++ 58 ∷ 47 ∷ 47 ∷ host) ++ 47 ∷ (rest ++ tail)
regroup scheme host path rest tail e = rw e (simp append_assoc)

pub regroup_path : (scheme host path : List ℕ) → scheme ++ 58 ∷ 47 ∷ 47 ∷ (host ++ path) ≡ (scheme ++ 58 ∷ 47 ∷ 47 ∷ host) ++ path
regroup_path scheme host path = simp append_assoc

pub text_and_tail : (url : Parts) → serialize url ≡ text_before url AfterPath ++ concat (drop 11 (pieces url))
text_and_tail url = simp (append_assoc, append-nil)

-- the text of a web URL goes on behind its host with a `/`
begins : (url : Parts) → IsValid url → kind_of url ≡ SpecialNotFile → GoesOn (front url) (serialize url)
begins url valid kind =
    let has = special_has_authority url valid.head (ap is_special kind) in
    let path = hierarchical url valid.path (base_from_authority url has) in
    let slash = first_slash url.path (rooted (kind_of url) url.path path.0) (path.1 (ap is_special kind)) in (
      drop 1 url.path ++ concat (drop 11 (pieces url)),
      text_and_tail url ∙ ap (λ t. t ++ concat (drop 11 (pieces url))) (body_text url has)
          ∙ regroup url.scheme (authority url) url.path (drop 1 url.path) (concat (drop 11 (pieces url))) slash,
    )

All_front : (P : ℕ → Type 0) (xs ys : List ℕ) → All P (xs ++ ys) → All P xs
All_front P xs ys all = λ k d inside. subst P (get_or_append_left xs ys d k inside) (all k d (let len = length-append xs ys in omega arith))

front_bytes : (url : Parts) → IsValid url → kind_of url ≡ SpecialNotFile → All (Passes is_body_byte) (front url)
front_bytes url valid kind =
    let has = special_has_authority url valid.head (ap is_special kind) in
    All_front (Passes is_body_byte) (front url) url.path (subst (All (Passes is_body_byte)) (body_text url has ∙ regroup_path url.scheme (authority url) url.path) (body_bytes url valid))

-- ---- any text that goes on so has a URL at the same host

-- a URL of the text, which has the scheme, the user and the host of the registry
pub record HasUrlAt (registry : Parts) (text : List ℕ) : Type 0 where
  pub url : Parts
  pub parsed : parse_url None text ≡ Ok url
  pub same_host : HasSameHost registry url

own_authority : (url : Parts) → IsValid url → kind_of url ≡ SpecialNotFile → parse_authority url.scheme (authority url) ≡ Ok (head_only url)
own_authority url valid kind =
    let has = special_has_authority url valid.head (ap is_special kind) in
    let host = host_or_empty url in
    let is_host = subst (λ k. IsHostOf k host) kind (own_host url valid.head has) in
    parse_own_authority url valid.head has (ap (λ k. parse_host k (host_text host)) kind ∙ parse_special_host-host_text host is_host) (rw (is_empty_nonempty _ (host_nonempty host is_host)))

goes_on_parsed : (url : Parts) (rest : List ℕ) → IsValid url → kind_of url ≡ SpecialNotFile → after_double_slash url.scheme (authority url ++ 47 ∷ rest) ≡ Ok (with_path (head_only url) (parse_path_start (kind_of url) [] (47 ∷ rest)))
unfolding after_double_slash
goes_on_parsed url rest valid is_web =
    let kind = kind_of url in
    let text = authority url in
    let test = λ (b : ℕ). not (is_slash kind b) in
    let whole = All-weaker (Passes is_authority_byte) (Passes test) (λ b passes. grind (arith, nat_tests)) text (authority_bytes url valid.head) in
    let len = prefix_len_at test text (47 ∷ rest) whole refl in
    let before = ap (λ n. take n (text ++ 47 ∷ rest)) len ∙ take_at text (47 ∷ rest) _ refl in
    let behind = ap (λ n. drop n (text ++ 47 ∷ rest)) len ∙ drop_at text (47 ∷ rest) _ refl in
    ap (λ r. and_then r (λ head. Ok (with_path head (parse_path_start kind [] (drop (segment_len kind (text ++ 47 ∷ rest)) (text ++ 47 ∷ rest)))))) (ap (parse_authority url.scheme) before ∙ own_authority url valid is_web)
    ∙ ap (λ p. Ok (with_path (head_only url) (parse_path_start kind [] p))) behind

stops_at_host : (xs ys : List ℕ) → 0 < length xs → All (Passes is_authority_byte) xs → StopsAt (λ b. b == 47 || b == 92) (xs ++ ys)
stops_at_host [] ys some all = absurd (omega arith)
stops_at_host (x ∷ xs) ys some all = let passes = All-head (Passes is_authority_byte) x xs all in grind (arith, nat_tests)

slashes_skipped : (url : Parts) (rest : List ℕ) → IsValid url → kind_of url ≡ SpecialNotFile → skip_slashes (47 ∷ 47 ∷ (authority url ++ rest)) ≡ authority url ++ rest
slashes_skipped url rest valid kind =
    let has = special_has_authority url valid.head (ap is_special kind) in
    let host = host_or_empty url in
    let some = host_nonempty host (subst (λ k. IsHostOf k host) kind (own_host url valid.head has)) in
    let text = authority url in
    let long : 0 < length text = simp length-append (omega arith) in
    let test = λ (b : ℕ). b == 47 || b == 92 in
    let slashes = prefix_len_at test (47 ∷ 47 ∷ []) (text ++ rest) (All-cons (Passes test) 47 (47 ∷ []) refl (All-cons (Passes test) 47 [] refl (All-nil (Passes test)))) (stops_at_host text rest long (authority_bytes url valid.head)) in
    ap (λ n. drop n (47 ∷ 47 ∷ (text ++ rest))) slashes

body_parsed : (url : Parts) (rest : List ℕ) → IsValid url → kind_of url ≡ SpecialNotFile → parse_body url.scheme None (47 ∷ 47 ∷ (authority url ++ 47 ∷ rest)) ≡ Ok (with_path (head_only url) (parse_path_start (kind_of url) [] (47 ∷ rest)))
unfolding parse_body
body_parsed url rest valid kind =
    cond-false _ _ _ (ap is_file kind) ∙ cond-true _ _ _ (ap is_special kind) ∙ ap (after_double_slash url.scheme) (slashes_skipped url (47 ∷ rest) valid kind) ∙ goes_on_parsed url rest valid kind

-- the parts, with a query and a fragment that were cut off
parts_parsed : (url : Parts) (rest : List ℕ) (query fragment : Option (List ℕ)) → IsValid url → kind_of url ≡ SpecialNotFile → (path : List ℕ) × (parse_parts url.scheme None (47 ∷ 47 ∷ (authority url ++ 47 ∷ rest)) query fragment ≡ Ok (with_tail (with_path (head_only url) path) query fragment))
unfolding parse_parts
parts_parsed url rest query fragment valid kind =
    let path = parse_path_start (kind_of url) [] (47 ∷ rest) in
    let made = with_path (head_only url) path in (
      path,
      ap (λ r. and_then r (λ u. Ok (with_tail (before_tail u query fragment) query fragment))) (body_parsed url rest valid kind)
          ∙ ap (λ (u : Parts). Ok (with_tail u query fragment)) (before_special made query fragment (ap is_special kind)),
    )

-- what goes on behind the host of a web URL has a URL
goes_on_has_url : (url : Parts) (rest : List ℕ) → IsValid url → kind_of url ≡ SpecialNotFile → HasUrlAt url (front url ++ 47 ∷ rest)
unfolding parse_url
goes_on_has_url url rest valid kind =
    let start = front url in
    let bytes = front_bytes url valid kind in
    let letter = scheme_letter url.scheme valid.head.scheme in
    let some = valid.head.scheme.nonempty in
    let first = get_or_append_left url.scheme (58 ∷ 47 ∷ 47 ∷ authority url) 0 0 some in
    let visible : is_c0_control_or_space (get_or start 0 0) ≡ false = rw first (letter_is_visible (get_or url.scheme 0 0) letter) in
    let len = length-append url.scheme (58 ∷ 47 ∷ 47 ∷ authority url) in
    let long : 0 < length start = omega arith in
    let plain = All-weaker (Passes is_body_byte) (Passes (λ b. not (is_tab_or_new_line b))) (λ b passes. grind (arith, nat_tests)) start bytes in
    let no_hash = All-weaker (Passes is_body_byte) (IsNot 35) (λ b passes e. grind (arith, nat_tests)) start bytes in
    let no_question = All-weaker (Passes is_body_byte) (IsNot 63) (λ b passes e. grind (arith, nat_tests)) start bytes in
    let a = trimmed start rest long visible in
    let b = stripped_of_lines start a.0 plain in
    let c = cut_behind 35 start b.0 no_hash refl in
    let d = cut_behind 63 start c.0 no_question refl in
    let hash = ap (λ t. split_once 35 (strip_tabs_and_new_lines t)) a.1 ∙ ap (split_once 35) b.1 ∙ c.1 in
    let question = ap (λ r. split_once 63 r.0) hash ∙ d.1 in
    let body = 47 ∷ 47 ∷ (authority url ++ 47 ∷ d.0) in
    let query = (split_once 63 c.0).1 in
    let fragment = (split_once 35 b.0).1 in
    let scheme = ap (λ r. split_scheme r.0) question ∙ ap split_scheme (sym (regroup_path url.scheme (authority url) (47 ∷ d.0))) ∙ split_own_scheme url.scheme body valid.head.scheme in
    let made = parts_parsed url d.0 query fragment valid kind in
    record {
      url = with_tail (with_path (head_only url) made.0) query fragment;
      parsed =
          (λ i. parse_by_scheme (scheme i) None (question i).0 (question i).1 (hash i).1)
          ∙ ap (λ s. parse_parts s None body query fragment) valid.head.scheme.lower
          ∙ made.1;
      same_host = (refl, refl, refl);
    }
  where
    letter_is_visible : (b : ℕ) → is_ascii_alphabetic b ≡ true → is_c0_control_or_space b ≡ false
    letter_is_visible b letter = grind (arith, nat_tests)

-- each text in the folder of a web registry has a URL at the registry's host
pub folder_has_urls : (registry : Parts) (path : List ℕ) → IsValid registry → IsTrue (is_web registry) → HasUrlAt registry (text_in registry path)
folder_has_urls registry path valid web =
    let kind = web_kind registry web in
    let text = begins registry valid kind in
    let test = λ (b : ℕ). not (b == 47) in
    let back = end_trimmed test (front registry) text.0 refl in
    let is : text_in registry path ≡ front registry ++ 47 ∷ (back.0 ++ path) = ap (λ t. trim_end test t ++ path) text.1 ∙ ap (λ t. t ++ path) back.1 ∙ append_assoc (front registry) (47 ∷ back.0) path in
    subst (HasUrlAt registry) (sym is) (goes_on_has_url registry (back.0 ++ path) valid kind)

-- so that its URL is what the URL Standard's parser gives
pub url_in_parsed : (registry : Parts) (path : List ℕ) → IsValid registry → IsTrue (is_web registry) → parse_url None (text_in registry path) ≡ Ok (url_in registry path)
url_in_parsed registry path valid web =
    let has = folder_has_urls registry path valid web in
    has.parsed ∙ sym (ap (λ r. Ok (result_unwrap_or r registry)) has.parsed)

-- and lies at the registry's host
pub url_in_same_host : (registry : Parts) (path : List ℕ) → IsValid registry → IsTrue (is_web registry) → HasSameHost registry (url_in registry path)
url_in_same_host registry path valid web =
    let has = folder_has_urls registry path valid web in
    subst (λ (r : Parsed Parts). HasSameHost registry (result_unwrap_or r registry)) (sym has.parsed) has.same_host
