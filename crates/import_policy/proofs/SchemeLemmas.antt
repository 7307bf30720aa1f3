-- The text of a valid URL tells its scheme and its host.
use Rattle.std.proofs.Common.{◌≡◌, ℕ, get_or, Bool, true, false, not, ◌&&◌, ◌==◌, List, [], ◌∷◌, ◌++◌, length, take, drop, Option, Some, None, ◌⊎◌, sym, refl, ap, ◌∙◌, subst, inl, inr, ⊎_elim, append_assoc, append-nil, arith, take_at, length-append}
use Rattle.std.specs.Prelude.{codes, is_some, unwrap_or, option_map, decimal, if◌then◌else◌}
use Rattle.std.proofs.lemmas.Bool.{cases_Bool, cond-true, cond-false}
use Rattle.std.proofs.lemmas.Bool.Decides.{nat_tests}
use Rattle.std.proofs.lemmas.List.Elements.{All-weaker}
use Rattle.url.specs.declared.host.Host.{Host}
use Rattle.url.specs.declared.host.Host.TheVariants.{Domain, Ipv4, Ipv6}
use Rattle.url.specs.declared.scheme.SchemeType.TheVariants.{NotSpecial}
use Rattle.url.specs.declared.slicing.Position.TheVariants.{BeforeUsername, BeforeHost, AfterPort, AfterPath}
use Rattle.url.specs.Host.{host_text}
use Rattle.url.specs.Input.{is_empty, rsplit_once, split_once, when}
use Rattle.url.specs.Parser.{host_len, split_scheme}
use Rattle.url.specs.Parts.{Parts, has_authority, has_host, host_or_empty, kind_of, needs_guard, nonempty_host, serialize, text_before, text_between, IsValid}
use Rattle.url.specs.Path.{segment_len}
use Rattle.url.specs.Scheme.{is_slash}
use Rattle.url.proofs.HostRoundTrip.{host_len-host_text}
use Rattle.url.proofs.InputLemmas.{Passes, is_empty_nonempty, prefix_len_at}
use Rattle.url.proofs.LayoutLemmas.{bare_without_authority}
use Rattle.url.proofs.PathLemmas.{rooted}
use Rattle.url.proofs.PiecesLemmas.{option_cases}
use Rattle.url.proofs.RoundTrip.{body_text, split_at_sign, split_fragment, split_own_scheme, split_query, stops_at_path}
use Rattle.url.proofs.SetterLemmas.{own_host}
use Rattle.url.proofs.TextLemmas.{authority_bytes, is_authority_byte}
use Rattle.url.proofs.ValidLemmas.{base_from_authority, hierarchical}
use Rattle.spec_base.specs.Specifier.{specifier_text}
use Rattle.import_policy.specs.SchemesAndHosts.{SchemeAndHost, authority_in, body_in, has_slashes, host_in, nonempty, scheme_and_host_by, scheme_and_host_in, scheme_and_host_of, without_port}

-- query and fragment are cut off
body_is : (url : Parts) → IsValid url → body_in (serialize url) ≡ text_before url AfterPath
body_is url valid = ap (λ r. (split_once 63 r.0).0) (split_fragment url valid) ∙ ap (λ r. r.0) (split_query url valid)

-- an empty host is none
host_is : (host : Option (Host (List ℕ))) (url : Parts) → url.host ≡ host → option_map host_text (nonempty_host url) ≡ nonempty (host_text (unwrap_or host (Domain [])))
host_is None url is = rw is refl
host_is (Some (Domain [])) url is = rw is refl
host_is (Some (Domain (b ∷ d))) url is = let some = is_empty_nonempty (b ∷ d) (omega arith) in rw (is, some)
host_is (Some (Ipv4 a)) url is = let some = is_empty_nonempty (host_text (Ipv4 a)) (simp length-append (omega arith)) in rw (is, some)
host_is (Some (Ipv6 a)) url is = let some = is_empty_nonempty (host_text (Ipv6 a)) (simp length-append (omega arith)) in rw (is, some)

-- ---- with an authority

ends_host : (port : Option ℕ) → (when (is_some port) (58 ∷ []) ++ (unwrap_or (option_map decimal port) [] ++ []) ≡ []) ⊎ (get_or (when (is_some port) (58 ∷ []) ++ (unwrap_or (option_map decimal port) [] ++ [])) 0 0 ≡ 58)
ends_host None = inl refl
ends_host (Some n) = inr refl

module _ (url : Parts) (valid : IsValid url) (authority : has_authority url ≡ true) where
  abbrev text : List ℕ
  text = text_between url BeforeUsername AfterPort

  authority_is : authority_in (47 ∷ 47 ∷ (text ++ url.path)) ≡ text
  authority_is =
      let path = hierarchical url valid.path (base_from_authority url authority) in
      let test = λ (b : ℕ). not (is_slash NotSpecial b) in
      let whole = All-weaker (Passes is_authority_byte) (Passes test) (λ b passes. grind (arith, nat_tests)) text (authority_bytes url valid.head) in
      let len = prefix_len_at test text url.path whole (stops_at_path NotSpecial url.path (rooted (kind_of url) url.path path.0)) in
      ap (λ n. take n (text ++ url.path)) len ∙ take_at text url.path _ refl

  host_there : without_port (text_between url BeforeHost AfterPort) ≡ host_text (host_or_empty url)
  host_there =
      let host = host_or_empty url in
      let rest = when (is_some url.port) (58 ∷ []) ++ (unwrap_or (option_map decimal url.port) [] ++ []) in
      let len = host_len-host_text (kind_of url) host rest (own_host url valid.head authority) (ends_host url.port) in
      ap (λ n. take n (host_text host ++ rest)) len ∙ take_at (host_text host) rest _ refl

  there : scheme_and_host_by (split_scheme (text_before url AfterPath)) ≡ record { scheme = url.scheme; host = nonempty (host_text (host_or_empty url)) }
  there =
      ap scheme_and_host_by (ap split_scheme (body_text url authority) ∙ split_own_scheme url.scheme (47 ∷ 47 ∷ (text ++ url.path)) valid.head.scheme)
      ∙ ap (λ h. record { scheme = url.scheme; host = nonempty h }) (ap (λ a. without_port (rsplit_once 64 a).1) authority_is ∙ ap without_port (split_at_sign url valid.head).after ∙ host_there)

-- ---- without one

both_left : (a b c : Bool) → (a && b && c) ≡ false → a ≡ true → (b && c) ≡ false
both_left true b c e t = e
both_left false b c e t = absurd (cc)

none_in : nonempty (without_port (rsplit_once 64 []).1) ≡ None
unfolding rsplit_once host_len
none_in = refl

module _ (url : Parts) (valid : IsValid url) (none : url.host ≡ None) where
  abbrev rest : List ℕ
  rest = when (needs_guard url) (codes "/.") ++ url.path

  body_bare : text_before url AfterPath ≡ url.scheme ++ 58 ∷ rest
  body_bare =
      let bare = bare_without_authority url valid.head none in
      rw (none, bare.0, bare.1, bare.2) (simp append-nil)

  no_slashes : has_slashes rest ≡ false
  no_slashes =
      ⊎_elim
      (λ guard. rw guard)
      (λ other. rw other (both_left (not (has_authority url)) (get_or url.path 0 0 == 47) (get_or url.path 1 0 == 47) other (rw none)))
      (cases_Bool (needs_guard url))

  bare_there : scheme_and_host_by (split_scheme (text_before url AfterPath)) ≡ record { scheme = url.scheme; host = None }
  bare_there =
      ap scheme_and_host_by (ap split_scheme body_bare ∙ split_own_scheme url.scheme rest valid.head.scheme)
      ∙ ap (λ h. record { scheme = url.scheme; host = h }) (ap (λ b. nonempty (without_port (rsplit_once 64 (if b then take (segment_len NotSpecial (drop 2 rest)) (drop 2 rest) else [])).1)) no_slashes ∙ none_in)

pub scheme_and_host_told : (url : Parts) → IsValid url → scheme_and_host_in (specifier_text url) ≡ scheme_and_host_of url
unfolding specifier_text scheme_and_host_in
scheme_and_host_told url valid =
    ap (λ t. scheme_and_host_by (split_scheme t)) (body_is url valid)
    ∙ ⊎_elim
    (λ none. bare_there url valid none ∙ ap (λ h. record { scheme = url.scheme; host = h }) (sym (host_is None url none)))
    (λ some. there url valid (ap is_some some.1) ∙ ap (λ h. record { scheme = url.scheme; host = h }) (sym (host_is url.host url refl)))
    (option_cases url.host)
