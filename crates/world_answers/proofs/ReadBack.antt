-- URLs whose texts are read back as them.
use Rattle.std.proofs.Common.{◌≡◌, ◌≢◌, ℕ, ◌<◌, ◌==◌, true, false, not, List, [], ◌∷◌, length, take, drop, get_or, None, Some, Ok, refl, sym, ap, ◌∙◌, arith, get_or-take, get_or-drop, length-take}
use Rattle.std.specs.Prelude.{codes, IsTrue}
use Rattle.std.proofs.lemmas.Bool.Decides.{nat_tests}
use Rattle.url.specs.Canonical.{IsCanonicalFile, first_segment, IsCanonicalAs}
use Rattle.url.specs.declared.host.Host.{Host}
use Rattle.url.specs.declared.host.Host.TheVariants.{Domain, Ipv4, Ipv6}
use Rattle.url.specs.declared.scheme.SchemeType.{SchemeType}
use Rattle.url.specs.declared.scheme.SchemeType.TheVariants.{File}
use Rattle.url.specs.Host.{host_text, is_empty_host}
use Rattle.url.specs.Parser.{parse_url}
use Rattle.url.specs.Parts.{Parts, kind_of, has_host, host_or_empty, serialize, IsValid}
use Rattle.url.specs.Path.{segment_len, is_windows_drive_letter}
use Rattle.url.specs.Scheme.{scheme_type}
use Rattle.url.proofs.Theorems.{parse_url-serialize, parse_url-serialize_special}
use Rattle.registry_urls.specs.Registry.{is_web}
use Rattle.registry_urls.proofs.FolderLemmas.{web_kind}
use Rattle.json_forms.specs.Form.{url_of}

read : (url : Parts) → parse_url None (serialize url) ≡ Ok url → url_of (serialize url) ≡ Some url
unfolding url_of
read url parsed = rw parsed

-- that of every URL of the web
pub web_read : (url : Parts) → IsValid url → IsTrue (is_web url) → url_of (serialize url) ≡ Some url
web_read url valid web = read url (parse_url-serialize_special url None valid (web_kind url web))

-- ---- files

no_text : (host : Host (List ℕ)) → not (is_empty_host host) ≡ false → host_text host ≡ []
no_text (Domain []) none = refl
no_text (Domain (b ∷ text)) none = absurd (grind (arith, nat_tests, none))
no_text (Ipv4 address) none = cc
no_text (Ipv6 address) none = cc

-- a drive letter ends with `:` or `|`
ends_in_colon : (s : List ℕ) → is_windows_drive_letter s ≡ true → get_or s 1 0 ≢ 124 → get_or s 1 0 ≡ 58
unfolding is_windows_drive_letter
ends_in_colon s drive other = grind (arith, nat_tests, drive)

two_bytes : (s : List ℕ) → is_windows_drive_letter s ≡ true → length s ≡ 2
unfolding is_windows_drive_letter
two_bytes s drive = grind (arith, nat_tests, drive)

within : (n : ℕ) (s : List ℕ) → length (take n s) ≡ 2 → 1 < n
within n s two = let len = length-take n s in omega (arith, len, two)

third : (path : List ℕ) → length (first_segment File path) ≡ 2 → get_or (first_segment File path) 1 0 ≡ get_or path 2 0
third path two =
    let n = segment_len File (drop 1 path) in
    get_or-take n (drop 1 path) 1 0 (within n (drop 1 path) two) ∙ get_or-drop 1 path 1 0

canonical_file : (url : Parts) → has_host url ≡ false → get_or url.path 2 0 ≢ 124 → IsCanonicalFile url
canonical_file url none other = record {
  host = λ same. let e = sym (no_text (host_or_empty url) none) ∙ same in cc;
  drive = λ drive. ends_in_colon (first_segment File url.path) drive (λ bar. other (sym (third url.path (two_bytes _ drive)) ∙ bar));
}

file_kind : (url : Parts) → url.scheme ≡ codes "file" → kind_of url ≡ File
unfolding scheme_type
file_kind url is = ap scheme_type is

canonical_as : (kind : SchemeType) (url : Parts) → kind ≡ File → IsCanonicalFile url → IsCanonicalAs kind url
canonical_as kind url is canonical = rw is canonical

-- that of a file's URL with no host and no `|` in the place of a drive letter's `:`
pub file_read : (url : Parts) → IsValid url → url.scheme ≡ codes "file" → has_host url ≡ false → (get_or url.path 2 0 == 124) ≡ false → url_of (serialize url) ≡ Some url
file_read url valid scheme none other =
    let differs : get_or url.path 2 0 ≢ 124 = λ same. grind (arith, nat_tests, other, same) in
    read url (parse_url-serialize url None valid (canonical_as (kind_of url) url (file_kind url scheme) (canonical_file url none differs)))
