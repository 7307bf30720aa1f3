-- The texts of the URLs of modules are parsed to them.
use Rattle.std.proofs.Common.{◌≡◌, ℕ, ◌+◌, ◌%◌, ◌<◌, ◌^◌, true, false, List, [], ◌∷◌, ◌++◌, None, Ok, All, refl, ap, ◌∙◌, inl, sym, append_assoc, append-nil, arith}
use Rattle.std.specs.Prelude.{codes}
use Rattle.std.specs.Fmt.{decimal}
use Rattle.std.specs.List.{list_all}
use Rattle.std.proofs.lemmas.Bool.Decides.{nat_tests}
use Rattle.std.proofs.lemmas.Fmt.{decimal_by_steps}
use Rattle.std.proofs.lemmas.List.Elements.{All-nil, All-weaker}
use Rattle.semver_npm.proofs.WordBytes.{bytes-append, decimal-bytes, is_word_byte}
use Rattle.percent_encoding.specs.Percent.{IsKept}
use Rattle.url.specs.declared.scheme.SchemeType.TheVariants.{File}
use Rattle.url.specs.declared.sets.TheConstants.{PATH, USERINFO, FORBIDDEN_DOMAIN}
use Rattle.url.specs.Canonical.{IsCanonical}
use Rattle.url.specs.Host.{IsDomain}
use Rattle.url.specs.Ipv4.{ends_in_a_number}
use Rattle.url.specs.Parser.{parse_url}
use Rattle.url.specs.Parts.{IsValid, IsValidHead, serialize}
use Rattle.url.specs.Path.{IsSegment, IsSegmentList, dot_count, dot_len}
use Rattle.url.specs.Scheme.{IsScheme, is_slash}
use Rattle.url.proofs.InputLemmas.{Passes, All_from_list_all}
use Rattle.url.proofs.OnLiterals.{url_on_literals}
use Rattle.url.proofs.PathLemmas.{no_segments, push_valid}
use Rattle.url.proofs.SetLemmas.{kept_from_passes}
use Rattle.url.proofs.Theorems.{parse_url-serialize}
use Rattle.generated_world.specs.Modules.{file_url}

-- ---- segments

no_dots : (segment : List ℕ) → dot_len segment ≡ 0 → dot_count segment ≡ 0
unfolding dot_count
no_dots segment first = rw first

-- a number doesn't begin as a dot segment does
no_dot_first : (n : ℕ) → n < 2 ^ 64 → (rest : List ℕ) → dot_len (decimal n ++ rest) ≡ 0
no_dot_first n fits = decimal_by_steps (λ _ digits. (rest : List ℕ) → dot_len (digits ++ rest) ≡ 0)
    (λ k low rest. grind (arith, nat_tests))
    (λ k digits big before rest. ap dot_len (append_assoc digits ((48 + k % 10) ∷ []) rest) ∙ before ((48 + k % 10) ∷ rest))
    n fits

word_is_small : (b : ℕ) → is_word_byte b ≡ true → b < 128
word_is_small b word = grind (arith, nat_tests)

word_no_slash : (b : ℕ) → is_word_byte b ≡ true → is_slash File b ≡ false
word_no_slash b word = grind (arith, nat_tests)

segment_of : (s : List ℕ) → list_all is_word_byte s ≡ true → dot_len s ≡ 0 → IsSegment File s
segment_of s words first =
    let bytes = All_from_list_all is_word_byte s words in
    record {
      escaped = All-weaker (Passes is_word_byte) (IsKept PATH) (λ b word. kept_from_passes is_word_byte PATH refl b (word_is_small b word) word) s bytes;
      whole = All-weaker (Passes is_word_byte) (λ b. is_slash File b ≡ false) word_no_slash s bytes;
      resolved = no_dots s first;
    }

-- ---- a file in the folder `m`

valid_head : (path : List ℕ) → IsValidHead (file_url path)
unfolding url_on_literals
valid_head path = record {
  scheme = record { nonempty = omega arith; whole = refl; lower = refl };
  username = All-nil (IsKept USERINFO);
  password = All-nil (IsKept USERINFO);
  host = record { allowed = All-nil (IsKept FORBIDDEN_DOMAIN); lower = refl; named = refl };
  port = tt;
  bare = λ _. (refl, refl, refl);
}

-- the path of a file in it
abbrev pub path_in : List ℕ → List ℕ
path_in name = codes "/m/" ++ name

valid_in : (name : List ℕ) → IsSegment File name → IsValid (file_url (path_in name))
unfolding url_on_literals
valid_in name segment =
    let folder = push_valid File [] (codes "m") (no_segments File) (segment_of (codes "m") refl refl) in
    record {
      head = valid_head (path_in name);
      path = inl (push_valid File (codes "/m") name folder segment, λ _. omega arith);
      query = tt;
      fragment = tt;
    }

canonical_in : (name : List ℕ) → IsCanonical (file_url (path_in name))
unfolding url_on_literals
canonical_in name = record { host = λ same. cc; drive = λ is. cc }

parsed_in : (name : List ℕ) → IsSegment File name → parse_url None (codes "file:///m/" ++ name) ≡ Ok (file_url (path_in name))
parsed_in name segment = ap (λ t. parse_url None (codes "file:///m/" ++ t)) (sym (append-nil name)) ∙ parse_url-serialize (file_url (path_in name)) None (valid_in name segment) (canonical_in name)

-- ---- the files of modules

file_words : (n : ℕ) → n < 2 ^ 64 → list_all is_word_byte (decimal n ++ codes ".js") ≡ true
file_words n fits = bytes-append (decimal n) (codes ".js") (decimal-bytes n fits) refl

pub module_parsed : (n : ℕ) → n < 2 ^ 64 → parse_url None (codes "file:///m/" ++ decimal n ++ codes ".js") ≡ Ok (file_url (codes "/m/" ++ decimal n ++ codes ".js"))
module_parsed n fits = parsed_in (decimal n ++ codes ".js") (segment_of (decimal n ++ codes ".js") (file_words n fits) (no_dot_first n fits (codes ".js")))

pub renamed_parsed : (n : ℕ) → n < 2 ^ 64 → parse_url None (codes "file:///m/r" ++ decimal n ++ codes ".js") ≡ Ok (file_url (codes "/m/r" ++ decimal n ++ codes ".js"))
renamed_parsed n fits = parsed_in (codes "r" ++ decimal n ++ codes ".js") (segment_of (codes "r" ++ decimal n ++ codes ".js") (file_words n fits) refl)
