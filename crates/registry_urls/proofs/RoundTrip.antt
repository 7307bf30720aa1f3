-- The URL of a version of a package names that version.
use Rattle.std.proofs.Common.{◌≡◌, ℕ, ◌+◌, ◌%◌, ◌<◌, ◌^◌, true, false, List, [], ◌∷◌, ◌++◌, length, take, Some, All, refl, sym, ap, ◌∙◌, subst, append_assoc, arith}
use Rattle.std.specs.Prelude.{codes, nat_eq, option_and_then, option_map, IsTrue}
use Rattle.std.specs.Fmt.{decimal}
use Rattle.std.specs.List.{starts_with}
use Rattle.std.proofs.lemmas.Bool.{cond-true, cond-false}
use Rattle.std.proofs.lemmas.Bool.Decides.{nat_tests}
use Rattle.std.proofs.lemmas.Fmt.{decimal_by_steps}
use Rattle.std.proofs.lemmas.List.Elements.{All-head, All-weaker}
use Rattle.std.proofs.lemmas.List.Splits.{slice_split_at}
use Rattle.std.proofs.Math.Seq.{drop-append_seam, take-append_seam}
use Rattle.std.proofs.lemmas.Slice.Eq.{bytes_eq-Decides}
use Rattle.semver.specs.Grammar.{IsValid}
use Rattle.semver.specs.Identifiers.{parts_text}
use Rattle.semver_npm.specs.References.{is_slash, without_slash}
use Rattle.semver_npm.specs.Versions.{Ver}
use Rattle.semver_npm.specs.declared.package.PackageNv.{PackageNv}
use Rattle.semver_npm.proofs.WordBytes.{is_word_byte, version-bytes}
use Rattle.percent_encoding.specs.Percent.{IsKept}
use Rattle.url.specs.declared.scheme.SchemeType.TheVariants.{SpecialNotFile}
use Rattle.url.specs.declared.sets.TheConstants.{PATH}
use Rattle.url.specs.Path.{IsSegment, IsSegmentList, dot_count, dot_len}
use Rattle.url.specs.Scheme.{is_slash as is_url_slash}
use Rattle.url.specs.Parts as url
use Rattle.url.specs.Parts.{Parts, serialize}
use Rattle.url.proofs.InputLemmas.{Passes, All_from_list_all}
use Rattle.url.proofs.SetLemmas.{kept_from_passes}
use Rattle.url.proofs.PathLemmas.{empty_segment, push_valid}
use Rattle.registry_urls.specs.Names.{nv_of_parts, nv_of_path, nv_of_url}
use Rattle.registry_urls.specs.Packages.{package_path, package_url}
use Rattle.registry_urls.specs.Plain.{IsFolder, IsPlain, IsScoped}
use Rattle.registry_urls.specs.Prefix.{after_prefix}
use Rattle.registry_urls.specs.Registry.{is_web}
use Rattle.registry_urls.proofs.NameLemmas.{version_found}
use Rattle.registry_urls.proofs.PathLemmas.{part_by_part, version_last}
use Rattle.registry_urls.proofs.PlainLemmas.{plain_stays}

-- ---- the text of a version is a segment

-- a number doesn't begin as a dot segment does
no_dot_first : (n : ℕ) → n < 2 ^ 64 → (rest : List ℕ) → dot_len (decimal n ++ rest) ≡ 0
no_dot_first n fits = decimal_by_steps (λ _ digits. (rest : List ℕ) → dot_len (digits ++ rest) ≡ 0)
    (λ k low rest. grind (arith, nat_tests))
    (λ k digits big before rest. ap dot_len (append_assoc digits ((48 + k % 10) ∷ []) rest) ∙ before ((48 + k % 10) ∷ rest))
    n fits

no_dots : (segment : List ℕ) → dot_len segment ≡ 0 → dot_count segment ≡ 0
unfolding dot_count
no_dots segment first = rw first

word_is_small : (b : ℕ) → is_word_byte b ≡ true → b < 128
word_is_small b word = grind (arith, nat_tests)

word_no_slash : (b : ℕ) → is_word_byte b ≡ true → is_url_slash SpecialNotFile b ≡ false
word_no_slash b word = grind (arith, nat_tests)

version_segment : (v : Ver) → IsValid v → IsSegment SpecialNotFile (parts_text v)
version_segment v valid =
    let text = parts_text v in
    let bytes = All_from_list_all is_word_byte text (version-bytes text v (valid, refl)) in
    record {
      escaped = All-weaker (Passes is_word_byte) (IsKept PATH) (λ b word. kept_from_passes is_word_byte PATH refl b (word_is_small b word) word) text bytes;
      whole = All-weaker (Passes is_word_byte) (λ b. is_url_slash SpecialNotFile b ≡ false) word_no_slash text bytes;
      resolved = no_dots text (no_dot_first v.0 valid.0 _);
    }

-- so that the path of a version is plain where its name is
package_plain : (nv : PackageNv) → IsPlain nv.name → IsValid nv.version → IsPlain (package_path nv)
package_plain nv plain valid =
    let kind = SpecialNotFile in
    let text = parts_text nv.version in
    let pushed = push_valid kind (47 ∷ nv.name ++ 47 ∷ text) [] (push_valid kind (47 ∷ nv.name) text plain (version_segment nv.version valid)) (empty_segment kind) in
    let is : (47 ∷ nv.name ++ 47 ∷ text) ++ 47 ∷ [] ≡ 47 ∷ package_path nv = ap (λ l. 47 ∷ l) (version_last nv.name text) in
    subst (IsSegmentList kind) is pushed

-- ---- the parts of the path

follows : (prefix rest : List ℕ) → after_prefix prefix (prefix ++ rest) ≡ Some rest
follows prefix rest =
    let begins : starts_with nat_eq (prefix ++ rest) prefix ≡ true = (bytes_eq-Decides prefix (take (length prefix) (prefix ++ rest))).1 (sym (take-append_seam prefix rest)) in
    cond-true _ _ _ begins ∙ ap Some (drop-append_seam prefix rest)

no_slash_first : (scope rest : List ℕ) → 0 < length scope → All (λ b. is_slash b ≡ false) scope → without_slash (scope ++ rest) ≡ scope ++ rest
no_slash_first [] rest some whole = absurd (omega arith)
no_slash_first (b ∷ scope) rest some whole =
    let other : is_slash b ≡ false = All-head (λ x. is_slash x ≡ false) b scope whole in
    let begins : starts_with nat_eq (b ∷ scope ++ rest) (codes "/") ≡ false = grind (arith, nat_tests) in
    cond-false _ _ _ begins

version_whole : (v : Ver) → IsValid v → All (λ b. is_slash b ≡ false) (parts_text v)
version_whole v valid =
    let bytes = All_from_list_all is_word_byte (parts_text v) (version-bytes (parts_text v) v (valid, refl)) in
    All-weaker (Passes is_word_byte) (λ b. is_slash b ≡ false) (λ b word. grind (arith, nat_tests)) (parts_text v) bytes

path_named : (nv : PackageNv) → IsScoped nv.name → IsValid nv.version → nv_of_path (package_path nv) ≡ Some nv
path_named nv scoped valid =
    let scope = scoped.scope in
    let name = scoped.name in
    let text = parts_text nv.version in
    let is : package_path nv ≡ scope ++ 47 ∷ (name ++ 47 ∷ (text ++ 47 ∷ [])) = ap (λ l. l ++ codes "/" ++ text ++ codes "/") scoped.joined ∙ part_by_part scope name text in
    let split =
    slice_split_at is_slash scope 47 (name ++ 47 ∷ (text ++ 47 ∷ [])) scoped.scope_whole refl
    ∙ ap (λ l. scope ∷ l) (slice_split_at is_slash name 47 (text ++ 47 ∷ []) scoped.name_whole refl ∙ ap (λ l. name ∷ l) (slice_split_at is_slash text 47 [] (version_whole nv.version valid) refl)) in
    ap nv_of_path is ∙ ap nv_of_parts split
    ∙ ap (option_map (λ v. record { name = scope ++ codes "/" ++ name; version = v })) (version_found text nv.version (valid, refl))
    ∙ (λ i. Some (record { name = sym scoped.joined i; version = nv.version }))

-- the URL of a version of a package names that version
pub named_back : (registry : Parts) (nv : PackageNv) → url.IsValid registry → IsTrue (is_web registry) → IsFolder registry → IsPlain nv.name → IsScoped nv.name → IsValid nv.version → nv_of_url registry (package_url registry nv) ≡ Some nv
named_back registry nv valid web folder plain scoped version =
    let text = plain_stays registry (package_path nv) valid web folder (package_plain nv plain version) in
    let rest = ap (after_prefix (serialize registry)) text ∙ follows (serialize registry) (package_path nv) in
    let scope = scoped.scope in
    let version_text = parts_text nv.version in
    let tail = 47 ∷ (scoped.name ++ 47 ∷ (version_text ++ 47 ∷ [])) in
    let is : package_path nv ≡ scope ++ tail = ap (λ l. l ++ codes "/" ++ version_text ++ codes "/") scoped.joined ∙ part_by_part scope scoped.name version_text in
    let plain_start = ap without_slash is ∙ no_slash_first scope tail scoped.scope_some scoped.scope_whole ∙ sym is in
    ap (option_and_then (λ path. nv_of_path (without_slash path))) rest ∙ ap nv_of_path plain_start ∙ path_named nv scoped version
