-- The version of a package that a path names.
use Rattle.std.proofs.Common.{◌≡◌, ℕ, ◌<◌, List, ◌∷◌, ◌++◌, length, None, Some, Result, Ok, Err, refl, sym, ap, ◌∙◌}
use Rattle.std.specs.Prelude.{codes, option_map}
use Rattle.std.specs.List.{after_first, before_first, position_or_len, slice_split}
use Rattle.std.specs.Result.{result_ok}
use Rattle.std.proofs.lemmas.List.Splits.{slice_split_first}
use Rattle.semver.specs.Parse.{version_parts}
use Rattle.semver.specs.declared.error.Error.{Error}
use Rattle.semver_npm.specs.References.{is_slash}
use Rattle.semver_npm.specs.Versions.{IsVersion, Ver, version_of}
use Rattle.semver_npm.proofs.VersionLemmas.{is_version, version_read}
use Rattle.registry_urls.specs.Names.{named, nv_of_parts, nv_of_path}
use Rattle.registry_urls.proofs.PrefixLemmas.{first_part, one_part}

-- a path without a slash has no name
pub no_name : (path : List ℕ) → position_or_len is_slash path ≡ length path → nv_of_path path ≡ None
no_name path whole = ap nv_of_parts (one_part is_slash path whole)

-- a path with one slash has no version
pub no_version : (path rest : List ℕ) → rest ≡ after_first is_slash path → position_or_len is_slash path < length path → position_or_len is_slash rest ≡ length rest → nv_of_path path ≡ None
no_version path rest is_rest scope name =
    ap nv_of_parts (
    slice_split_first is_slash path 0 scope
    ∙ ap (λ l. before_first is_slash path ∷ slice_split is_slash l) (sym is_rest)
    ∙ ap (λ l. before_first is_slash path ∷ l) (one_part is_slash rest name)
    )

-- a path with two slashes has scope, name and version
has_version : (path rest behind : List ℕ) → rest ≡ after_first is_slash path → behind ≡ after_first is_slash rest → position_or_len is_slash path < length path → position_or_len is_slash rest < length rest → nv_of_path path ≡ named (before_first is_slash path) (before_first is_slash rest) (before_first is_slash behind)
has_version path rest behind is_rest is_behind scope name =
    let third = first_part is_slash behind 0 in
    ap nv_of_parts (
    slice_split_first is_slash path 0 scope
    ∙ ap (λ l. before_first is_slash path ∷ slice_split is_slash l) (sym is_rest)
    ∙ ap (λ l. before_first is_slash path ∷ l) (slice_split_first is_slash rest 0 name)
    ∙ ap (λ l. before_first is_slash path ∷ before_first is_slash rest ∷ slice_split is_slash l) (sym is_behind)
    ∙ ap (λ l. before_first is_slash path ∷ before_first is_slash rest ∷ l) third.1
    )

-- the same of parts that were cut off
pub cut_twice : (path scope rest name behind version : List ℕ) → (position_or_len is_slash path < length path) × (scope ≡ before_first is_slash path) × (rest ≡ after_first is_slash path) → (position_or_len is_slash rest < length rest) × (name ≡ before_first is_slash rest) × (behind ≡ after_first is_slash rest) → version ≡ before_first is_slash behind → named scope name version ≡ nv_of_path path
cut_twice path scope rest name behind version first second third =
    (λ i. named (first.1 i) (second.1 i) (third i)) ∙ sym (has_version path rest behind first.2 second.2 first.0 second.0)

-- the version of a text
pub version_found : (text : List ℕ) (v : Ver) → IsVersion text v → version_of text ≡ Some v
version_found text v is = ap result_ok (version_read text v is)

-- a text that is no version has none
pub version_missing : (text : List ℕ) → ((v : Ver) → IsVersion text v → ⊥) → version_of text ≡ None
version_missing text none = by_result (version_parts text) refl
  where
    by_result : (r : Result Ver Error) → version_parts text ≡ r → result_ok r ≡ None
    by_result (Ok v) e = absurd (none v (is_version text v e))
    by_result (Err x) e = refl

-- the version of a package whose text is one
pub named_found : (scope name version whole : List ℕ) (v w : Ver) → IsVersion version v → w ≡ v → whole ≡ scope ++ codes "/" ++ name → Some (record { name = whole; version = w }) ≡ named scope name version
named_found scope name version whole v w is same_version same_name =
    (λ i. Some (record { name = same_name i; version = same_version i }))
    ∙ sym (ap (option_map (λ x. record { name = scope ++ codes "/" ++ name; version = x })) (version_found version v is))

-- there is none where it isn't
pub named_missing : (scope name version : List ℕ) → ((v : Ver) → IsVersion version v → ⊥) → None ≡ named scope name version
named_missing scope name version none = sym (ap (option_map (λ x. record { name = scope ++ codes "/" ++ name; version = x })) (version_missing version none))
