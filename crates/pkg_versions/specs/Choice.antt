-- The version that a requirement picks.
use Rattle.std.specs.Prelude.{ℕ, Bool, true, false, not, ◌&&◌, ◌||◌, ◌==◌, List, map, length, Option, Some, None, Result, Ok, Err, if◌then◌else◌}
use Rattle.std.specs.List.{filter, find, list_all, list_any}
use Rattle.std.specs.Option.{option_or}
use Rattle.std.specs.Ordering.{is_gt}
use Rattle.spec_base.specs.Options.{by_option}
use Rattle.semver_npm.specs.Reader.{is_wildcard, req_matches}
use Rattle.semver_npm.specs.Versions.{Ver, ver_cmp}
use Rattle.semver_npm.specs.declared.package.PackageReq.{PackageReq}
use Rattle.version_dates.specs.Dates.{is_in_time}
use Rattle.version_dates.specs.Sets.{at_key, has}
use Rattle.version_dates.specs.declared.newest_date.NewestDependencyDate.{NewestDependencyDate}
use Rattle.version_dates.specs.declared.not_found.JsrPackageReqNotFoundError.{JsrPackageReqNotFoundError}
use Rattle.pkg_versions.specs.declared.package_info.JsrPackageInfo.{JsrPackageInfo}
use Rattle.pkg_versions.specs.declared.package_info.JsrPackageInfoVersion.{JsrPackageInfoVersion}

-- a version, and what its package file says of it
abbrev pub Listed : Type 0
Listed = Ver × JsrPackageInfoVersion

abbrev pub is_pre_release : Ver → Bool
is_pre_release v = not (length v.3 == 0)

-- a wildcard takes pre-releases where no unyanked version is a release
abbrev pub takes_pre_releases : List ℕ → JsrPackageInfo → Bool
takes_pre_releases req info = is_wildcard req && not (list_any (λ (e : Listed). not e.1.yanked && not (is_pre_release e.0)) info.versions)

-- a version matches, or is a pre-release where all of these are taken
abbrev pub is_match : List ℕ → Bool → Ver → Bool
is_match req all_pre v = req_matches req v || (all_pre && is_pre_release v)

-- the greatest version of a list: one that none of them is above
abbrev pub greatest : List Ver → Option Ver
greatest vs = find (λ v. list_all (λ w. not (is_gt (ver_cmp w v))) vs) vs

-- a version's date fits, where there is a limit
abbrev pub fits : Option NewestDependencyDate → JsrPackageInfoVersion → Bool
fits None entry = true
fits (Some limit) entry = is_in_time limit entry.created_at

-- ---- the call on a list of versions, each with what is known of it

-- a version of which nothing is known fits
abbrev pub fits_known : Option NewestDependencyDate → Option JsrPackageInfoVersion → Bool
fits_known limit None = true
fits_known limit (Some entry) = fits limit entry

-- the greatest match within the date; where there is none, whether some version matched
abbrev pub resolved_of : List ℕ → Option NewestDependencyDate → Bool → List (Ver × Option JsrPackageInfoVersion) → Result Ver Bool
resolved_of req limit all_pre vs =
    by_option (greatest (map (λ v. v.0) (filter (λ v. is_match req all_pre v.0 && fits_known limit v.1) vs)))
    (Err (list_any (λ v. is_match req all_pre v.0) vs)) Ok

-- ---- the choice

-- the versions of a package file that pass a test
abbrev pub listed : (Listed → Bool) → JsrPackageInfo → List Ver
listed test info = map (λ (e : Listed). e.0) (filter test info.versions)

-- a version beside whether the package file says that it is yanked
abbrev pub Chosen : Type 0
Chosen = Bool × Ver

abbrev pub is_yanked_in : JsrPackageInfo → Ver → Bool
is_yanked_in info v = by_option (at_key ver_cmp info.versions v) false (λ entry. entry.yanked)

-- the greatest version of the first class that has a match: existing versions, whatever their date; then, within the date,
-- cached unyanked ones, unyanked ones, and yanked ones
abbrev pub best_of : List ℕ → JsrPackageInfo → List Ver → List Ver → Option NewestDependencyDate → Option Ver
best_of req info existing cached limit =
    let matching = is_match req (takes_pre_releases req info) in
    let within = λ (e : Listed). matching e.0 && fits limit e.1 in
    option_or (greatest (filter matching existing))
    (option_or (greatest (listed (λ e. within e && (not e.1.yanked && has ver_cmp cached e.0)) info))
    (option_or (greatest (listed (λ e. within e && not e.1.yanked) info))
    (greatest (listed (λ e. within e && e.1.yanked) info))))

-- the limit, where it refused a match that the package file lists
abbrev pub limit_met : List ℕ → JsrPackageInfo → Option NewestDependencyDate → Option NewestDependencyDate
limit_met req info limit =
    if list_any (λ (e : Listed). is_match req (takes_pre_releases req info) e.0 && not (fits limit e.1)) info.versions then limit else None

-- the version that a requirement picks, or why there is none
abbrev pub choice_of : PackageReq → JsrPackageInfo → List Ver → List Ver → Option NewestDependencyDate → Result Chosen JsrPackageReqNotFoundError
choice_of req info existing cached limit =
    by_option (best_of req.version_req info existing cached limit)
    (Err (record { req = req; newest_dependency_date = limit_met req.version_req info limit }))
    (λ v. Ok (is_yanked_in info v, v))
