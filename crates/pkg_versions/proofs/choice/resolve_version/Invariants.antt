use Rattle.std.proofs.Common.{◌≡◌, ◌&&◌, None, Option, map, option_copied}
use Rattle.std.specs.List.{filter, list_any}
use Rattle.semver_npm.specs.Versions.{Ver}
use Rattle.pkg_versions.specs.Choice.{fits_known, is_match}
use Rattle.pkg_versions.specs.Greater.{greatest_after}
use Rattle.pkg_versions.specs.Views.{offered_view}
use Rattle.pkg_versions.specs.declared.package_info.JsrPackageInfoVersion.{JsrPackageInfoVersion}
use Rattle.pkg_versions.proofs.choice.resolve_version.Given as goal

-- the greatest fitting match so far, and whether there was a match
abbrev pub invariant-loop-version : goal.invariant-loop-version
invariant-loop-version g l =
    let match = λ (v : Ver × Option JsrPackageInfoVersion). is_match l.version_req l.include_all_prereleases v.0 in
    let fitting = λ (v : Ver × Option JsrPackageInfoVersion). match v && fits_known l.newest_dependency_date v.1 in
    let offered = map offered_view l.yielded in
    (option_copied l.best ≡ greatest_after None (map (λ v. v.0) (filter fitting offered))) × (l.had_match ≡ list_any match offered)
