use Rattle.std.proofs.Common.{◌≡◌, ◌∙◌, ◌&&◌, Option, Err, true, ap, map, option_copied, sym, refl, rules, arith}
use Rattle.std.proofs.lemmas.Grind.{common_steps}
use Rattle.semver_npm.specs.Versions.{Ver}
use Rattle.pkg_versions.specs.Choice.{fits_known, is_match}
use Rattle.pkg_versions.specs.Greater.{greatest_after}
use Rattle.pkg_versions.specs.Views.{offered_view}
use Rattle.pkg_versions.specs.declared.package_info.JsrPackageInfoVersion.{JsrPackageInfoVersion}
use Rattle.pkg_versions.proofs.ChoiceLemmas.{any_more, greatest_beside, resolved_found, resolved_none}
use Rattle.pkg_versions.proofs.Greatest.{greatest_after_all}
use Rattle.pkg_versions.proofs.choice.resolve_version.Goals as goal

pub loop-version-init : goal.loop-version-init
unfolding greatest_after
loop-version-init g c = (refl, refl)

pub loop-version-preserved-then-fits : goal.loop-version-preserved-then-fits
loop-version-preserved-then-fits g c =
    let o = c.args.options in
    let fitting = λ (v : Ver × Option JsrPackageInfoVersion). is_match o.version_req.now o.include_all_prereleases v.0 && fits_known o.newest_dependency_date v.1 in
    let passes : fitting (offered_view (c.in-Some.version, c.in-Some.entry)) ≡ true =
    rw (← c.version_matches-is_match.ensures, ← c.fits_known-fits.ensures, c.if-is_match.true, c.if-fits.true) in (
      c.greater-best.ensures ∙ greatest_beside fitting offered_view (λ v. v.0) c.loop-version.yielded (c.in-Some.version, c.in-Some.entry) (option_copied c.loop-version.best) c.loop-version.invariant.0 passes,
      grind (arith, common_steps, any_more),
    )

pub returns-in-Some-best : goal.returns-in-Some-best
returns-in-Some-best g c =
    let o = c.args.options in
    let h = sym (greatest_after_all _) ∙ sym c.loop-version.invariant.0 ∙ ap option_copied c.in-Some-best.is in
    (c.loop-version.yielded, search rules, sym (resolved_found o.version_req.now o.newest_dependency_date o.include_all_prereleases (map offered_view c.loop-version.yielded) c.in-Some-best.version.now h))

pub returns-in-None-best : goal.returns-in-None-best
returns-in-None-best g c =
    let o = c.args.options in
    let h = sym (greatest_after_all _) ∙ sym c.loop-version.invariant.0 ∙ ap option_copied c.in-None-best.is in
    (c.loop-version.yielded, search rules, sym (resolved_none o.version_req.now o.newest_dependency_date o.include_all_prereleases (map offered_view c.loop-version.yielded) h ∙ ap Err (sym c.loop-version.invariant.1)))
