use Rattle.std.proofs.Common.{◌≡◌, ◌∙◌, Some, None, map, sym}
use Rattle.std.specs.List.{filter}
use Rattle.pkg_versions.specs.Choice.{greatest, is_match, takes_pre_releases}
use Rattle.pkg_versions.proofs.ChoiceLemmas.{best_first, best_later}
use Rattle.pkg_versions.proofs.resolver.JsrPackageVersionResolver.best.Goals as goal

pub returns-in-Some : goal.returns-in-Some
returns-in-Some g c =
    let req = c.args.req.now in
    let info = c.args.self.now.package_info.now in
    let existing = map (λ v. v.now) c.greatest_match.ensures.0 in
    let h : greatest (filter (is_match req (takes_pre_releases req info)) existing) ≡ Some c.in-Some.version.now =
    rw (← c.prerelease_fallback_applies-all_pre.ensures, ← c.greatest_match.ensures.2, c.in-Some.is) in
    (c.greatest_match.ensures.0, c.greatest_match.ensures.1, sym (best_first req info existing c.args.cached.now.keys c.args.self.now.newest_dependency_date c.in-Some.version.now h))

pub returns-in-None : goal.returns-in-None
returns-in-None g c =
    let req = c.args.req.now in
    let info = c.args.self.now.package_info.now in
    let existing = map (λ v. v.now) c.greatest_match.ensures.0 in
    let h : greatest (filter (is_match req (takes_pre_releases req info)) existing) ≡ None =
    rw (← c.prerelease_fallback_applies-all_pre.ensures, ← c.greatest_match.ensures.2, c.in-None.is) in (
      c.greatest_match.ensures.0,
      c.greatest_match.ensures.1,
      (rw c.prerelease_fallback_applies-all_pre.ensures at c.first_listed.ensures) ∙ sym (best_later req info existing c.args.cached.now.keys c.args.self.now.newest_dependency_date h),
    )
