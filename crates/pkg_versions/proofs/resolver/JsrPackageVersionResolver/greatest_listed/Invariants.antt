use Rattle.std.proofs.Common.{◌≡◌, ◌&&◌, List, None, map, option_copied}
use Rattle.std.specs.List.{filter}
use Rattle.pkg_versions.specs.Choice.{Listed, fits, is_match}
use Rattle.pkg_versions.specs.Greater.{greatest_after, is_of_class}
use Rattle.pkg_versions.proofs.resolver.JsrPackageVersionResolver.greatest_listed.Given as goal

-- the best so far and what is left lead to the greatest
abbrev pub invariant-loop-version : goal.invariant-loop-version
invariant-loop-version l =
    let fits_class = λ (e : Listed). (is_match l.req l.all_pre e.0 && fits l.self.newest_dependency_date e.1) && is_of_class l.cached.keys l.class e in
    let versions = λ (es : List Listed). map (λ (e : Listed). e.0) (filter fits_class es) in
    greatest_after (option_copied l.best) (versions l.version-iterator) ≡ greatest_after None (versions l.self.package_info.now.versions)
