use Rattle.std.proofs.Common.{◌≡◌, not, ◌&&◌}
use Rattle.std.specs.List.{list_any}
use Rattle.pkg_versions.specs.Choice.{Listed, fits, is_match}
use Rattle.pkg_versions.proofs.resolver.JsrPackageVersionResolver.limit_is_met.Given as goal

-- what is left decides
abbrev pub invariant-loop-version : goal.invariant-loop-version
invariant-loop-version l =
    let refused = λ (e : Listed). is_match l.req l.all_pre e.0 && not (fits l.self.newest_dependency_date e.1) in
    list_any refused l.self.package_info.now.versions ≡ list_any refused l.version-iterator
