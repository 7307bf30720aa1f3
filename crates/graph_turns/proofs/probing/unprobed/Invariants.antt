-- Those so far and those of what is left are those of all.
use Rattle.std.proofs.Common.{◌≡◌, ◌&&◌, ◌++◌, List, map, not}
use Rattle.std.specs.FinMap as finite
use Rattle.std.specs.List.{filter}
use Rattle.semver_npm.specs.declared.package.PackageNv.{PackageNv}
use Rattle.pkg_versions.specs.Choice.{Listed, is_match}
use Rattle.graph_turns.specs.Machine.Probing.{unprobed}
use Rattle.graph_turns.specs.Promise.Cached.{version_named}
use Rattle.graph_turns.proofs.probing.unprobed.Given as goal

abbrev pub invariant-loop-version : goal.invariant-loop-version
invariant-loop-version l =
    let left = λ (es : List Listed). map (λ (e : Listed). e.0) (filter (λ (e : Listed). not e.1.yanked && is_match l.req.version_req l.all_pre e.0) es) in
    l.nvs.items ++ filter (λ (nv : PackageNv). not (finite.contains_key l.probed nv)) (map (version_named l.req.name) (left l.version-iterator)) ≡ unprobed l.probed l.req l.info
