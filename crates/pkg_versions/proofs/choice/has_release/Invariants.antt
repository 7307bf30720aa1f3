use Rattle.std.proofs.Common.{◌≡◌, not, ◌&&◌}
use Rattle.std.specs.List.{list_any}
use Rattle.pkg_versions.specs.Choice.{Listed, is_pre_release}
use Rattle.pkg_versions.proofs.choice.has_release.Given as goal

-- what is left decides
abbrev pub invariant-loop-version : goal.invariant-loop-version
invariant-loop-version l =
    let released = λ (e : Listed). not e.1.yanked && not (is_pre_release e.0) in
    list_any released l.info.versions ≡ list_any released l.version-iterator
