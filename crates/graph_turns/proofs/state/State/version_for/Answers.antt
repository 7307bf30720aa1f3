use Rattle.std.proofs.Common.{◌≡◌, ◌∙◌}
use Rattle.graph_turns.proofs.Entering.Drained.{slice_drained}
use Rattle.graph_turns.proofs.Entering.Verdicts.{none_told, version_told}
use Rattle.graph_turns.proofs.state.State.version_for.Goals as goal

pub returns-in-Ok : goal.returns-in-Ok
returns-in-Ok g c =
    let newest = c.args.registry.now.versions.now.newest_dependency_date_options in
    let given = c.in-Ok.ensures in
    version_told newest c.args.self.now c.args.req.now c.args.info.now c.get_for_package-resolver.result.package_info.now _ c.in_ok-cached.cached.keys c.get_for_package-resolver.result.newest_dependency_date
    c.get_for_package-resolver.ensures.info
    (slice_drained c.iter.result given.0 given.1 ∙ c.iter.ensures.rest ∙ c.deref.ensures.value ∙ c.in_ok-existing.ensures)
    c.in_ok-cached.ensures
    c.get_for_package-resolver.ensures.limit
    c.in-Ok.resolved.version.now c.in_ok-clone-in-Ok.field-0 c.in-Ok.resolved.is_yanked c.in_ok-clone-in-Ok.ensures.cases given.2

pub returns : goal.returns
returns g c =
    let newest = c.args.registry.now.versions.now.newest_dependency_date_options in
    let given = c.in-Err-Is.ensures in
    let found = given.2 in
    none_told newest c.args.self.now c.args.req.now c.args.info.now c.get_for_package-resolver.result.package_info.now _ c.in_ok-cached.cached.keys c.get_for_package-resolver.result.newest_dependency_date
    c.get_for_package-resolver.ensures.info
    (slice_drained c.iter.result given.0 given.1 ∙ c.iter.ensures.rest ∙ c.deref.ensures.value ∙ c.in_ok-existing.ensures)
    c.in_ok-cached.ensures
    c.get_for_package-resolver.ensures.limit
    c.in-Err-Is.error (rw c.in-Err-Is.field-0-is at found)
