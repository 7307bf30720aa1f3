-- The set so far, with those of what is left, is that of all.
use Rattle.std.proofs.Common.{◌≡◌, ◌&&◌, [], List, fold, map, not}
use Rattle.std.specs.BTreeSet.{insert_key}
use Rattle.std.specs.List.{filter}
use Rattle.semver_npm.specs.Versions.{ver_cmp}
use Rattle.pkg_versions.specs.Choice.{Listed}
use Rattle.graph_turns.specs.Machine.Probing.{was_found}
use Rattle.graph_turns.specs.Promise.Cached.{cached_versions, version_named}
use Rattle.graph_turns.proofs.state.State.cached.Given as goal

abbrev pub invariant-loop-version : goal.invariant-loop-version
invariant-loop-version l =
    let left = λ (es : List Listed). map (λ (e : Listed). e.0) (filter (λ (e : Listed). not e.1.yanked && was_found l.self.probed (version_named l.name e.0)) es) in
    fold (insert_key ver_cmp) l.cached.keys (left l.version-iterator) ≡ fold (insert_key ver_cmp) [] (cached_versions (was_found l.self.probed) l.name l.info)
