-- What is done and what is left are all.
use Rattle.std.proofs.Common.{◌≡◌, map}
use Rattle.std.specs.Prelude.{string_bytes}
use Rattle.std.specs.Vec.Iter.{into_iter_items}
use Rattle.graph_core.specs.Lockfile.{locked_packages}
use Rattle.graph_core.proofs.lockfile.packages_with.Given as goal

abbrev pub invariant-loop-wanted : goal.invariant-loop-wanted
invariant-loop-wanted l =
    locked_packages l.initial.filled (map (λ e. (e.0, string_bytes e.1)) l.fn.locked.items)
    ≡ locked_packages l.filled (map (λ e. (e.0, string_bytes e.1)) (into_iter_items l.wanted-iterator))
