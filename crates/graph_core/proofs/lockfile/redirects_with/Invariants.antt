-- What is done and what is left are all.
use Rattle.std.proofs.Common.{◌≡◌, map}
use Rattle.std.specs.Prelude.{string_bytes}
use Rattle.std.specs.Vec.Iter.{into_iter_items}
use Rattle.graph_core.specs.Lockfile.{locked_redirects}
use Rattle.graph_core.proofs.lockfile.redirects_with.Given as goal

abbrev pub invariant-loop-from : goal.invariant-loop-from
invariant-loop-from l =
    locked_redirects l.initial.filled (map (λ e. (string_bytes e.0, string_bytes e.1)) l.fn.locked.items)
    ≡ locked_redirects l.filled (map (λ e. (string_bytes e.0, string_bytes e.1)) (into_iter_items l.from-iterator))
