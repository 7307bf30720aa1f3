-- What was found and what is left of the walk are all that it gives.
use Rattle.std.proofs.Common.{◌≡◌, ◌++◌, map, length}
use Rattle.graph_walk.specs.Options.{how}
use Rattle.graph_walk.specs.Order.{rest, walk_order, texts}
use Rattle.graph_walk.specs.EntryValue.{item_value}
use Rattle.graph_tests.proofs.walk_caller.reached.Given as goal

abbrev pub invariant-loop-item : goal.invariant-loop-item
invariant-loop-item g l =
    map item_value l.found.items ++ rest (how g.C.CheckJsResolver.resolves) l.walk ≡ walk_order l.graph (how g.C.CheckJsResolver.resolves l.fn.options) (texts l.roots)

abbrev pub decreases-loop-item : goal.decreases-loop-item
decreases-loop-item g l = length (rest (how g.C.CheckJsResolver.resolves) l.walk)
