-- What was put and what is left of the walk make the whole.
use Rattle.std.proofs.Common.{◌≡◌, length}
use Rattle.graph_walk.specs.Options.{how}
use Rattle.graph_walk.specs.Segment.{put_entries}
use Rattle.graph_walk.specs.Order.{rest}
use Rattle.graph_walk.proofs.segment.put_entries.Given as goal

abbrev pub invariant-loop-specifier : goal.invariant-loop-specifier
invariant-loop-specifier g l =
    put_entries l.fn.graph (rest (how g.C.CheckJsResolver.resolves) l.fn.walk) ≡ put_entries l.graph (rest (how g.C.CheckJsResolver.resolves) l.walk)

abbrev pub decreases-loop-specifier : goal.decreases-loop-specifier
decreases-loop-specifier g l = length (rest (how g.C.CheckJsResolver.resolves) l.walk)
