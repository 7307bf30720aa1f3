use Rattle.std.proofs.Common.{◌≡◌, length}
use Rattle.graph_walk.specs.Options.{how}
use Rattle.graph_walk.specs.Order.{rest}
use Rattle.graph_walk.specs.Errors.{errors_left}
use Rattle.graph_walk.proofs.errors.collect.Given as goal

abbrev pub invariant-loop-alloc : goal.invariant-loop-alloc
invariant-loop-alloc g l = errors_left (how g.C.CheckJsResolver.resolves) l.fn.walk l.fn.errors.items ≡ errors_left (how g.C.CheckJsResolver.resolves) l.walk l.errors.items

abbrev pub decreases-loop-alloc : goal.decreases-loop-alloc
decreases-loop-alloc g l = length (rest (how g.C.CheckJsResolver.resolves) l.walk)
