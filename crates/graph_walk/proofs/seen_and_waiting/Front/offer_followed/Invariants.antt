use Rattle.std.proofs.Common.{◌≡◌, length}
use Rattle.spec_base.specs.Shown.{shown}
use Rattle.graph_walk.specs.Options.{how}
use Rattle.graph_walk.specs.Order.{offered, targets_back}
use Rattle.graph_walk.proofs.seen_and_waiting.Front.offer_followed.Given as goal

abbrev pub invariant-loop-dependency : goal.invariant-loop-dependency
invariant-loop-dependency g l = record {
  same : offered l.fn.self.front (targets_back (how g.C.CheckJsResolver.resolves l.options) l.dependencies) ≡ offered l.self.front (targets_back (how g.C.CheckJsResolver.resolves l.options) (shown l.left));
  bound : l.self.bound ≡ l.fn.self.bound;
}

abbrev pub decreases-loop-dependency : goal.decreases-loop-dependency
decreases-loop-dependency g l = length l.left
