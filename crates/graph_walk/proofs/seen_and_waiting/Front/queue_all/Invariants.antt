use Rattle.std.proofs.Common.{◌≡◌, length}
use Rattle.graph_walk.specs.Order.{queued, texts}
use Rattle.graph_walk.proofs.seen_and_waiting.Front.queue_all.Given as goal

abbrev pub invariant-loop-first : goal.invariant-loop-first
invariant-loop-first l = record {
  same : queued l.fn.self.front (texts l.roots) ≡ queued l.self.front (texts l.left);
  bound : l.self.bound ≡ l.fn.self.bound;
}

abbrev pub decreases-loop-first : goal.decreases-loop-first
decreases-loop-first l = length l.left
