use Rattle.std.proofs.Common.{◌≡◌}
use Rattle.graph_walk.specs.Options.{how}
use Rattle.graph_walk.specs.Order.{offered, import_targets, imported}
use Rattle.graph_walk.proofs.seen_and_waiting.Front.offer_imports.Given as goal

abbrev pub invariant-loop-referrer : goal.invariant-loop-referrer
invariant-loop-referrer g l = record {
  same : offered l.fn.self.front (import_targets (how g.C.CheckJsResolver.resolves l.options) (imported l.imports)) ≡ offered l.self.front (import_targets (how g.C.CheckJsResolver.resolves l.options) (imported l._referrer-iterator));
  bound : l.self.bound ≡ l.fn.self.bound;
}
