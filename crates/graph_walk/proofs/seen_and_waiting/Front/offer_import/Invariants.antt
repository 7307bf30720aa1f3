use Rattle.std.proofs.Common.{◌≡◌}
use Rattle.spec_base.specs.Shown.{shown}
use Rattle.graph_walk.specs.Options.{how}
use Rattle.graph_walk.specs.Order.{offered, import_targets}
use Rattle.graph_walk.proofs.seen_and_waiting.Front.offer_import.Given as goal

abbrev pub invariant-loop-text : goal.invariant-loop-text
invariant-loop-text g l = record {
  same : offered l.fn.self.front (import_targets (how g.C.CheckJsResolver.resolves l.options) l.dependencies) ≡ offered l.self.front (import_targets (how g.C.CheckJsResolver.resolves l.options) (shown l._text-iterator));
  bound : l.self.bound ≡ l.fn.self.bound;
}
