use Rattle.std.proofs.Common.{◌≡◌, ◌≤◌}
use Rattle.std.specs.declared.option.Option.TheVariants.{None}
use Rattle.graph_walk.specs.Options.{how}
use Rattle.graph_walk.specs.Order.{left, front_left}
use Rattle.graph_walk.specs.Room.{IsReady}
use Rattle.graph_walk.proofs.walk.next_entry.Given as goal

abbrev pub invariant-loop-specifier : goal.invariant-loop-specifier
invariant-loop-specifier g l = record {
  ready : IsReady l.graph (how g.C.CheckJsResolver.resolves l.options) None l.front;
  same : left l.fn.front.bound l.graph (how g.C.CheckJsResolver.resolves l.options) l.fn.front.front ≡ left l.front.bound l.graph (how g.C.CheckJsResolver.resolves l.options) l.front.front;
  nearer : front_left l.front ≤ front_left l.fn.front;
}

abbrev pub decreases-loop-specifier : goal.decreases-loop-specifier
decreases-loop-specifier g l = front_left l.front
