-- The sum so far and what is left make the sum of all.
use Rattle.std.proofs.Common.{◌≡◌, ◌+◌, fold}
use Rattle.std.specs.Prelude.{sum_by}
use Rattle.std.specs.FinMap as finite
use Rattle.spec_base.specs.Specifier.{by_text}
use Rattle.graph_walk.specs.Options.{how}
use Rattle.graph_walk.specs.Order.{slot_room}
use Rattle.graph_walk.proofs.room.slots_room.Given as goal

abbrev pub invariant-loop-specifier : goal.invariant-loop-specifier
invariant-loop-specifier g l =
    sum_by (λ e. slot_room (how g.C.CheckJsResolver.resolves l.options) e.1) (finite.entries l.graph.slots) ≡ fold (λ a e. a + slot_room (how g.C.CheckJsResolver.resolves l.options) e.1) l.room (by_text l._specifier-iterator)
