-- The sum so far and what is left make the sum of all.
use Rattle.std.proofs.Common.{◌≡◌, ◌+◌, fold}
use Rattle.std.specs.Prelude.{sum_by}
use Rattle.graph_walk.specs.Order.{import_room}
use Rattle.graph_walk.proofs.room.imports_room.Given as goal

abbrev pub invariant-loop-referrer : goal.invariant-loop-referrer
invariant-loop-referrer l = sum_by import_room l.imports ≡ fold (λ a e. a + import_room e) l.room l._referrer-iterator
