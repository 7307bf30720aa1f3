-- The items so far were added.
use Rattle.std.proofs.Common.{◌≡◌}
use Rattle.std.specs.Prelude.{fold}
use Rattle.indexmap.specs.IndexSet.{insert_key}
use Rattle.seen_pending.proofs.seen_pending.SeenPendingCollection.extend.Given as goal

abbrev pub invariant-loop-item : goal.invariant-loop-item
invariant-loop-item g l =
    l.self ≡ (fold (insert_key g.T.PartialEq.eq) l.initial.self.0 l.yielded, l.initial.self.1)
