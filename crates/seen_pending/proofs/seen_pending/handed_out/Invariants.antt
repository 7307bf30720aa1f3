-- What is out and what is left are the whole.
use Rattle.std.proofs.Common.{◌≡◌, ◌++◌, length, drop}
use Rattle.seen_pending.proofs.seen_pending.handed_out.Given as goal

abbrev pub invariant-loop-items : goal.invariant-loop-items
invariant-loop-items g l =
    l.items.items ++ drop l.collection.1 l.collection.0 ≡ drop l.initial.collection.1 l.initial.collection.0

abbrev pub decreases-loop-items : goal.decreases-loop-items
decreases-loop-items g l = length (drop l.collection.1 l.collection.0)
