-- What was added and what is left to add are all, and what the store had it keeps.
use Rattle.std.proofs.Common.{◌≡◌, Some, length, fold}
use Rattle.graph_turns.specs.Promise.Versions.{store_with}
use Rattle.open_loads.specs.Taught.{KeepsStore}
use Rattle.open_loads.proofs.stored.add_all.Given as goal

abbrev pub invariant-loop-file : goal.invariant-loop-file
invariant-loop-file l = record {
  filled : fold (λ s e. store_with s e.0 e.1) l.store l.added ≡ fold (λ s e. store_with s e.0 e.1) l.fn.store l.fn.added;
  kept : KeepsStore (Some l.fn.store) (Some l.store);
}

abbrev pub decreases-loop-file : goal.decreases-loop-file
decreases-loop-file l = length l.added
