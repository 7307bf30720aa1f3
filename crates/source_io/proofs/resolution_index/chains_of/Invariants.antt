-- The index of what is done.
use Rattle.std.proofs.Common.{length}
use Rattle.source_io.proofs.ChainLemmas.{Indexed}
use Rattle.source_io.proofs.resolution_index.chains_of.Given as goal

abbrev pub invariant-loop-entry : goal.invariant-loop-entry
invariant-loop-entry l = Indexed l.entries l.left l.heads l.links.items

abbrev pub decreases-loop-entry : goal.decreases-loop-entry
decreases-loop-entry l = length l.left
