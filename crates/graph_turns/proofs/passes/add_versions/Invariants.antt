-- The files of the versions that were chosen so far are wanted.
use Rattle.graph_turns.proofs.Entering.Wants.{VersionsFrom}
use Rattle.graph_turns.proofs.passes.add_versions.Given as goal

abbrev pub invariant-loop-place : goal.invariant-loop-place
invariant-loop-place l = VersionsFrom l.known l.asked l.chosen l.place l.fn.wanted l.wanted
