-- The files of the packages of the items so far are wanted.
use Rattle.graph_turns.proofs.Entering.Wants.{PackagesFrom}
use Rattle.graph_turns.proofs.passes.add_packages.Given as goal

abbrev pub invariant-loop-place : goal.invariant-loop-place
invariant-loop-place l = PackagesFrom l.known l.asked l.items l.place l.fn.wanted l.wanted
