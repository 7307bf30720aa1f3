-- With each entry fewer steps of the walk are left.
use Rattle.graph_walk.specs.Order.{steps_left}
use Rattle.build_tests.proofs.walk_shown.skipped.Given as goal

abbrev pub decreases-loop-specifier : goal.decreases-loop-specifier
decreases-loop-specifier l = steps_left l.walk
