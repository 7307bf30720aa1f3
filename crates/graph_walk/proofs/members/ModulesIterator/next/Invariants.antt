-- What is left is what was left.
use Rattle.std.proofs.Common.{◌≡◌, length}
use Rattle.graph_walk.specs.MembersValue.{modules_left}
use Rattle.graph_walk.proofs.members.ModulesIterator.next.Given as goal

abbrev pub invariant-loop-specifier : goal.invariant-loop-specifier
invariant-loop-specifier l = modules_left l.fn.self ≡ modules_left l.self

abbrev pub decreases-loop-specifier : goal.decreases-loop-specifier
decreases-loop-specifier l = length l.self.slots
