-- What is left is what was left.
use Rattle.std.proofs.Common.{◌≡◌, length}
use Rattle.graph_walk.specs.MembersValue.{errors_left_of}
use Rattle.graph_walk.proofs.members.ModuleErrorsIterator.next.Given as goal

abbrev pub invariant-loop-specifier : goal.invariant-loop-specifier
invariant-loop-specifier l = errors_left_of l.fn.self ≡ errors_left_of l.self

abbrev pub decreases-loop-specifier : goal.decreases-loop-specifier
decreases-loop-specifier l = length l.self.slots
