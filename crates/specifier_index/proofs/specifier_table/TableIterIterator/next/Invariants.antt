-- What is lent is what was to be lent.
use Rattle.std.proofs.Common.{◌≡◌, length}
use Rattle.specifier_index.specs.SpecifierTable.{lent}
use Rattle.specifier_index.proofs.specifier_table.TableIterIterator.next.Given as goal

abbrev pub invariant-loop-specifier : goal.invariant-loop-specifier
invariant-loop-specifier g l = lent l.initial.self-inside.values.now l.initial.self-inside.left ≡ lent l.self-inside.values.now l.self-inside.left

abbrev pub decreases-loop-specifier : goal.decreases-loop-specifier
decreases-loop-specifier g l = length l.self-inside.left
