-- The copies so far have the texts of what was copied.
use Rattle.std.proofs.Common.{take}
use Rattle.graph_walk.specs.Lent.{lent_texts}
use Rattle.graph_walk.specs.Lists.{SameMembers}
use Rattle.graph_walk.specs.Order.{texts}
use Rattle.graph_walk.proofs.seen_and_waiting.copies_of.Given as goal

abbrev pub invariant-loop-specifier : goal.invariant-loop-specifier
invariant-loop-specifier l = SameMembers (texts l.copies) (lent_texts (take l.specifier-index l.specifiers))
