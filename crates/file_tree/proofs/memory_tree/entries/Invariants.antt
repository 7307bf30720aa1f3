-- The entries of the names so far.
use Rattle.std.proofs.Common.{◌≡◌, map}
use Rattle.file_tree.specs.Listing.{listed}
use Rattle.file_tree.proofs.memory_tree.entries.Given as goal

abbrev pub invariant-loop-name : goal.invariant-loop-name
invariant-loop-name l = l.entries.items ≡ map (listed l.directories) l.yielded
