-- What is done and what is left are all.
use Rattle.std.proofs.Common.{◌≡◌, ◌++◌}
use Rattle.std.specs.Vec.Iter.{into_iter_items}
use Rattle.world_file.specs.WorldCache.{copies_of}
use Rattle.world_file.proofs.world_cache.copies.Given as goal

abbrev pub invariant-loop-specifier : goal.invariant-loop-specifier
invariant-loop-specifier l = copies_of l.fn.paths ≡ l.copies ++ copies_of (into_iter_items l.specifier-iterator)
