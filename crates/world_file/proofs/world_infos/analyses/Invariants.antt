-- What is done and what is left are all.
use Rattle.std.proofs.Common.{◌≡◌, ◌++◌}
use Rattle.std.specs.Vec.Iter.{into_iter_items}
use Rattle.world_file.specs.WorldInfos.{analyses_of}
use Rattle.world_file.proofs.world_infos.analyses.Given as goal

abbrev pub invariant-loop-specifier : goal.invariant-loop-specifier
invariant-loop-specifier l = analyses_of l.fn.infos ≡ l.analyses.items ++ analyses_of (into_iter_items l.specifier-iterator)
