-- What is done and what is left are all.
use Rattle.std.proofs.Common.{◌≡◌, ◌++◌}
use Rattle.std.specs.Vec.Iter.{into_iter_items}
use Rattle.world_file.specs.WorldResolutions.{types_listed}
use Rattle.world_file.proofs.world_resolutions.types_listed.Given as goal

abbrev pub invariant-loop-specifier : goal.invariant-loop-specifier
invariant-loop-specifier l = types_listed l.fn.targets ≡ l.types ++ types_listed (into_iter_items l.specifier-iterator)
