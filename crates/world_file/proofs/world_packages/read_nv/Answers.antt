use Rattle.std.proofs.Common.{◌≤◌, arith}
use Rattle.world_file.proofs.PackageLemmas.{begins_behind, begins_there}
use Rattle.world_file.proofs.world_packages.read_nv.Goals as goal

pub range_from-requires : goal.range_from-requires
range_from-requires c = λ some.
    begins_behind c.args.text.now c.as_bytes.result.now c.version_start-start.result c.as_bytes.ensures.value c.version_start-start.ensures.within c.version_start-start.ensures.ascii c.utf8.text some

pub range-requires-clause-end_boundary : goal.range-requires-clause-end_boundary
range-requires-clause-end_boundary c =
    let more : 2 ≤ c.version_start-start.result = omega (arith, c.if-start-lt2.false) in
    begins_there c.args.text.now c.as_bytes.result.now c.version_start-start.result c.as_bytes.ensures.value c.version_start-start.ensures.within c.version_start-start.ensures.ascii more
