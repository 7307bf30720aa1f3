use Rattle.std.proofs.Common.{rules}
use Rattle.world_file.proofs.WorldReading.{world_of-none, world_of-read}
use Rattle.world_file.proofs.input.value_of.Goals as goal

pub returns-in-Ok : goal.returns-in-Ok
returns-in-Ok c = world_of-read c.args.bytes.now _ c.in-Ok.ensures.ok.0 c.in-Ok.ensures.ok.1

pub returns-else-is_memory : goal.returns-else-is_memory
returns-else-is_memory c = world_of-none c.args.bytes.now (c.in-Err.ensures.err (search rules))
