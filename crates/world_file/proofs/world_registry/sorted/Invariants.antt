-- What was put in and what is left to put in are all.
use Rattle.std.proofs.Common.{◌≡◌, [], drop}
use Rattle.world_file.specs.WorldRegistry.{names_from}
use Rattle.world_file.proofs.world_registry.sorted.Given as goal

abbrev pub invariant-loop-name : goal.invariant-loop-name
invariant-loop-name l = names_from [] l.names ≡ names_from l.found (drop l.name-index l.names)
