use Rattle.std.proofs.Common.{◌≡◌}
use Rattle.generated_world.specs.Generation.{after_modules, begun}
use Rattle.generated_world.proofs.generation.all_modules.Given as goal

-- the modules so far
abbrev pub invariant-loop-number : goal.invariant-loop-number
invariant-loop-number l = l.generation ≡ after_modules l.count l.number (begun l.start)
