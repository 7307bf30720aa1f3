use Rattle.std.proofs.Common.{◌≡◌}
use Rattle.generated_world.specs.Generation.{after_draws, begun_at}
use Rattle.generated_world.proofs.generation.drawing_of.Given as goal

-- what is drawn so far
abbrev pub invariant-loop : goal.invariant-loop
invariant-loop l = l.drawing ≡ after_draws l.count l.counter (begun_at l.count l.number l.state)
