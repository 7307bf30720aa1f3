use Rattle.std.proofs.Common.{arith}
use Rattle.spec_base.specs.Position.{is_slash}
use Rattle.spec_base.proofs.RunLemmas.{start_is}
use Rattle.spec_base.proofs.position.start_of_slashes.Goals as goal

pub returns-after-loop-start-clause-value : goal.returns-after-loop-start-clause-value
returns-after-loop-start-clause-value c =
    start_is is_slash c.args.path.now c.loop-start.start c.loop-start.invariant.0 c.loop-start.invariant.1 (λ above. absurd (omega arith))
