use Rattle.std.proofs.Common.{◌==◌, not, arith, ap, eq-eqb}
use Rattle.world_file.proofs.PackageLemmas.{start_is}
use Rattle.world_file.proofs.world_packages.version_start.Goals as goal

pub returns-else-text-start-ne64-clause-place : goal.returns-else-text-start-ne64-clause-place
returns-else-text-start-ne64-clause-place c =
    start_is (λ b. not (b == 64)) c.args.text.now c.loop-start.start c.loop-start.invariant.0 c.loop-start.invariant.1 (λ _. ap not (eq-eqb _ _ c.if-text-start-ne64.false))

pub returns-after-loop-start-clause-place : goal.returns-after-loop-start-clause-place
returns-after-loop-start-clause-place c =
    start_is (λ b. not (b == 64)) c.args.text.now c.loop-start.start c.loop-start.invariant.0 c.loop-start.invariant.1 (λ above. absurd (omega arith))
