use Rattle.std.proofs.Common.{◌==◌, not, arith, ap, eq-eqb}
use Rattle.spec_base.proofs.RunLemmas.{start_is}
use Rattle.media_types.proofs.media.start_after_last.Goals as goal

pub returns-else-bytes-start : goal.returns-else-bytes-start
returns-else-bytes-start c =
    let byte = c.args.byte in
    start_is (λ b. not (b == byte)) c.args.bytes.now c.loop-start.start c.loop-start.invariant.0 c.loop-start.invariant.1 (λ _. ap not (eq-eqb _ _ c.if-bytes-start.false))

pub returns-after-loop-start : goal.returns-after-loop-start
returns-after-loop-start c =
    let byte = c.args.byte in
    start_is (λ b. not (b == byte)) c.args.bytes.now c.loop-start.start c.loop-start.invariant.0 c.loop-start.invariant.1 (λ above. absurd (omega arith))
