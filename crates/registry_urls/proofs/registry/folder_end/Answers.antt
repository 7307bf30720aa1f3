use Rattle.std.proofs.Common.{◌==◌, not, arith, ap, eq-eqb}
use Rattle.registry_urls.proofs.CutLemmas.{start_is}
use Rattle.registry_urls.proofs.registry.folder_end.Goals as goal

pub returns-else-text-end-ne47 : goal.returns-else-text-end-ne47
returns-else-text-end-ne47 c =
    start_is (λ b. not (b == 47)) c.args.text.now c.loop-end.end c.loop-end.invariant.0 c.loop-end.invariant.1 (λ _. ap not (eq-eqb _ _ c.if-text-end-ne47.false))

pub returns-after-loop-end : goal.returns-after-loop-end
returns-after-loop-end c =
    start_is (λ b. not (b == 47)) c.args.text.now c.loop-end.end c.loop-end.invariant.0 c.loop-end.invariant.1 (λ above. absurd (omega arith))
