-- What is left decides.
use Rattle.std.proofs.Common.{length, ◌-◌}
use Rattle.std.specs.Prelude.{option_copied}
use Rattle.spec_base.specs.Options.{by_option}
use Rattle.source_io.proofs.ChainLemmas.{Sought}
use Rattle.source_io.proofs.resolution_index.ResolutionIndex.first_result.Given as goal

abbrev pub invariant-loop-at : goal.invariant-loop-at
invariant-loop-at l = Sought l.self.entries l.text l.referrer l.kind (option_copied l.attribute) l.at

abbrev pub decreases-loop-at : goal.decreases-loop-at
decreases-loop-at l = by_option l.at 0 (λ p. length l.self.entries - p)
