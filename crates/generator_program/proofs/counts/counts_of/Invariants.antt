use Rattle.std.proofs.Common.{◌≡◌}
use Rattle.std.specs.FinMap as finite
use Rattle.spec_base.specs.Specifier.{by_text}
use Rattle.generator_program.specs.Counts.{none, with_slots}
use Rattle.generator_program.proofs.counts.counts_of.Given as goal

-- what is counted and what is left are all
abbrev pub invariant-loop-specifier : goal.invariant-loop-specifier
invariant-loop-specifier l = with_slots l.counts (by_text l._specifier-iterator) ≡ with_slots none (finite.entries l.graph.slots)
