-- None so far is resolved again.
use Rattle.std.proofs.Common.{◌≡◌}
use Rattle.spec_base.specs.Shown.{shown}
use Rattle.npm_targets.specs.Steps.{has_again}
use Rattle.npm_targets.proofs.entries.has_again.Given as goal

abbrev pub invariant-loop-text : goal.invariant-loop-text
invariant-loop-text l = has_again l.kind l.dependencies ≡ has_again l.kind (shown l._text-iterator)
