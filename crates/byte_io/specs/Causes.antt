-- Failures and the counts that show them.
use Rattle.std.specs.Prelude.{ℕ, ◌≤◌}
use Rattle.spec_base.specs.Counters.{Rose}

-- the count of faults doesn't fall, and a failure comes only where it rose
pub record ComesByFault (Fails : Type 0) (before now : ℕ) : Type 0 where
  pub later : before ≤ now
  pub rose : Fails → Rose before now
