-- Counts that stand still at the last number of a u64.
use Rattle.std.specs.Prelude.{ℕ, ◌+◌, ◌-◌, ◌^◌, ◌≤◌, min}

-- the count after it rises by n, at most the last number of a u64
abbrev pub risen : ℕ → ℕ → ℕ
risen n before = min (before + n) (2 ^ 64 - 1)

-- it rose, or stands at its last number
abbrev pub Rose : ℕ → ℕ → Type 0
Rose before now = risen 1 before ≤ now
