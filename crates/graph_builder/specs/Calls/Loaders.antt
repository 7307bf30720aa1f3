-- What the steps of a build keep of a loader, whether or not it waits.
use Rattle.std.specs.Prelude.{◌≡◌, ◌≤◌, ℕ, Bool, Option}
use Rattle.source_io.specs.declared.types.World.{World}

-- a step of a loader: it tells the world that it told, may fail where it might, is to be asked about cached copies where it was, and its
-- faults didn't fall
pub record KeepsLoader {L : Type 0} (world : L → Option World) (may_fail : L → ℕ → Bool) (caches : L → Bool) (faults : L → ℕ) (old new : L) : Type 0 where
  pub same_world : world new ≡ world old
  pub same_may_fail : may_fail new ≡ may_fail old
  pub same_caches : caches new ≡ caches old
  pub later : faults old ≤ faults new
