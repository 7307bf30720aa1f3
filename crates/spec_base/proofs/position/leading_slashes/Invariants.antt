-- Each byte so far is a slash.
use Rattle.std.proofs.Common.{◌≡◌, ℕ, ◌<◌, true, get_or}
use Rattle.spec_base.specs.Position.{is_slash}
use Rattle.spec_base.proofs.position.leading_slashes.Given as goal

abbrev pub invariant-loop-i : goal.invariant-loop-i
invariant-loop-i l = (k : ℕ) → k < l.i → is_slash (get_or l.path k 0) ≡ true
