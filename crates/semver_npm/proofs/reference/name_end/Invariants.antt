-- No byte so far ends the name.
use Rattle.std.proofs.Common.{◌≡◌, ℕ, ◌<◌, false, get_or}
use Rattle.semver_npm.specs.References.{ends_name}
use Rattle.semver_npm.proofs.reference.name_end.Given as goal

abbrev pub invariant-loop-i : goal.invariant-loop-i
invariant-loop-i l = (k : ℕ) → k < l.i → ends_name (get_or l.text k 0) ≡ false
