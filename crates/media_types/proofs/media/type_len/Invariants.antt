-- No byte so far ends the type.
use Rattle.std.proofs.Common.{◌≡◌, ℕ, ◌<◌, false, get_or}
use Rattle.media_types.specs.Media.{ends_type}
use Rattle.media_types.proofs.media.type_len.Given as goal

abbrev pub invariant-loop-i : goal.invariant-loop-i
invariant-loop-i l = (k : ℕ) → k < l.i → ends_type (get_or l.text k 0) ≡ false
