-- None of the bytes from `start` on is the one sought.
use Rattle.std.proofs.Common.{◌≡◌, ℕ, ◌<◌, ◌≤◌, ◌==◌, true, not, length, get_or}
use Rattle.media_types.proofs.media.start_after_last.Given as goal

abbrev pub invariant-loop-start : goal.invariant-loop-start
invariant-loop-start l =
    (l.start ≤ length l.bytes)
    × ((k : ℕ) → l.start ≤ k → k < length l.bytes → not (get_or l.bytes k 0 == l.byte) ≡ true)

abbrev pub decreases-loop-start : goal.decreases-loop-start
decreases-loop-start l = l.start
