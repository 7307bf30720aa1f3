-- Each of the bytes from `start` on is a slash.
use Rattle.std.proofs.Common.{◌≡◌, ℕ, ◌<◌, ◌≤◌, true, length, get_or}
use Rattle.spec_base.specs.Position.{is_slash}
use Rattle.file_tree.proofs.file_url.start_of_slashes.Given as goal

abbrev pub invariant-loop-start : goal.invariant-loop-start
invariant-loop-start l =
    (l.start ≤ length l.path)
    × ((k : ℕ) → l.start ≤ k → k < length l.path → is_slash (get_or l.path k 0) ≡ true)

abbrev pub decreases-loop-start : goal.decreases-loop-start
decreases-loop-start l = l.start
