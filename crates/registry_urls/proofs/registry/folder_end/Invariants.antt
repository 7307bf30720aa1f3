-- None of the bytes from `end` on is a `/`.
use Rattle.std.proofs.Common.{◌≡◌, ℕ, ◌<◌, ◌≤◌, ◌==◌, true, not, length, get_or}
use Rattle.registry_urls.proofs.registry.folder_end.Given as goal

abbrev pub invariant-loop-end : goal.invariant-loop-end
invariant-loop-end l =
    (l.end ≤ length l.text)
    × ((k : ℕ) → l.end ≤ k → k < length l.text → not (get_or l.text k 0 == 47) ≡ true)

abbrev pub decreases-loop-end : goal.decreases-loop-end
decreases-loop-end l = l.end
