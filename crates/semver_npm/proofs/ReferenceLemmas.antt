-- Where a name ends.
use Rattle.std.proofs.Common.{◌≡◌, Bool, ℕ, ◌<◌, ◌≤◌, true, false, List, length, get_or, sym}
use Rattle.std.specs.List.{position_or_len}
use Rattle.std.proofs.lemmas.List.Sums.{position_or_len_is}

-- the first place that passes
pub first_is : (p : ℕ → Bool) (xs : List ℕ) (i : ℕ) → i ≤ length xs → ((k : ℕ) → k < i → p (get_or xs k 0) ≡ false) → (i < length xs → p (get_or xs i 0) ≡ true) → i ≡ position_or_len p xs
first_is p xs i within before at = sym (position_or_len_is p xs i 0 within before at)
