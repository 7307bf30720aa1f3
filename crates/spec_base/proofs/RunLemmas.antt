-- Facts on the elements that pass a test at the front and at the end of a list.
use Rattle.std.proofs.Common.{◌≡◌, Bool, ℕ, ◌-◌, ◌<◌, ◌≤◌, true, false, List, length, get_or, arith, sym}
use Rattle.std.specs.List.{prefix_len, suffix_len}
use Rattle.std.proofs.lemmas.List.Sums.{prefix_len_is, suffix_len_is}

-- where the elements that pass at the end begin
pub start_is : (p : ℕ → Bool) (xs : List ℕ) (n : ℕ) → n ≤ length xs → ((k : ℕ) → n ≤ k → k < length xs → p (get_or xs k 0) ≡ true) → (0 < n → p (get_or xs (n - 1) 0) ≡ false) → n ≡ length xs - suffix_len p xs
start_is p xs n within each stop =
    let e = suffix_len_is p xs n 0 within each stop in rw e (omega arith)

-- how many pass from the front on
pub prefix_is : (p : ℕ → Bool) (xs : List ℕ) (i : ℕ) → i ≤ length xs → ((k : ℕ) → k < i → p (get_or xs k 0) ≡ true) → (i < length xs → p (get_or xs i 0) ≡ false) → i ≡ prefix_len p xs
prefix_is p xs i within each stop = sym (prefix_len_is p xs i 0 within each stop)
