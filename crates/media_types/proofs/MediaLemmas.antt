-- Facts on names and their ends.
use Rattle.std.proofs.Common.{◌≡◌, Bool, ℕ, ◌-◌, ◌<◌, ◌≤◌, true, false, List, length, drop, get_or, refl, sym, nat_eq}
use Rattle.std.specs.Prelude.{bytes_eq}
use Rattle.std.specs.List.{ends_with, position_or_len}
use Rattle.std.proofs.lemmas.List.{drop-map, length-map}
use Rattle.std.proofs.lemmas.List.Sums.{position_or_len_is}
use Rattle.media_types.specs.Media.{lower}

-- the end of a text in lower case
pub ends_in_lower : (xs text : List ℕ) → bytes_eq (lower text) (lower (drop (length xs - length text) xs)) ≡ ends_with nat_eq (lower xs) (lower text)
ends_in_lower xs text = rw (length-map xs _, length-map text _, drop-map _ _ _) refl

-- the first place that passes
pub first_is : (p : ℕ → Bool) (xs : List ℕ) (i : ℕ) → i ≤ length xs → ((k : ℕ) → k < i → p (get_or xs k 0) ≡ false) → (i < length xs → p (get_or xs i 0) ≡ true) → i ≡ position_or_len p xs
first_is p xs i within before at = sym (position_or_len_is p xs i 0 within before at)
