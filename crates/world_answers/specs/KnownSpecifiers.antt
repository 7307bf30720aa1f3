-- Entries beside a key, where both stand in the order of their texts.
use Rattle.std.specs.Prelude.{ℕ, List, drop}
use Rattle.std.specs.Cmp.Lexicographic.{slice_cmp}
use Rattle.std.specs.List.{prefix_len}
use Rattle.std.specs.Ordering.{is_lt, nat_cmp}
use Rattle.url.specs.Parts.{Parts, serialize}

-- the entries from the first one on whose specifier's text doesn't stand before the key
abbrev pub from_key : {T : Type 0} → List ℕ → List (Parts × T) → List (Parts × T)
from_key key entries = drop (prefix_len (λ e. is_lt (slice_cmp nat_cmp (serialize e.0) key)) entries) entries
