-- Answers beside a key, where both stand in the order of their texts.
use Rattle.std.specs.Prelude.{ℕ, List, drop}
use Rattle.std.specs.Cmp.Lexicographic.{slice_cmp}
use Rattle.std.specs.List.{prefix_len}
use Rattle.std.specs.Ordering.{is_lt, nat_cmp}
use Rattle.url.specs.Parts.{Parts, serialize}
use Rattle.source_io.specs.declared.types.Answer.{Answer}
use Rattle.source_io.specs.declared.types.Purpose.{Purpose}

-- the answers from the first one on whose specifier's text doesn't stand before the key
abbrev pub from_key : List ℕ → List (Parts × Purpose × Answer) → List (Parts × Purpose × Answer)
from_key key answers = drop (prefix_len (λ a. is_lt (slice_cmp nat_cmp (serialize a.0) key)) answers) answers
