-- The order of a world's answers: that of their specifiers' texts, and then that of purposes.
use Rattle.std.specs.Prelude.{ℕ, List}
use Rattle.std.specs.Cmp.Lexicographic.{slice_cmp}
use Rattle.std.specs.List.Sorted.{IsStrictlySortedBy}
use Rattle.std.specs.Ordering.{nat_cmp, ordering_then}
use Rattle.std.specs.declared.cmp.Ordering.{Ordering}
use Rattle.url.specs.Parts.{Parts, serialize}
use Rattle.source_io.specs.Answers.{purpose_place}
use Rattle.source_io.specs.declared.types.Answer.{Answer}
use Rattle.source_io.specs.declared.types.Purpose.{Purpose}

-- a specifier and the place of a purpose among all: by the text of the specifier, and then by the place
abbrev pub place_cmp : Parts × ℕ → Parts × ℕ → Ordering
place_cmp p q = ordering_then (slice_cmp nat_cmp (serialize p.0) (serialize q.0)) (nat_cmp p.1 q.1)

-- the order of two answers: that of their places
abbrev pub answer_cmp : Parts × Purpose × Answer → Parts × Purpose × Answer → Ordering
answer_cmp a b = place_cmp (a.0, purpose_place a.1) (b.0, purpose_place b.1)

-- each answer stands before those after it, so that no two are of one specifier and purpose
abbrev pub AreRising : List (Parts × Purpose × Answer) → Type 0
AreRising es = IsStrictlySortedBy answer_cmp es
