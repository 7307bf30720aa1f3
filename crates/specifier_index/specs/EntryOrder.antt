-- The order of entries by their specifiers.
use Rattle.std.specs.Prelude.{List}
use Rattle.std.specs.Cmp.Lexicographic.{slice_cmp}
use Rattle.std.specs.List.Sorted.{IsStrictlySortedBy}
use Rattle.std.specs.Ordering.{nat_cmp}
use Rattle.std.specs.declared.cmp.Ordering.{Ordering}
use Rattle.url.specs.Parts.{Parts, serialize}

-- the order of two entries: that of their specifiers' texts
abbrev pub entry_cmp : {T : Type 0} → Parts × T → Parts × T → Ordering
entry_cmp a b = slice_cmp nat_cmp (serialize a.0) (serialize b.0)

-- each entry stands before those after it, so that no two are of one specifier
abbrev pub AreRising : {T : Type 0} → List (Parts × T) → Type 0
AreRising es = IsStrictlySortedBy entry_cmp es
