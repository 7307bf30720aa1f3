-- Specifiers, compared by their text.
use Rattle.std.specs.Prelude.{ℕ, Bool, List, bytes_eq, map}
use Rattle.std.specs.Ordering.{nat_cmp}
use Rattle.std.specs.declared.cmp.Ordering.{Ordering}
use Rattle.std.specs.Cmp.Lexicographic.{slice_cmp}
use Rattle.url.specs.Parts.{Parts, serialize}

-- two specifiers with one text
abbrev pub same_specifier : Parts → Parts → Bool
same_specifier a b = bytes_eq (serialize a) (serialize b)

-- specifiers are ordered by their text
abbrev pub specifier_cmp : Parts → Parts → Ordering
specifier_cmp a b = slice_cmp nat_cmp (serialize a) (serialize b)

-- the text of a specifier, by which it is looked up
unfoldable pub specifier_text : Parts → List ℕ
specifier_text s = serialize s

-- entries with the texts of their specifiers as keys
abbrev pub by_text : {V : Type 0} → List (Parts × V) → List (List ℕ × V)
by_text es = map (λ e. (specifier_text e.0, e.1)) es
