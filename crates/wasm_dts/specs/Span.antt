-- The bytes that are left to read.
use Rattle.std.specs.Prelude.{ℕ, ◌+◌, List, length, take, drop}

-- the bytes up to the end of a payload or of the module, and the place of the first of them in the module
pub record Span : Type 0 where
  pub at : ℕ
  pub bytes : List ℕ

-- the place behind the last byte
abbrev pub end_of : Span → ℕ
end_of s = s.at + length s.bytes

-- the first n bytes
abbrev pub front : ℕ → Span → Span
front n s = record { at = s.at; bytes = take n s.bytes }

-- what is left behind the first n bytes
abbrev pub behind : ℕ → Span → Span
behind n s = record { at = s.at + n; bytes = drop n s.bytes }
