-- The words of a command that has workers.
use Rattle.std.specs.Prelude.{ℕ, ◌+◌, ◌-◌, ◌*◌, nat_lt, nat_le, ◌&&◌, ◌||◌, Bool, List, [], ◌∷◌, bytes_eq, codes, Option, Some, None, is_some, if◌then◌else◌}
use Rattle.graph_printing.specs.Commands.{is_command}

-- the number that a decimal digit is
abbrev pub digit_of : ℕ → Option ℕ
digit_of byte = if nat_le 48 byte && nat_le byte 57 then Some (byte - 48) else None

-- the number of two digits, of which the first isn't 0, up to 64
abbrev pub two_digits : Option ℕ → Option ℕ → Option ℕ
two_digits None ones = None
two_digits (Some tens) None = None
two_digits (Some tens) (Some ones) = if nat_lt 0 tens && nat_le (10 * tens + ones) 64 then Some (10 * tens + ones) else None

-- the number of workers that a word names: decimal, from 0 to 64, without a leading zero
abbrev pub number_of : List ℕ → Option ℕ
number_of [] = None
number_of (only ∷ []) = digit_of only
number_of (first ∷ second ∷ []) = two_digits (digit_of first) (digit_of second)
number_of (first ∷ second ∷ third ∷ more) = None

-- the number of workers in the words after `build`
abbrev pub workers_in : List (List ℕ) → Option ℕ
workers_in [] = None
workers_in (flag ∷ []) = None
workers_in (flag ∷ number ∷ []) = if bytes_eq flag (codes "--workers") then number_of number else None
workers_in (flag ∷ number ∷ more ∷ words) = None

-- the number of workers in the words `build --workers N`
abbrev pub workers_of : List (List ℕ) → Option ℕ
workers_of [] = None
workers_of (word ∷ words) = if bytes_eq word (codes "build") then workers_in words else None

-- whether words are those of a command, with workers or without
abbrev pub is_command_of_all : List (List ℕ) → Bool
is_command_of_all words = is_some (workers_of words) || is_command words
