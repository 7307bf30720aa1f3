-- What the reader of requirements computes, on lists of bytes; the proofs show that it reads the grammar exactly.
use Rattle.std.specs.Prelude.{ℕ, zero, suc, ◌+◌, ◌-◌, ◌*◌, ◌^◌, ◌==◌, ◌&&◌, ◌||◌, nat_le, nat_lt, Bool, true, false, List, [], ◌∷◌, length, take, drop, Option, Some, None, Result, Ok, Err, if◌then◌else◌, is_some}
use Rattle.std.specs.Char.{is_ascii_digit}
use Rattle.std.specs.Borrow.{Bor}
use Rattle.semver.specs.Parse.{strip_spaces, version_parts}
use Rattle.semver.specs.declared.error.Error.{Error}
use Rattle.semver_npm.specs.Grammar.{is_tag_text, partial_from}
use Rattle.semver_npm.specs.Meaning.{in_ranges}
use Rattle.semver_npm.specs.Versions.{Ver}
use Rattle.semver_npm.specs.declared.requirement.VersionReqFault.{VersionReqFault}
use Rattle.semver_npm.specs.declared.simple.Operator.{Operator}
use Rattle.semver_npm.specs.declared.simple.Operator.TheVariants.{Plain, Exact, Less, AtMost, Greater, AtLeast, Caret, Tilde}
use Rattle.semver_npm.specs.declared.simple.Partial.{Partial}
use Rattle.semver_npm.specs.declared.simple.Partial.TheVariants.{Any, Major, Minor, Full}
use Rattle.semver_npm.specs.declared.simple.Simple.{Simple}

-- a value and the bytes after it
abbrev pub Read : Type 0 → Type 0
Read A = Option (A × List ℕ)

abbrev pub read_view : {A : Type 0} → Option (A × Bor (List ℕ)) → Read A
read_view (Some p) = Some (p.0, p.1.now)
read_view None = None

infixl 10 ◌>>=◌
abbrev pub ◌>>=◌ : {A B : Type 0} → Option A → (A → Option B) → Option B
(Some x) >>= f = f x
None >>= f = None

-- the first that reads
abbrev pub or_else : {A : Type 0} → Option A → Option A → Option A
or_else (Some x) other = Some x
or_else None other = other

-- a number below 2 ^ 64 with no leading zero, from the value and the count of the digits so far
unfoldable pub digits_from : ℕ → ℕ → List ℕ → Read ℕ
digits_from value len [] = if len == 0 then None else Some (value, [])
digits_from value len (b ∷ rest) =
    if is_ascii_digit b then
    if value == 0 && nat_lt 0 len then None
    else if nat_le (2 ^ 64) (value * 10 + (b - 48)) then None
    else digits_from (value * 10 + (b - 48)) (len + 1) rest
    else if len == 0 then None else Some (value, b ∷ rest)

abbrev pub is_any : ℕ → Bool
is_any b = b == 42 || (b == 120 || b == 88)

-- a number, or None for an x
unfoldable pub part_at : List ℕ → Read (Option ℕ)
part_at [] = None
part_at (b ∷ rest) = if is_any b then Some (None, rest) else digits_from 0 0 (b ∷ rest) >>= λ n. Some (Some n.0, n.1)

-- the part after a dot, or None where no dot stands
unfoldable pub dotted_at : List ℕ → Read (Option ℕ)
dotted_at [] = Some (None, [])
dotted_at (b ∷ rest) = if b == 46 then part_at rest else Some (None, b ∷ rest)

-- three parts, where nothing is left
abbrev pub whole_parts : Option ℕ → Option ℕ → Option ℕ → List ℕ → Option (Option ℕ × Option ℕ × Option ℕ)
whole_parts a b c [] = Some (a, b, c)
whole_parts a b c (x ∷ rest) = None

-- a word of one to three parts joined by dots
abbrev pub parts_in : List ℕ → Option (Option ℕ × Option ℕ × Option ℕ)
parts_in word = part_at word >>= λ a. (dotted_at a.1 >>= λ b. (dotted_at b.1 >>= λ c. whole_parts a.0 b.0 c.0 c.1))

-- a whole version
abbrev pub full_from : Result Ver Error → Option Partial
full_from (Ok v) = Some (Full v)
full_from (Err e) = None

abbrev pub full_of : List ℕ → Option Partial
full_of word = full_from (version_parts word)

abbrev pub partial_of_parts : Option ℕ × Option ℕ × Option ℕ → Option Partial
partial_of_parts p = Some (partial_from p.0 p.1 p.2)

-- the partial version that a word is
abbrev pub partial_of : List ℕ → Option Partial
partial_of word = or_else (parts_in word >>= partial_of_parts) (full_of word)

abbrev pub ends_word : ℕ → Bool
ends_word b = b == 32 || b == 124

-- the number of bytes up to a space or a bar
unfoldable pub word_length : List ℕ → ℕ
word_length [] = 0
word_length (b ∷ rest) = if ends_word b then 0 else suc (word_length rest)

abbrev pub partial_at : List ℕ → Read Partial
partial_at bytes = partial_of (take (word_length bytes) bytes) >>= λ p. Some (p, drop (word_length bytes) bytes)

-- an operator with a second form
abbrev pub or_equal : Operator → Operator → List ℕ → Operator × List ℕ
or_equal one two [] = (one, [])
or_equal one two (b ∷ rest) = if b == 61 then (two, rest) else (one, b ∷ rest)

-- the operator at the front
abbrev pub operator_at : List ℕ → Operator × List ℕ
operator_at [] = (Plain, [])
operator_at (a ∷ rest) =
    if a == 60 then or_equal Less AtMost rest
    else if a == 62 then or_equal Greater AtLeast rest
    else if a == 61 then (Exact, rest)
    else if a == 94 then (Caret, rest)
    else if a == 126 then (Tilde, rest)
    else (Plain, a ∷ rest)

-- spaces may stand after an operator alone
abbrev pub operand_at : Operator → List ℕ → List ℕ
operand_at Plain rest = rest
operand_at Exact rest = strip_spaces rest
operand_at Less rest = strip_spaces rest
operand_at AtMost rest = strip_spaces rest
operand_at Greater rest = strip_spaces rest
operand_at AtLeast rest = strip_spaces rest
operand_at Caret rest = strip_spaces rest
operand_at Tilde rest = strip_spaces rest

abbrev pub simple_of : Operator → Partial × List ℕ → Read Simple
simple_of o p = Some (record { operator = o; partial = p.0 }, p.1)

abbrev pub simple_at : List ℕ → Read Simple
simple_at bytes = partial_at (operand_at (operator_at bytes).0 (operator_at bytes).1) >>= simple_of (operator_at bytes).0

-- what stands after a word: nothing, a further word of the range, or a further range
pub data Follow : Type 0 where
  ended : Follow
  further : List ℕ → Follow
  another : List ℕ → Follow

-- what stands after spaces; a word that no space stands before is none
abbrev pub follow_after : Bool → List ℕ → Option Follow
follow_after spaced [] = None
follow_after spaced (a ∷ []) = if spaced then Some (further (a ∷ [])) else None
follow_after spaced (a ∷ b ∷ rest) =
    if a == 124 && b == 124 then Some (another (strip_spaces rest))
    else if spaced then Some (further (a ∷ b ∷ rest)) else None

abbrev pub follow_at : List ℕ → Option Follow
follow_at [] = Some ended
follow_at (b ∷ rest) = follow_after (b == 32) (strip_spaces (b ∷ rest))

-- simples of one range, and the text of a further range, where one follows
abbrev pub Simples : Type 0
Simples = List Simple × Option (List ℕ)

abbrev pub after_simple : (List ℕ → Option Simples) → Simple → Follow → Option Simples
after_simple more s ended = Some (s ∷ [], None)
after_simple more s (further rest) = more rest >>= λ t. Some (s ∷ t.0, t.1)
after_simple more s (another rest) = Some (s ∷ [], Some rest)

abbrev pub item_at : List ℕ → Option (Simple × Follow)
item_at bytes = simple_at bytes >>= λ s. (follow_at s.1 >>= λ f. Some (s.0, f))

-- at most n simples
unfoldable pub simples_from : ℕ → List ℕ → Option Simples
simples_from zero bytes = None
simples_from (suc n) bytes = item_at bytes >>= λ i. after_simple (simples_from n) i.0 i.1

-- the text after the hyphen of `p - q`, with spaces on both its sides
abbrev pub dash_after : List ℕ → Option (List ℕ)
dash_after [] = None
dash_after (a ∷ []) = None
dash_after (a ∷ b ∷ rest) = if a == 45 && b == 32 then Some (strip_spaces rest) else None

abbrev pub dash_at : List ℕ → Option (List ℕ)
dash_at [] = None
dash_at (b ∷ rest) = if b == 32 then dash_after (strip_spaces rest) else None

-- both simples of a hyphen range
abbrev pub between : Partial → Partial → List Simple
between p q = record { operator = AtLeast; partial = p } ∷ record { operator = AtMost; partial = q } ∷ []

-- a hyphen range is the whole range
abbrev pub after_hyphen : List Simple → Follow → Option Simples
after_hyphen r ended = Some (r, None)
after_hyphen r (further rest) = None
after_hyphen r (another rest) = Some (r, Some rest)

-- the two versions of a hyphen range, and what stands after it
abbrev pub ends_at : List ℕ → Option (Partial × Partial × Follow)
ends_at bytes = partial_at bytes >>= λ p. (dash_at p.1 >>= λ rest. (partial_at rest >>= λ q. (follow_at q.1 >>= λ f. Some (p.0, q.0, f))))

abbrev pub hyphen_at : List ℕ → Option Simples
hyphen_at bytes = ends_at bytes >>= λ e. after_hyphen (between e.0 e.1) e.2

abbrev pub range_at : List ℕ → Option Simples
range_at bytes = or_else (simples_from (length bytes) bytes) (hyphen_at bytes)

-- the ranges so far, and those of a further range's text
abbrev pub after_range : (List ℕ → Option (List (List Simple))) → Simples → Option (List (List Simple))
after_range more (r, None) = Some (r ∷ [])
after_range more (r, Some rest) = more rest >>= λ rs. Some (r ∷ rs)

-- at most n ranges
unfoldable pub ranges_from : ℕ → List ℕ → Option (List (List Simple))
ranges_from zero bytes = None
ranges_from (suc n) bytes = range_at bytes >>= λ r. after_range (ranges_from n) r

-- the ranges of a text; None where it is no range set
abbrev pub ranges_of : List ℕ → Option (List (List Simple))
ranges_of text = ranges_from (length text) text

-- whether a text is a requirement
abbrev pub is_requirement : List ℕ → Bool
is_requirement text = is_some (ranges_of text) || is_tag_text text

abbrev pub matches_read : Option (List (List Simple)) → Ver → Bool
matches_read None v = false
matches_read (Some rs) v = in_ranges rs v

-- whether a version matches the requirement of a text; a tag matches nothing
abbrev pub req_matches : List ℕ → Ver → Bool
req_matches text v = matches_read (ranges_of text) v

abbrev pub tag_read : Option (List (List Simple)) → List ℕ → Option (List ℕ)
tag_read None text = Some text
tag_read (Some rs) text = None

-- the tag that a requirement's text is
abbrev pub tag_of : List ℕ → Option (List ℕ)
tag_of text = tag_read (ranges_of text) text

abbrev pub is_plain : Operator → Bool
is_plain Plain = true
is_plain Exact = false
is_plain Less = false
is_plain AtMost = false
is_plain Greater = false
is_plain AtLeast = false
is_plain Caret = false
is_plain Tilde = false

abbrev pub is_any_partial : Partial → Bool
is_any_partial Any = true
is_any_partial (Major a) = false
is_any_partial (Minor a b) = false
is_any_partial (Full v) = false

-- one simple without operator whose first part is an x
abbrev pub is_any_simples : List Simple → Bool
is_any_simples [] = false
is_any_simples (s ∷ []) = is_plain s.operator && is_any_partial s.partial
is_any_simples (s ∷ t ∷ more) = false

-- one range of such a simple
abbrev pub is_any_ranges : List (List Simple) → Bool
is_any_ranges [] = false
is_any_ranges (r ∷ []) = is_any_simples r
is_any_ranges (r ∷ q ∷ more) = false

abbrev pub is_wildcard_read : Option (List (List Simple)) → Bool
is_wildcard_read None = false
is_wildcard_read (Some rs) = is_any_ranges rs

-- whether the requirement of a text is a wildcard
abbrev pub is_wildcard : List ℕ → Bool
is_wildcard text = is_wildcard_read (ranges_of text)

-- the requirement that a text is, which is the text
abbrev pub requirement_of : List ℕ → Result (List ℕ) VersionReqFault
requirement_of text = if is_requirement text then Ok text else Err (record { text = text })
