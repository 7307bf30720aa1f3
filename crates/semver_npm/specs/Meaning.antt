-- The versions that meet a requirement. Bounds are compared by SemVer precedence, which ignores build text.
use Rattle.std.specs.Prelude.{ℕ, ◌+◌, ◌^◌, ◌==◌, ◌&&◌, ◌||◌, nat_lt, not, Bool, true, false, List, [], length, Option, Some, None, option_map, if◌then◌else◌}
use Rattle.std.specs.List.{list_all, list_any}
use Rattle.std.specs.Ordering.{is_ge, is_gt, is_le, is_lt}
use Rattle.semver_npm.specs.Versions.{Ver, precedence}
use Rattle.semver_npm.specs.declared.simple.Operator.{Operator}
use Rattle.semver_npm.specs.declared.simple.Operator.TheVariants.{Plain, Exact, Less, AtMost, Greater, AtLeast, Caret, Tilde}
use Rattle.semver_npm.specs.declared.simple.Partial.{Partial}
use Rattle.semver_npm.specs.declared.simple.Partial.TheVariants.{Any, Major, Minor, Full}
use Rattle.semver_npm.specs.declared.simple.Simple.{Simple}

-- an end of an interval: the version there, and whether it belongs to the interval; None where there is no end
abbrev pub Bound : Type 0
Bound = Option (Bool × Ver)

-- an interval of versions, from its low to its high end; None is the empty set
abbrev pub Interval : Type 0
Interval = Option (Bound × Bound)

abbrev pub is_over : Bound → Ver → Bool
is_over None v = true
is_over (Some (true, low)) v = is_ge (precedence v low)
is_over (Some (false, low)) v = is_gt (precedence v low)

abbrev pub is_under : Bound → Ver → Bool
is_under None v = true
is_under (Some (true, high)) v = is_le (precedence v high)
is_under (Some (false, high)) v = is_lt (precedence v high)

-- whether a version lies in an interval
abbrev pub within : Interval → Ver → Bool
within None v = false
within (Some ends) v = is_over ends.0 v && is_under ends.1 v

abbrev pub nothing : Interval
nothing = None

abbrev pub anything : Interval
anything = Some (None, None)

-- an end that belongs to the interval, and one that doesn't
abbrev pub closed : Ver → Bound
closed v = Some (true, v)

abbrev pub open_at : Ver → Bound
open_at v = Some (false, v)

-- the version of three numbers
abbrev pub release : ℕ → ℕ → ℕ → Ver
release major minor patch = (major, minor, patch, [], [])

-- the next number, where 64 bits hold it
abbrev pub next : ℕ → Option ℕ
next n = if nat_lt (n + 1) (2 ^ 64) then Some (n + 1) else None

-- the first version of the next major, minor or patch number
abbrev pub major_end : ℕ → Option Ver
major_end major = option_map (λ n. release n 0 0) (next major)

abbrev pub minor_end : ℕ → ℕ → Option Ver
minor_end major minor = option_map (λ n. release major n 0) (next minor)

abbrev pub patch_end : ℕ → ℕ → ℕ → Option Ver
patch_end major minor patch = option_map (λ n. release major minor n) (next patch)

-- below an end, and from it on; past 64 bits there is no end, and nothing lies after it
abbrev pub below : Option Ver → Bound
below end = option_map (λ v. (false, v)) end

abbrev pub from_end : Option Ver → Interval
from_end None = nothing
from_end (Some v) = Some (closed v, None)

-- no operator, or `=`: that version, or all that begin with the given parts
abbrev pub exactly : Partial → Interval
exactly Any = anything
exactly (Major a) = Some (closed (release a 0 0), below (major_end a))
exactly (Minor a b) = Some (closed (release a b 0), below (minor_end a b))
exactly (Full v) = Some (closed v, closed v)

-- `<`
abbrev pub less_than : Partial → Interval
less_than Any = nothing
less_than (Major a) = Some (None, open_at (release a 0 0))
less_than (Minor a b) = Some (None, open_at (release a b 0))
less_than (Full v) = Some (None, open_at v)

-- `<=`: at most that version, or below all that are greater than the given parts
abbrev pub at_most : Partial → Interval
at_most Any = anything
at_most (Major a) = Some (None, below (major_end a))
at_most (Minor a b) = Some (None, below (minor_end a b))
at_most (Full v) = Some (None, closed v)

-- `>`: above that version, or from the next of the given parts on
abbrev pub greater_than : Partial → Interval
greater_than Any = nothing
greater_than (Major a) = from_end (major_end a)
greater_than (Minor a b) = from_end (minor_end a b)
greater_than (Full v) = Some (open_at v, None)

-- `>=`
abbrev pub at_least : Partial → Interval
at_least Any = anything
at_least (Major a) = Some (closed (release a 0 0), None)
at_least (Minor a b) = Some (closed (release a b 0), None)
at_least (Full v) = Some (closed v, None)

-- the next of the first number that isn't 0, or of the last where all are
abbrev pub caret_end : ℕ → ℕ → ℕ → Option Ver
caret_end a b c = if a == 0 then (if b == 0 then patch_end a b c else minor_end a b) else major_end a

-- the end of `^`: the first given number that isn't 0 stays as it is, or the last given one where all are 0
abbrev pub caret_end_of : Partial → Option Ver
caret_end_of Any = None
caret_end_of (Major a) = major_end a
caret_end_of (Minor a b) = if a == 0 then minor_end a b else major_end a
caret_end_of (Full v) = caret_end v.0 v.1 v.2

-- the end of `~`: the minor number stays as it is, or the major number where no minor is given
abbrev pub tilde_end_of : Partial → Option Ver
tilde_end_of Any = None
tilde_end_of (Major a) = major_end a
tilde_end_of (Minor a b) = minor_end a b
tilde_end_of (Full v) = minor_end v.0 v.1

-- from a partial version on, below an end
abbrev pub up_to : Interval → Bound → Interval
up_to None high = nothing
up_to (Some ends) high = Some (ends.0, high)

-- `^`, and `~`
abbrev pub caret : Partial → Interval
caret p = up_to (at_least p) (below (caret_end_of p))

abbrev pub tilde : Partial → Interval
tilde p = up_to (at_least p) (below (tilde_end_of p))

-- the versions of an operator and a partial version
abbrev pub interval_of : Operator → Partial → Interval
interval_of Plain p = exactly p
interval_of Exact p = exactly p
interval_of Less p = less_than p
interval_of AtMost p = at_most p
interval_of Greater p = greater_than p
interval_of AtLeast p = at_least p
interval_of Caret p = caret p
interval_of Tilde p = tilde p

abbrev pub in_simple : Simple → Ver → Bool
in_simple s v = within (interval_of s.operator s.partial) v

-- whether a partial version has a pre-release, and the version's three numbers
abbrev pub names_pre : Partial → Ver → Bool
names_pre Any v = false
names_pre (Major a) v = false
names_pre (Minor a b) v = false
names_pre (Full f) v = not (length f.3 == 0) && (f.0 == v.0 && (f.1 == v.1 && f.2 == v.2))

-- a range: all its simples, and a pre-release only where one of its partials names one of those three numbers
abbrev pub in_range : List Simple → Ver → Bool
in_range r v = list_all (λ s. in_simple s v) r && (length v.3 == 0 || list_any (λ s. names_pre s.partial v) r)

-- ranges joined by `||`: any of them
abbrev pub in_ranges : List (List Simple) → Ver → Bool
in_ranges rs v = list_any (λ r. in_range r v) rs
