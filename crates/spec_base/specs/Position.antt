-- Places in a text.
use Rattle.std.specs.Prelude.{ℕ, ◌+◌, ◌-◌, ◌++◌, Bool, true, false, ◌&&◌, ◌||◌, ◌==◌, nat_lt, nat_le, List, length, take, drop, slice_index, codes, decimal, bytes_eq}
use Rattle.std.specs.List.{prefix_len, suffix_len}
use Rattle.std.specs.Char.{is_ascii_alphabetic}
use Rattle.std.specs.Ordering.{nat_cmp, match_ordering}
use Rattle.std.specs.declared.cmp.Ordering.{Ordering}
use Rattle.std.specs.declared.cmp.Ordering.TheVariants.{Less, Greater}
use Rattle.url.specs.Parts.{Parts, serialize}
use Rattle.spec_base.specs.declared.position.Position.{Position}
use Rattle.spec_base.specs.declared.position.PositionRange.{PositionRange}
use Rattle.spec_base.specs.declared.position.Range.{Range}
use Rattle.spec_base.specs.declared.position.ResolutionKind.{ResolutionKind}
use Rattle.spec_base.specs.declared.position.ResolutionKind.TheVariants.{Execution, Types}

-- the line and the character, counted from one
abbrev pub position_text : Position → List ℕ
position_text p = decimal (p.line + 1) ++ (codes ":" ++ decimal (p.character + 1))

-- the specifier and the place where the range begins
abbrev pub range_text : Range → List ℕ
range_text r = serialize r.specifier ++ (codes ":" ++ position_text r.range.start)

-- by line, and then by character
abbrev pub no_later : Position → Position → Bool
no_later p q = nat_lt p.line q.line || (p.line == q.line && nat_le p.character q.character)

-- both ends are within
abbrev pub includes : PositionRange → Position → Bool
includes r p = no_later r.start p && no_later p r.end

-- by line, and then by character
abbrev pub position_cmp : Position → Position → Ordering
position_cmp p q = match_ordering (nat_cmp p.line q.line) Less (nat_cmp p.character q.character) Greater

-- whether what is resolved is types
abbrev pub is_types : ResolutionKind → Bool
is_types Types = true
is_types Execution = false

-- ---- roots of file systems

abbrev pub is_slash : ℕ → Bool
is_slash b = b == 47

-- a path without the slashes that it begins with
abbrev pub without_leading : List ℕ → List ℕ
without_leading path = drop (prefix_len is_slash path) path

-- a path without the slashes that it ends with
abbrev pub without_trailing : List ℕ → List ℕ
without_trailing path = take (length path - suffix_len is_slash path) path

-- a path without its outer slashes
abbrev pub inner_path : List ℕ → List ℕ
inner_path path = without_trailing (without_leading path)

-- nothing, or a drive letter with its colon
abbrev pub is_root_name : List ℕ → Bool
is_root_name name =
    length name == 0 || (length name == 2 && is_ascii_alphabetic (slice_index name 0) && slice_index name 1 == 58)

-- a `file:` URL of the root of a file system, or of a drive
abbrev pub is_fs_root : Parts → Bool
is_fs_root url = bytes_eq url.scheme (codes "file") && is_root_name (inner_path url.path)
