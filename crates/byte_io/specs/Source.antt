-- What a source gives, and what it keeps.
use Rattle.std.specs.Prelude.{◌≡◌, ℕ, ◌<◌, ◌≤◌, ⊤, List, [], ◌++◌, take, drop, Option, Some, None}
use Rattle.byte_io.specs.declared.source.ReadOutcome.{ReadOutcome}
use Rattle.byte_io.specs.declared.source.ReadOutcome.TheVariants.{Bytes, End, Failed}

-- bytes are at least one, and at most as many as there is room for
abbrev pub IsRoomFor : ReadOutcome → ℕ → Type 0
IsRoomFor (Bytes n) room = (0 < n) × (n ≤ room)
IsRoomFor End room = ⊤
IsRoomFor Failed room = ⊤

-- what was left is now in front of the buffer, or still left
abbrev pub LeavesOf : List ℕ → Option (List ℕ) → List ℕ → ReadOutcome → Type 0
LeavesOf bytes now buffer (Bytes n) = (bytes ≡ take n buffer ++ drop n bytes) × (now ≡ Some (drop n bytes))
LeavesOf bytes now buffer End = (bytes ≡ []) × (now ≡ Some [])
LeavesOf bytes now buffer Failed = now ≡ Some bytes

-- the same where the source tells what it has left; it never begins or ceases to tell
abbrev pub Leaves : Option (List ℕ) → Option (List ℕ) → List ℕ → ReadOutcome → Type 0
Leaves None now buffer outcome = now ≡ None
Leaves (Some bytes) now buffer outcome = LeavesOf bytes now buffer outcome
