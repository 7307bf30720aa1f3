-- The first line of some bytes.
use Rattle.std.specs.Prelude.{ℕ, ◌==◌, List, [], ◌∷◌, Option, Some, None, option_map, if◌then◌else◌}

-- what stands before the first line break; none where there is no break
abbrev pub first_line : List ℕ → Option (List ℕ)
first_line [] = None
first_line (byte ∷ bytes) = if byte == 10 then Some [] else option_map (λ line. byte ∷ line) (first_line bytes)

-- what stands behind it: nothing where there is none
abbrev pub behind_line : List ℕ → List ℕ
behind_line [] = []
behind_line (byte ∷ bytes) = if byte == 10 then bytes else behind_line bytes
