-- Texts that begin with another one.
use Rattle.std.specs.Prelude.{ℕ, List, drop, length, nat_eq, Option, Some, None, if◌then◌else◌}
use Rattle.std.specs.List.{starts_with}

-- what stands in a text after a prefix; None where the text doesn't begin with it
abbrev pub after_prefix : List ℕ → List ℕ → Option (List ℕ)
after_prefix prefix text = if starts_with nat_eq text prefix then Some (drop (length prefix) text) else None
