-- Steps that may be refused.
use Rattle.std.specs.Prelude.{Result, Ok, Err}

-- the next step, unless this one was refused
abbrev pub and_then : {T U E : Type 0} → Result T E → (T → Result U E) → Result U E
and_then (Ok x) next = next x
and_then (Err e) next = Err e
