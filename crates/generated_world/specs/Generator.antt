-- The numbers that a linear congruential generator draws.
use Rattle.std.specs.Prelude.{ℕ, ◌+◌, ◌*◌, ◌/◌, ◌%◌, ◌^◌}

-- the generator's state after a draw, by its state before
abbrev pub next_state : ℕ → ℕ
next_state x = (x * 1103515245 + 12345) % 2 ^ 32

-- what is drawn, by the state after it
abbrev pub drawn : ℕ → ℕ
drawn x = (x / 65536) % 32768
