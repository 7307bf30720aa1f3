use Rattle.std.proofs.Common.{◌≡◌, ◌<◌, ◌≤◌, ◌^◌, length, drop}
use Rattle.wasm_dts.specs.Binary.{leb_value}
use Rattle.wasm_dts.proofs.leb128.leb_value.Given as goal

-- the value is that of the bytes from here on
abbrev pub invariant-loop-left : goal.invariant-loop-left
invariant-loop-left l = record { within : l.left ≤ length l.bytes; value : leb_value (drop l.left l.bytes) ≡ l.value; fits : l.value < 2 ^ 64 }

abbrev pub decreases-loop-left : goal.decreases-loop-left
decreases-loop-left l = l.left
