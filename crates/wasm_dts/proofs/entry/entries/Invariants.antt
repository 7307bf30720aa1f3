use Rattle.std.proofs.Common.{◌≡◌, ◌-◌}
use Rattle.wasm_dts.specs.Vector.{entries}
use Rattle.wasm_dts.proofs.Loops.{with_front}
use Rattle.wasm_dts.proofs.entry.entries.Given as goal

-- what is read so far and what is left to read are the whole
abbrev pub invariant-loop : goal.invariant-loop
invariant-loop g l = with_front l.known.items (entries g.T.Entry.entry (l.count - l.counter) l.left) ≡ entries g.T.Entry.entry l.fn.count l.fn.input
