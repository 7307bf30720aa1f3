use Rattle.std.proofs.Common.{◌≡◌, ◌-◌}
use Rattle.wasm_dts.specs.Entries.{instructions, initializer}
use Rattle.wasm_dts.proofs.globals.initializer.Given as goal

-- what is left is read as the rest of the expression
abbrev pub invariant-loop : goal.invariant-loop
invariant-loop l = instructions (l.most - l.counter) l.left ≡ initializer l.fn.input
