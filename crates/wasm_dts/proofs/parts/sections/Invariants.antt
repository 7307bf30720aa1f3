use Rattle.std.proofs.Common.{◌≡◌, ◌-◌, length}
use Rattle.wasm_dts.specs.Module.{no_parts, sections}
use Rattle.wasm_dts.proofs.parts.sections.Given as goal

-- what is left is read as the rest of the sections
abbrev pub invariant-loop : goal.invariant-loop
invariant-loop l = sections (l.most - l.counter) l.parts l.left ≡ sections (length l.fn.body.bytes) no_parts l.fn.body
