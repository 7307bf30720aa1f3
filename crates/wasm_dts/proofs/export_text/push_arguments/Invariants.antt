use Rattle.std.proofs.Common.{◌≡◌, ◌++◌, drop, string_bytes}
use Rattle.wasm_dts.specs.Declarations.{numbered, listed_argument}
use Rattle.wasm_dts.proofs.export_text.push_arguments.Given as goal

-- what is written and what is left to write are the whole
abbrev pub invariant-loop-i : goal.invariant-loop-i
invariant-loop-i l = string_bytes l.out ++ numbered listed_argument l.i (drop l.i l.types) ≡ string_bytes l.fn.out ++ numbered listed_argument 0 l.types
