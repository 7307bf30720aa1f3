use Rattle.std.proofs.Common.{◌≡◌, ◌++◌, drop, string_bytes}
use Rattle.wasm_dts.specs.Declarations.{numbered, export_statements}
use Rattle.wasm_dts.proofs.export_text.push_exports.Given as goal

-- what is written and what is left to write are the whole
abbrev pub invariant-loop-i : goal.invariant-loop-i
invariant-loop-i l = string_bytes l.out ++ numbered (export_statements l.spaces) l.i (drop l.i l.exports) ≡ string_bytes l.fn.out ++ numbered (export_statements l.spaces) 0 l.exports
