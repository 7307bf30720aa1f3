use Rattle.std.proofs.Common.{◌≡◌, ◌++◌, drop, string_bytes}
use Rattle.wasm_dts.specs.Declarations.{numbered, listed_import}
use Rattle.wasm_dts.proofs.import_text.push_names.Given as goal

-- what is written and what is left to write are the whole
abbrev pub invariant-loop-i : goal.invariant-loop-i
invariant-loop-i l = string_bytes l.out ++ numbered (listed_import l.count) l.i (drop l.i l.names) ≡ string_bytes l.fn.out ++ numbered (listed_import l.count) 0 l.names
