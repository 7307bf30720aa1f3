use Rattle.std.proofs.Common.{◌≡◌, ◌≤◌, ◌*◌, ◌^◌, ◌++◌, drop, string_bytes}
use Rattle.wasm_dts.specs.Declarations.{import_statements}
use Rattle.wasm_dts.proofs.import_text.push_imports.Given as goal

-- what is written and what is left to write are the whole
abbrev pub invariant-loop-origin : goal.invariant-loop-origin
invariant-loop-origin l =
    record {
      written : string_bytes l.out ++ import_statements l.count (drop l.origin-index l.origins) ≡ string_bytes l.fn.out ++ import_statements 0 l.origins;
      count : l.count ≤ l.origin-index * 2 ^ 64;
    }
