-- The texts of refusals.
use Rattle.std.specs.Prelude.{ℕ, List, ◌++◌, codes, decimal}
use Rattle.wasm_dts.specs.declared.refusal.WasmRefusal.{WasmRefusal}
use Rattle.wasm_dts.specs.declared.refusal.WasmRefusal.TheVariants.{NotWasm, UnsupportedVersion, UnexpectedEnd, IntegerOverflow, InvalidUtf8, UnknownKind}

-- which rule is broken, and its place
abbrev pub refusal_text : WasmRefusal → List ℕ
refusal_text (NotWasm at) = codes "not a Wasm module at byte " ++ decimal at
refusal_text (UnsupportedVersion at) = codes "unsupported version at byte " ++ decimal at
refusal_text (UnexpectedEnd at) = codes "unexpected end at byte " ++ decimal at
refusal_text (IntegerOverflow at) = codes "integer overflow at byte " ++ decimal at
refusal_text (InvalidUtf8 at) = codes "invalid UTF-8 at byte " ++ decimal at
refusal_text (UnknownKind at) = codes "unknown kind at byte " ++ decimal at
