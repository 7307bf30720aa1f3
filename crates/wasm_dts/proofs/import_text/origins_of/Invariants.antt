use Rattle.std.proofs.Common.{◌≡◌, take}
use Rattle.wasm_dts.specs.Declarations.{origins_of}
use Rattle.wasm_dts.proofs.import_text.origins_of.Given as goal

-- the modules of the imports so far
abbrev pub invariant-loop-import : goal.invariant-loop-import
invariant-loop-import l = l.origins.list.items ≡ origins_of (take l.import-index l.imports)
