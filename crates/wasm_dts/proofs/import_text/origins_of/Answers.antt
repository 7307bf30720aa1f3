use Rattle.std.proofs.Common.{◌∙◌}
use Rattle.wasm_dts.specs.Declarations.{origins_of}
use Rattle.wasm_dts.proofs.Origins.{origins_step}
use Rattle.wasm_dts.proofs.import_text.origins_of.Goals as goal

pub loop-import-init : goal.loop-import-init
unfolding origins_of
loop-import-init c = c.new-origins.ensures

pub loop-import-preserved : goal.loop-import-preserved
loop-import-preserved c =
    c.in_ok-origins.ensures ∙ origins_step c.args.imports.now c.loop-import.import-index c.import-item.result c.loop-import.origins.list.items c.loop-import-test.true c.import-item.is c.loop-import.invariant
