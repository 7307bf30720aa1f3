use Rattle.std.proofs.Common.{◌-◌, arith, ap}
use Rattle.std.proofs.Math.Seq.{drop-length}
use Rattle.wasm_dts.specs.Binary.{leb_value}
use Rattle.wasm_dts.proofs.Numbers.{too_large, one_lower, whole_value}
use Rattle.wasm_dts.proofs.leb128.leb_value.Goals as goal

pub loop-left-init : goal.loop-left-init
unfolding leb_value
loop-left-init c = record { within = omega arith; value = ap leb_value (drop-length c.args.bytes.now); fits = omega arith }

pub returns-in-None : goal.returns-in-None
returns-in-None c =
    too_large (c.loop-left.left - 1) c.loop-left.left c.args.bytes.now c.loop-left.value (omega arith) (omega arith) c.loop-left.invariant.value c.in-None.ensures

pub loop-left-preserved : goal.loop-left-preserved
loop-left-preserved c =
    let longer = one_lower (c.loop-left.left - 1) c.loop-left.left c.args.bytes.now c.loop-left.value c.in-Some.longer (omega arith) (omega arith) c.loop-left.invariant.value c.in-Some.ensures in
    record { within = omega arith; value = longer.0; fits = longer.1 }

pub returns : goal.returns
returns c = whole_value c.loop-left.left c.args.bytes.now c.loop-left.value (omega arith) c.loop-left.invariant.value (omega arith)
