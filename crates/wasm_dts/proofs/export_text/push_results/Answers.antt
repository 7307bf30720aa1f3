use Rattle.std.proofs.Common.{get_or, string_bytes, refl, ◌++◌}
use Rattle.wasm_dts.specs.declared.types.ValueType.TheVariants.{I32}
use Rattle.wasm_dts.specs.Declarations.{numbered, listed_result}
use Rattle.wasm_dts.proofs.Numbering.{one_more, all_written}
use Rattle.wasm_dts.proofs.export_text.push_results.Goals as goal

pub loop-i-preserved : goal.loop-i-preserved
loop-i-preserved c =
    let l = c.loop-i in
    one_more listed_result l.i c.args.types.now (get_or c.args.types.now l.i I32) I32 (string_bytes l.out) (string_bytes c.push_result.new.out) (string_bytes c.args.out.now ++ numbered listed_result 0 c.args.types.now) c.loop-i-test.true refl c.in_ok-push_result.ensures l.invariant

pub returns : goal.returns
returns c =
    let l = c.loop-i in
    all_written listed_result l.i c.args.types.now (string_bytes l.out) (string_bytes c.args.out.now ++ numbered listed_result 0 c.args.types.now) c.loop-i-test.false l.invariant
