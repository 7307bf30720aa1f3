use Rattle.std.proofs.Common.{string_bytes, ◌++◌}
use Rattle.wasm_dts.specs.Declarations.{numbered, export_statements}
use Rattle.wasm_dts.proofs.Numbering.{one_more, all_written}
use Rattle.wasm_dts.proofs.export_text.push_exports.Goals as goal

pub loop-i-preserved : goal.loop-i-preserved
loop-i-preserved c =
    let l = c.loop-i in
    let text = export_statements c.args.spaces.now in
    one_more text l.i c.args.exports.now c.index-exports-i.result c.index-exports-i.result (string_bytes l.out) (string_bytes c.push_export.new.out) (string_bytes c.args.out.now ++ numbered text 0 c.args.exports.now) c.loop-i-test.true c.index-exports-i.is c.in_ok-push_export.ensures l.invariant

pub returns : goal.returns
returns c =
    let l = c.loop-i in
    let text = export_statements c.args.spaces.now in
    all_written text l.i c.args.exports.now (string_bytes l.out) (string_bytes c.args.out.now ++ numbered text 0 c.args.exports.now) c.loop-i-test.false l.invariant
