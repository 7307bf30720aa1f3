use Rattle.std.proofs.Common.{string_bytes, ap, ◌∙◌, ◌++◌}
use Rattle.wasm_dts.specs.Declarations.{numbered, listed_import}
use Rattle.wasm_dts.proofs.Numbering.{one_more, all_written}
use Rattle.wasm_dts.proofs.import_text.push_names.Goals as goal

pub loop-i-preserved : goal.loop-i-preserved
loop-i-preserved c =
    let l = c.loop-i in
    let text = listed_import c.args.count in
    let written = c.in_ok-push_listed.ensures ∙ ap (λ name. string_bytes l.out ++ text l.i name) c.as_str.ensures in
    one_more text l.i c.args.names.now c.index-names-i.result c.index-names-i.result (string_bytes l.out) (string_bytes c.push_listed.new.out) (string_bytes c.args.out.now ++ numbered text 0 c.args.names.now) c.loop-i-test.true c.index-names-i.is written l.invariant

pub returns : goal.returns
returns c =
    let l = c.loop-i in
    let text = listed_import c.args.count in
    all_written text l.i c.args.names.now (string_bytes l.out) (string_bytes c.args.out.now ++ numbered text 0 c.args.names.now) c.loop-i-test.false l.invariant
