use Rattle.std.proofs.Common.{length, sym, ap}
use Rattle.std.proofs.lemmas.Result.{err_from_is_err_and}
use Rattle.wasm_dts.specs.Module.{no_parts, sections}
use Rattle.wasm_dts.proofs.SectionLoops.{begins, is_empty, goes_on, refused, is_done}
use Rattle.wasm_dts.proofs.parts.sections.Goals as goal

pub loop-init : goal.loop-init
loop-init c = begins (length c.bytes-most.result.now) c.no_parts-parts.result c.args.body (ap length c.bytes-most.ensures) c.no_parts-parts.ensures

pub returns-then-is_empty : goal.returns-then-is_empty
returns-then-is_empty c =
    is_empty (length c.bytes-most.result.now) c.loop.counter c.loop.parts c.loop.left (sections (length c.args.body.bytes) no_parts c.args.body) c.loop-test.true (sym c.if-is_empty.ensures) c.loop.invariant

pub returns-in_err-more : goal.returns-in_err-more
returns-in_err-more c =
    let p = err_from_is_err_and c.from_residual.result c.from_residual.ensures.1 in
    rw (p.1, p.2) (refused c.in_err-more.field-0.0 (length c.bytes-most.result.now) c.loop.counter c.loop.parts c.loop.left (sections (length c.args.body.bytes) no_parts c.args.body) c.loop-test.true (sym c.if-is_empty.ensures) c.in_err-more.ensures c.loop.invariant)

pub loop-preserved : goal.loop-preserved
loop-preserved c =
    goes_on (length c.bytes-most.result.now) c.loop.counter c.loop.parts c.in_ok-more.more c.loop.left c.in_ok-more.rest (sections (length c.args.body.bytes) no_parts c.args.body) c.loop-test.true (sym c.if-is_empty.ensures) c.in_ok-more.ensures c.loop.invariant

pub returns : goal.returns
returns c = is_done (length c.bytes-most.result.now) c.loop.counter c.loop.parts c.loop.left (sections (length c.args.body.bytes) no_parts c.args.body) c.loop-test.false c.loop.invariant
