use Rattle.std.proofs.Common.{ap, ◌∙◌}
use Rattle.std.specs.Prelude.{Ok}
use Rattle.std.proofs.lemmas.Result.{err_from_is_err_and}
use Rattle.wasm_dts.specs.Vector.{entries}
use Rattle.wasm_dts.proofs.Loops.{goes_on, stops, refused, is_done}
use Rattle.wasm_dts.proofs.entry.entries.Goals as goal

pub returns-in_err-entry : goal.returns-in_err-entry
returns-in_err-entry g c =
    let p = err_from_is_err_and c.from_residual.result c.from_residual.ensures.1 in
    rw (p.1, p.2) (refused g.T.Entry.entry c.in_err-entry.field-0.0 c.loop.known.items c.args.count c.loop.counter c.loop.left (entries g.T.Entry.entry c.args.count c.args.input) c.loop-test.true c.in_err-entry.ensures c.loop.invariant)

pub returns-in_default : goal.returns-in_default
returns-in_default g c =
    let none = c.in_ok-entry.ensures ∙ ap (λ o. Ok (o, c.in_ok-entry.rest)) c.in_default.is in
    rw c.into.ensures (stops g.T.Entry.entry c.loop.known.items c.args.count c.loop.counter c.loop.left c.in_ok-entry.rest (entries g.T.Entry.entry c.args.count c.args.input) c.loop-test.true none c.loop.invariant)

pub loop-preserved : goal.loop-preserved
loop-preserved g c =
    let some = c.in_ok-entry.ensures ∙ ap (λ o. Ok (o, c.in_ok-entry.rest)) c.in-Some.is in
    rw c.in_ok-push.ensures.items (goes_on g.T.Entry.entry c.loop.known.items c.args.count c.loop.counter c.loop.left c.in_ok-entry.rest c.in-Some.entry (entries g.T.Entry.entry c.args.count c.args.input) c.loop-test.true some c.loop.invariant)

pub returns : goal.returns
returns g c = rw c.into-2.ensures (is_done g.T.Entry.entry c.loop.known.items c.args.count c.loop.counter c.loop.left (entries g.T.Entry.entry c.args.count c.args.input) c.loop-test.false c.loop.invariant)
