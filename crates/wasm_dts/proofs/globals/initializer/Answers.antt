use Rattle.std.proofs.Common.{length, ap, ◌∙◌}
use Rattle.std.specs.Prelude.{Ok}
use Rattle.std.proofs.lemmas.Result.{err_from_is_err_and}
use Rattle.wasm_dts.specs.Entries.{initializer}
use Rattle.wasm_dts.proofs.Initializers.{ended, unknown, goes_on, refused_opcode, refused_operand, is_done}
use Rattle.wasm_dts.proofs.globals.initializer.Goals as goal

pub returns-in_err-opcode : goal.returns-in_err-opcode
returns-in_err-opcode c =
    let p = err_from_is_err_and c.from_residual.result c.from_residual.ensures.1 in
    rw (p.1, p.2) (refused_opcode c.in_err-opcode.field-0.0 (length c.bytes-most.result.now) c.loop.counter c.loop.left (initializer c.args.input) c.loop-test.true c.in_err-opcode.ensures c.loop.invariant)

pub returns-then-opcode-eq11 : goal.returns-then-opcode-eq11
returns-then-opcode-eq11 c =
    ended (length c.bytes-most.result.now) c.loop.counter c.in_ok-opcode.opcode c.loop.left c.in_ok-opcode.rest (initializer c.args.input) c.loop-test.true c.in_ok-opcode.ensures c.if-opcode-eq11.true c.loop.invariant

pub returns-in_err-is_known : goal.returns-in_err-is_known
returns-in_err-is_known c =
    let p = err_from_is_err_and c.from_residual-in_err-is_known.result c.from_residual-in_err-is_known.ensures.1 in
    rw (p.1, p.2) (refused_operand c.in_err-is_known.field-0.0 (length c.bytes-most.result.now) c.loop.counter c.in_ok-opcode.opcode c.loop.left c.in_ok-opcode.rest (initializer c.args.input) c.loop-test.true c.in_ok-opcode.ensures c.if-opcode-eq11.false c.in_err-is_known.ensures c.loop.invariant)

pub returns-then-not-is_known : goal.returns-then-not-is_known
returns-then-not-is_known c =
    let stopped = c.in_ok-is_known.ensures ∙ ap (λ b. Ok (b, c.in_ok-is_known.rest)) c.if-not-is_known.true in
    unknown (length c.bytes-most.result.now) c.loop.counter c.in_ok-opcode.opcode c.loop.left c.in_ok-opcode.rest c.in_ok-is_known.rest (initializer c.args.input) c.loop-test.true c.in_ok-opcode.ensures c.if-opcode-eq11.false stopped c.loop.invariant

pub loop-preserved : goal.loop-preserved
loop-preserved c =
    let known = c.in_ok-is_known.ensures ∙ ap (λ b. Ok (b, c.in_ok-is_known.rest)) c.if-not-is_known.false in
    goes_on (length c.bytes-most.result.now) c.loop.counter c.in_ok-opcode.opcode c.loop.left c.in_ok-opcode.rest c.in_ok-is_known.rest (initializer c.args.input) c.loop-test.true c.in_ok-opcode.ensures c.if-opcode-eq11.false known c.loop.invariant

pub returns : goal.returns
returns c = rw c.end-at.ensures (is_done (length c.bytes-most.result.now) c.loop.counter c.loop.left (initializer c.args.input) c.loop-test.false c.loop.invariant)
