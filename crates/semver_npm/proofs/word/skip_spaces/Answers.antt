use Rattle.std.proofs.Common.{◌≡◌, arith, length, sym, ◌∙◌}
use Rattle.std.proofs.lemmas.List.{drop_all, take_rest}
use Rattle.semver.specs.Parse.{strip_spaces}
use Rattle.semver.proofs.Readers.{strip_step, strip_stop}
use Rattle.semver_npm.proofs.word.skip_spaces.Goals as goal

pub bytes-preserved : goal.bytes-preserved
bytes-preserved c = c.bytes.invariant ∙ strip_step c.args.bytes.now c.bytes.i c.bytes-test.true (grind arith)

pub returns-then-bytes-i-ne32 : goal.returns-then-bytes-i-ne32
returns-then-bytes-i-ne32 c =
    take_rest c.args.bytes.now c.bytes.i ∙ sym (c.bytes.invariant ∙ strip_stop c.args.bytes.now c.bytes.i c.bytes-test.true (grind arith))

pub returns : goal.returns
unfolding strip_spaces
returns c =
    let all : c.bytes.i ≡ length c.args.bytes.now = omega arith in
    let none = drop_all c.bytes.i c.args.bytes.now (omega arith) in
    rw (take_rest c.args.bytes.now (length c.args.bytes.now), drop_all (length c.args.bytes.now) c.args.bytes.now (omega arith)) (sym (rw none at c.bytes.invariant))
