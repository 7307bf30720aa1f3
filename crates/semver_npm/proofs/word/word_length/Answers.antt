use Rattle.std.proofs.Common.{◌≡◌, ◌≤◌, arith, length, rules, slice_index, true, false}
use Rattle.std.proofs.lemmas.List.{drop_all}
use Rattle.semver_npm.specs.Reader.{ends_word, word_length}
use Rattle.semver_npm.proofs.Words.{word-step, word-stop}
use Rattle.semver_npm.proofs.word.word_length.Goals as goal

pub bytes-preserved : goal.bytes-preserved
bytes-preserved c =
    let d : ends_word (slice_index c.args.bytes.now c.bytes.i) ≡ false = search rules in
    let step = word-step c.args.bytes.now c.bytes.i c.bytes-test.true d in
    let inv = c.bytes.invariant in
    omega arith

pub returns-then-ends_word-clause-value : goal.returns-then-ends_word-clause-value
returns-then-ends_word-clause-value c =
    let d : ends_word (slice_index c.args.bytes.now c.bytes.i) ≡ true = search rules in
    let stop = word-stop c.args.bytes.now c.bytes.i c.bytes-test.true d in
    let inv = c.bytes.invariant in
    omega arith

pub returns-clause-value : goal.returns-clause-value
unfolding word_length
returns-clause-value c =
    let done : length c.args.bytes.now ≤ c.bytes.i = omega arith in
    let inv = rw (drop_all c.bytes.i c.args.bytes.now done) at c.bytes.invariant in
    omega arith
