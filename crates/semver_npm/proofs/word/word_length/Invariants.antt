-- No byte so far ends the word.
use Rattle.std.proofs.Common.{◌≡◌, ◌+◌, drop}
use Rattle.semver_npm.specs.Reader.{word_length}
use Rattle.semver_npm.proofs.word.word_length.Given as goal

abbrev pub invariant-bytes : goal.invariant-bytes
invariant-bytes l = word_length l.bytes ≡ l.i + word_length (drop l.i l.bytes)
