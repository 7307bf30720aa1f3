-- The bytes so far are spaces.
use Rattle.std.proofs.Common.{◌≡◌, drop}
use Rattle.semver.specs.Parse.{strip_spaces}
use Rattle.semver_npm.proofs.word.skip_spaces.Given as goal

abbrev pub invariant-bytes : goal.invariant-bytes
invariant-bytes l = strip_spaces l.bytes ≡ strip_spaces (drop l.i l.bytes)
