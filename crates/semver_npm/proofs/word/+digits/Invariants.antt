use Rattle.std.proofs.Common.{length}
use Rattle.semver_npm.proofs.word.+digits.Given as goal

abbrev pub decreases-digits : goal.decreases-digits
decreases-digits l = length l.bytes.now
