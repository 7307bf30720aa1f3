use Rattle.semver_npm.proofs.RangeLaws.{caret_law}
use Rattle.semver_npm.proofs.laws.caret_keeps_the_major_number.Goals as goal

pub returns : goal.returns
returns c = caret_law
