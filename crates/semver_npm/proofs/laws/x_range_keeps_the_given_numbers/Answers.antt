use Rattle.semver_npm.proofs.RangeLaws.{x_law}
use Rattle.semver_npm.proofs.laws.x_range_keeps_the_given_numbers.Goals as goal

pub returns : goal.returns
returns c = x_law
