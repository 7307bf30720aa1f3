use Rattle.semver_npm.proofs.RangeLaws.{hyphen_law}
use Rattle.semver_npm.proofs.laws.hyphen_range_has_both_its_ends.Goals as goal

pub returns : goal.returns
returns c = hyphen_law
