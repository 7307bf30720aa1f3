use Rattle.semver_npm.proofs.RangeLaws.{tilde_law}
use Rattle.semver_npm.proofs.laws.tilde_keeps_the_minor_number.Goals as goal

pub returns : goal.returns
returns c = tilde_law
