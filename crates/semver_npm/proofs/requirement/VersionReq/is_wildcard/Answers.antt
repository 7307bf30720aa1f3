use Rattle.std.proofs.Common.{rules}
use Rattle.semver_npm.proofs.Requirements.{exactly_wildcard}
use Rattle.semver_npm.proofs.requirement.VersionReq.is_wildcard.Goals as goal

pub returns-in-Some-clause-meaning : goal.returns-in-Some-clause-meaning
returns-in-Some-clause-meaning c = exactly_wildcard _ _ (search rules)

pub returns-in_default-clause-meaning : goal.returns-in_default-clause-meaning
returns-in_default-clause-meaning c = exactly_wildcard _ _ (search rules)
