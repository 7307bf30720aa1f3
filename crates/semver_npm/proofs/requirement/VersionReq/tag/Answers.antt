use Rattle.std.proofs.Common.{rules}
use Rattle.semver_npm.proofs.Requirements.{exactly_tag}
use Rattle.semver_npm.proofs.requirement.VersionReq.tag.Goals as goal

pub returns-in-Some-clause-meaning : goal.returns-in-Some-clause-meaning
returns-in-Some-clause-meaning c = exactly_tag _ _ (search rules)

pub returns-in-None-clause-meaning : goal.returns-in-None-clause-meaning
returns-in-None-clause-meaning c = exactly_tag _ _ (search rules)
