use Rattle.semver_npm.proofs.VersionLemmas.{is_version, refused}
use Rattle.semver_npm.proofs.version.parse_standard.Goals as goal

pub returns-in-Ok : goal.returns-in-Ok
returns-in-Ok c = is_version _ _ c.in-Ok.ensures.ok

pub returns-in-Err : goal.returns-in-Err
returns-in-Err c = refused _ _ _ c.in-Err.ensures.err c.refusal_of.ensures.memory
