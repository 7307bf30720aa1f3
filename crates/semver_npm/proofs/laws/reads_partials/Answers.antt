use Rattle.semver_npm.proofs.Partials.{partial_read, partial_sound}
use Rattle.semver_npm.proofs.laws.reads_partials.Goals as goal

pub returns-clause-sound : goal.returns-clause-sound
returns-clause-sound c = partial_sound

pub returns-clause-complete : goal.returns-clause-complete
returns-clause-complete c = partial_read
