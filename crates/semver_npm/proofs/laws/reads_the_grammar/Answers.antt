use Rattle.semver_npm.proofs.Requirements.{complete, sound}
use Rattle.semver_npm.proofs.laws.reads_the_grammar.Goals as goal

pub returns-clause-sound : goal.returns-clause-sound
returns-clause-sound c = sound

pub returns-clause-complete : goal.returns-clause-complete
returns-clause-complete c = complete
