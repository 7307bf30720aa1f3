use Rattle.world_file.proofs.NpmGrammar.{complete, sound}
use Rattle.world_file.proofs.laws.reads_requirements_of_packages.Goals as goal

pub returns-clause-sound : goal.returns-clause-sound
returns-clause-sound c = sound

pub returns-clause-complete : goal.returns-clause-complete
returns-clause-complete c = complete
