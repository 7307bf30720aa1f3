use Rattle.generator_program.proofs.Calm.{never_fails}
use Rattle.generator_program.proofs.command.build_calmly.Goals as goal

pub returns-clause-no_fault : goal.returns-clause-no_fault
returns-clause-no_fault c = never_fails c.args.input c.build_input.result c.requires.none_fails c.build_input.ensures.loader
