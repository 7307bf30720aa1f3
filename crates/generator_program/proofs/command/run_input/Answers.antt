use Rattle.program_phases.proofs.Told.{says_by_verdict}
use Rattle.generator_program.proofs.Calm.{verdict_is_calm}
use Rattle.generator_program.proofs.command.run_input.Goals as goal

pub returns-in-Ok-clause-says : goal.returns-in-Ok-clause-says
returns-in-Ok-clause-says g c =
    says_by_verdict c.args.input c.build_calmly.new.graph c.write_lines.result c.in-Ok.ensures.promise c.write_lines.ensures.verdict

pub returns-in-Ok-clause-no_fault : goal.returns-in-Ok-clause-no_fault
returns-in-Ok-clause-no_fault g c = verdict_is_calm c.build_calmly.new.graph c.write_lines.result c.write_lines.ensures.verdict
