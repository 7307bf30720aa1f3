use Rattle.program_phases.proofs.Told.{says_by_verdict}
use Rattle.graph_program.proofs.command.run_input.Goals as goal

pub returns-in-Ok-clause-says : goal.returns-in-Ok-clause-says
returns-in-Ok-clause-says g c =
    says_by_verdict c.args.input c.build_input.new.graph c.write_by.result c.in-Ok.ensures.promise c.write_by.ensures.verdict
