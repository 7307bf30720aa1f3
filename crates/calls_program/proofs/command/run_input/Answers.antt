use Rattle.calls_program.proofs.Left.{says_by_found}
use Rattle.calls_program.proofs.command.run_input.Goals as goal

pub returns-in-Ok-clause-says : goal.returns-in-Ok-clause-says
returns-in-Ok-clause-says g c =
    says_by_found c.args.input c.args.call.now c.call_input.new.graph c.write_call.result c.in-Ok.ensures.called c.write_call.ensures.found
