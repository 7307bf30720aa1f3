use Rattle.program_phases.proofs.Told.{says_by_verdict}
use Rattle.graph_info.proofs.Statuses.{verdict_no_fault}
use Rattle.graph_info.proofs.command.run_input_pooled.Goals as goal

pub returns-in-Ok-clause-says : goal.returns-in-Ok-clause-says
returns-in-Ok-clause-says g c =
    says_by_verdict c.args.input c.build_input_pooled.new.graph c.write_graph.result c.in-Ok.ensures.promise c.write_graph.ensures.verdict

pub returns-in-Ok-clause-no_fault : goal.returns-in-Ok-clause-no_fault
returns-in-Ok-clause-no_fault g c = verdict_no_fault c.build_input_pooled.new.graph c.write_graph.result c.write_graph.ensures.verdict
