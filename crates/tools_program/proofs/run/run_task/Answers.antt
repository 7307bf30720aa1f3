use Rattle.tools_program.specs.Tasks.{task_in}
use Rattle.tools_program.proofs.LeftLemmas.{reported_at_end}
use Rattle.tools_program.proofs.run.run_task.Goals as goal

pub returns-in-Ok-clause-says : goal.returns-in-Ok-clause-says
returns-in-Ok-clause-says g c =
    reported_at_end (task_in c.args.task) c.args.input (g.K.ByteSink.written c.args.sink.now) (g.K.ByteSink.written c.write_report.new.sink) c.report_by.new.graph
    c.in-Ok.ensures.promise c.in-Ok.report c.in-Ok.ensures.report c.write_report.result c.write_report.ensures.verdict c.write_report.ensures.text
