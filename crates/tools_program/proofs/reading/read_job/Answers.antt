use Rattle.tools_program.specs.Tasks.{task_in}
use Rattle.tools_program.proofs.FitLemmas.{job_fits}
use Rattle.tools_program.proofs.reading.read_job.Goals as goal

pub returns-in-Ok-job_of-clause-fits : goal.returns-in-Ok-job_of-clause-fits
returns-in-Ok-job_of-clause-fits g c = job_fits c.args.command c.as_slice.result.now (task_in c.in-Ok-job_of.job.task) c.in-Ok-job_of.job.input c.in-Ok-job_of.ensures
