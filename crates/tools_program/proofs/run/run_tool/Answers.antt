use Rattle.std.proofs.Common.{map, sym}
use Rattle.std.specs.Prelude.{string_bytes}
use Rattle.tools_program.proofs.FinishLemmas.{run_finishes}
use Rattle.tools_program.proofs.LeftLemmas.{bytes_at_end, bytes_for, left_at_end}
use Rattle.tools_program.proofs.run.run_tool.Goals as goal

pub returns-clause-input : goal.returns-clause-input
returns-clause-input g c =
    bytes_for (map (λ w. string_bytes w) c.args.words.now) c.in-Some.command (g.S.ByteSource.left c.args.source.now) (g.S.ByteSource.left c.read_job.new.source) c.run_task.result (sym c.in-Some.ensures)
    (bytes_at_end c.in-Some.command (g.S.ByteSource.left c.args.source.now) (g.S.ByteSource.left c.read_job.new.source) c.in-Ok.job c.in-Ok.ensures.input (g.K.ByteSink.written c.args.sink.now) (g.K.ByteSink.written c.run_task.new.sink) c.run_task.new.graph c.run_task.result c.run_task.ensures.says)

pub returns-clause-left : goal.returns-clause-left
returns-clause-left g c =
    left_at_end (map (λ w. string_bytes w) c.args.words.now) c.in-Some.command (sym c.in-Some.ensures) (g.S.ByteSource.left c.args.source.now) (g.S.ByteSource.left c.read_job.new.source) c.in-Ok.job c.in-Ok.ensures.fits c.in-Ok.ensures.input
    (g.K.ByteSink.written c.args.sink.now) (g.K.ByteSink.written c.run_task.new.sink) c.run_task.new.graph c.run_task.result c.run_task.ensures.says

pub returns-clause-completes : goal.returns-clause-completes
returns-clause-completes g c =
    run_finishes (map (λ w. string_bytes w) c.args.words.now) (g.S.ByteSource.left c.args.source.now) _ _ c.in-Some.command (sym c.in-Some.ensures) (g.S.ByteSource.left c.read_job.new.source) c.in-Ok.job c.in-Ok.ensures.input
    (g.K.ByteSink.written c.args.sink.now) (g.K.ByteSink.written c.run_task.new.sink) c.run_task.new.graph c.run_task.result c.run_task.ensures.says c.run_task.ensures.fault
