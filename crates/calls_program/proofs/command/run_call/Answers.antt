use Rattle.std.proofs.Common.{map}
use Rattle.std.specs.Prelude.{string_bytes}
use Rattle.calls_program.specs.Calls.{call_of}
use Rattle.calls_program.proofs.Left.{left_at_end, told_at_end}
use Rattle.calls_program.proofs.command.run_call.Goals as goal

pub returns-clause-graph : goal.returns-clause-graph
returns-clause-graph g c =
    left_at_end (g.S.ByteSource.left c.args.source.now) (g.S.ByteSource.left c.read_input.new.source) c.in-Ok-read_input.input (call_of (map (λ w. string_bytes w) c.args.words.now)) c.in-Ok.call
    c.run_input.new.graph c.in-Ok-read_input.ensures.input c.in-Ok.ensures c.run_input.result c.run_input.ensures.says

pub returns-clause-input : goal.returns-clause-input
returns-clause-input g c =
    told_at_end (g.S.ByteSource.left c.args.source.now) (g.S.ByteSource.left c.read_input.new.source) c.in-Ok-read_input.input c.in-Ok.call c.run_input.new.graph c.run_input.result c.in-Ok-read_input.ensures.input c.run_input.ensures.says
