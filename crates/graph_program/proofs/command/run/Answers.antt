use Rattle.std.proofs.Common.{map}
use Rattle.std.specs.Prelude.{string_bytes}
use Rattle.program_phases.proofs.Finishes.{run_finishes}
use Rattle.program_phases.proofs.Told.{graph_at_end, told_at_end}
use Rattle.graph_program.proofs.command.run.Goals as goal

pub returns-clause-completes : goal.returns-clause-completes
returns-clause-completes g c =
    run_finishes (map (λ w. string_bytes w) c.args.words.now) (g.S.ByteSource.left c.args.source.now) _ _ (g.S.ByteSource.left c.read_input.new.source) c.in-Ok.input c.in-Ok.ensures.input
    c.run_input.new.graph c.run_input.result c.run_input.ensures.says c.run_input.ensures.fault

pub returns-clause-graph : goal.returns-clause-graph
returns-clause-graph g c =
    graph_at_end (g.S.ByteSource.left c.args.source.now) (g.S.ByteSource.left c.read_input.new.source) c.in-Ok.input c.run_input.new.graph c.in-Ok.ensures.input
    c.run_input.result c.run_input.ensures.says

pub returns-clause-input : goal.returns-clause-input
returns-clause-input g c =
    told_at_end (g.S.ByteSource.left c.args.source.now) (g.S.ByteSource.left c.read_input.new.source) c.in-Ok.input c.run_input.new.graph c.run_input.result c.in-Ok.ensures.input c.run_input.ensures.says
