use Rattle.program_phases.proofs.Told.{graph_at_end, graph_refused, told_at_end}
use Rattle.graph_info.proofs.Finishes.{pooled_completes, refused_completes}
use Rattle.graph_info.proofs.Statuses.{refused_no_fault, refused_no_words, run_no_words}
use Rattle.graph_info.proofs.command.run_pooled.Goals as goal

pub returns-in-Err-clause-graph : goal.returns-in-Err-clause-graph
returns-in-Err-clause-graph g c = graph_refused (g.S.ByteSource.left c.args.source.now) c.empty.new.graph c.in-Err.status c.in-Err.ensures.refused c.empty.ensures

pub returns-in-Err-clause-words : goal.returns-in-Err-clause-words
returns-in-Err-clause-words g c = refused_no_words c.in-Err.status c.in-Err.ensures.refused

pub returns-in-Err-clause-no_fault : goal.returns-in-Err-clause-no_fault
returns-in-Err-clause-no_fault g c = refused_no_fault c.in-Err.status c.in-Err.ensures.refused

pub returns-in-Err-clause-completes : goal.returns-in-Err-clause-completes
returns-in-Err-clause-completes g c =
    refused_completes (g.S.ByteSource.left c.args.source.now) _ _ (g.S.ByteSource.left c.read_input.new.source) c.in-Err.status c.in-Err.ensures.input c.in-Err.ensures.refused c.in-Err.ensures.fault

pub returns-clause-input : goal.returns-clause-input
returns-clause-input g c =
    told_at_end (g.S.ByteSource.left c.args.source.now) (g.S.ByteSource.left c.read_input.new.source) c.in-Ok.input c.run_input_pooled.new.graph c.run_input_pooled.result c.in-Ok.ensures.input c.run_input_pooled.ensures.says

pub returns-clause-graph : goal.returns-clause-graph
returns-clause-graph g c =
    graph_at_end (g.S.ByteSource.left c.args.source.now) (g.S.ByteSource.left c.read_input.new.source) c.in-Ok.input c.run_input_pooled.new.graph c.in-Ok.ensures.input
    c.run_input_pooled.result c.run_input_pooled.ensures.says

pub returns-clause-words : goal.returns-clause-words
returns-clause-words g c = run_no_words c.in-Ok.input c.run_input_pooled.new.graph c.run_input_pooled.result c.run_input_pooled.ensures.says

pub returns-clause-completes : goal.returns-clause-completes
returns-clause-completes g c =
    pooled_completes (g.S.ByteSource.left c.args.source.now) _ _ (g.S.ByteSource.left c.read_input.new.source) c.in-Ok.input c.in-Ok.ensures.input
    c.run_input_pooled.new.graph c.run_input_pooled.result c.run_input_pooled.ensures.says c.run_input_pooled.ensures.fault c.run_input_pooled.ensures.no_fault
