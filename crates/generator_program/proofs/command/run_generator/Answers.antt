use Rattle.std.proofs.Common.{◌∙◌, sym, ap, subst, inl}
use Rattle.graph_core.specs.Graph.{new_graph}
use Rattle.program_phases.specs.Phases.{SaysOfRun}
use Rattle.generated_world.specs.Generated.{generated}
use Rattle.generator_program.proofs.Ends.{run_ends}
use Rattle.generator_program.proofs.Generated.{kind_is, none_fails}
use Rattle.generator_program.proofs.command.run_generator.Goals as goal

pub returns-in-Err-clause-graph : goal.returns-in-Err-clause-graph
returns-in-Err-clause-graph g c = inl (c.new.ensures ∙ ap new_graph (sym (kind_is c.args.generator.start c.args.generator.count)))

pub run_input-requires-clause-fresh : goal.run_input-requires-clause-fresh
run_input-requires-clause-fresh g c = c.new.ensures ∙ ap new_graph (sym (ap (λ i. i.kind) c.in-Ok.ensures ∙ kind_is c.args.generator.start c.args.generator.count))

pub run_input-requires-clause-none_fails : goal.run_input-requires-clause-none_fails
run_input-requires-clause-none_fails g c = ap (λ i. i.fail_next) c.in-Ok.ensures ∙ none_fails c.args.generator.start c.args.generator.count

pub returns-clause-completes : goal.returns-clause-completes
returns-clause-completes g c =
    run_ends (generated c.args.generator.start c.args.generator.count) _ c.run_input.new.graph c.run_input.result
    (subst (λ i. SaysOfRun i c.run_input.new.graph c.run_input.result) c.in-Ok.ensures c.run_input.ensures.says) c.run_input.ensures.fault c.run_input.ensures.no_fault
