use Rattle.calls_program.proofs.Made.{pruned_left}
use Rattle.calls_program.proofs.phases.prune_input.Goals as goal

pub returns-in-Ok-take_types_out-clause-called : goal.returns-in-Ok-take_types_out-clause-called
returns-in-Ok-take_types_out-clause-called c =
    pruned_left c.args.input c.build_input.new.graph c.take_types_out.new.graph c.in-Ok.ensures.promise c.in-Ok-take_types_out.ensures.ok
