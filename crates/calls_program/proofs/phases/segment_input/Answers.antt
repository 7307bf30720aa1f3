use Rattle.calls_program.proofs.Made.{segment_left}
use Rattle.calls_program.proofs.phases.segment_input.Goals as goal

pub returns-in-Ok-take_segment-clause-called : goal.returns-in-Ok-take_segment-clause-called
returns-in-Ok-take_segment-clause-called c =
    segment_left c.args.input c.args.roots.now c.build_input.new.graph c.take_segment.new.graph c.in-Ok.ensures.promise c.in-Ok-take_segment.ensures.ok
