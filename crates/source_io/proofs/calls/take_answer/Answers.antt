use Rattle.source_io.proofs.CallLemmas.{answered_here}
use Rattle.source_io.proofs.calls.take_answer.Goals as goal

pub returns-clause-chosen : goal.returns-clause-chosen
returns-clause-chosen c =
    answered_here c.args.world.now c.args.open_tickets.now.items c.args.place c.index.result.now c.in_ok-answer.answer c.requires.within c.index.ensures c.in_ok-answer.ensures
