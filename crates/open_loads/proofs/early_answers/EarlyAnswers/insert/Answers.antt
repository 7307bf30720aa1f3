use Rattle.open_loads.proofs.Order.Tickets.{insert_view}
use Rattle.open_loads.proofs.early_answers.EarlyAnswers.insert.Goals as goal

pub returns : goal.returns
returns c = rw (← c.self.view_is) (insert_view c.self.inside.answers c.insert.new.self c.args.ticket c.args.answer c.in_ok-before.ensures.updates)
