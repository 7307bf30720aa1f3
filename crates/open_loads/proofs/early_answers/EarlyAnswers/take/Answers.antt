use Rattle.std.proofs.Common.{sym, ◌∙◌}
use Rattle.open_loads.proofs.Order.Tickets.{get_view, remove_view}
use Rattle.open_loads.proofs.early_answers.EarlyAnswers.take.Goals as goal

pub returns-clause-taken : goal.returns-clause-taken
returns-clause-taken c = rw (← c.self.view_is) (c.remove.ensures.value ∙ sym (get_view c.self.inside.answers c.args.ticket))

pub returns-clause-left : goal.returns-clause-left
returns-clause-left c = rw (← c.self.view_is) (remove_view c.self.inside.answers c.remove.new.self c.args.ticket c.remove.ensures.updates)
