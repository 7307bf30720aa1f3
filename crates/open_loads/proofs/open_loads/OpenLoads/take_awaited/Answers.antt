use Rattle.std.proofs.Common.{◌∙◌, sym}
use Rattle.open_loads.proofs.Order.Waited.{not_there, taken_out}
use Rattle.open_loads.proofs.open_loads.OpenLoads.take_awaited.Goals as goal

pub returns-in-Some-clause-some : goal.returns-in-Some-clause-some
returns-in-Some-clause-some g c = taken_out c.take.result _ c.args.self.now c.in-Some.ticket c.take.new.self c.self.view_is (sym c.awaited.ensures ∙ c.in-Some.is) c.take.ensures.taken c.take.ensures.left

pub returns-in-Some-clause-none : goal.returns-in-Some-clause-none
returns-in-Some-clause-none g c = not_there c.take.result _ c.args.self.now c.in-Some.ticket c.take.new.self c.self.view_is (sym c.awaited.ensures ∙ c.in-Some.is) c.take.ensures.taken c.take.ensures.same
