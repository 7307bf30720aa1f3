use Rattle.std.proofs.Common.{◌∙◌, ap}
use Rattle.open_loads.specs.Order.Numbered.{asked_in}
use Rattle.open_loads.proofs.open_loads.OpenLoads.first_asked.Goals as goal

pub returns : goal.returns
returns g c = c.asked_of.ensures ∙ ap asked_in c.in_ok-manner.ensures
