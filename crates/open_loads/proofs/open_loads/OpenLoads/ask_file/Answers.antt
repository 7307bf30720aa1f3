use Rattle.std.proofs.Common.{◌∙◌}
use Rattle.open_loads.proofs.open_loads.OpenLoads.ask_file.Goals as goal

pub returns-in-Ok-clause-asked : goal.returns-in-Ok-clause-asked
returns-in-Ok-clause-asked g c = c.stand.ensures ∙ c.in-Ok.ensures.put
