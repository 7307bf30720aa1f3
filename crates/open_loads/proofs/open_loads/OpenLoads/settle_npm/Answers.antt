use Rattle.std.proofs.Common.{refl}
use Rattle.open_loads.proofs.open_loads.OpenLoads.settle_npm.Goals as goal

pub returns-clause-same : goal.returns-clause-same
returns-clause-same g c = rw (← c.self.view_is) refl

pub returns-clause-settles : goal.returns-clause-settles
returns-clause-settles g c = rw (← c.self.view_is) c.end_npm.ensures.same

pub returns-clause-ended : goal.returns-clause-ended
returns-clause-ended g c = rw (← c.self.view_is) c.end_npm.ensures.ended
