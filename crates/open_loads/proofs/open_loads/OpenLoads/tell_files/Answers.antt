use Rattle.std.proofs.Common.{ap, option_map}
use Rattle.open_loads.proofs.Order.Telling.{learns_nothing}
use Rattle.open_loads.proofs.open_loads.OpenLoads.tell_files.Goals as goal

pub returns-in_default-clause-taught : goal.returns-in_default-clause-taught
returns-in_default-clause-taught g c = learns_nothing _ c.args.self.now c.self.view_is (ap (option_map g.L.Locker.manifests) c.in_default.is)
