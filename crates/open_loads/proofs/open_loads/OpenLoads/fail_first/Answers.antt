use Rattle.std.proofs.Common.{refl}
use Rattle.std.proofs.lemmas.Result.{on_ok_weaker}
use Rattle.open_loads.proofs.Order.Opening.{failed_over}
use Rattle.open_loads.proofs.open_loads.OpenLoads.fail_first.Goals as goal

pub returns-in-Ok-clause-failed : goal.returns-in-Ok-clause-failed
returns-in-Ok-clause-failed g c =
    on_ok_weaker c.store.result (failed_over _ c.args.self.now c.args.name _ c.args.error c.take.new.self c.in-Some.load c.in-Ok.outcome c.store.new.self c.self.view_is c.in-Some.ensures.some refl c.in-Ok.ensures) c.store.ensures
