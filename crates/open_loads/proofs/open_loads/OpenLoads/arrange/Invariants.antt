-- What follows where the turns so far went through without a question follows from the beginning.
use Rattle.std.proofs.Common.{◌≡◌}
use Rattle.open_loads.specs.Order.OpenLoads.{OpenLoads}
use Rattle.open_loads.specs.Order.Numbered.{Arranged}
use Rattle.open_loads.proofs.Order.Rounds.{left_in}
use Rattle.open_loads.proofs.open_loads.OpenLoads.arrange.Given as goal

abbrev pub invariant-loop-stands : goal.invariant-loop-stands
invariant-loop-stands g l = record {
  arranged : (new : OpenLoads) → Arranged (g.U.JsrUrlProvider.meaning l.fn.registry.urls.now) l.fn.registry.versions.now.newest_dependency_date_options l.self new → Arranged (g.U.JsrUrlProvider.meaning l.fn.registry.urls.now) l.fn.registry.versions.now.newest_dependency_date_options l.fn.self new;
  known : l.self.known ≡ l.fn.self.known;
}

abbrev pub decreases-loop-stands : goal.decreases-loop-stands
decreases-loop-stands g l = left_in (g.U.JsrUrlProvider.meaning l.fn.registry.urls.now) l.fn.registry.versions.now.newest_dependency_date_options l.self
