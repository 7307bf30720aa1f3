-- The loads that are left to be put ahead are behind those that were.
use Rattle.std.proofs.Common.{◌≡◌, ◌-◌, drop, length}
use Rattle.open_loads.specs.Order.Numbered.{ahead_all}
use Rattle.open_loads.proofs.open_loads.OpenLoads.put_ahead.Given as goal

abbrev pub invariant-loop-alloc : goal.invariant-loop-alloc
invariant-loop-alloc g l = record { ahead : ahead_all (g.U.JsrUrlProvider.meaning l.fn.urls) (drop (length l.self.behind) l.self.state.loads) l.self ≡ ahead_all (g.U.JsrUrlProvider.meaning l.fn.urls) (drop (length l.fn.self.behind) l.fn.self.state.loads) l.fn.self; known : l.self.known ≡ l.fn.self.known }

abbrev pub decreases-loop-alloc : goal.decreases-loop-alloc
decreases-loop-alloc g l = length l.self.state.loads - length l.self.behind
