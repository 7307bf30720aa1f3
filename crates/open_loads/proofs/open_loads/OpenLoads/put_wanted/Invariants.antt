-- The files that are left to have a place are behind those that have.
use Rattle.std.proofs.Common.{◌≡◌, ◌-◌, drop, length}
use Rattle.open_loads.specs.Order.Numbered.{wanted_all}
use Rattle.open_loads.proofs.open_loads.OpenLoads.put_wanted.Given as goal

abbrev pub invariant-loop-alloc : goal.invariant-loop-alloc
invariant-loop-alloc g l = record { wanted : wanted_all (g.U.JsrUrlProvider.meaning l.fn.urls) (drop (length l.self.wanted) l.self.state.wanted) l.self ≡ wanted_all (g.U.JsrUrlProvider.meaning l.fn.urls) (drop (length l.fn.self.wanted) l.fn.self.state.wanted) l.fn.self; known : l.self.known ≡ l.fn.self.known }

abbrev pub decreases-loop-alloc : goal.decreases-loop-alloc
decreases-loop-alloc g l = length l.self.state.wanted - length l.self.wanted
