-- The contents that are left to be asked about are behind those that were.
use Rattle.std.proofs.Common.{◌≡◌, ◌-◌, drop, length}
use Rattle.open_loads.specs.Order.Numbered.{later_all}
use Rattle.open_loads.proofs.open_loads.OpenLoads.put_later.Given as goal

abbrev pub invariant-loop-question : goal.invariant-loop-question
invariant-loop-question g l = record { put : later_all (drop (length l.self.later) l.self.state.contents) l.self ≡ later_all (drop (length l.fn.self.later) l.fn.self.state.contents) l.fn.self; known : l.self.known ≡ l.fn.self.known }

abbrev pub decreases-loop-question : goal.decreases-loop-question
decreases-loop-question g l = length l.self.state.contents - length l.self.later
