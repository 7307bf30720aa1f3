-- Those so far are copied.
use Rattle.std.proofs.Common.{◌≡◌, take}
use Rattle.graph_turns.proofs.starting.ResolvedStart.try_clone.Given as goal

abbrev pub invariant-loop-referrer : goal.invariant-loop-referrer
invariant-loop-referrer l = l.imports ≡ take l.referrer-index l.fn.self.imports
