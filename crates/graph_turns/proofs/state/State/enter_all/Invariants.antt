-- What has entered and what is left to enter are all.
use Rattle.std.proofs.Common.{◌≡◌}
use Rattle.std.specs.Vec.Iter.{into_iter_items}
use Rattle.graph_turns.proofs.state.State.enter_all.Given as goal
use Rattle.graph_turns.specs.Machine.Entering.{enter_all}

abbrev pub invariant-loop-load : goal.invariant-loop-load
invariant-loop-load l = enter_all l.fn.self l.fn.loads.items ≡ enter_all l.self (into_iter_items l.load-iterator)
