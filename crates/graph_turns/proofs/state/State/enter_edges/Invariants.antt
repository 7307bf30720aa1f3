-- What has entered and what is left to enter are all.
use Rattle.std.proofs.Common.{◌≡◌}
use Rattle.std.specs.Vec.Iter.{into_iter_items}
use Rattle.graph_turns.proofs.state.State.enter_edges.Given as goal
use Rattle.graph_turns.specs.Machine.Entering.{enter_edges}

abbrev pub invariant-loop-load : goal.invariant-loop-load
invariant-loop-load l = enter_edges l.fn.self l.fn.loads.items ≡ enter_edges l.self (into_iter_items l.load-iterator)
