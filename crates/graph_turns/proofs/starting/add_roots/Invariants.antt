-- The set has the roots so far, and the loads are those of the added ones.
use Rattle.std.proofs.Common.{◌≡◌, ◌≤◌, take, drop, map, length}
use Rattle.graph_turns.specs.Promise.Input.{root_load}
use Rattle.graph_turns.specs.Machine.Starting.{roots_with}
use Rattle.graph_turns.proofs.starting.add_roots.Given as goal

abbrev pub invariant-loop-root : goal.invariant-loop-root
invariant-loop-root l =
    (l.set ≡ roots_with l.fn.set (take l.root-index l.given)) × (length l.fn.set ≤ length l.set)
    × (l.loads.items ≡ map (root_load l.dynamic) (drop (length l.fn.set) l.set))
