-- The loads of those so far.
use Rattle.std.proofs.Common.{◌≡◌, map, take}
use Rattle.graph_turns.specs.Promise.Input.{root_load}
use Rattle.graph_reloads.proofs.reloads.loads_again.Given as goal

abbrev pub invariant-loop-end : goal.invariant-loop-end
invariant-loop-end l = l.loads.items ≡ map (root_load l.fn.dynamic) (take l.end-index l.end-items)
