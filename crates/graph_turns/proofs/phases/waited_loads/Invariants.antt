-- The loads so far and those of what is left are the loads of all.
use Rattle.std.proofs.Common.{◌≡◌, ◌++◌}
use Rattle.graph_turns.specs.Machine.Turns.{waited_loads}
use Rattle.graph_turns.proofs.phases.waited_loads.Given as goal

abbrev pub invariant-loop-specifier : goal.invariant-loop-specifier
invariant-loop-specifier l = waited_loads l.waits ≡ l.loads.items ++ waited_loads l.specifier-iterator
