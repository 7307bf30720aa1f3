-- The loads so far and those of what is left are the loads of all.
use Rattle.std.proofs.Common.{◌≡◌, ◌++◌}
use Rattle.graph_turns.specs.Machine.Turns.{waited_imports}
use Rattle.graph_turns.proofs.state.State.dynamic_loads.Given as goal

abbrev pub invariant-loop-target : goal.invariant-loop-target
invariant-loop-target l = waited_imports l.self.root_names l.self.dynamic ≡ l.loads.items ++ waited_imports l.self.root_names l._target-iterator
