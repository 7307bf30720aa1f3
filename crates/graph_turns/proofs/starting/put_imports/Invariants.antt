-- What was put and what is left to put are all.
use Rattle.std.proofs.Common.{◌≡◌}
use Rattle.std.specs.Vec.Iter.{into_iter_items}
use Rattle.graph_turns.specs.Promise.Input.{imports_with}
use Rattle.graph_turns.proofs.starting.put_imports.Given as goal

abbrev pub invariant-loop-referrer : goal.invariant-loop-referrer
invariant-loop-referrer l = imports_with l.fn.imports l.fn.given.items ≡ imports_with l.imports (into_iter_items l.referrer-iterator)
