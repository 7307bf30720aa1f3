-- What is left of the way is followed from here, where so much was met.
use Rattle.std.proofs.Common.{◌≡◌, ◌-◌}
use Rattle.std.specs.FinMap as finite
use Rattle.indexmap.specs.IndexSet.{insert_key}
use Rattle.spec_base.specs.Specifier.{same_specifier}
use Rattle.graph_turns.specs.Machine.Redirects.{follow}
use Rattle.graph_turns.proofs.redirects.last_unmet.Given as goal

abbrev pub invariant-loop : goal.invariant-loop
invariant-loop l =
    follow l.fn.graph (finite.len l.fn.graph.redirects) (insert_key same_specifier l.fn.met l.fn.specifier) l.fn.specifier ≡ follow l.fn.graph (l.end - l.counter) l.met l.at
