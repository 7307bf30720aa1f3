-- The edges so far and those of what is left are the edges of all.
use Rattle.std.proofs.Common.{◌≡◌, ◌++◌}
use Rattle.spec_base.specs.Shown.{shown}
use Rattle.graph_core.specs.Edges.{edges_of}
use Rattle.graph_core.proofs.loads.push_edges.Given as goal

abbrev pub invariant-loop-text : goal.invariant-loop-text
invariant-loop-text l =
    l.fn.loads ++ edges_of l.skip_dynamic_deps l.context l.dependencies ≡ l.loads ++ edges_of l.skip_dynamic_deps l.context (shown l._text-iterator)
