-- Those so far and those of what is left are those of all.
use Rattle.std.proofs.Common.{◌≡◌, ◌++◌}
use Rattle.std.specs.Vec.Iter.{into_iter_items}
use Rattle.graph_turns.specs.Machine.Probing.{probes}
use Rattle.graph_turns.proofs.state.State.probe.Given as goal

abbrev pub invariant-loop-nv : goal.invariant-loop-nv
invariant-loop-nv l = record l.self { wanted = l.self.wanted ++ probes (into_iter_items l.nv-iterator) } ≡ record l.fn.self { wanted = l.fn.self.wanted ++ probes l.fn.nvs }
