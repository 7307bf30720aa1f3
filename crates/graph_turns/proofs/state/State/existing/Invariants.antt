-- The versions of those so far.
use Rattle.std.proofs.Common.{◌≡◌, map, take}
use Rattle.graph_turns.proofs.state.State.existing.Given as goal

abbrev pub invariant-loop-nv : goal.invariant-loop-nv
invariant-loop-nv l = l.existing.items ≡ map (λ nv. nv.version) (take l.nv-index l.versions)
