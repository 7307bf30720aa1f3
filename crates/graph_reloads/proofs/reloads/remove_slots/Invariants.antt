-- The slots of those so far are gone.
use Rattle.std.proofs.Common.{◌≡◌, take}
use Rattle.turn_laws.specs.Promise.Reloads.{without_slots}
use Rattle.graph_reloads.proofs.reloads.remove_slots.Given as goal

abbrev pub invariant-loop-load : goal.invariant-loop-load
invariant-loop-load l = l.graph ≡ without_slots l.fn.graph (take l.load-index l.loads)
