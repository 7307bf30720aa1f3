-- What has entered and what is left to enter are all.
use Rattle.std.proofs.Common.{◌≡◌, length}
use Rattle.graph_turns.specs.Machine.Passes.{all_entered}
use Rattle.graph_turns.proofs.state.State.enter_chosen.Given as goal

abbrev pub invariant-loop-one : goal.invariant-loop-one
invariant-loop-one l = all_entered l.fn.self l.is_top_level l.fn.pass.chosen ≡ all_entered l.self l.is_top_level l.chosen

abbrev pub decreases-loop-one : goal.decreases-loop-one
decreases-loop-one l = length l.chosen
