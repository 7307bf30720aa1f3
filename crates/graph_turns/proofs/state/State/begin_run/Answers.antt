use Rattle.std.proofs.Common.{◌∙◌, ap}
use Rattle.std.proofs.lemmas.Result.{on_ok_weaker}
use Rattle.graph_turns.specs.declared.state.State.{State}
use Rattle.graph_turns.specs.Machine.Starting.{start_entered}
use Rattle.graph_turns.proofs.state.State.begin_run.Goals as goal

pub returns : goal.returns
returns c =
    on_ok_weaker c.enter_start.result (λ e. e ∙ ap (λ (u : State). start_entered u c.args.start) c.in_ok-mark_first.ensures) c.enter_start.ensures
