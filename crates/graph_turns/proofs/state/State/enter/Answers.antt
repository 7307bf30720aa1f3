use Rattle.std.proofs.Common.{◌∙◌, ap}
use Rattle.std.proofs.lemmas.Result.{on_ok_weaker}
use Rattle.graph_turns.specs.Machine.Entering.{enter, entered_at}
use Rattle.graph_turns.proofs.state.State.enter.Goals as goal

pub returns-in-Ok : goal.returns-in-Ok
unfolding enter
returns-in-Ok c =
    on_ok_weaker c.enter_at.result (λ e. e ∙ ap (entered_at c.args.self.now c.args.load.specifier c.args.load.context) c.in-Ok.ensures) c.enter_at.ensures
