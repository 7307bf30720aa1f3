use Rattle.std.proofs.Common.{◌≡◌, ◌∙◌, if◌then◌else◌, sym, ap}
use Rattle.graph_turns.specs.declared.state.State.{State}
use Rattle.graph_turns.specs.Machine.Entering.{stopped, unstopped}
use Rattle.graph_turns.specs.Machine.Waiting.{noting}
use Rattle.graph_turns.proofs.state.State.receive.Goals as goal

pub returns-in_ok-stop-in-Ok : goal.returns-in_ok-stop-in-Ok
returns-in_ok-stop-in-Ok c =
    let s = c.args.self.now in
    c.in_ok-stop-in-Ok.ensures
    ∙ ap (λ (u : State). stopped u c.args.context c.args.at) c.in-Ok.ensures
    ∙ ap (λ b. if b then stopped (noting s c.args.specifier.now c.args.context) c.args.context c.args.at else unstopped s c.args.context c.args.at) (sym (sym c.is_shut_at.ensures ∙ c.if-is_shut_at.true))
