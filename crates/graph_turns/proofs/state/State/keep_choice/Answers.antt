use Rattle.std.proofs.Common.{◌≡◌, ◌∙◌, [], ◌∷◌, ◌++◌, Some, ap}
use Rattle.std.proofs.lemmas.Result.{on_ok_weaker}
use Rattle.graph_turns.specs.declared.state.State.{State}
use Rattle.graph_turns.proofs.state.State.keep_choice.Goals as goal

pub returns-in-Ok : goal.returns-in-Ok
returns-in-Ok g c = λ p goes.
    on_ok_weaker c.choose.result
    (λ e. e ∙ ap (λ (x : State). record x { pass = Some (record p { chosen = p.chosen ++ c.args.chosen ∷ [] }) }) c.in-Ok.ensures)
    (c.choose.ensures p (ap (λ (x : State). x.pass) c.in-Ok.ensures ∙ goes))
