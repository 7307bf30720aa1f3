use Rattle.std.proofs.Common.{◌≡◌, ◌∙◌, refl, sym, ap}
use Rattle.std.proofs.lemmas.Result.{on_ok_weaker}
use Rattle.graph_turns.specs.declared.run.Run.{Run}
use Rattle.graph_turns.specs.declared.run.Run.TheVariants.{Due, First, Only, Second}
use Rattle.graph_turns.specs.declared.starting.ResolvedStart.{ResolvedStart}
use Rattle.graph_turns.specs.declared.state.State.{State}
use Rattle.graph_turns.specs.Machine.Runs.{begun_again}
use Rattle.graph_turns.specs.Machine.Starting.{start_entered}
use Rattle.graph_turns.proofs.state.State.restart.Goals as goal

not_due : (s : State) (r : Run) → ((start : ResolvedStart) → r ≡ Due start → ⊥) → begun_again s r ≡ s
not_due s Only other = refl
not_due s (First start) other = refl
not_due s (Due start) other = absurd (other start refl)
not_due s (Second earlier) other = refl

pub returns-in_ok-clear-in-Due : goal.returns-in_ok-clear-in-Due
returns-in_ok-clear-in-Due c =
    on_ok_weaker c.enter_start.result
    (λ e. e ∙ ap (λ (u : State). start_entered u c.in-Due.start) c.in_ok-clear-in-Due.ensures ∙ sym (ap (begun_again c.args.self.now) (sym c.replace.ensures.value ∙ c.in-Due.is)))
    c.enter_start.ensures

pub returns-in_default : goal.returns-in_default
returns-in_default c =
    ap (λ (r : Run). record c.args.self.now { run = r }) c.replace.ensures.value
    ∙ sym (not_due c.args.self.now c.args.self.now.run (λ start e. c.in_default.not-Due start (c.replace.ensures.value ∙ e)))
