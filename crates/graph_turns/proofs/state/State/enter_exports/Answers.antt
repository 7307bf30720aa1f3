use Rattle.std.proofs.Common.{◌≡◌, ◌∙◌, Option, None, sym, ap}
use Rattle.std.proofs.lemmas.Result.{on_ok_weaker}
use Rattle.graph_turns.specs.declared.passes.Pass.{Pass}
use Rattle.graph_turns.specs.declared.state.State.{State}
use Rattle.graph_turns.specs.Machine.Passes.{all_entered, exports_entered, exports_entered_in}
use Rattle.graph_turns.proofs.state.State.enter_exports.Goals as goal

none_entered : (s : State) → s.pass ≡ None → record s { pass = None } ≡ exports_entered s
none_entered s goes = ap (λ (o : Option Pass). record s { pass = o }) (sym goes) ∙ sym (ap (exports_entered_in s) goes)

pub returns-in-None : goal.returns-in-None
returns-in-None c =
    ap (λ (o : Option Pass). record c.args.self.now { pass = o }) c.replace.ensures.after ∙ none_entered c.args.self.now (sym c.replace.ensures.value ∙ c.in-None.is)

pub returns-in-Some : goal.returns-in-Some
returns-in-Some c =
    let s = c.args.self.now in
    let p = c.in-Some.pass in
    on_ok_weaker c.enter_chosen.result
    (λ e. e ∙ ap (λ (o : Option Pass). all_entered (record s { pass = o }) p.is_top_level p.chosen) c.replace.ensures.after ∙ sym (ap (exports_entered_in s) (sym c.replace.ensures.value ∙ c.in-Some.is)))
    c.enter_chosen.ensures
