use Rattle.std.proofs.Common.{◌≡◌, ◌∙◌, List, [], ◌∷◌, ◌++◌, None, Some, sym, ap}
use Rattle.std.proofs.lemmas.Result.{on_ok_weaker}
use Rattle.graph_turns.specs.declared.passes.Chosen.{Chosen}
use Rattle.graph_turns.specs.declared.passes.Pass.{Pass}
use Rattle.graph_turns.proofs.Entering.Verdicts.{same_pass}
use Rattle.graph_turns.proofs.state.State.choose.Goals as goal

pub returns-in-None : goal.returns-in-None
returns-in-None c = λ p goes. absurd (let wrong : None ≡ Some p = sym c.in-None.is ∙ goes in cc)

pub returns-in-Some : goal.returns-in-Some
returns-in-Some c = λ p goes.
    let s = c.args.self.now in
    on_ok_weaker c.push_back.result
    (λ e. ap (λ (l : List Chosen). record s { pass = Some (record c.in-Some.pass { chosen = l }) }) e
    ∙ ap (λ (x : Pass). record s { pass = Some (record x { chosen = x.chosen ++ c.args.chosen ∷ [] }) }) (same_pass c.in-Some.pass p (sym c.in-Some.is ∙ goes)))
    c.push_back.ensures.ok
