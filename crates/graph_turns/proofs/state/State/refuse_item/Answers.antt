use Rattle.std.proofs.Common.{◌≡◌, ◌∙◌, None, Some, sym}
use Rattle.std.proofs.lemmas.Result.{on_ok_weaker}
use Rattle.graph_turns.proofs.Entering.Verdicts.{one_refused, one_stands}
use Rattle.graph_turns.proofs.state.State.refuse_item.Goals as goal

pub returns-in-None : goal.returns-in-None
returns-in-None c = λ p item items goes is.
    absurd (let wrong : Some item ≡ None = sym (one_stands c.args.self.now p item items goes is) ∙ sym c.take_item.ensures.item ∙ c.in-None.is in cc)

pub returns-in-Some : goal.returns-in-Some
returns-in-Some c = λ p item items goes is.
    on_ok_weaker c.refuse_package.result
    (λ e. e ∙ one_refused c.args.self.now p item items goes is c.in-Some.item c.args.error c.take_item.new.self (sym c.in-Some.is ∙ c.take_item.ensures.item) c.take_item.ensures.rest)
    c.refuse_package.ensures
