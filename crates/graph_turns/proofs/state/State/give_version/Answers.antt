use Rattle.std.proofs.Common.{◌≡◌, ◌∙◌, None, Some, sym}
use Rattle.std.proofs.lemmas.Result.{on_ok_weaker}
use Rattle.graph_turns.proofs.Entering.Verdicts.{left_pass, one_given, one_stands}
use Rattle.graph_turns.proofs.state.State.give_version.Goals as goal

pub returns-in-None : goal.returns-in-None
returns-in-None g c = λ p item items goes is.
    absurd (let wrong : Some item ≡ None = sym (one_stands c.args.self.now p item items goes is) ∙ sym c.take_item.ensures.item ∙ c.in-None.is in cc)

pub returns-in-Some : goal.returns-in-Some
returns-in-Some g c = λ p item items goes is.
    let s = c.args.self.now in
    on_ok_weaker c.keep_choice.result
    (λ e. e ∙ one_given s p item items goes is c.in-Some.item c.args.nv c.args.is_yanked c.take_item.new.self c.take_item.ensures.rest (sym c.in-Some.is ∙ c.take_item.ensures.item))
    (c.keep_choice.ensures (record p { items = items }) (left_pass s p item items goes is c.take_item.new.self c.take_item.ensures.rest))
