use Rattle.std.proofs.Common.{◌≡◌, ◌∙◌, List, Option, Some, sym, ap}
use Rattle.graph_turns.specs.Machine.Choosing.{first_item, without_first}
use Rattle.graph_turns.specs.declared.passes.Pass.{Pass}
use Rattle.graph_turns.specs.declared.waiting.WaitingPackage.{WaitingPackage}
use Rattle.graph_turns.proofs.Entering.Verdicts.{front_first, front_gone, none_taken}
use Rattle.graph_turns.proofs.state.State.take_item.Goals as goal

pub returns-in-None-clause-rest : goal.returns-in-None-clause-rest
returns-in-None-clause-rest c = none_taken c.args.self.now c.in-None.is

pub returns-in-Some-clause-item : goal.returns-in-Some-clause-item
returns-in-Some-clause-item c =
    front_first c.pop_front.result c.in-Some.pass.items c.pop_front.new.self c.pop_front.ensures.some c.pop_front.ensures.none ∙ sym (ap first_item c.in-Some.is)

pub returns-in-Some-clause-rest : goal.returns-in-Some-clause-rest
returns-in-Some-clause-rest c =
    let s = c.args.self.now in
    let p = c.in-Some.pass in
    ap (λ (l : List WaitingPackage). record s { pass = Some (record p { items = l }) }) (front_gone c.pop_front.result p.items c.pop_front.new.self c.pop_front.ensures.some c.pop_front.ensures.none c.pop_front.ensures.same)
    ∙ ap (λ (o : Option Pass). record s { pass = o }) (sym (ap without_first c.in-Some.is))
