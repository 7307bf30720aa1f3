use Rattle.std.proofs.Common.{rules, ◌≡◌, ◌∙◌, Some, slice_get, length, option_map, sym, ap}
use Rattle.graph_turns.specs.Promise.Contents.{content_question}
use Rattle.open_loads.specs.Order.OpenLoads.{OpenLoads, known_now}
use Rattle.open_loads.proofs.open_loads.OpenLoads.next_content.Goals as goal

pub returns-in_ok-content_question-in-Some : goal.returns-in_ok-content_question-in-Some
returns-in_ok-content_question-in-Some g c =
    let b = c.args.self.now in
    let e : slice_get b.state.contents (length b.later) ≡ Some c.in-Some.later.now = search rules in
    ap Some (c.in_ok-content_question-in-Some.ensures (known_now b) (ap (λ (x : OpenLoads). x.known.flags) (sym c.self.view_is)))
    ∙ ap (option_map (content_question (known_now b))) (sym e)
