use Rattle.std.proofs.Common.{◌≡◌, ◌≤◌, suc, ◌+◌, sym, ◌∙◌, subst, arith}
use Rattle.std.specs.FinMap as finite
use Rattle.graph_turns.specs.Machine.Redirects.{unknown_at}
use Rattle.graph_turns.proofs.Leading.Back.{ends_back, full_back}
use Rattle.graph_turns.proofs.Leading.Ends.{Steps, steps_push}
use Rattle.graph_turns.proofs.Leading.Ends.Steps.{stay}
use Rattle.graph_turns.proofs.redirects.leads_back.Goals as goal

pub loop-init : goal.loop-init
loop-init c = stay

pub returns-in-None : goal.returns-in-None
returns-in-None c = c.eq.ensures ∙ ends_back c.args.graph.now c.args.asked.now c.loop.counter c.args.name.now c.loop.at.now c.loop.invariant (sym c.in-None.ensures)

pub loop-preserved : goal.loop-preserved
loop-preserved c =
    let next : suc c.loop.counter ≡ c.loop.counter + 1 = omega arith in
    let u = unknown_at c.args.graph.now c.args.asked.now in
    subst (λ n. Steps u n c.args.name.now c.in-Some.to.now) next (steps_push u c.loop.invariant (sym c.in-Some.ensures))

pub returns : goal.returns
returns c =
    let full : finite.len c.args.graph.now.redirects ≤ c.loop.counter = omega (arith, c.len-end.ensures) in
    c.eq-2.ensures ∙ full_back c.args.graph.now c.args.asked.now c.loop.counter c.args.name.now c.loop.at.now full c.loop.invariant
