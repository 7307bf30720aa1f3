use Rattle.std.proofs.Common.{◌≡◌, zero, suc, ◌+◌, [], ◌∷◌, sym, ap, ◌∙◌, subst, arith, rules}
use Rattle.std.specs.FinMap as finite
use Rattle.graph_turns.specs.Machine.Redirects.{follow}
use Rattle.graph_turns.proofs.Leading.Ends.{Steps, steps_push, steps_led}
use Rattle.graph_turns.proofs.Leading.Follow.{follow_zero}
use Rattle.graph_turns.proofs.Leading.Ends.Steps.{stay}
use Rattle.graph_turns.proofs.redirects.end_of.Goals as goal

pub loop-init : goal.loop-init
loop-init c = stay

pub returns-in-None : goal.returns-in-None
returns-in-None c = sym (steps_led c.args.graph.now c.loop.invariant (sym c.in-None.ensures))

pub loop-preserved : goal.loop-preserved
loop-preserved c =
    let next : suc c.loop.counter ≡ c.loop.counter + 1 = omega arith in
    subst (λ n. Steps c.args.graph.now n c.args.specifier.now c.in-Some.to.now) next (steps_push c.args.graph.now c.loop.invariant (sym c.in-Some.ensures))

pub returns-in-None-onward : goal.returns-in-None-onward
returns-in-None-onward c = sym (steps_led c.args.graph.now c.loop.invariant (sym c.in-None-onward.ensures))

-- none was followed, since there is none
pub returns-then-len-eq0 : goal.returns-then-len-eq0
returns-then-len-eq0 c =
    let g = c.args.graph.now in
    let s = c.args.specifier.now in
    let none : finite.len g.redirects ≡ zero = search rules in
    sym (ap (λ n. follow g n (s ∷ []) s) none ∙ follow_zero g (s ∷ []) s)
