use Rattle.std.proofs.Common.{◌≡◌, ◌+◌, ◌-◌, ◌∷◌, [], ◌++◌, List, Bool, true, false, not, refl, sym, ap, ◌∙◌, subst, zero, arith, rules, if◌then◌else◌}
use Rattle.std.specs.List.{list_any}
use Rattle.url.specs.Parts.{Parts}
use Rattle.spec_base.specs.Specifier.{same_specifier}
use Rattle.graph_turns.specs.Machine.Redirects.{follow}
use Rattle.graph_turns.proofs.Leading.Follow.{follow_last, follow_stop, follow_step, follow_zero}
use Rattle.graph_turns.proofs.redirects.last_unmet.Goals as goal

was_met : (b : Bool) → not b ≡ false → b ≡ true
was_met true e = refl
was_met false e = sym e

is_new : (b : Bool) → not b ≡ true → b ≡ false
is_new true e = sym e
is_new false e = refl

pub returns-in-None : goal.returns-in-None
returns-in-None c = sym (c.loop.invariant ∙ follow_last c.args.graph.now _ c.loop.met c.loop.at.now (sym c.in-None.ensures))

pub returns-then-not-branch : goal.returns-then-not-branch
returns-then-not-branch c =
    let copy : c.in_ok-clone-in-Some.field-0 ≡ c.in-Some.to.now = search rules in
    let known : list_any (same_specifier c.in-Some.to.now) c.loop.met ≡ true = subst (λ (t : Parts). list_any (same_specifier t) c.loop.met ≡ true) copy (was_met _ (sym c.in_ok-insert-in-Some.ensures.added ∙ c.if-not-branch.true)) in
    sym (c.loop.invariant ∙ follow_stop c.args.graph.now c.len-end.result c.loop.counter c.loop.met c.loop.at.now c.in-Some.to.now c.loop-test.true (sym c.in-Some.ensures) known)

pub loop-preserved : goal.loop-preserved
loop-preserved c =
    let copy : c.in_ok-clone-in-Some.field-0 ≡ c.in-Some.to.now = search rules in
    let new : list_any (same_specifier c.in-Some.to.now) c.loop.met ≡ false = subst (λ (t : Parts). list_any (same_specifier t) c.loop.met ≡ false) copy (is_new _ (sym c.in_ok-insert-in-Some.ensures.added ∙ c.if-not-branch.false)) in
    let met : c.insert-in-Some.new.self ≡ c.loop.met ++ c.in-Some.to.now ∷ [] = c.in_ok-insert-in-Some.ensures.set ∙ ap (λ (t : Parts). if list_any (same_specifier t) c.loop.met then c.loop.met else c.loop.met ++ t ∷ []) copy ∙ ap (λ b. if b then c.loop.met else c.loop.met ++ c.in-Some.to.now ∷ []) new in
    c.loop.invariant
    ∙ follow_step c.args.graph.now c.len-end.result c.loop.counter c.loop.met c.loop.at.now c.in-Some.to.now c.loop-test.true (sym c.in-Some.ensures) new
    ∙ ap (λ (met : List Parts). follow c.args.graph.now (c.len-end.result - (c.loop.counter + 1)) met c.in-Some.to.now) (sym met)

pub returns : goal.returns
returns c =
    let none : c.len-end.result - c.loop.counter ≡ zero = omega arith in
    sym (c.loop.invariant ∙ ap (λ n. follow c.args.graph.now n c.loop.met c.loop.at.now) none ∙ follow_zero c.args.graph.now c.loop.met c.loop.at.now)
