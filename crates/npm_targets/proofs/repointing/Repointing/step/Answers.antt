use Rattle.std.proofs.Common.{◌≡◌, ◌≢◌, ℕ, List, Some, None, false, true, ap, sym, subst, ◌∙◌}
use Rattle.std.proofs.lemmas.Result.{on_ok_weaker}
use Rattle.std.specs.Prelude.{option_and_then}
use Rattle.std.specs.FinMap as finite
use Rattle.spec_base.specs.Specifier.{specifier_text}
use Rattle.graph_core.specs.Graph.{slot_at, with_slot}
use Rattle.npm_targets.specs.Edges.{repointing}
use Rattle.npm_targets.specs.Graphs.{IsLeftAs, repointed_slot}
use Rattle.npm_targets.specs.Steps.{is_npm_slot}
use Rattle.npm_targets.proofs.SlotLemmas.{npm_goes, npm_left}
use Rattle.graph_core.proofs.SlotSteps.{cut_elsewhere, cut_here, stored_elsewhere, stored_here}
use Rattle.npm_targets.proofs.repointing.Repointing.step.Goals as goal

pub returns-in_default-clause-others : goal.returns-in_default-clause-others
returns-in_default-clause-others g c = cut_elsewhere c.args.graph.now c.remove_slot.new.self c.args.specifier c.remove_slot.ensures.removed

pub returns-in_default-clause-slot : goal.returns-in_default-clause-slot
returns-in_default-clause-slot g c = λ told.
    let how = repointing g.U.JsrUrlProvider.meaning g.R.Resolver.meaning c.args.self.now in
    let none : slot_at c.args.graph.now c.args.specifier ≡ None = sym c.remove_slot.ensures.before ∙ c.in_default.is in
    cut_here c.args.graph.now c.remove_slot.new.self c.args.specifier c.remove_slot.ensures.removed ∙ sym (ap (option_and_then (repointed_slot how)) none)

pub returns-in_default-clause-left : goal.returns-in_default-clause-left
returns-in_default-clause-left g c =
    let none : slot_at c.args.graph.now c.args.specifier ≡ None = sym c.remove_slot.ensures.before ∙ c.in_default.is in
    subst (λ o. IsLeftAs o (slot_at c.remove_slot.new.self c.args.specifier)) (sym none)
    (cut_here c.args.graph.now c.remove_slot.new.self c.args.specifier c.remove_slot.ensures.removed)

pub returns-then-is_npm_slot-clause-others : goal.returns-then-is_npm_slot-clause-others
returns-then-is_npm_slot-clause-others g c = cut_elsewhere c.args.graph.now c.remove_slot.new.self c.args.specifier c.remove_slot.ensures.removed

pub returns-then-is_npm_slot-clause-slot : goal.returns-then-is_npm_slot-clause-slot
returns-then-is_npm_slot-clause-slot g c = λ told.
    let how = repointing g.U.JsrUrlProvider.meaning g.R.Resolver.meaning c.args.self.now in
    let some : slot_at c.args.graph.now c.args.specifier ≡ Some c.in-Some.slot = sym c.remove_slot.ensures.before ∙ c.in-Some.is in
    let npm : is_npm_slot c.in-Some.slot ≡ true = sym c.is_npm_slot.ensures ∙ c.if-is_npm_slot.true in
    cut_here c.args.graph.now c.remove_slot.new.self c.args.specifier c.remove_slot.ensures.removed
    ∙ sym (ap (option_and_then (repointed_slot how)) some ∙ npm_goes how c.in-Some.slot npm)

pub returns-then-is_npm_slot-clause-left : goal.returns-then-is_npm_slot-clause-left
returns-then-is_npm_slot-clause-left g c =
    let some : slot_at c.args.graph.now c.args.specifier ≡ Some c.in-Some.slot = sym c.remove_slot.ensures.before ∙ c.in-Some.is in
    let npm : is_npm_slot c.in-Some.slot ≡ true = sym c.is_npm_slot.ensures ∙ c.if-is_npm_slot.true in
    subst (λ o. IsLeftAs o (slot_at c.remove_slot.new.self c.args.specifier)) (sym some)
    (npm_left c.in-Some.slot npm _ (cut_here c.args.graph.now c.remove_slot.new.self c.args.specifier c.remove_slot.ensures.removed))

pub returns-clause-others : goal.returns-clause-others
returns-clause-others g c =
    let cut = c.remove_slot.new.self in
    let stored = c.store_slot.new.self in
    on_ok_weaker {P = stored ≡ with_slot cut c.args.specifier c.repoint_slot.new.slot}
    {Q = (t : List ℕ) → t ≢ specifier_text c.args.specifier → finite.get stored.slots t ≡ finite.get c.args.graph.now.slots t}
    c.store_slot.result
    (λ again. stored_elsewhere c.args.graph.now cut c.args.specifier c.remove_slot.ensures.removed stored c.repoint_slot.new.slot again)
    c.store_slot.ensures.ok

pub returns-clause-slot : goal.returns-clause-slot
returns-clause-slot g c = λ told.
    let how = repointing g.U.JsrUrlProvider.meaning g.R.Resolver.meaning c.args.self.now in
    let cut = c.remove_slot.new.self in
    let stored = c.store_slot.new.self in
    let some : slot_at c.args.graph.now c.args.specifier ≡ Some c.in-Some.slot = sym c.remove_slot.ensures.before ∙ c.in-Some.is in
    let other : is_npm_slot c.in-Some.slot ≡ false = sym c.is_npm_slot.ensures ∙ c.if-is_npm_slot.false in
    on_ok_weaker {P = stored ≡ with_slot cut c.args.specifier c.repoint_slot.new.slot}
    {Q = slot_at stored c.args.specifier ≡ option_and_then (repointed_slot how) (slot_at c.args.graph.now c.args.specifier)}
    c.store_slot.result
    (λ again.
    stored_here c.args.graph.now cut c.args.specifier c.remove_slot.ensures.removed stored c.repoint_slot.new.slot again
    ∙ sym (ap (option_and_then (repointed_slot how)) some ∙ c.in_ok-repoint_slot.ensures.slot told other))
    c.store_slot.ensures.ok

pub returns-clause-left : goal.returns-clause-left
returns-clause-left g c =
    let cut = c.remove_slot.new.self in
    let stored = c.store_slot.new.self in
    let some : slot_at c.args.graph.now c.args.specifier ≡ Some c.in-Some.slot = sym c.remove_slot.ensures.before ∙ c.in-Some.is in
    let other : is_npm_slot c.in-Some.slot ≡ false = sym c.is_npm_slot.ensures ∙ c.if-is_npm_slot.false in
    on_ok_weaker {P = stored ≡ with_slot cut c.args.specifier c.repoint_slot.new.slot}
    {Q = IsLeftAs (slot_at c.args.graph.now c.args.specifier) (slot_at stored c.args.specifier)}
    c.store_slot.result
    (λ again.
    subst (λ o. IsLeftAs o (slot_at stored c.args.specifier)) (sym some)
    (subst (IsLeftAs (Some c.in-Some.slot)) (sym (stored_here c.args.graph.now cut c.args.specifier c.remove_slot.ensures.removed stored c.repoint_slot.new.slot again))
    (c.in_ok-repoint_slot.ensures.left other)))
    c.store_slot.ensures.ok
