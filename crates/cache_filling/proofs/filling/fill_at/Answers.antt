use Rattle.std.proofs.Common.{◌≡◌, ◌≢◌, ℕ, List, Some, None, sym, subst, ◌∙◌}
use Rattle.std.proofs.lemmas.Result.{on_ok_weaker}
use Rattle.std.specs.FinMap as finite
use Rattle.spec_base.specs.Specifier.{specifier_text}
use Rattle.graph_core.specs.Graph.{slot_at, with_slot}
use Rattle.graph_core.proofs.SlotSteps.{cut_elsewhere, cut_here, stored_elsewhere, stored_here}
use Rattle.cache_filling.specs.Filled.{IsFilledAt}
use Rattle.cache_filling.proofs.filling.fill_at.Goals as goal

pub returns-in_default-clause-others : goal.returns-in_default-clause-others
returns-in_default-clause-others g c = cut_elsewhere c.args.graph.now c.remove_slot.new.self c.args.specifier c.remove_slot.ensures.removed

pub returns-in_default-clause-slot : goal.returns-in_default-clause-slot
returns-in_default-clause-slot g c =
    let none : slot_at c.args.graph.now c.args.specifier ≡ None = sym c.remove_slot.ensures.before ∙ c.in_default.is in
    subst (λ o. IsFilledAt (g.L.LoaderCore.world c.args.loader.now) o (slot_at c.remove_slot.new.self c.args.specifier)) (sym none)
    (cut_here c.args.graph.now c.remove_slot.new.self c.args.specifier c.remove_slot.ensures.removed)

pub returns-clause-others : goal.returns-clause-others
returns-clause-others g c =
    let cut = c.remove_slot.new.self in
    let stored = c.store_slot.new.self in
    on_ok_weaker {P = stored ≡ with_slot cut c.args.specifier c.fill_slot.new.slot}
    {Q = (t : List ℕ) → t ≢ specifier_text c.args.specifier → finite.get stored.slots t ≡ finite.get c.args.graph.now.slots t}
    c.store_slot.result
    (λ again. stored_elsewhere c.args.graph.now cut c.args.specifier c.remove_slot.ensures.removed stored c.fill_slot.new.slot again)
    c.store_slot.ensures.ok

pub returns-clause-slot : goal.returns-clause-slot
returns-clause-slot g c =
    let world = g.L.LoaderCore.world c.args.loader.now in
    let cut = c.remove_slot.new.self in
    let stored = c.store_slot.new.self in
    let some : slot_at c.args.graph.now c.args.specifier ≡ Some c.in-Some.slot = sym c.remove_slot.ensures.before ∙ c.in-Some.is in
    on_ok_weaker {P = stored ≡ with_slot cut c.args.specifier c.fill_slot.new.slot}
    {Q = IsFilledAt world (slot_at c.args.graph.now c.args.specifier) (slot_at stored c.args.specifier)}
    c.store_slot.result
    (λ again.
    subst (λ o. IsFilledAt world o (slot_at stored c.args.specifier)) (sym some) (c.fill_slot.new.slot, stored_here c.args.graph.now cut c.args.specifier c.remove_slot.ensures.removed stored c.fill_slot.new.slot again, c.in_ok-fill_slot.ensures))
    c.store_slot.ensures.ok
