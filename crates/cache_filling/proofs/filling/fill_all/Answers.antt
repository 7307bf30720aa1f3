use Rattle.std.proofs.Common.{◌≡◌, [], ◌∷◌, Option, None, map, ap, sym, refl, subst, ◌∙◌}
use Rattle.std.specs.FinMap as finite
use Rattle.std.specs.FinMap.{entries_sorted}
use Rattle.std.specs.Vec.Iter.{into_iter_items}
use Rattle.spec_base.specs.Specifier.{specifier_text}
use Rattle.graph_core.specs.declared.graph.ModuleGraph.{ModuleGraph}
use Rattle.module_slots.specs.declared.slot.ModuleSlot.{ModuleSlot}
use Rattle.graph_core.proofs.StepLemmas.{AreApart, IsWalked, apart_passing, none_left, walked_all, walked_next, walked_none}
use Rattle.cache_filling.specs.Copies.{has_copy}
use Rattle.cache_filling.specs.Filled.{IsFilledAt}
use Rattle.cache_filling.proofs.FilledLemmas.{filled_same}
use Rattle.cache_filling.proofs.filling.fill_all.Goals as goal

pub loop-specifier-init : goal.loop-specifier-init
loop-specifier-init g c =
    let world = g.L.LoaderCore.world c.args.loader.now in
    let m = c.args.graph.now.slots in
    let left = map specifier_text (into_iter_items c.into_iter-specifier-iterator.result) in
    let is : left ≡ _ = ap (map specifier_text) c.into_iter-specifier-iterator.ensures.into_iter_gives.0 ∙ c.in_ok-with_copies.ensures in
    record {
      apart = subst AreApart (sym is) (apart_passing has_copy (finite.entries m) (entries_sorted m));
      rest = refl;
      slots = walked_none (IsFilledAt world) has_copy refl (filled_same world) m left is;
    }

pub loop-specifier-preserved : goal.loop-specifier-preserved
loop-specifier-preserved g c =
    let world = g.L.LoaderCore.world c.args.loader.now in
    let m = c.args.graph.now.slots in
    let now = c.loop-specifier.graph.slots in
    let next = c.fill_at.new.graph.slots in
    let t = specifier_text c.in-Some.specifier in
    let left = map specifier_text (into_iter_items c.next.new.self) in
    let parts : map specifier_text (into_iter_items c.loop-specifier.specifier-iterator) ≡ t ∷ left = ap (map specifier_text) c.in-Some.ensures.steps.0 in
    let apart : AreApart (t ∷ left) = subst AreApart parts c.loop-specifier.invariant.apart in
    let walked : IsWalked (IsFilledAt world) (t ∷ left) m now = subst (λ ts. IsWalked (IsFilledAt world) ts m now) parts c.loop-specifier.invariant.slots in
    record {
      apart = apart.1;
      rest = c.in_ok-fill_at.ensures.rest ∙ ap (λ (gr : ModuleGraph). record gr { slots = next }) c.loop-specifier.invariant.rest;
      slots = walked_next (IsFilledAt world) t left m now next apart.0 walked c.in_ok-fill_at.ensures.others c.in_ok-fill_at.ensures.slot;
    }

pub returns : goal.returns
returns g c =
    let world = g.L.LoaderCore.world c.args.loader.now in
    let m = c.args.graph.now.slots in
    let now = c.loop-specifier.graph.slots in
    let it = c.loop-specifier.specifier-iterator in
    let none : map specifier_text (into_iter_items it) ≡ [] = ap (map specifier_text) (none_left (into_iter_items it) (sym it.rest.ok.0 ∙ c.in-None.ensures.steps.0)) in
    record {
      rest = c.loop-specifier.invariant.rest;
      slots = walked_all (IsFilledAt world) m now (subst (λ ts. IsWalked (IsFilledAt world) ts m now) none c.loop-specifier.invariant.slots);
    }
