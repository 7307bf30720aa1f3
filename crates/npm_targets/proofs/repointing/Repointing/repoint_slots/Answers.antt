use Rattle.std.proofs.Common.{◌≡◌, ◌++◌, [], ◌∷◌, Option, map, ap, sym, refl, subst, ◌∙◌, append_assoc}
use Rattle.std.specs.Prelude.{option_and_then}
use Rattle.std.proofs.lemmas.List.{append-nil}
use Rattle.std.specs.Cmp.Lexicographic.{nat_list_cmp_total}
use Rattle.std.specs.FinMap as finite
use Rattle.std.specs.FinMap.{entries_sorted, same_map}
use Rattle.std.specs.Vec.Iter.{into_iter_items}
use Rattle.spec_base.specs.Options.{by_option}
use Rattle.spec_base.specs.Specifier.{specifier_text}
use Rattle.graph_core.specs.declared.graph.ModuleGraph.{ModuleGraph}
use Rattle.module_slots.specs.declared.slot.ModuleSlot.{ModuleSlot}
use Rattle.npm_targets.specs.Edges.{Repointing, repointing}
use Rattle.npm_targets.specs.Graphs.{IsLeftAs, repointed_slot, slot_loads}
use Rattle.npm_targets.specs.Steps.{changes}
use Rattle.graph_core.proofs.LeftLemmas.{exact}
use Rattle.npm_targets.proofs.SlotLemmas.{left_same, silent, stays}
use Rattle.npm_targets.proofs.Standing.{slot_left}
use Rattle.graph_core.proofs.StepLemmas.{AreApart, IsWalked, apart_passing, kept_first, none_left, told_all, told_at, walked_all, walked_next, walked_none}
use Rattle.npm_targets.proofs.repointing.Repointing.repoint_slots.Goals as goal

abbrev IsAgain : Repointing → Option ModuleSlot → Option ModuleSlot → Type 0
IsAgain how o n = n ≡ option_and_then (repointed_slot how) o

pub loop-specifier-init : goal.loop-specifier-init
loop-specifier-init g c =
    let how = repointing g.U.JsrUrlProvider.meaning g.R.Resolver.meaning c.args.self.now in
    let m = c.args.graph.now.slots in
    let kind = c.args.self.now.resolution_kind in
    let left = map specifier_text (into_iter_items c.into_iter-specifier-iterator.result) in
    let is : left ≡ _ = ap (map specifier_text) c.into_iter-specifier-iterator.ensures.into_iter_gives.0 ∙ c.in_ok-changing.ensures in
    record {
      apart = subst AreApart (sym is) (apart_passing (changes kind) (finite.entries m) (entries_sorted m));
      rest = refl;
      slots = λ told. walked_none (IsAgain how) (changes kind) refl (λ slot e. sym (stays how slot e)) m left is;
      loads = λ told.
          ap (λ ts. c.args.loads.now.items ++ told_at (slot_loads how) m ts) is
          ∙ ap (λ ls. c.args.loads.now.items ++ ls) (told_all (changes kind) (slot_loads how) (silent how) m);
      left = walked_none IsLeftAs (changes kind) refl (left_same kind) m left is;
      outset = λ h. h;
    }

pub loop-specifier-preserved : goal.loop-specifier-preserved
loop-specifier-preserved g c =
    let how = repointing g.U.JsrUrlProvider.meaning g.R.Resolver.meaning c.args.self.now in
    let m = c.args.graph.now.slots in
    let now = c.loop-specifier.graph.slots in
    let next = c.step.new.graph.slots in
    let t = specifier_text c.in-Some.specifier in
    let left = map specifier_text (into_iter_items c.next.new.self) in
    let parts : map specifier_text (into_iter_items c.loop-specifier.specifier-iterator) ≡ t ∷ left = ap (map specifier_text) c.in-Some.ensures.steps.0 in
    let apart : AreApart (t ∷ left) = subst AreApart parts c.loop-specifier.invariant.apart in
    let walked : IsWalked IsLeftAs (t ∷ left) m now = subst (λ ts. IsWalked IsLeftAs ts m now) parts c.loop-specifier.invariant.left in
    record {
      apart = apart.1;
      rest = c.in_ok-step.ensures.rest ∙ ap (λ (gr : ModuleGraph). record gr { slots = next }) c.loop-specifier.invariant.rest;
      slots = λ told.
          walked_next (IsAgain how) t left m now next apart.0 (subst (λ ts. IsWalked (IsAgain how) ts m now) parts (c.loop-specifier.invariant.slots told))
          c.in_ok-step.ensures.others (c.in_ok-step.ensures.slot told);
      loads = λ told.
          ap (λ ls. ls ++ told_at (slot_loads how) m left)
          (c.in_ok-step.ensures.loads told ∙ ap (λ o. c.loop-specifier.loads.items ++ by_option o [] (slot_loads how)) (kept_first IsLeftAs t left m now next walked))
          ∙ append_assoc c.loop-specifier.loads.items _ _
          ∙ ap (λ ts. c.loop-specifier.loads.items ++ told_at (slot_loads how) m ts) (sym parts)
          ∙ c.loop-specifier.invariant.loads told;
      left = walked_next IsLeftAs t left m now next apart.0 walked c.in_ok-step.ensures.others c.in_ok-step.ensures.left;
      outset = λ h. c.in_ok-step.ensures.outset (c.loop-specifier.invariant.outset h);
    }

pub returns : goal.returns
returns g c =
    let how = repointing g.U.JsrUrlProvider.meaning g.R.Resolver.meaning c.args.self.now in
    let m = c.args.graph.now.slots in
    let now = c.loop-specifier.graph.slots in
    let it = c.loop-specifier.specifier-iterator in
    let none : map specifier_text (into_iter_items it) ≡ [] = ap (map specifier_text) (none_left (into_iter_items it) (sym it.rest.ok.0 ∙ c.in-None.ensures.steps.0)) in
    record {
      slots = λ told. same_map nat_list_cmp_total exact _ _ (λ q.
          walked_all (IsAgain how) m now (subst (λ ts. IsWalked (IsAgain how) ts m now) none (c.loop-specifier.invariant.slots told)) q
          ∙ sym (slot_left how m q));
      loads = λ told.
          sym (ap (λ ts. c.loop-specifier.loads.items ++ told_at (slot_loads how) m ts) none ∙ append-nil c.loop-specifier.loads.items)
          ∙ c.loop-specifier.invariant.loads told;
      rest = c.loop-specifier.invariant.rest;
      left = walked_all IsLeftAs m now (subst (λ ts. IsWalked IsLeftAs ts m now) none c.loop-specifier.invariant.left);
      outset = c.loop-specifier.invariant.outset;
    }
