-- Over a tidy graph a pruning keeps what the walk over code comes to.
use Rattle.std.proofs.Common.{◌≡◌, List, Bool, true, false, cond, not, ◌&&◌, Option, is_some, None, Some, refl, sym, ap, ◌∙◌, subst, inl, ⊎_elim}
use Rattle.std.specs.Prelude.{bytes_eq}
use Rattle.std.specs.Cmp.Lexicographic.{bytes_decides}
use Rattle.std.specs.Option.{option_map}
use Rattle.url.specs.Parts.{Parts}
use Rattle.graph_core.specs.declared.graph.ModuleGraph.{ModuleGraph}
use Rattle.module_slots.specs.declared.slot.Module.TheVariants.{Js, Json, Wasm, Npm, Node, External}
use Rattle.module_slots.specs.declared.slot.ModuleSlot.{ModuleSlot}
use Rattle.module_slots.specs.declared.slot.ModuleSlot.TheVariants.{Module as Stands, Err as Failed, Pending}
use Rattle.graph_core.specs.Pruned.{freed_slot, has_text_of, keeps_slot}
use Rattle.graph_walk.specs.Lists.{Text, Among, Within}
use Rattle.graph_walk.specs.Order.{redirect_text, slot_of, redirect_of, texts, late_at_slot, Entry, entry_at, entry_of, entry_at_slot, walk_order}
use Rattle.graph_walk.specs.Order.Entry.{OfModule, OfError, Redirected}
use Rattle.graph_walk.specs.Closure.{IsWalkClosed, Closure, GivesClosure}
use Rattle.graph_walk.specs.Prune.{prune_how, prune_of, prune_adds, IsPruneClosed, IsPruned, LosesTypes}
use Rattle.graph_walk.specs.Prunable.{IsTidy, is_walked, LeavesWalked}
use Rattle.graph_walk.proofs.Closed.{from_late, late_closed_cases, gives_closure}
use Rattle.graph_walk.proofs.SameMembers.{same_test, none_either, passes, passing, kept_among, among_kept}

named_in : (to : Option Parts) (slot : Option ModuleSlot) (t : Text) → redirect_text to ≡ Some t → Among t (prune_of to slot)
named_in None slot t e = absurd (cc)
named_in (Some p) slot t e = inl (cc)

-- ---- the kept list is the closure
module _ (g : ModuleGraph) (tidy : IsTidy g) (xs : List Text) where
  adds_by : (s : Text) (to : Option Parts) (slot : Option ModuleSlot) → redirect_of g s ≡ to → slot_of g s ≡ slot → Within (prune_of to slot) (prune_adds g s)
  unfolding prune_adds
  adds_by s to slot r e t a =
      subst (λ (q : Option Parts). Among t (prune_of q (slot_of g s))) (sym r) (subst (λ (v : Option ModuleSlot). Among t (prune_of to v)) (sym e) a)

  by_slot : (s t : Text) (slot : ModuleSlot) (to : Option Parts) → IsPruneClosed g xs → Among s xs → redirect_of g s ≡ to → slot_of g s ≡ Some slot
      → Among t (late_at_slot prune_how slot) → Among t xs
  by_slot s t slot None closed a r e b = closed.adds s a t (adds_by s None (Some slot) r e t b)
  by_slot s t slot (Some p) closed a r e b = absurd (tidy.disjoint s slot p e r)

  walk_closed : IsPruneClosed g xs → IsWalkClosed g prune_how (texts g.roots) xs
  walk_closed closed = record {
    root = closed.root;
    import_code = λ d t a e. let none = tidy.types_alone d a in absurd (cc);
    import_type = λ d t a w e. absurd (cc);
    redirect = λ s t a none r. closed.adds s a t (adds_by s (redirect_of g s) None refl none t (named_in (redirect_of g s) None t r));
    types = λ s t m a e w h. absurd (cc);
    code = λ s t m d a e h c. by_slot s t (Stands m) (redirect_of g s) closed a refl e (from_late prune_how m d t h (inl c));
    type = λ s t m d a e h w c. absurd (cc);
  }

  adds_cases : (s : Text) (to : Option Parts) (slot : Option ModuleSlot) → IsWalkClosed g prune_how (texts g.roots) xs → Among s xs
      → redirect_of g s ≡ to → slot_of g s ≡ slot → Within (prune_of to slot) xs
  adds_cases s None None closed a r e t b = absurd b
  adds_cases s None (Some slot) closed a r e t b = late_closed_cases g prune_how (texts g.roots) xs closed s (Some slot) e a t b
  adds_cases s (Some p) None closed a r e t b = ⊎_elim (λ same. closed.redirect s t a e (ap redirect_text r ∙ ap (λ x. Some x) (sym same))) absurd b
  adds_cases s (Some p) (Some slot) closed a r e t b = absurd (tidy.disjoint s slot p e r)

  prune_closed : IsWalkClosed g prune_how (texts g.roots) xs → IsPruneClosed g xs
  unfolding prune_adds
  prune_closed closed = record { root = closed.root; adds = λ s a. adds_cases s (redirect_of g s) (slot_of g s) closed a refl refl }

pruned_closure : (g : ModuleGraph) → IsTidy g → (xs : List Text) → IsPruned g xs → (s : Text)
    → (Among s xs → Closure g prune_how (texts g.roots) s) × (Closure g prune_how (texts g.roots) s → Among s xs)
pruned_closure g tidy xs p s = (λ a ys closed. p.1 ys (prune_closed g tidy ys closed) s a, λ inside. inside xs (walk_closed g tidy xs p.0))

-- ---- where the walk gives an entry
entry_of_slot : (slot : ModuleSlot) → ((is_asset : Bool) → slot ≡ Pending is_asset → ⊥) → (e : Entry) × (entry_at_slot prune_how slot ≡ Some e)
entry_of_slot (Stands (Js m)) settled = (OfModule (Js m), refl)
entry_of_slot (Stands (Json m)) settled = (OfModule (Json m), refl)
entry_of_slot (Stands (Wasm m)) settled = (OfModule (Wasm m), refl)
entry_of_slot (Stands (Npm m)) settled = (OfModule (Npm m), refl)
entry_of_slot (Stands (Node m)) settled = (OfModule (Node m), refl)
entry_of_slot (Stands (External m)) settled = (OfModule (External m), refl)
entry_of_slot (Failed x) settled = (OfError x, refl)
entry_of_slot (Pending is_asset) settled = absurd (settled is_asset refl)

module _ (g : ModuleGraph) (tidy : IsTidy g) where
  slot_entry : (s : Text) (slot : ModuleSlot) → slot_of g s ≡ Some slot → (e : Entry) × (entry_at g prune_how s ≡ Some e)
  unfolding entry_at
  slot_entry s slot e =
      let x = entry_of_slot slot (λ is_asset same. tidy.settled s is_asset (e ∙ ap (λ (v : ModuleSlot). Some v) same)) in
      (x.0, ap (λ (v : Option ModuleSlot). entry_of prune_how v (redirect_of g s)) e ∙ x.1)

  redirect_entry : (s : Text) (t : Parts) (slot : Option ModuleSlot) → slot_of g s ≡ slot → redirect_of g s ≡ Some t → (e : Entry) × (entry_at g prune_how s ≡ Some e)
  unfolding entry_at
  redirect_entry s t None e r =
      (Redirected t, ap (λ (v : Option ModuleSlot). entry_of prune_how v (redirect_of g s)) e ∙ ap (entry_of prune_how None) r)
  redirect_entry s t (Some slot) e r = absurd (tidy.disjoint s slot t e r)

  module _ (kept : List Parts) (least : IsPruned g (texts kept)) where
    gives : GivesClosure g prune_how (texts g.roots) (walk_order g prune_how (texts g.roots))
    gives = gives_closure g prune_how (texts g.roots)

    given : (s : Text) (e : Entry) → entry_at g prune_how s ≡ Some e → has_text_of kept s ≡ true → is_walked g s ≡ true
    given s e is k =
        passes (λ p. bytes_eq s p.0) (walk_order g prune_how (texts g.roots)) (s, e)
        (gives.all s e ((pruned_closure g tidy (texts kept) least s).0 (kept_among kept s k)) is)
        ((bytes_decides s s).1 refl)

    walked_kept : (s : Text) → is_walked g s ≡ true → has_text_of kept s ≡ true
    walked_kept s w =
        let p = passing (λ p. bytes_eq s p.0) (walk_order g prune_how (texts g.roots)) w in
        let same : p.one.0 ≡ s = sym ((bytes_decides s p.one.0).0 p.holds) in
        let inside = subst (Closure g prune_how (texts g.roots)) same (gives.within p.one.0 p.one.1 p.among).0 in
        among_kept kept s ((pruned_closure g tidy (texts kept) least s).1 inside)

    kept_walked : (s : Text) (e : Entry) → entry_at g prune_how s ≡ Some e → has_text_of kept s ≡ is_walked g s
    kept_walked s e is = same_test (has_text_of kept s) (is_walked g s) (given s e is) (walked_kept s)

    keeps : (s : Text) → redirect_of g s ≡ None → keeps_slot kept g s ≡ has_text_of kept s
    keeps s r = ap (λ (o : Option Parts). has_text_of kept s && not (is_some o)) r ∙ whole (has_text_of kept s)
      where
        whole : (b : Bool) → (b && true) ≡ b
        whole true = refl
        whole false = refl

    left_slot : (s : Text) (slot : Option ModuleSlot) (to : Option Parts) → slot_of g s ≡ slot → redirect_of g s ≡ to
        → cond (keeps_slot kept g s) (option_map freed_slot slot) None ≡ cond (is_walked g s) (option_map freed_slot slot) None
    left_slot s None to e r = none_either (keeps_slot kept g s) ∙ sym (none_either (is_walked g s))
    left_slot s (Some slot) None e r =
        let x = slot_entry s slot e in
        ap (λ b. cond b (Some (freed_slot slot)) None) (keeps s r ∙ kept_walked s x.0 x.1)
    left_slot s (Some slot) (Some t) e r = absurd (tidy.disjoint s slot t e r)

    left_redirect : (s : Text) (to : Option Parts) → redirect_of g s ≡ to → cond (has_text_of kept s) to None ≡ cond (is_walked g s) to None
    left_redirect s None r = none_either (has_text_of kept s) ∙ sym (none_either (is_walked g s))
    left_redirect s (Some t) r =
        let x = redirect_entry s t (slot_of g s) refl r in
        ap (λ b. cond b (Some t) None) (kept_walked s x.0 x.1)

pub leaves_walked : (g u : ModuleGraph) → IsTidy g → LosesTypes g u → LeavesWalked g u
leaves_walked g u tidy h = record {
  slots = λ s. h.left.slots s ∙ left_slot g tidy h.kept h.least s (slot_of g s) (redirect_of g s) refl refl;
  redirects = λ s. h.left.redirects s ∙ left_redirect g tidy h.kept h.least s (redirect_of g s) refl;
}
