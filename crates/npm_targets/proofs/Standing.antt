-- What stands in a graph whose edges were resolved again.
use Rattle.std.proofs.Common.{◌≡◌, ℕ, Bool, true, false, cond, not, List, ◌++◌, Option, None, Some, refl, sym, ◌∙◌, subst, ◌⊎◌, inl, inr, if◌then◌else◌}
use Rattle.std.specs.Prelude.{option_and_then, flat_map, filter}
use Rattle.std.specs.FinMap as finite
use Rattle.std.proofs.lemmas.List.Elements.{All-append}
use Rattle.url.specs.Parts.{Parts}
use Rattle.spec_base.specs.Options.{by_option}
use Rattle.spec_base.specs.Shown.{text_cmp}
use Rattle.spec_base.specs.declared.position.Range.{Range}
use Rattle.graph_core.specs.declared.graph.ModuleGraph.{ModuleGraph}
use Rattle.module_slots.specs.declared.load.Load.{Load}
use Rattle.module_slots.specs.declared.slot.Module.TheVariants.{Js, Json, Wasm, Npm, Node, External}
use Rattle.module_slots.specs.declared.slot.ModuleSlot.{ModuleSlot}
use Rattle.module_slots.specs.declared.slot.ModuleSlot.TheVariants.{Module as Stands, Err as Failed, Pending}
use Rattle.module_slots.specs.declared.slot.NpmModule.{NpmModule}
use Rattle.npm_targets.specs.Edges.{Repointing, all_loads_again, is_npm}
use Rattle.npm_targets.specs.Graphs.{IsFromOutset, IsLeftAs, IsRepointed, left_redirects, repointed_graph, repointed_loads, repointed_slot, repointed_slots, root_loads, slot_loads}
use Rattle.graph_core.proofs.LeftLemmas.{get_left, get_passing, if_passes}
use Rattle.npm_targets.proofs.OutsetLemmas.{outset_dependencies, outset_flat, outset_root, outset_slot}
use Rattle.npm_targets.proofs.SlotLemmas.{left_by}

-- ---- slots

left_not_npm : (o n : Option ModuleSlot) → IsLeftAs o n → (m : NpmModule) → n ≡ Some (Stands (Npm m)) → ⊥
left_not_npm None n h m e = cc
left_not_npm (Some (Stands (Js x))) n h m e = let is = h.1 in cc
left_not_npm (Some (Stands (Json x))) n h m e = cc
left_not_npm (Some (Stands (Wasm x))) n h m e = let is = h.1 in cc
left_not_npm (Some (Stands (Npm x))) n h m e = cc
left_not_npm (Some (Stands (Node x))) n h m e = cc
left_not_npm (Some (Stands (External x))) n h m e = cc
left_not_npm (Some (Failed x)) n h m e = cc
left_not_npm (Some (Pending x)) n h m e = cc

-- no module of npm is left
pub no_npm_left : {g u : ModuleGraph} {loads : List Load} → IsRepointed g u loads → (t : List ℕ) (m : NpmModule) → finite.get u.slots t ≡ Some (Stands (Npm m)) → ⊥
no_npm_left h t m e = left_not_npm _ _ (h.slots t) m e

left_pending : (o n : Option ModuleSlot) → IsLeftAs o n → (asset : Bool) → n ≡ Some (Pending asset) → o ≡ Some (Pending asset)
left_pending None n h asset e = cc
left_pending (Some (Stands (Js x))) n h asset e = let is = h.1 in cc
left_pending (Some (Stands (Json x))) n h asset e = cc
left_pending (Some (Stands (Wasm x))) n h asset e = let is = h.1 in cc
left_pending (Some (Stands (Npm x))) n h asset e = cc
left_pending (Some (Stands (Node x))) n h asset e = cc
left_pending (Some (Stands (External x))) n h asset e = cc
left_pending (Some (Failed x)) n h asset e = cc
left_pending (Some (Pending x)) n h asset e = sym h ∙ e

-- what is pending was pending
pub pending_left : {g u : ModuleGraph} {loads : List Load} → IsRepointed g u loads → (t : List ℕ) (asset : Bool) → finite.get u.slots t ≡ Some (Pending asset) → finite.get g.slots t ≡ Some (Pending asset)
pending_left h t asset e = left_pending _ _ (h.slots t) asset e

left_none : (o n : Option ModuleSlot) → IsLeftAs o n → n ≡ None → (o ≡ None) ⊎ ((m : NpmModule) × (o ≡ Some (Stands (Npm m))))
left_none None n h e = inl refl
left_none (Some (Stands (Js x))) n h e = let is = h.1 in cc
left_none (Some (Stands (Json x))) n h e = cc
left_none (Some (Stands (Wasm x))) n h e = let is = h.1 in cc
left_none (Some (Stands (Npm x))) n h e = inr (x, refl)
left_none (Some (Stands (Node x))) n h e = cc
left_none (Some (Stands (External x))) n h e = cc
left_none (Some (Failed x)) n h e = cc
left_none (Some (Pending x)) n h e = cc

-- where no slot is left, none stood, or a module of npm did
pub stands_left : {g u : ModuleGraph} {loads : List Load} → IsRepointed g u loads → (t : List ℕ) → finite.get u.slots t ≡ None → (finite.get g.slots t ≡ None) ⊎ ((m : NpmModule) × (finite.get g.slots t ≡ Some (Stands (Npm m))))
stands_left h t e = left_none _ _ (h.slots t) e

-- what is left at a text is what its slot becomes
pub slot_left : (how : Repointing) (slots : finite.FinMap text_cmp ModuleSlot) (t : List ℕ) → finite.get (repointed_slots how slots) t ≡ option_and_then (repointed_slot how) (finite.get slots t)
slot_left how slots t = get_left (repointed_slot how) slots t

-- ---- redirects

passing_redirect : (o : Option Parts) → option_and_then (if_passes (λ s. not (is_npm s))) o ≡ by_option o None (λ s. if is_npm s then None else Some s)
passing_redirect None = refl
passing_redirect (Some s) = by (is_npm s)
  where
    by : (b : Bool) → cond (not b) (Some s) None ≡ (if b then None else Some s)
    by true = refl
    by false = refl

-- a redirect is left unless it leads to npm
pub redirect_left : (g : ModuleGraph) (t : List ℕ) → finite.get (left_redirects g.redirects) t ≡ by_option (finite.get g.redirects t) None (λ s. if is_npm s then None else Some s)
redirect_left g t = get_passing (λ s. not (is_npm s)) g.redirects t ∙ passing_redirect (finite.get g.redirects t)

-- ---- the graph

-- a graph whose edges are resolved again by what is told is one
pub repointed_is : (how : Repointing) (range : Range) (g : ModuleGraph) → IsRepointed g (repointed_graph how range g) (repointed_loads how range g)
repointed_is how range g = record {
  rest = refl;
  slots = λ t. subst (IsLeftAs (finite.get g.slots t)) (sym (slot_left how g.slots t)) (left_by how (finite.get g.slots t));
  outset =
      All-append IsFromOutset (flat_map (λ e. slot_loads how e.1) (finite.entries g.slots) ++ flat_map (λ e. all_loads_again how e.1.dependencies) g.imports) (flat_map (root_loads how range) (filter is_npm g.roots))
      (All-append IsFromOutset (flat_map (λ e. slot_loads how e.1) (finite.entries g.slots)) (flat_map (λ e. all_loads_again how e.1.dependencies) g.imports)
      (outset_flat (λ e. slot_loads how e.1) (λ e. outset_slot how e.1) (finite.entries g.slots))
      (outset_flat (λ e. all_loads_again how e.1.dependencies) (λ e. outset_dependencies how e.1.dependencies) g.imports))
      (outset_flat (root_loads how range) (outset_root how range) (filter is_npm g.roots));
}
