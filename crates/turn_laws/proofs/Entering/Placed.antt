-- How a slot that an answer gives is put at its name.
use Rattle.std.proofs.Common.{◌≡◌, [], Bool, true, false, ◌&&◌, not, if◌then◌else◌, Option, None, Some, is_some, refl, sym, ap, ◌∙◌, subst}
use Rattle.std.proofs.lemmas.Bool.{true≢false}
use Rattle.url.specs.Parts.{Parts}
use Rattle.graph_core.specs.declared.graph.ModuleGraph.{ModuleGraph}
use Rattle.graph_dependencies.specs.declared.graph_kind.GraphKind.{GraphKind}
use Rattle.module_slots.specs.declared.load.LoadContext.{LoadContext}
use Rattle.module_slots.specs.declared.slot.Module.TheVariants.{Js, Json, Wasm, Npm, Node, External}
use Rattle.module_slots.specs.declared.slot.ModuleSlot.{ModuleSlot}
use Rattle.module_slots.specs.declared.slot.ModuleSlot.TheVariants.{Module as Stands, Err as Failed, Pending}
use Rattle.graph_core.specs.Edges.{loads_of}
use Rattle.graph_core.specs.Graph.{slot_at, with_slot}
use Rattle.module_slots.specs.Slots.{is_asset_slot, is_pending}
use Rattle.graph_turns.specs.Machine.Redirects.{is_settled}
use Rattle.graph_turns.specs.Machine.Entering.{edges_from, is_outside, placed}

-- it is put there, or it is a module outside of the graph and a slot stands there
pub data Placed (g : ModuleGraph) (n : Parts) (v : ModuleSlot) : ModuleGraph → Type 0 where
  there : (is_outside v ≡ true → is_settled (slot_at g n) ≡ false) → Placed g n v (with_slot g n v)
  stood : is_outside v ≡ true → is_settled (slot_at g n) ≡ true → Placed g n v g

pub how_placed : (g : ModuleGraph) (n : Parts) (v : ModuleSlot) → Placed g n v (placed g n v)
how_placed g n v = by_outside (is_outside v) refl
  where
    by_both : Bool → Bool → ModuleGraph
    by_both o t = if o && t then g else with_slot g n v

    by_settled : is_outside v ≡ true → (b : Bool) → is_settled (slot_at g n) ≡ b → Placed g n v (placed g n v)
    by_settled o true t = subst (Placed g n v) (sym (ap (λ b. by_both b (is_settled (slot_at g n))) o ∙ ap (by_both true) t)) (stood o t)
    by_settled o false f = subst (Placed g n v) (sym (ap (λ b. by_both b (is_settled (slot_at g n))) o ∙ ap (by_both true) f)) (there (λ w. f))

    by_outside : (b : Bool) → is_outside v ≡ b → Placed g n v (placed g n v)
    by_outside true o = by_settled o (is_settled (slot_at g n)) refl
    by_outside false f = subst (Placed g n v) (sym (ap (λ b. by_both b (is_settled (slot_at g n))) f)) (there (λ o. absurd (true≢false (sym o ∙ f))))

-- a module outside of the graph has no edges
pub no_edges : (kind : GraphKind) (skip : Bool) (v : ModuleSlot) (c : LoadContext) → is_outside v ≡ true → edges_from kind skip v c ≡ []
unfolding loads_of
no_edges kind skip (Stands (External m)) c o = refl
no_edges kind skip (Stands (Js m)) c o = absurd (true≢false (sym o))
no_edges kind skip (Stands (Json m)) c o = absurd (true≢false (sym o))
no_edges kind skip (Stands (Wasm m)) c o = absurd (true≢false (sym o))
no_edges kind skip (Stands (Npm m)) c o = absurd (true≢false (sym o))
no_edges kind skip (Stands (Node m)) c o = absurd (true≢false (sym o))
no_edges kind skip (Failed e) c o = absurd (true≢false (sym o))
no_edges kind skip (Pending asset) c o = absurd (true≢false (sym o))

pub settled_stands : (o : Option ModuleSlot) → is_settled o ≡ true → is_some o ≡ true
settled_stands None t = absurd (true≢false (sym t))
settled_stands (Some v) t = refl

pub settled_still : (o : Option ModuleSlot) (asset : Bool) → is_settled o ≡ true → o ≡ Some (Pending asset) → ⊥
settled_still o asset t e = true≢false (sym t ∙ ap is_settled e)

-- a slot that stands is settled, unless it is pending
pub settled_here : (o : Option ModuleSlot) (v : ModuleSlot) → o ≡ Some v → is_pending v ≡ false → is_settled o ≡ true
settled_here o v e f = ap is_settled e ∙ ap not f

-- a slot that isn't pending isn't that of a load
pub not_pending : (v : ModuleSlot) (asset : Bool) → is_pending v ≡ false → v ≡ Pending asset → ⊥
not_pending v asset f e = true≢false (sym (ap is_pending e) ∙ f)

-- a module that is at hand alone is outside of the graph
pub asset_outside : (v : ModuleSlot) → is_asset_slot v ≡ true → is_outside v ≡ true
asset_outside (Stands (External m)) t = refl
asset_outside (Stands (Js m)) t = absurd (true≢false (sym t))
asset_outside (Stands (Json m)) t = absurd (true≢false (sym t))
asset_outside (Stands (Wasm m)) t = absurd (true≢false (sym t))
asset_outside (Stands (Npm m)) t = absurd (true≢false (sym t))
asset_outside (Stands (Node m)) t = absurd (true≢false (sym t))
asset_outside (Failed e) t = absurd (true≢false (sym t))
asset_outside (Pending asset) t = absurd (true≢false (sym t))
