-- What stands in a graph after one slot was taken out or stored again.
use Rattle.std.proofs.Common.{◌≡◌, ◌≢◌, ℕ, List, None, Some, ap, ◌∙◌}
use Rattle.std.specs.FinMap as finite
use Rattle.url.specs.Parts.{Parts}
use Rattle.spec_base.specs.Specifier.{specifier_text}
use Rattle.graph_core.specs.Graph.{slot_at, with_slot, without_slot}
use Rattle.graph_core.specs.declared.graph.ModuleGraph.{ModuleGraph}
use Rattle.module_slots.specs.declared.slot.ModuleSlot.{ModuleSlot}
use Rattle.graph_core.proofs.At.{cut_other, cut_same, put_other, put_same}

module _ (g cut : ModuleGraph) (s : Parts) (is : cut ≡ without_slot g s) where
  pub cut_here : slot_at cut s ≡ None
  cut_here = ap (λ u. slot_at u s) is ∙ cut_same g.slots (specifier_text s)

  pub cut_elsewhere : (t : List ℕ) → t ≢ specifier_text s → finite.get cut.slots t ≡ finite.get g.slots t
  cut_elsewhere t ne = ap (λ u. finite.get u.slots t) is ∙ cut_other g.slots (specifier_text s) t ne

  module _ (stored : ModuleGraph) (slot : ModuleSlot) (again : stored ≡ with_slot cut s slot) where
    pub stored_here : slot_at stored s ≡ Some slot
    stored_here = ap (λ u. slot_at u s) again ∙ put_same cut.slots (specifier_text s) slot

    pub stored_elsewhere : (t : List ℕ) → t ≢ specifier_text s → finite.get stored.slots t ≡ finite.get g.slots t
    stored_elsewhere t ne = ap (λ u. finite.get u.slots t) again ∙ put_other cut.slots (specifier_text s) slot t ne ∙ cut_elsewhere t ne
