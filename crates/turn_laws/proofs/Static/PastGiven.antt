-- What an answer gives in the dynamic phase leaves what stood before it, where answers are named as asked and no edge is one of an asset.
use Rattle.std.proofs.Common.{◌≡◌, List, [], ◌∷◌, false, refl, sym, subst, Option}
use Rattle.std.specs.List.{All}
use Rattle.std.proofs.lemmas.List.Elements.{All-head, All-tail}
use Rattle.url.specs.Parts.{Parts}
use Rattle.spec_base.specs.Specifier.{specifier_text}
use Rattle.graph_core.specs.declared.graph.ModuleGraph.{ModuleGraph}
use Rattle.module_slots.specs.declared.load.Load.{Load}
use Rattle.module_slots.specs.declared.slot.ModuleSlot.{ModuleSlot}
use Rattle.module_slots.specs.Slots.{is_asset_slot, is_pending}
use Rattle.graph_turns.specs.declared.state.State.{State}
use Rattle.graph_turns.specs.Machine.Redirects.{renamed}
use Rattle.semver_npm.specs.declared.package.PackageNv.{PackageNv}
use Rattle.graph_turns.specs.Promise.Reached.{in_package}
use Rattle.graph_turns.specs.Promise.Input.{EnteredGraph}
use Rattle.graph_core.proofs.At.{same_of_text}
use Rattle.graph_turns.proofs.Entering.Enter.{Edged, how_edged}
use Rattle.graph_turns.proofs.Entering.Enter.Edged.{queues, enters}
use Rattle.turn_laws.proofs.Entering.Placed.{Placed, how_placed}
use Rattle.turn_laws.proofs.Entering.Placed.Placed.{there, stood}
use Rattle.turn_laws.proofs.Promise.GraphKept.{renamed_self}
use Rattle.turn_laws.proofs.Promise.Sound.{End, Sound, ends_now, loosen, nothing, sound_edge, sound_enter}
use Rattle.turn_laws.proofs.Promise.Storing.{Taken, edges_in, sound_named}
use Rattle.turn_laws.proofs.Static.Past.{IsNew, Past, past_beside, past_enter, past_stored}
use Rattle.graph_turns.specs.Machine.Entering.{edges_from, enter, enter_all, enter_edge, enter_edges, names_with, placed, placed_at, stored_at, sums_by, with_mark}

abbrev pub IsModuleLoad : Load → Type 0
IsModuleLoad load = load.context.asset ≡ false

module _ (o : EnteredGraph) (old : ModuleGraph) where
  past_edge : (s : State) (load : Load) → End s.graph (specifier_text load.specifier) → IsModuleLoad load → Past old s → Past old (enter_edge s load)
  past_edge s load end plain past = by_edged (enter_edge s load) (how_edged s load)
    where
      by_edged : (u : State) → Edged s load u → Past old u
      by_edged u (queues p f) = past_beside old s u (record { slots = refl; redirects = refl; starts_are = refl; flags = refl; loads = refl }) (λ k a. a) past
      by_edged u enters = past_enter old s (with_mark s.root_names load) end plain past

  past_edges : (loads : List Load) (s : State) → Sound o ⊥ nothing nothing loads s → All IsModuleLoad loads → Past old s → Past old (enter_edges s loads)
  unfolding enter_edges
  past_edges [] s sound plain past = past
  past_edges (load ∷ loads) s sound plain past =
      past_edges loads (enter_edge s load) (sound_edge o ⊥ nothing loads s load sound) (All-tail IsModuleLoad load loads plain)
      (past_edge s load (ends_now o nothing nothing (load ∷ loads) s sound (specifier_text load.specifier)) (All-head IsModuleLoad load loads plain) past)

  -- a slot at the asked specifier's text
  past_named : (s : State) (load : Load) (held : Option PackageNv) (name : Parts) (slot : ModuleSlot) → specifier_text name ≡ specifier_text load.specifier → IsNew old (specifier_text load.specifier) → is_asset_slot slot ≡ false → Past old s → Past old (placed_at s load held name slot)
  past_named s load held name slot same new plain past =
      by_placed (placed (renamed s.graph load.specifier name) name slot) (subst (λ (g : ModuleGraph). Placed g name slot (placed (renamed s.graph load.specifier name) name slot)) (renamed_self s.graph load.specifier name (same_of_text load.specifier name (sym same))) (how_placed (renamed s.graph load.specifier name) name slot))
    where
      by_placed : (u : ModuleGraph) → Placed s.graph name slot u → Past old (record s { graph = u; root_names = names_with s.root_names load.context name slot; sums = sums_by held s.sums name slot })
      by_placed u (there free) = past_stored old s (specifier_text name) slot (names_with s.root_names load.context name slot) (sums_by held s.sums name slot) (subst (IsNew old) (sym same) new) plain past
      by_placed u (stood x t) = past_beside old s (record s { graph = u; root_names = names_with s.root_names load.context name slot; sums = sums_by held s.sums name slot }) (record { slots = refl; redirects = refl; starts_are = refl; flags = refl; loads = refl }) (λ k a. a) past

  -- a final slot that is named as asked, and its edges
  pub past_at : (s : State) (load : Load) (held : Option PackageNv) (name : Parts) (slot : ModuleSlot) → Taken o ⊥ (specifier_text load.specifier) s → specifier_text name ≡ specifier_text load.specifier → is_pending slot ≡ false → is_asset_slot slot ≡ false → IsNew old (specifier_text load.specifier) → All IsModuleLoad (edges_in s slot (in_package held load.context)) → Past old s → Past old (stored_at s load held name slot)
  past_at s load held name slot took same final not_asset new plain past =
      past_edges (edges_from s.graph.kind s.flags.skip_dynamic_deps slot (in_package held load.context)) (placed_at s load held name slot)
      (sound_named o ⊥ s load held name slot (in_package held load.context) took final (λ h. not_asset))
      plain (past_named s load held name slot same new not_asset past)

  -- loads of no asset enter in order
  pub past_enter_all : (loads : List Load) (s : State) → Sound o ⊥ nothing nothing loads s → All IsModuleLoad loads → Past old s → Past old (enter_all s loads)
  unfolding enter_all
  past_enter_all [] s sound plain past = past
  past_enter_all (load ∷ loads) s sound plain past =
      past_enter_all loads (enter s load) (sound_enter o ⊥ nothing loads s load (loosen o ⊥ nothing (load ∷ loads) s _ sound)) (All-tail IsModuleLoad load loads plain)
      (past_enter old s load (ends_now o nothing nothing (load ∷ loads) s sound (specifier_text load.specifier)) (All-head IsModuleLoad load loads plain) past)
