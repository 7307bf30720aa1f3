-- What is deferred was, or is, under way as an asset.
use Rattle.std.proofs.Common.{◌≡◌, ℕ, List, [], ◌∷◌, ◌++◌, Bool, true, false, not, if◌then◌else◌, Option, None, Some, sym, ap, subst, inl, inr, ⊎_elim, ◌⊎◌}
use Rattle.std.specs.List.{list_any}
use Rattle.spec_base.specs.Specifier.{specifier_text}
use Rattle.url.specs.Parts.{Parts}
use Rattle.semver_npm.specs.declared.package.PackageNv.{PackageNv}
use Rattle.module_slots.specs.declared.load.Load.{Load}
use Rattle.module_slots.specs.declared.slot.ModuleSlot.{ModuleSlot}
use Rattle.graph_core.specs.Graph.{slot_at}
use Rattle.graph_turns.specs.declared.outcome.Outcome.{Outcome}
use Rattle.graph_turns.specs.declared.outcome.Outcome.TheVariants.{At, To}
use Rattle.graph_turns.specs.declared.passes.Chosen.{Chosen}
use Rattle.graph_turns.specs.declared.passes.Pass.{Pass}
use Rattle.graph_turns.specs.declared.state.State.{State}
use Rattle.graph_turns.specs.Machine.Passes.{all_entered, export_entered, exports_entered, exports_entered_in}
use Rattle.graph_turns.specs.Machine.Redirects.{redirected_end, moved}
use Rattle.graph_turns.specs.Machine.Turns.{deferred_entered, dynamic_entered, waited_imports, waited_loads}
use Rattle.graph_turns.specs.Promise.Reached.{in_package}
use Rattle.turn_laws.proofs.Budget.Pairs.{HasDeferred, HasPair, asset_open, pair_left, with_deferred}
use Rattle.graph_turns.proofs.Entering.Enter.{Entered, Edged, how_entered, how_edged}
use Rattle.graph_turns.proofs.Entering.Enter.Entered.{refused, waits, stood as found, unstated, node, no_package, no_npm_package, passed_through, stays as stays_there, awaits, opens, resolves}
use Rattle.graph_turns.proofs.Entering.Enter.Edged.{queues, enters}
use Rattle.graph_turns.proofs.Entering.Exports.{ExportEntered, how_export, used}
use Rattle.graph_turns.proofs.Entering.Exports.ExportEntered.{refused as export_refused, unjoined, ended, onward}
use Rattle.graph_turns.proofs.Entering.Rested.{Rests, and_last}
use Rattle.graph_turns.specs.Machine.Entering.{edges_from, enter, enter_all, enter_edge, enter_edges, hop, is_pending_asset_at, opens_asset, placed_at, redirected, redirects_ended, stored, stored_at, with_mark, is_end}

-- a text that is deferred is that of an open load of an asset, or has a property, as that such a load had its turn
abbrev pub DeferredBy : (List ℕ → Type 0) → State → Type 0
DeferredBy P s = (k : List ℕ) → HasDeferred k s.deferred → HasPair k true s.loads ⊎ P k

-- where nothing is deferred
pub none_deferred_by : (P : List ℕ → Type 0) (s : State) → s.deferred ≡ [] → DeferredBy P s
none_deferred_by P s none = λ k a. absurd (subst (HasDeferred k) none a)

pub deferred_as : (P Q : List ℕ → Type 0) (s : State) → ((k : List ℕ) → P k → Q k) → DeferredBy P s → DeferredBy Q s
deferred_as P Q s turns by = λ k a. ⊎_elim inl (λ p. inr (turns k p)) (by k a)

-- a load is taken
pub deferred_taken : (P : List ℕ → Type 0) (rest : State) (load : Load) → DeferredBy P (record rest { loads = load ∷ rest.loads }) → DeferredBy (λ k. P k ⊎ ((k ≡ specifier_text load.specifier) × (load.context.asset ≡ true))) rest
deferred_taken P rest load by = λ k a. ⊎_elim (λ h. ⊎_elim (λ e. inr (inr e)) inl h) (λ p. inr (inl p)) (by k a)

module _ (P : List ℕ → Type 0) where
  deferred_enter : (s : State) (load : Load) → DeferredBy P s → DeferredBy P (enter s load)
  deferred_enter s load by = by_entered (enter s load) (how_entered s load)
    where
      at : Parts
      at = redirected_end s.graph load.specifier

      by_entered : (u : State) → Entered s load.context (redirected_end s.graph load.specifier) u → DeferredBy P u
      by_entered u (refused e) = by
      by_entered u (waits h w) = λ k a. ⊎_elim (by k)
          (λ same. inl (subst (λ z. HasPair z true s.loads) (sym same) (asset_open at s.loads (and_last (not load.context.asset) (is_pending_asset_at (slot_at s.graph at)) (list_any (opens_asset at) s.loads) w))))
          (with_deferred k s.deferred at load.context a)
      by_entered u (found h) = by
      by_entered u (unstated f h e) = by
      by_entered u (node h n) = by
      by_entered u (no_package f h j n) = by
      by_entered u (no_npm_package f h j n) = by
      by_entered u (passed_through f h j n p) = by
      by_entered u (stays_there j t) = by
      by_entered u (awaits f h j n p) = by
      by_entered u (resolves free h j o n) = by
      by_entered u (opens free h n) = λ k a. ⊎_elim (λ o. inl (pair_left k true s.loads _ o)) inr (by k a)

  pub deferred_enter_all : (loads : List Load) (s : State) → DeferredBy P s → DeferredBy P (enter_all s loads)
  unfolding enter_all
  deferred_enter_all [] s by = by
  deferred_enter_all (load ∷ loads) s by = deferred_enter_all loads (enter s load) (deferred_enter s load by)

  deferred_edge : (s : State) (load : Load) → DeferredBy P s → DeferredBy P (enter_edge s load)
  deferred_edge s load by = by_edged (enter_edge s load) (how_edged s load)
    where
      by_edged : (u : State) → Edged s load u → DeferredBy P u
      by_edged u (queues p f) = by
      by_edged u enters = deferred_enter s (with_mark s.root_names load) by

  deferred_edges : (loads : List Load) (s : State) → DeferredBy P s → DeferredBy P (enter_edges s loads)
  unfolding enter_edges
  deferred_edges [] s by = by
  deferred_edges (load ∷ loads) s by = deferred_edges loads (enter_edge s load) (deferred_edge s load by)

  deferred_at_name : (s : State) (load : Load) (held : Option PackageNv) (name : Parts) (slot : ModuleSlot) → DeferredBy P s → DeferredBy P (stored_at s load held name slot)
  deferred_at_name s load held name slot by =
      deferred_edges (edges_from s.graph.kind s.flags.skip_dynamic_deps slot (in_package held load.context)) (placed_at s load held name slot) by

  pub deferred_stored : (most : ℕ) (s : State) (load : Load) (outcome : Outcome) → DeferredBy P s → DeferredBy P (stored most s load outcome)
  unfolding stored
  deferred_stored most s load (At name slot held None) by = deferred_at_name s load held name slot by
  deferred_stored most s load (At name slot held (Some l)) by = deferred_at_name (record s { contents = s.contents ++ l ∷ [] }) load held name slot by
  deferred_stored most s load (To n) by = by_end (is_end most s load n)
    where
      by_end : (b : Bool) → DeferredBy P (if b then redirects_ended s load else redirected s load n)
      by_end true = by
      by_end false = deferred_enter (record s { graph = moved s.graph load.specifier n }) (record { specifier = n; context = hop load.context; is_type = false }) by

  pub deferred_entered_by : (s : State) → DeferredBy P (deferred_entered s)
  unfolding deferred_entered
  deferred_entered_by s = deferred_enter_all (waited_loads s.deferred) (record s { deferred = [] }) (λ k a. absurd a)

  pub dynamic_entered_by : (s : State) → DeferredBy P s → DeferredBy P (dynamic_entered s)
  unfolding dynamic_entered
  dynamic_entered_by s by = deferred_enter_all (waited_imports s.root_names s.dynamic) (record s { dynamic = []; is_dynamic = true }) by

  -- ---- passes

  -- where nothing enters
  pub deferred_rests : (s u : State) → Rests s u → DeferredBy P s → DeferredBy P u
  deferred_rests s u rests by = λ k a. ⊎_elim (λ h. inl (subst (HasPair k true) (sym rests.loads) h)) inr (by k (subst (HasDeferred k) rests.deferred a))

  deferred_export : (s : State) (top : Bool) (one : Chosen) (u : State) → ExportEntered s top one u → DeferredBy P s → DeferredBy P u
  deferred_export s top one u (export_refused e) by = by
  deferred_export s top one u (unjoined e n) by = by
  deferred_export s top one u (ended e n b) by = by
  deferred_export s top one u (onward {e} {to} is n b) by =
      deferred_enter (record (used s top one e) { graph = moved (used s top one e).graph one.item.specifier to }) (record { specifier = to; context = in_package (Some one.nv) one.item.context; is_type = false }) by

  pub deferred_all_entered : (all : List Chosen) (s : State) (top : Bool) → DeferredBy P s → DeferredBy P (all_entered s top all)
  unfolding all_entered
  deferred_all_entered [] s top by = by
  deferred_all_entered (one ∷ others) s top by = deferred_all_entered others (export_entered s top one) top (deferred_export s top one (export_entered s top one) (how_export s top one) by)

  pub deferred_exports : (s : State) (p : Pass) → s.pass ≡ Some p → DeferredBy P s → DeferredBy P (exports_entered s)
  deferred_exports s p goes by = subst (DeferredBy P) (sym (ap (exports_entered_in s) goes)) (deferred_all_entered p.chosen (record s { pass = None }) p.is_top_level by)
