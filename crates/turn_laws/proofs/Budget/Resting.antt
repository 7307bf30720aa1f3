-- What still holds where what an answer gives was stored, and where deferred loads and dynamic imports enter.
use Rattle.std.proofs.Common.{◌≡◌, ℕ, List, [], ◌∷◌, ◌++◌, Bool, true, false, if◌then◌else◌, Option, None, Some, refl}
use Rattle.spec_base.specs.Specifier.{specifier_text}
use Rattle.module_slots.specs.declared.load.Load.{Load}
use Rattle.module_slots.specs.declared.slot.ModuleSlot.{ModuleSlot}
use Rattle.module_slots.specs.declared.slot.ModuleSlot.TheVariants.{Err as Failed}
use Rattle.graph_errors.specs.Errors.{redirects_error}
use Rattle.semver_npm.specs.declared.package.PackageNv.{PackageNv}
use Rattle.url.specs.Parts.{Parts}
use Rattle.graph_turns.specs.declared.outcome.Outcome.{Outcome}
use Rattle.graph_turns.specs.declared.outcome.Outcome.TheVariants.{At, To}
use Rattle.graph_turns.specs.declared.state.State.{State}
use Rattle.graph_turns.specs.Machine.Turns.{deferred_entered, dynamic_entered, waited_imports, waited_loads}
use Rattle.graph_turns.specs.Promise.Input.{EnteredGraph}
use Rattle.graph_turns.specs.Promise.Reached.{in_package}
use Rattle.turn_laws.proofs.Budget.Known.{Counted, counted_enter_all, counted_queued, no_asset}
use Rattle.turn_laws.proofs.Promise.Sound.{Sound, nothing, sound_edges}
use Rattle.turn_laws.proofs.Promise.SoundTurned.{taken_contents}
use Rattle.turn_laws.proofs.Promise.Storing.{Taken, not_back, sound_here, sound_named, sound_redirected}
use Rattle.graph_turns.specs.Machine.Entering.{IsFinal, edges_from, placed_at, redirected, redirects_ended, stored, stored_at, is_end}

module _ (o : EnteredGraph) (early : Type 0) where
  -- a slot at its name, and the edges from it
  sound_at_name : (s : State) (load : Load) (held : Option PackageNv) (name : Parts) (slot : ModuleSlot) → Taken o early (specifier_text load.specifier) s → IsFinal load (At name slot held None) → Sound o early nothing nothing [] (stored_at s load held name slot)
  sound_at_name s load held name slot took final =
      sound_edges o early nothing (edges_from s.graph.kind s.flags.skip_dynamic_deps slot (in_package held load.context)) (placed_at s load held name slot)
      (sound_named o early s load held name slot (in_package held load.context) took final.0 (no_asset o early s load held name slot took final))

  pub sound_stored : (most : ℕ) (s : State) (load : Load) (outcome : Outcome) → Taken o early (specifier_text load.specifier) s → IsFinal load outcome → Sound o early nothing nothing [] (stored most s load outcome)
  unfolding stored
  sound_stored most s load (At name slot held None) took final = sound_at_name s load held name slot took final
  sound_stored most s load (At name slot held (Some l)) took final =
      sound_at_name (record s { contents = s.contents ++ l ∷ [] }) load held name slot (taken_contents o early (specifier_text load.specifier) s (s.contents ++ l ∷ []) took) final
  sound_stored most s load (To n) took final = by_end (is_end most s load n) refl
    where
      by_end : (b : Bool) → is_end most s load n ≡ b → Sound o early nothing nothing [] (if b then redirects_ended s load else redirected s load n)
      by_end true t = sound_here o early s load (Failed (redirects_error load.specifier load.context.range)) load.context took refl
      by_end false f = sound_redirected o early n s load took (not_back _ _ f)

-- deferred loads and dynamic imports enter

pub counted_deferred : (asked : List Load) (s : State) → Counted asked s → Counted asked (deferred_entered s)
unfolding deferred_entered
counted_deferred asked s counted = counted_enter_all asked (waited_loads s.deferred) (record s { deferred = [] }) (counted_queued asked s _ refl refl counted)

pub counted_dynamic : (asked : List Load) (s : State) → Counted asked s → Counted asked (dynamic_entered s)
unfolding dynamic_entered
counted_dynamic asked s counted = counted_enter_all asked (waited_imports s.root_names s.dynamic) (record s { dynamic = []; is_dynamic = true }) (counted_queued asked s _ refl refl counted)
