-- Static before dynamic: what a walk that follows no dynamic import finds is what static imports give.
use Rattle.std.specs.Prelude.{◌≡◌, ℕ, true, false, List, Contains, None, Some}
use Rattle.url.specs.Parts.{Parts}
use Rattle.spec_base.specs.Specifier.{specifier_text}
use Rattle.graph_dependencies.specs.declared.dependency.Dependency.{Dependency}
use Rattle.graph_dependencies.specs.declared.dependency.TypesDependency.{TypesDependency}
use Rattle.graph_dependencies.specs.declared.graph_import.GraphImport.{GraphImport}
use Rattle.graph_core.specs.declared.graph.ModuleGraph.{ModuleGraph}
use Rattle.module_slots.specs.declared.load.Load.{Load}
use Rattle.module_slots.specs.declared.load.LoadContext.{LoadContext}
use Rattle.graph_errors.specs.declared.resolution.Resolution.{Resolution}
use Rattle.graph_errors.specs.declared.resolution.Resolution.TheVariants.{Ok as Leads}
use Rattle.graph_errors.specs.declared.resolution.ResolutionResolved.{ResolutionResolved}
use Rattle.module_slots.specs.declared.slot.JsModule.{JsModule}
use Rattle.module_slots.specs.declared.slot.Module.{Module}
use Rattle.module_slots.specs.declared.slot.Module.TheVariants.{Js}
use Rattle.module_slots.specs.declared.slot.ModuleSlot.{ModuleSlot}
use Rattle.module_slots.specs.declared.slot.ModuleSlot.TheVariants.{Module as Stands}
use Rattle.graph_core.specs.Graph.{slot_at, has_slot, redirect_at}
use Rattle.module_slots.specs.Modules.{module_dependencies}
use Rattle.graph_turns.specs.Promise.Explains.{Explains}
use Rattle.graph_turns.specs.Promise.Input.{Given, fresh_entry}
use Rattle.graph_turns.specs.Promise.Reached.{Reached, IsEdge, IsSame}
use Rattle.slot_making.specs.declared.source.Source.{Source}
use Rattle.graph_errors.specs.declared.jsr_error.JsrLoadError.{JsrLoadError}
use Rattle.graph_turns.specs.declared.question_of.Asked.{Asked}
use Rattle.graph_turns.specs.declared.manner.Manner.TheVariants.{Unread}
use Rattle.graph_turns.specs.Promise.Taken.{Found, HasModuleName, CountsFor, told_manner}
use Rattle.graph_turns.specs.Promise.Told.{Told}

-- a dependency leads to a specifier, by its code or its type
pub data IsTarget (d : Dependency) : Parts → Type 0 where
  code : {r : ResolutionResolved} → d.maybe_code ≡ Leads r → IsTarget d r.specifier
  type : {r : ResolutionResolved} → d.maybe_type ≡ Leads r → IsTarget d r.specifier

-- what static imports lead to from the roots and the configured imports
pub data IsMet (g : ModuleGraph) : Parts → Type 0 where
  root : {s : Parts} → Contains g.roots s → IsMet g s
  imported : {i : Parts × GraphImport} {d : List ℕ × Dependency} {t : Parts} → Contains g.imports i → Contains i.1.dependencies d → IsTarget d.1 t → IsMet g t
  redirected : {s t : Parts} → IsMet g s → has_slot g s ≡ false → redirect_at g s ≡ Some t → IsMet g t
  depended : {s t : Parts} {m : Module} {ds : List (List ℕ × Dependency)} {d : List ℕ × Dependency} → IsMet g s → slot_at g s ≡ Some (Stands m) → module_dependencies m ≡ Some ds → Contains ds d → d.1.is_dynamic ≡ false → IsTarget d.1 t → IsMet g t
  typed : {s : Parts} {m : JsModule} {t : TypesDependency} {r : ResolutionResolved} → IsMet g s → slot_at g s ≡ Some (Stands (Js m)) → m.maybe_types_dependency ≡ Some t → t.dependency ≡ Leads r → IsMet g r.specifier

module _ (told : Told) (given : Given) where
  -- a pair that a build of what is given into the empty graph reaches
  abbrev pub IsReachedFresh : Parts → LoadContext → Type 0
  IsReachedFresh s c = Reached told (fresh_entry told given) s c

  -- where static imports come before dynamic ones: the build begins in the static phase, without an npm resolver, each module is named as
  -- it was asked for and comes with its content, each version file is read, and no edge is one of an asset
  pub record IsSettledStatically : Type 0 where
    pub begins : told.known.flags.is_dynamic ≡ false
    pub resolves_no_npm : told.known.flags.resolves_npm ≡ false
    pub named : (s n : Parts) (c : LoadContext) → IsReachedFresh s c → HasModuleName told s c n → IsSame n s
    pub whole : (s : Parts) (c : LoadContext) (asked : Asked) (source : Source) → IsReachedFresh s c → CountsFor told s c asked (Found source) → source.info ≡ None
    pub read : (s n : Parts) (c : LoadContext) (e : JsrLoadError) → IsReachedFresh s c → told_manner told s c ≡ Unread n e → ⊥
    pub no_asset : (s : Parts) (c : LoadContext) (load : Load) → IsReachedFresh s c → IsEdge told given.kind s c load → load.context.asset ≡ false

  -- a pair in the static phase explains the slot at a text
  abbrev pub IsExplainedStatically : List ℕ → ModuleSlot → Type 0
  IsExplainedStatically k slot = (s : Parts) × (c : LoadContext) × IsReachedFresh s c × (c.in_dynamic_phase ≡ false) × Explains told (fresh_entry told given) s c k slot

  -- each slot that static imports lead to is what a static import gives
  abbrev pub StaticFirst : ModuleGraph → Type 0
  StaticFirst g = (s : Parts) (slot : ModuleSlot) → IsMet g s → slot_at g s ≡ Some slot → IsExplainedStatically (specifier_text s) slot
