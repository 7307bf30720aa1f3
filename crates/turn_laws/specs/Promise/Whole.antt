-- Graphs that are whole while a build goes on.
use Rattle.std.specs.Prelude.{All, Contains, true, false, List, Some, ℕ, ◌≡◌, ◌⊎◌}
use Rattle.std.specs.FinMap as finite
use Rattle.url.specs.Parts.{Parts}
use Rattle.graph_core.specs.declared.graph.ModuleGraph.{ModuleGraph}
use Rattle.module_slots.specs.declared.load.Load.{Load}
use Rattle.module_slots.specs.declared.load.LoadContext.{LoadContext}
use Rattle.module_slots.specs.declared.slot.Module.{Module}
use Rattle.module_slots.specs.declared.slot.ModuleSlot.TheVariants.{Module as Stands}
use Rattle.graph_core.specs.Edges.{loads_of}
use Rattle.graph_core.specs.Graph.{has_slot, HasLead, redirect_at}
use Rattle.graph_turns.specs.Machine.Redirects.{HasNoCircle}
use Rattle.graph_turns.specs.Promise.Reached.{IsSame}
use Rattle.module_slots.specs.declared.npm_load.NpmLoad.{NpmLoad}
use Rattle.graph_turns.specs.declared.passes.Chosen.{Chosen}
use Rattle.graph_turns.specs.declared.passes.Pass.{Pass}
use Rattle.graph_turns.specs.declared.state.State.{State}
use Rattle.graph_turns.specs.declared.waiting.WaitingPackage.{WaitingPackage}

-- a dynamic import of a specifier of this text waits
abbrev pub HasWait : Parts → List (Parts × Load) → Type 0
HasWait s waits = (e : Parts × Load) × Contains waits e × IsSame e.0 s

-- a `jsr:` specifier of this text waits for a pass, or stands in the one that goes on; or an `npm:` specifier waits for the end
pub data IsAwaited (s : State) (t : Parts) : Type 0 where
  waits : {item : WaitingPackage} → Contains s.waiting item → IsSame item.specifier t → IsAwaited s t
  stands : {p : Pass} {item : WaitingPackage} → s.pass ≡ Some p → Contains p.items item → IsSame item.specifier t → IsAwaited s t
  chosen : {p : Pass} {one : Chosen} → s.pass ≡ Some p → Contains p.chosen one → IsSame one.item.specifier t → IsAwaited s t
  resolves : {item : NpmLoad} → s.flags.resolves_npm ≡ true → Contains s.npm item → IsSame item.specifier t → IsAwaited s t

-- known redirects lead a specifier to one that waits so
pub data LeadsToAwaited (s : State) : Parts → Type 0 where
  here : {t : Parts} → IsAwaited s t → LeadsToAwaited s t
  along : {t n : Parts} → has_slot s.graph t ≡ false → redirect_at s.graph t ≡ Some n → LeadsToAwaited s n → LeadsToAwaited s t

-- an edge leads to a slot, waits for the dynamic phase, or leads to a specifier that waits for a pass or the end
abbrev pub LeadsOrWaits : State → Load → Type 0
LeadsOrWaits s load = HasLead s.graph load.specifier ⊎ (HasWait load.specifier s.dynamic ⊎ LeadsToAwaited s load.specifier)

-- the state of a build that goes on, over a graph that was handed in: each followed edge of a module that was stored
-- since leads to a slot, pending or not, or waits for the dynamic phase, a pass or the end, and each circle of redirects has a slot on it
pub record IsWholeState (handed_in : ModuleGraph) (s : State) : Type 0 where
  pub edges_lead : (k : List ℕ) (m : Module) (c : LoadContext) → finite.get s.graph.slots k ≡ Some (Stands m) → (finite.get handed_in.slots k ≡ Some (Stands m) → ⊥) → All (LeadsOrWaits s) (loads_of s.graph.kind s.flags.skip_dynamic_deps m c)
  pub no_circle : HasNoCircle s.graph
