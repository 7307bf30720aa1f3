-- What a reload leaves of a graph.
use Rattle.std.specs.Prelude.{◌≡◌, List, Some}
use Rattle.url.specs.Parts.{Parts}
use Rattle.spec_base.specs.Specifier.{specifier_text}
use Rattle.graph_core.specs.declared.graph.ModuleGraph.{ModuleGraph}
use Rattle.module_slots.specs.declared.slot.ModuleSlot.{ModuleSlot}
use Rattle.graph_core.specs.Graph.{resolved, slot_at}
use Rattle.graph_turns.specs.Machine.Redirects.{HasNoCircle}
use Rattle.turn_laws.specs.Promise.Complete.{IsCompleteFrom}
use Rattle.graph_turns.specs.Promise.Explains.{IsExplained}
use Rattle.graph_turns.specs.Promise.Input.{starts}
use Rattle.graph_turns.specs.Promise.Told.{Told}
use Rattle.turn_laws.specs.Promise.Reloads.{reload_entry}
use Rattle.graph_turns.specs.declared.flags.Flags.{Flags}

-- what a reload leaves of a graph: its roots and imports, nothing pending, all that was loaded leads to a slot, and each
-- circle of redirects has one on it
pub record IsReloaded (flags : Flags) (old : ModuleGraph) (given : List Parts) (new : ModuleGraph) : Type 0 where
  pub starts_stay : starts new ≡ starts old
  pub complete : IsCompleteFrom flags (reload_entry flags.is_dynamic old given) new
  pub no_circle : HasNoCircle new

-- the slot where a given specifier led is what the world's answers give a load leading to it, or gone
abbrev pub IsRenewed : Told → ModuleGraph → List Parts → ModuleGraph → Parts → Type 0
IsRenewed told old given new s = (slot : ModuleSlot) → slot_at new (resolved old s) ≡ Some slot → IsExplained told (reload_entry told.known.flags.is_dynamic old given) (specifier_text (resolved old s)) slot
