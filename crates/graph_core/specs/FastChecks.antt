-- What fast checks found, stored at the scripts of a graph.
use Rattle.std.specs.Prelude.{◌≡◌, ℕ, Bool, List, [], ◌∷◌, bytes_eq, Option, None, Some, option_map, if◌then◌else◌}
use Rattle.std.specs.Option.{option_or}
use Rattle.std.specs.FinMap as finite
use Rattle.url.specs.Parts.{Parts}
use Rattle.spec_base.specs.Specifier.{specifier_text}
use Rattle.graph_dependencies.specs.Kinds.{include_types}
use Rattle.module_slots.specs.declared.fast_check.FastCheckTypeModuleSlot.{FastCheckTypeModuleSlot}
use Rattle.graph_core.specs.declared.graph.ModuleGraph.{ModuleGraph}
use Rattle.module_slots.specs.declared.slot.Module.TheVariants.{Js}
use Rattle.module_slots.specs.declared.slot.ModuleSlot.{ModuleSlot}
use Rattle.module_slots.specs.declared.slot.ModuleSlot.TheVariants.{Module as Stands}

-- a slot with what a fast check found: a script keeps it, and every other slot stays as it is
abbrev pub checked_slot : FastCheckTypeModuleSlot → ModuleSlot → ModuleSlot
checked_slot found (Stands (Js m)) = Stands (Js (record m { fast_check = Some found }))
checked_slot found slot = slot

abbrev pub with_found : Option FastCheckTypeModuleSlot → ModuleSlot → ModuleSlot
with_found None slot = slot
with_found (Some found) slot = checked_slot found slot

-- what was found at the specifier of this text, where that is this specifier
abbrev pub found_at : Parts → FastCheckTypeModuleSlot → List ℕ → Option FastCheckTypeModuleSlot
found_at s found t = if bytes_eq t (specifier_text s) then Some found else None

-- the last that was found at the specifier of a text
unfoldable pub last_found : List (Parts × FastCheckTypeModuleSlot) → List ℕ → Option FastCheckTypeModuleSlot
last_found [] t = None
last_found (e ∷ es) t = option_or (last_found es t) (found_at e.0 e.1 t)

-- what counts of all that was found: a graph without types keeps none of it
abbrev pub kept_found : Bool → List (Parts × FastCheckTypeModuleSlot) → List ℕ → Option FastCheckTypeModuleSlot
kept_found with_types found t = if with_types then last_found found t else None

-- a graph whose scripts have what was found at them last, where it holds types, and which is otherwise as it was
pub record IsChecked (found : List (Parts × FastCheckTypeModuleSlot)) (g u : ModuleGraph) : Type 0 where
  pub rest : u ≡ record g { slots = u.slots }
  pub slots : (t : List ℕ) → finite.get u.slots t ≡ option_map (with_found (kept_found (include_types g.kind) found t)) (finite.get g.slots t)
