-- What kind of slot stands.
use Rattle.std.specs.Prelude.{Bool, true, false, Option, Some, None}
use Rattle.graph_errors.specs.Errors.{error_of}
use Rattle.graph_errors.specs.declared.errors.ModuleErrorKind.{ModuleErrorKind}
use Rattle.module_slots.specs.declared.slot.Module.TheVariants.{Js, Json, Wasm, Npm, Node, External}
use Rattle.module_slots.specs.declared.slot.ModuleSlot.{ModuleSlot}
use Rattle.module_slots.specs.declared.slot.ModuleSlot.TheVariants.{Module as Stands, Err as Failed, Pending}

-- whether a load is under way
abbrev pub is_pending : ModuleSlot → Bool
is_pending (Stands m) = false
is_pending (Failed e) = false
is_pending (Pending is_asset) = true

-- whether a load is under way there
abbrev pub is_pending_at : Option ModuleSlot → Bool
is_pending_at None = false
is_pending_at (Some slot) = is_pending slot

-- a module outside of the graph that is kept at hand alone
abbrev pub is_asset_slot : ModuleSlot → Bool
is_asset_slot (Stands (External m)) = m.was_asset_load
is_asset_slot (Stands (Js m)) = false
is_asset_slot (Stands (Json m)) = false
is_asset_slot (Stands (Wasm m)) = false
is_asset_slot (Stands (Npm m)) = false
is_asset_slot (Stands (Node m)) = false
is_asset_slot (Failed e) = false
is_asset_slot (Pending is_asset) = false

-- whether a load is under way of what is to be kept at hand alone
abbrev pub is_pending_asset : ModuleSlot → Bool
is_pending_asset (Stands m) = false
is_pending_asset (Failed e) = false
is_pending_asset (Pending is_asset) = is_asset

-- the slot of an error of a kind
abbrev pub failed_slot : ModuleErrorKind → ModuleSlot
failed_slot kind = Failed (error_of kind)
