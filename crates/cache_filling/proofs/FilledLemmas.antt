-- Slots that stay, and slots that are filled.
use Rattle.std.proofs.Common.{◌≡◌, true, false, Option, None, Some, refl, sym}
use Rattle.std.specs.Prelude.{IfSome}
use Rattle.source_io.specs.declared.types.World.{World}
use Rattle.module_slots.specs.declared.slot.Module.TheVariants.{Js, Json, Wasm, Npm, Node, External}
use Rattle.module_slots.specs.declared.slot.ModuleSlot.{ModuleSlot}
use Rattle.module_slots.specs.declared.slot.ModuleSlot.TheVariants.{Module as Stands, Err as Failed, Pending}
use Rattle.cache_filling.specs.Copies.{has_copy}
use Rattle.cache_filling.specs.Filled.{IsFilledAt, IsTold, info_in, with_info}

-- nothing is told of a slot without a copy
nothing : (world : Option World) (slot : ModuleSlot) → ((w : World) → info_in w slot ≡ None) → with_info None slot ≡ slot → IsTold world slot slot
nothing world slot none same = record { info = None; told = by world; filled = sym same }
  where
    by : (o : Option World) → IfSome o (λ w. None ≡ info_in w slot)
    by None = tt
    by (Some w) = sym (none w)

untold : (world : Option World) (slot : ModuleSlot) → has_copy slot ≡ false → IsTold world slot slot
untold world (Stands (Js m)) e = cc
untold world (Stands (Json m)) e = cc
untold world (Stands (Wasm m)) e = cc
untold world (Stands (Npm m)) e = nothing world (Stands (Npm m)) (λ w. refl) refl
untold world (Stands (Node m)) e = nothing world (Stands (Node m)) (λ w. refl) refl
untold world (Stands (External m)) e = cc
untold world (Failed error) e = nothing world (Failed error) (λ w. refl) refl
untold world (Pending is_asset) e = nothing world (Pending is_asset) (λ w. refl) refl

-- a slot without a copy is filled as it is
pub filled_same : (world : Option World) (slot : ModuleSlot) → has_copy slot ≡ false → IsFilledAt world (Some slot) (Some slot)
filled_same world slot e = (slot, refl, untold world slot e)
