-- Which slots are taken out of a graph to note what is told of copies: those of modules that may have one.
use Rattle.std.specs.Prelude.{ℕ, List, map, filter, Bool, true, false}
use Rattle.module_slots.specs.declared.slot.Module.TheVariants.{Js, Json, Wasm, Npm, Node, External}
use Rattle.module_slots.specs.declared.slot.ModuleSlot.{ModuleSlot}
use Rattle.module_slots.specs.declared.slot.ModuleSlot.TheVariants.{Module as Stands, Err as Failed, Pending}

abbrev pub has_copy : ModuleSlot → Bool
has_copy (Stands (Js m)) = true
has_copy (Stands (Json m)) = true
has_copy (Stands (Wasm m)) = true
has_copy (Stands (Npm m)) = false
has_copy (Stands (Node m)) = false
has_copy (Stands (External m)) = true
has_copy (Failed e) = false
has_copy (Pending is_asset) = false

-- the texts where such slots stand, in order
abbrev pub with_copies : List (List ℕ × ModuleSlot) → List (List ℕ)
with_copies entries = map (λ e. e.0) (filter (λ e. has_copy e.1) entries)
