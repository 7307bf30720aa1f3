-- What a loader tells of cached copies, noted at the modules of a graph.
use Rattle.std.specs.Prelude.{◌≡◌, ℕ, List, Bool, true, false, Option, None, Some, IfSome}
use Rattle.std.specs.FinMap as finite
use Rattle.source_io.specs.Answers.{cache_info_of}
use Rattle.source_io.specs.declared.types.CacheInfo.{CacheInfo}
use Rattle.source_io.specs.declared.types.World.{World}
use Rattle.graph_core.specs.declared.graph.ModuleGraph.{ModuleGraph}
use Rattle.module_slots.specs.declared.slot.Module.TheVariants.{Js, Json, Wasm, Npm, Node, External}
use Rattle.module_slots.specs.declared.slot.ModuleSlot.{ModuleSlot}
use Rattle.module_slots.specs.declared.slot.ModuleSlot.TheVariants.{Module as Stands, Err as Failed, Pending}

-- a slot whose module has this told of its copy; a package of npm and a module of Node.js have none
abbrev pub with_info : Option CacheInfo → ModuleSlot → ModuleSlot
with_info info (Stands (Js m)) = Stands (Js (record m { maybe_cache_info = info }))
with_info info (Stands (Json m)) = Stands (Json (record m { maybe_cache_info = info }))
with_info info (Stands (Wasm m)) = Stands (Wasm (record m { maybe_cache_info = info }))
with_info info (Stands (Npm m)) = Stands (Npm m)
with_info info (Stands (Node m)) = Stands (Node m)
with_info info (Stands (External m)) = Stands (External (record m { maybe_cache_info = info }))
with_info info (Failed e) = Failed e
with_info info (Pending is_asset) = Pending is_asset

-- what a world lists of the copy of a slot's module, by the module's specifier
abbrev pub info_in : World → ModuleSlot → Option CacheInfo
info_in w (Stands (Js m)) = cache_info_of w m.specifier
info_in w (Stands (Json m)) = cache_info_of w m.specifier
info_in w (Stands (Wasm m)) = cache_info_of w m.specifier
info_in w (Stands (Npm m)) = None
info_in w (Stands (Node m)) = None
info_in w (Stands (External m)) = cache_info_of w m.specifier
info_in w (Failed e) = None
info_in w (Pending is_asset) = None

-- one slot is the other with what is told of its module's copy; where a world is told, it is what that lists
pub record IsTold (world : Option World) (old new : ModuleSlot) : Type 0 where
  pub info : Option CacheInfo
  pub told : IfSome world (λ w. info ≡ info_in w old)
  pub filled : new ≡ with_info info old

-- the same where no slot may stand
abbrev pub IsFilledAt : Option World → Option ModuleSlot → Option ModuleSlot → Type 0
IsFilledAt world None o = o ≡ None
IsFilledAt world (Some old) o = (new : ModuleSlot) × (o ≡ Some new) × IsTold world old new

-- a graph with what is told of the copies of its modules, which is otherwise as it was
pub record IsFilled (world : Option World) (g u : ModuleGraph) : Type 0 where
  pub rest : u ≡ record g { slots = u.slots }
  pub slots : (t : List ℕ) → IsFilledAt world (finite.get g.slots t) (finite.get u.slots t)
