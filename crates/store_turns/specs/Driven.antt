-- What the steps of a build through a recorder keep.
use Rattle.std.specs.Prelude.{◌≡◌, List, Option, Some}
use Rattle.source_io.specs.declared.types.World.{World}
use Rattle.graph_core.specs.declared.graph.ModuleGraph.{ModuleGraph}
use Rattle.graph_store.specs.declared.entry.StoreEntry.{StoreEntry}
use Rattle.graph_turns.specs.declared.unresolved_input.LeftOver.{LeftOver}
use Rattle.graph_turns.specs.Promise.Told.{Told}
use Rattle.graph_builder.specs.Calls.Builds.{GoesBy}
use Rattle.graph_builder.specs.Calls.Steps.{BuildState}
use Rattle.open_loads.specs.Order.Means.{IsMeant, IsTold, Means}
use Rattle.store_turns.specs.Answering.{AreKept, Fits, IsStorable}

module _ {O : Type 0} where
  -- entries stay told by the loader's world, a build goes on by it, and by each world that fits what is kept, which fits what was kept
  -- before too
  pub record KeepsGoing (world : Option World) (means : Means) (old_es : List StoreEntry) (old : BuildState O) (new_es : List StoreEntry) (new : BuildState O) : Type 0 where
    pub entries : AreKept world old_es → AreKept world new_es
    pub fits : (w v : World) → world ≡ Some w → IsStorable w → AreKept world old_es → Fits new_es v → Fits old_es v
    pub by_world : (told : Told) (g : ModuleGraph) (given : LeftOver) → IsTold world means told g.kind → GoesBy told g given old → GoesBy told g given new
    pub by_kept : (w : World) (told : Told) (g : ModuleGraph) (given : LeftOver) → world ≡ Some w → IsStorable w → AreKept world old_es
        → IsMeant means told g.kind → Fits new_es told.world → GoesBy told g given old → GoesBy told g given new
