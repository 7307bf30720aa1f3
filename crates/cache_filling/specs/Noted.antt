-- Graphs at whose modules it is noted what a loader tells of cached copies.
use Rattle.std.specs.Prelude.{◌≡◌, Bool, true, false, Option}
use Rattle.source_io.specs.declared.types.World.{World}
use Rattle.graph_core.specs.declared.graph.ModuleGraph.{ModuleGraph}
use Rattle.cache_filling.specs.Filled.{IsFilled}

-- where the loader is to be asked about cached copies, what it tells is noted at the modules of a graph; else the graph is as it was
abbrev pub NotesCopies : Bool → Option World → ModuleGraph → ModuleGraph → Type 0
NotesCopies true world g u = IsFilled world g u
NotesCopies false world g u = u ≡ g

-- a graph of which something holds but for what is noted of cached copies
pub record Noted (caches : Bool) (world : Option World) (P : ModuleGraph → Type 0) (u : ModuleGraph) : Type 0 where
  pub bare : ModuleGraph
  pub holds : P bare
  pub notes : NotesCopies caches world bare u
