-- What holds while a pruning collects.
use Rattle.std.specs.Prelude.{◌≤◌, List, length, ◌⊎◌}
use Rattle.graph_core.specs.declared.graph.ModuleGraph.{ModuleGraph}
use Rattle.graph_walk.specs.Order.{FrontView, texts}
use Rattle.graph_walk.specs.Lists.{Text, Among, Distinct, Within}
use Rattle.graph_walk.specs.Prune.{prune_adds, IsPruneClosed}

-- how far pruning is: what was seen and what waits stand within one finite list of texts, each once
pub record Pruning (g : ModuleGraph) (f : FrontView) : Type 0 where
  pub all : List Text
  pub adds_in : (s : Text) → Within (prune_adds g s) all
  pub seen_in : Within f.front.seen all
  pub waiting_in : Within f.front.waiting all
  pub distinct : Distinct f.front.seen
  pub were_seen : Within f.front.waiting f.front.seen
  pub once : Distinct f.front.waiting
  pub room : length all ≤ f.bound
  pub roots_in : Within (texts g.roots) f.front.seen
  pub done : (s : Text) → Among s f.front.seen → Among s f.front.waiting ⊎ Within (prune_adds g s) f.front.seen
  pub least : (xs : List Text) → IsPruneClosed g xs → Within f.front.seen xs
