-- When a walk has room for all that it may come to.
use Rattle.std.specs.Prelude.{◌≡◌, ◌≤◌, List, [], ◌∷◌, length, Option, Some, None}
use Rattle.graph_core.specs.declared.graph.ModuleGraph.{ModuleGraph}
use Rattle.graph_walk.specs.Lists.{Text, Among, Distinct, Within}
use Rattle.graph_walk.specs.Options.{How}
use Rattle.graph_walk.specs.Order.{FrontView, Entry, early, late, pending_adds, left, offered}

-- a list that holds the front and all that it leads to, and for which the front has room
pub record IsSound (g : ModuleGraph) (o : How) (all : List Text) (f : FrontView) : Type 0 where
  pub early_in : (s : Text) → Among s all → Within (early g o s) all
  pub late_in : (s : Text) → Among s all → Within (late g o s) all
  pub seen_in : Within f.front.seen all
  pub waiting_in : Within f.front.waiting all
  pub distinct : Distinct f.front.seen
  pub room : length all ≤ f.bound

-- a walk stays within one finite list of texts, with what its last entry has yet to add
abbrev pub IsReady : ModuleGraph → How → Option Text → FrontView → Type 0
IsReady g o last f = (all : List Text) × IsSound g o all f × Within (pending_adds g o last) all

-- the front's next entry, and what is left after it
abbrev pub GivesNext : ModuleGraph → How → FrontView → Option (Text × Entry) → FrontView → Type 0
GivesNext g o before None now = (left before.bound g o before.front ≡ []) × (left now.bound g o now.front ≡ []) × IsReady g o None now
GivesNext g o before (Some p) now = (left before.bound g o before.front ≡ p ∷ left now.bound g o (offered now.front (late g o p.0))) × IsReady g o (Some p.0) now
