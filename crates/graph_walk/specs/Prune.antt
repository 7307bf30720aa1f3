-- What is left where a graph loses its types: of the least list that holds the roots, redirects' targets and code targets.
use Rattle.std.specs.Prelude.{◌≡◌, ◌&&◌, not, Bool, List, [], ◌∷◌, Option, Some, None, true, false}
use Rattle.std.specs.FinMap as finite
use Rattle.std.specs.List.{list_any}
use Rattle.url.specs.Parts.{Parts}
use Rattle.spec_base.specs.Specifier.{specifier_text}
use Rattle.graph_core.specs.declared.graph.ModuleGraph.{ModuleGraph}
use Rattle.graph_dependencies.specs.declared.graph_kind.GraphKind.{GraphKind}
use Rattle.graph_dependencies.specs.declared.graph_kind.GraphKind.TheVariants.{All, CodeOnly, TypesOnly}
use Rattle.module_slots.specs.declared.slot.Module.TheVariants.{Js, Json, Wasm, Npm, Node, External}
use Rattle.module_slots.specs.declared.slot.ModuleSlot.{ModuleSlot}
use Rattle.module_slots.specs.declared.slot.ModuleSlot.TheVariants.{Module as Stands, Err as Failed, Pending}
use Rattle.graph_core.specs.Pruned.{IsPrunedTo}
use Rattle.graph_walk.specs.Lists.{Text, Among, Within}
use Rattle.graph_walk.specs.Options.{How}
use Rattle.graph_walk.specs.Order.{late_at_slot, slot_of, redirect_of, texts}

-- how pruning walks: over code, dynamic imports included
abbrev pub prune_how : How
prune_how = record { kind = CodeOnly; follow_dynamic = true; prefers_fast_check = false; checks = λ _. true }

-- the code targets of a slot
abbrev pub codes : Option ModuleSlot → List Text
codes None = []
codes (Some slot) = late_at_slot prune_how slot

-- a redirect is looked for before the slot
abbrev pub prune_of : Option Parts → Option ModuleSlot → List Text
prune_of None slot = codes slot
prune_of (Some t) slot = specifier_text t ∷ []

-- what pruning goes on to from a text
unfoldable pub prune_adds : ModuleGraph → Text → List Text
prune_adds g s = prune_of (redirect_of g s) (slot_of g s)

-- a set of texts that has the roots, and all that pruning goes on to from its members
pub record IsPruneClosed (g : ModuleGraph) (xs : List Text) : Type 0 where
  pub root : Within (texts g.roots) xs
  pub adds : (s : Text) → Among s xs → Within (prune_adds g s) xs

-- the least such list
abbrev pub IsPruned : ModuleGraph → List Text → Type 0
IsPruned g xs = IsPruneClosed g xs × ((ys : List Text) → IsPruneClosed g ys → Within xs ys)

-- ---- what is left

-- a slot has a module that Node provides
abbrev pub is_node : Option ModuleSlot → Bool
is_node None = false
is_node (Some (Stands (Js m))) = false
is_node (Some (Stands (Json m))) = false
is_node (Some (Stands (Wasm m))) = false
is_node (Some (Stands (Npm m))) = false
is_node (Some (Stands (Node m))) = true
is_node (Some (Stands (External m))) = false
is_node (Some (Failed e)) = false
is_node (Some (Pending is_asset)) = false

-- whether a module that was walked is one of Node
abbrev pub is_node_at : ModuleGraph → Text → Bool
is_node_at g s = not (finite.contains_key g.redirects s) && is_node (slot_of g s)

-- one of the kept specifiers has a module that Node provides
abbrev pub has_node : ModuleGraph → List Parts → Bool
has_node g kept = list_any (λ s. is_node_at g (specifier_text s)) kept

-- the slots and redirects of the least such list are left, freed of types
pub record LosesTypes (g u : ModuleGraph) : Type 0 where
  pub kept : List Parts
  pub least : IsPruned g (texts kept)
  pub left : IsPrunedTo kept (has_node g kept) g u

-- a graph of code alone stays as it is
abbrev pub prunes_by : GraphKind → ModuleGraph → ModuleGraph → Type 0
prunes_by CodeOnly g u = u ≡ g
prunes_by All g u = LosesTypes g u
prunes_by TypesOnly g u = LosesTypes g u

-- a graph is the pruned one of another
abbrev pub Prunes : ModuleGraph → ModuleGraph → Type 0
Prunes g u = prunes_by g.kind g u
