-- The graphs over which a pruning and the walk over code come to the same, and what such a pruning leaves.
use Rattle.std.specs.Prelude.{◌≡◌, bytes_eq, Bool, Some, None, if◌then◌else◌}
use Rattle.std.specs.List.{list_any}
use Rattle.std.specs.Option.{option_map}
use Rattle.url.specs.Parts.{Parts}
use Rattle.graph_dependencies.specs.declared.graph_kind.GraphKind.{GraphKind}
use Rattle.graph_core.specs.declared.graph.ModuleGraph.{ModuleGraph}
use Rattle.module_slots.specs.declared.slot.ModuleSlot.{ModuleSlot}
use Rattle.module_slots.specs.declared.slot.ModuleSlot.TheVariants.{Pending}
use Rattle.graph_core.specs.Pruned.{freed_slot}
use Rattle.graph_walk.specs.Lists.{Text, Among}
use Rattle.graph_walk.specs.Order.{Named, target_in, imported, slot_of, redirect_of, texts, walk_order}
use Rattle.graph_walk.specs.Prune.{prune_how}

-- no specifier has both a slot and a redirect, no slot is pending, and the configured imports lead to types alone
pub record IsTidy (g : ModuleGraph) : Type 0 where
  pub disjoint : (s : Text) (slot : ModuleSlot) (t : Parts) → slot_of g s ≡ Some slot → redirect_of g s ≡ Some t → ⊥
  pub settled : (s : Text) (is_asset : Bool) → slot_of g s ≡ Some (Pending is_asset) → ⊥
  pub types_alone : (d : Named) → Among d (imported g.imports) → target_in d.1.maybe_code ≡ None

-- whether the walk over code from the graph's roots, along dynamic imports too, gives an entry at a specifier
abbrev pub is_walked : ModuleGraph → Text → Bool
is_walked g s = list_any (λ e. bytes_eq s e.0) (walk_order g prune_how (texts g.roots))

-- the slots and redirects of that walk's entries are left, and no others, each slot freed of its types
pub record LeavesWalked (g u : ModuleGraph) : Type 0 where
  pub slots : (s : Text) → slot_of u s ≡ (if is_walked g s then option_map freed_slot (slot_of g s) else None)
  pub redirects : (s : Text) → redirect_of u s ≡ (if is_walked g s then redirect_of g s else None)

-- the same graph, said to be of another kind
abbrev pub of_kind : GraphKind → ModuleGraph → ModuleGraph
of_kind kind g = record g { kind = kind }
