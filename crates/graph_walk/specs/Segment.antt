-- A part of a graph: the entries of a walk from some roots, as a graph of these roots.
use Rattle.std.specs.Prelude.{◌≡◌, Bool, List, [], ◌∷◌, true, false, fold, Some, None, Ok, if◌then◌else◌}
use Rattle.std.specs.List.{list_all, list_any}
use Rattle.std.specs.FinMap as finite
use Rattle.indexmap.specs.IndexSet.{insert_key}
use Rattle.url.specs.Parts.{Parts}
use Rattle.spec_base.specs.Specifier.{same_specifier}
use Rattle.graph_core.specs.declared.graph.ModuleGraph.{ModuleGraph}
use Rattle.module_slots.specs.declared.slot.ModuleSlot.{ModuleSlot}
use Rattle.module_slots.specs.declared.slot.ModuleSlot.TheVariants.{Module as Stands, Err as Failed}
use Rattle.graph_walk.specs.Lists.{Text}
use Rattle.graph_walk.specs.Options.{How}
use Rattle.graph_walk.specs.Order.{Entry, entry_at, walk_order, texts}
use Rattle.graph_walk.specs.Closure.{Closure}
use Rattle.graph_walk.specs.Order.Entry.{OfModule, OfError, Redirected}

-- a graph with an entry put at a text
abbrev pub put_entry : ModuleGraph → Text → Entry → ModuleGraph
put_entry g s (OfModule m) = record g { slots = finite.insert g.slots s (Stands m) }
put_entry g s (OfError e) = record g { slots = finite.insert g.slots s (Failed e) }
put_entry g s (Redirected t) = record g { redirects = finite.insert g.redirects s t }

-- a graph with entries put one after the other
unfoldable pub put_entries : ModuleGraph → List (Text × Entry) → ModuleGraph
put_entries g [] = g
put_entries g (e ∷ es) = put_entries (put_entry g e.0 e.1) es

-- code and types of a graph's own kind, dynamic imports too
abbrev pub segment_how : ModuleGraph → How
segment_how g = record { kind = g.kind; follow_dynamic = true; prefers_fast_check = false; checks = λ _. true }

-- the given roots in order, each once
abbrev pub each_root : List Parts → List Parts
each_root roots = fold (insert_key same_specifier) [] roots

-- the graph of these roots that has no slot and no redirect
abbrev pub segment_start : ModuleGraph → List Parts → ModuleGraph
segment_start g roots = record { roots = each_root roots; imports = g.imports; redirects = finite.empty; has_node_specifier = g.has_node_specifier; packages = g.packages; npm_dep_graph_result = Ok tt; kind = g.kind; slots = finite.empty }

-- what the walk from the roots gives, as a graph of these roots
abbrev pub walked_part : ModuleGraph → List Parts → ModuleGraph
walked_part g roots = put_entries (segment_start g roots) (walk_order g (segment_how g) (texts roots))

-- whether each of these roots is a root of the graph
abbrev pub are_roots : ModuleGraph → List Parts → Bool
are_roots g roots = list_all (λ r. list_any (same_specifier r) g.roots) roots

-- the whole graph where all of them are its roots already
abbrev pub segment_of : ModuleGraph → List Parts → ModuleGraph
segment_of g roots = if are_roots g roots then g else walked_part g roots

-- its slots and redirects are those of the walk's entries
pub record IsSegment (g : ModuleGraph) (o : How) (roots : List Text) (new : ModuleGraph) : Type 0 where
  pub slots : (s : Text) (slot : ModuleSlot) → finite.get new.slots s ≡ Some slot → Closure g o roots s × (finite.get g.slots s ≡ Some slot)
  pub redirects : (s : Text) (t : Parts) → finite.get new.redirects s ≡ Some t → Closure g o roots s × (finite.get g.slots s ≡ None) × (finite.get g.redirects s ≡ Some t)
  pub kept_slots : (s : Text) (e : Entry) (slot : ModuleSlot) → Closure g o roots s → entry_at g o s ≡ Some e → finite.get g.slots s ≡ Some slot → finite.get new.slots s ≡ Some slot
  pub kept_redirects : (s : Text) (t : Parts) → Closure g o roots s → finite.get g.slots s ≡ None → finite.get g.redirects s ≡ Some t → finite.get new.redirects s ≡ Some t
