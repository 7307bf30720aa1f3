-- What a walk comes to, with no word of an order.
use Rattle.std.specs.Prelude.{◌≡◌, List, true, map, Some, None}
use Rattle.graph_dependencies.specs.Kinds.{include_types}
use Rattle.graph_core.specs.declared.graph.ModuleGraph.{ModuleGraph}
use Rattle.module_slots.specs.declared.slot.JsModule.{JsModule}
use Rattle.module_slots.specs.declared.slot.Module.{Module}
use Rattle.module_slots.specs.declared.slot.Module.TheVariants.{Js}
use Rattle.module_slots.specs.declared.slot.ModuleSlot.TheVariants.{Module as Stands}
use Rattle.graph_walk.specs.Lists.{Text, Among, Distinct}
use Rattle.graph_walk.specs.Options.{How}
use Rattle.graph_walk.specs.Order.{Named, target_in, types_target, redirect_text, slot_of, redirect_of, imported, follows, walked_dependencies, Entry, entry_at}

-- the walk takes this dependency of a module, and follows it
abbrev pub HasFollowed : How → Module → Named → Type 0
HasFollowed o m d = Among d (walked_dependencies o m) × (follows o d ≡ true)

-- the list holds the roots, the configured imports' targets, and what its members lead to
pub record IsWalkClosed (g : ModuleGraph) (o : How) (roots : List Text) (xs : List Text) : Type 0 where
  pub root : (s : Text) → Among s roots → Among s xs
  pub import_code : (d : Named) (t : Text) → Among d (imported g.imports) → target_in d.1.maybe_code ≡ Some t → Among t xs
  pub import_type : (d : Named) (t : Text) → Among d (imported g.imports) → include_types o.kind ≡ true → target_in d.1.maybe_type ≡ Some t → Among t xs
  pub redirect : (s t : Text) → Among s xs → slot_of g s ≡ None → redirect_text (redirect_of g s) ≡ Some t → Among t xs
  pub types : (s t : Text) (m : JsModule) → Among s xs → slot_of g s ≡ Some (Stands (Js m)) → include_types o.kind ≡ true → types_target m.maybe_types_dependency ≡ Some t → Among t xs
  pub code : (s t : Text) (m : Module) (d : Named) → Among s xs → slot_of g s ≡ Some (Stands m) → HasFollowed o m d → target_in d.1.maybe_code ≡ Some t → Among t xs
  pub type : (s t : Text) (m : Module) (d : Named) → Among s xs → slot_of g s ≡ Some (Stands m) → HasFollowed o m d → include_types o.kind ≡ true → target_in d.1.maybe_type ≡ Some t → Among t xs

-- every such list has it
abbrev pub Closure : ModuleGraph → How → List Text → Text → Type 0
Closure g o roots s = (xs : List Text) → IsWalkClosed g o roots xs → Among s xs

-- the entries are those of all that the closure has, where something stands that isn't passed over, each once
pub record GivesClosure (g : ModuleGraph) (o : How) (roots : List Text) (es : List (Text × Entry)) : Type 0 where
  pub within : (s : Text) (e : Entry) → Among (s, e) es → Closure g o roots s × (entry_at g o s ≡ Some e)
  pub all : (s : Text) (e : Entry) → Closure g o roots s → entry_at g o s ≡ Some e → Among (s, e) es
  pub once : Distinct (map (λ e. e.0) es)
