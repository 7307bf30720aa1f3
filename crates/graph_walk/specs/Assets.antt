-- Where the assets of a graph stand.
use Rattle.std.specs.Prelude.{◌≡◌, Bool, List, [], ◌∷◌, Option, Some, None, bytes_eq, flat_map, if◌then◌else◌}
use Rattle.std.specs.Borrow.{Bor}
use Rattle.std.specs.List.{list_all}
use Rattle.indexmap.specs.IndexSet.{insert_all}
use Rattle.url.specs.Parts.{Parts}
use Rattle.module_info.specs.Attributes.{has_asset}
use Rattle.spec_base.specs.Specifier.{specifier_text}
use Rattle.graph_errors.specs.Resolutions.{specifier_in}
use Rattle.graph_dependencies.specs.declared.dependency.Dependency.{Dependency}
use Rattle.graph_core.specs.Graph.{resolved}
use Rattle.module_slots.specs.Modules.{module_dependencies}
use Rattle.graph_core.specs.declared.graph.ModuleGraph.{ModuleGraph}
use Rattle.module_slots.specs.declared.slot.Module.{Module}
use Rattle.graph_walk.specs.Lent.{lent_texts}
use Rattle.graph_walk.specs.Lists.{Text}
use Rattle.graph_walk.specs.Members.{modules_of}
use Rattle.graph_walk.specs.Order.{Named}

-- each of its imports has an asset's type; the source phase alone doesn't count
abbrev pub all_have_asset_type : Dependency → Bool
all_have_asset_type d = list_all (λ i. has_asset i.attributes) d.imports

-- where a target's redirects end, as a list of at most one place
abbrev pub place_behind : ModuleGraph → Option Parts → List Text
place_behind g None = []
place_behind g (Some s) = specifier_text (resolved g s) ∷ []

-- where the code of an asset leads along redirects
abbrev pub asset_place : ModuleGraph → Dependency → List Text
asset_place g d = if all_have_asset_type d then place_behind g (specifier_in d.maybe_code) else []

-- the places of the assets among dependencies
abbrev pub assets_among : ModuleGraph → List Named → List Text
assets_among g ds = flat_map (λ d. asset_place g d.1) ds

-- the places of the assets of a module that has dependencies
abbrev pub assets_in : ModuleGraph → Option (List Named) → List Text
assets_in g None = []
assets_in g (Some ds) = assets_among g ds

-- the places of the assets of a module
abbrev pub module_assets : ModuleGraph → Module → List Text
module_assets g m = assets_in g (module_dependencies m)

-- the places of the assets of all modules in the order of their specifiers, each once where it comes first
abbrev pub asset_places : ModuleGraph → List Text
asset_places g = insert_all bytes_eq [] (flat_map (module_assets g) (modules_of g))

-- these texts were put after those of some specifiers, each once where it comes first
abbrev pub Adds : List Text → List (Bor Parts) → List (Bor Parts) → Type 0
Adds more before now = lent_texts now ≡ insert_all bytes_eq (lent_texts before) more
