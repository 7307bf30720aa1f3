-- Which slots are taken out of a graph to be resolved again: those of npm, and those of modules with an edge that is resolved again.
use Rattle.std.specs.Prelude.{ℕ, List, map, filter, Bool, true, false, ◌||◌, Option, is_some}
use Rattle.std.specs.List.{list_any}
use Rattle.spec_base.specs.Options.{by_option}
use Rattle.spec_base.specs.declared.position.ResolutionKind.{ResolutionKind}
use Rattle.graph_dependencies.specs.declared.dependency.Dependency.{Dependency}
use Rattle.graph_dependencies.specs.declared.dependency.TypesDependency.{TypesDependency}
use Rattle.module_slots.specs.declared.slot.Module.TheVariants.{Js, Json, Wasm, Npm, Node, External}
use Rattle.module_slots.specs.declared.slot.ModuleSlot.{ModuleSlot}
use Rattle.module_slots.specs.declared.slot.ModuleSlot.TheVariants.{Module as Stands, Err as Failed, Pending}
use Rattle.npm_targets.specs.Edges.{range_again, types_range_again}

-- some dependency is resolved again
abbrev pub has_again : ResolutionKind → List (List ℕ × Dependency) → Bool
has_again kind dependencies = list_any (λ e. is_some (range_again kind e.1)) dependencies

-- the types are resolved again
abbrev pub has_types_again : ResolutionKind → Option TypesDependency → Bool
has_types_again kind types = by_option types false (λ t. is_some (types_range_again kind t))

-- a module of npm stands there
abbrev pub is_npm_slot : ModuleSlot → Bool
is_npm_slot (Stands (Js m)) = false
is_npm_slot (Stands (Json m)) = false
is_npm_slot (Stands (Wasm m)) = false
is_npm_slot (Stands (Npm m)) = true
is_npm_slot (Stands (Node m)) = false
is_npm_slot (Stands (External m)) = false
is_npm_slot (Failed e) = false
is_npm_slot (Pending is_asset) = false

abbrev pub changes : ResolutionKind → ModuleSlot → Bool
changes kind (Stands (Js m)) = has_types_again kind m.maybe_types_dependency || has_again kind m.dependencies
changes kind (Stands (Json m)) = false
changes kind (Stands (Wasm m)) = has_again kind m.dependencies
changes kind (Stands (Npm m)) = true
changes kind (Stands (Node m)) = false
changes kind (Stands (External m)) = false
changes kind (Failed e) = false
changes kind (Pending is_asset) = false

-- the texts where such slots stand, in order
abbrev pub changing : ResolutionKind → List (List ℕ × ModuleSlot) → List (List ℕ)
changing kind entries = map (λ e. e.0) (filter (λ e. changes kind e.1) entries)
