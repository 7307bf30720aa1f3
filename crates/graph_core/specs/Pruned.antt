-- What is left of a graph without types: some of its slots and redirects, each slot freed of its types.
use Rattle.std.specs.Prelude.{◌≡◌, ◌&&◌, not, List, [], ℕ, map, Bool, bytes_eq, None, option_map, if◌then◌else◌}
use Rattle.std.specs.FinMap as finite
use Rattle.std.specs.List.{list_any}
use Rattle.url.specs.Parts.{Parts}
use Rattle.spec_base.specs.Specifier.{specifier_text}
use Rattle.graph_errors.specs.declared.resolution.Resolution.TheVariants.{None as Nowhere}
use Rattle.graph_dependencies.specs.declared.dependency.Dependency.{Dependency}
use Rattle.graph_dependencies.specs.declared.graph_kind.GraphKind.TheVariants.{CodeOnly}
use Rattle.graph_core.specs.declared.graph.ModuleGraph.{ModuleGraph}
use Rattle.module_slots.specs.declared.slot.JsModule.{JsModule}
use Rattle.module_slots.specs.declared.slot.Module.TheVariants.{Js, Json, Wasm, Npm, Node, External}
use Rattle.module_slots.specs.declared.slot.ModuleSlot.{ModuleSlot}
use Rattle.module_slots.specs.declared.slot.WasmModule.{WasmModule}
use Rattle.module_slots.specs.declared.slot.ModuleSlot.TheVariants.{Module as Stands, Err as Failed, Pending}

-- ---- what has no types

-- a dependency loses the resolution of its types, and the text that names them
abbrev pub freed_dependency : Dependency → Dependency
freed_dependency d = record d { maybe_type = Nowhere; maybe_deno_types_specifier = None }

abbrev pub freed_named : List ℕ × Dependency → List ℕ × Dependency
freed_named d = (d.0, freed_dependency d.1)

-- a script loses those of its dependencies, where its own types stand, and what a fast check found; where its source map stands is kept
abbrev pub freed_script : JsModule → JsModule
freed_script m = record m { dependencies = map freed_named m.dependencies; maybe_types_dependency = None; fast_check = None }

-- a WebAssembly module loses those of its dependencies, and its declaration
abbrev pub freed_wasm : WasmModule → WasmModule
freed_wasm m = record m { dependencies = map freed_named m.dependencies; source_dts = [] }

abbrev pub freed_slot : ModuleSlot → ModuleSlot
freed_slot (Stands (Js m)) = Stands (Js (freed_script m))
freed_slot (Stands (Json m)) = Stands (Json m)
freed_slot (Stands (Wasm m)) = Stands (Wasm (freed_wasm m))
freed_slot (Stands (Npm m)) = Stands (Npm m)
freed_slot (Stands (Node m)) = Stands (Node m)
freed_slot (Stands (External m)) = Stands (External m)
freed_slot (Failed e) = Failed e
freed_slot (Pending is_asset) = Pending is_asset

-- ---- what is left

-- whether a text is that of one of some specifiers
abbrev pub has_text_of : List Parts → List ℕ → Bool
has_text_of kept t = list_any (λ s. bytes_eq t (specifier_text s)) kept

-- whether the slot at a text is left: its specifier is among those that are kept, and no redirect stands there, which is looked for
-- before the slot
abbrev pub keeps_slot : List Parts → ModuleGraph → List ℕ → Bool
keeps_slot kept g t = has_text_of kept t && not (finite.contains_key g.redirects t)

-- of a graph that loses its types the slots and redirects at some specifiers are left, each slot freed; it has no configured
-- imports any more, its roots and packages and what was said of npm stay, and its kind is code alone
pub record IsPrunedTo (kept : List Parts) (has_node : Bool) (g u : ModuleGraph) : Type 0 where
  pub roots : u.roots ≡ g.roots
  pub imports : u.imports ≡ []
  pub redirects : (t : List ℕ) → finite.get u.redirects t ≡ (if has_text_of kept t then finite.get g.redirects t else None)
  pub node : u.has_node_specifier ≡ has_node
  pub packages : u.packages ≡ g.packages
  pub npm : u.npm_dep_graph_result ≡ g.npm_dep_graph_result
  pub kind : u.kind ≡ CodeOnly
  pub slots : (t : List ℕ) → finite.get u.slots t ≡ (if keeps_slot kept g t then option_map freed_slot (finite.get g.slots t) else None)
