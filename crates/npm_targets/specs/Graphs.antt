-- A graph whose edges and roots that lead to npm are resolved again, without the modules of npm.
use Rattle.std.specs.Prelude.{◌≡◌, ℕ, List, [], ◌∷◌, ◌++◌, map, filter, flat_map, fold, Bool, true, false, not, Option, Some, None, option_map}
use Rattle.std.specs.List.{All}
use Rattle.std.specs.FinMap as finite
use Rattle.indexmap.specs.IndexSet.{insert_key, swap_remove_by}
use Rattle.url.specs.Parts.{Parts}
use Rattle.spec_base.specs.Options.{by_option}
use Rattle.spec_base.specs.Shown.{text_cmp}
use Rattle.spec_base.specs.Specifier.{same_specifier, specifier_text}
use Rattle.spec_base.specs.declared.position.Range.{Range}
use Rattle.graph_errors.specs.Resolutions.{specifier_in}
use Rattle.import_records.specs.Target.{target_of}
use Rattle.graph_dependencies.specs.declared.graph_import.GraphImport.{GraphImport}
use Rattle.graph_core.specs.declared.graph.ModuleGraph.{ModuleGraph}
use Rattle.module_slots.specs.declared.load.Load.{Load}
use Rattle.module_slots.specs.declared.load.LoadContext.{LoadContext}
use Rattle.module_slots.specs.declared.slot.JsModule.{JsModule}
use Rattle.module_slots.specs.declared.slot.Module.TheVariants.{Js, Json, Wasm, Npm, Node, External}
use Rattle.module_slots.specs.declared.slot.ModuleSlot.{ModuleSlot}
use Rattle.module_slots.specs.declared.slot.ModuleSlot.TheVariants.{Module as Stands, Err as Failed, Pending}
use Rattle.module_slots.specs.declared.slot.WasmModule.{WasmModule}
use Rattle.npm_targets.specs.Edges.{Repointing, all_loads_again, is_npm, repointed_all, repointed_types, types_loads_again}

-- ---- slots

abbrev pub repointed_script : Repointing → JsModule → JsModule
repointed_script how m = record m {
  dependencies = repointed_all how m.dependencies;
  maybe_types_dependency = option_map (repointed_types how) m.maybe_types_dependency;
}

abbrev pub repointed_wasm : Repointing → WasmModule → WasmModule
repointed_wasm how m = record m { dependencies = repointed_all how m.dependencies }

-- what is left at a slot: a module of npm is gone, and the edges of each other one are resolved again
abbrev pub repointed_slot : Repointing → ModuleSlot → Option ModuleSlot
repointed_slot how (Stands (Js m)) = Some (Stands (Js (repointed_script how m)))
repointed_slot how (Stands (Json m)) = Some (Stands (Json m))
repointed_slot how (Stands (Wasm m)) = Some (Stands (Wasm (repointed_wasm how m)))
repointed_slot how (Stands (Npm m)) = None
repointed_slot how (Stands (Node m)) = Some (Stands (Node m))
repointed_slot how (Stands (External m)) = Some (Stands (External m))
repointed_slot how (Failed e) = Some (Failed e)
repointed_slot how (Pending is_asset) = Some (Pending is_asset)

abbrev pub left_entry : Repointing → List ℕ × ModuleSlot → List (List ℕ × ModuleSlot)
left_entry how e = by_option (repointed_slot how e.1) [] (λ slot. (e.0, slot) ∷ [])

abbrev pub repointed_slots : Repointing → finite.FinMap text_cmp ModuleSlot → finite.FinMap text_cmp ModuleSlot
repointed_slots how slots = finite.from_entries (flat_map (left_entry how) (finite.entries slots))

-- where the types of a script lead then, and its dependencies
abbrev pub script_loads : Repointing → JsModule → List Load
script_loads how m = by_option m.maybe_types_dependency [] (types_loads_again how) ++ all_loads_again how m.dependencies

abbrev pub slot_loads : Repointing → ModuleSlot → List Load
slot_loads how (Stands (Js m)) = script_loads how m
slot_loads how (Stands (Json m)) = []
slot_loads how (Stands (Wasm m)) = all_loads_again how m.dependencies
slot_loads how (Stands (Npm m)) = []
slot_loads how (Stands (Node m)) = []
slot_loads how (Stands (External m)) = []
slot_loads how (Failed e) = []
slot_loads how (Pending is_asset) = []

-- ---- redirects

-- those to npm are gone
abbrev pub left_redirects : finite.FinMap text_cmp Parts → finite.FinMap text_cmp Parts
left_redirects redirects = finite.from_entries (filter (λ e. not (is_npm e.1)) (finite.entries redirects))

-- ---- configured imports

abbrev pub repointed_import : Repointing → GraphImport → GraphImport
repointed_import how i = record i { dependencies = repointed_all how i.dependencies }

abbrev pub repointed_imports : Repointing → List (Parts × GraphImport) → List (Parts × GraphImport)
repointed_imports how imports = map (λ e. (e.0, repointed_import how e.1)) imports

-- ---- roots

-- where a root leads from a folder, if it leads anywhere
abbrev pub root_target : Repointing → Range → Parts → Option Parts
root_target how range root = specifier_in (target_of how.resolving (specifier_text root) range how.kind None)

-- a root that leads somewhere changes places with the last one and goes, and where it leads stands last, if it is no root yet
abbrev pub exchanged : Repointing → Range → List Parts → Parts → List Parts
exchanged how range roots root =
    by_option (root_target how range root) roots (λ s. insert_key same_specifier (swap_remove_by (same_specifier root) roots) s)

abbrev pub repointed_roots : Repointing → Range → List Parts → List Parts
repointed_roots how range roots = fold (exchanged how range) roots (filter is_npm roots)

-- a root is loaded without an import that names it, and its question doesn't say that it is dynamic
abbrev pub root_context_again : Bool → LoadContext
root_context_again dynamic = record {
  attribute = None;
  asset = false;
  source_phase = None;
  range = None;
  in_dynamic_phase = dynamic;
  is_dynamic = false;
  is_root = true;
  hops = 0;
  «package» = None;
}

abbrev pub root_loads : Repointing → Range → Parts → List Load
root_loads how range root =
    by_option (root_target how range root) []
    (λ s. record { specifier = s; context = root_context_again how.in_dynamic_phase; is_type = false } ∷ [])

-- ---- the graph

-- its edges and roots that lead to npm are resolved again, the roots from a range, and its modules of npm are gone with the redirects
-- to them; all else stays
abbrev pub repointed_graph : Repointing → Range → ModuleGraph → ModuleGraph
repointed_graph how range g = record g {
  roots = repointed_roots how range g.roots;
  imports = repointed_imports how g.imports;
  redirects = left_redirects g.redirects;
  slots = repointed_slots how g.slots;
}

-- the loads of where they lead then, in the order of slots, imports and roots
abbrev pub repointed_loads : Repointing → Range → ModuleGraph → List Load
repointed_loads how range g =
    flat_map (λ e. slot_loads how e.1) (finite.entries g.slots)
    ++ flat_map (λ e. all_loads_again how e.1.dependencies) g.imports
    ++ flat_map (root_loads how range) (filter is_npm g.roots)

-- ---- by a resolver of which nothing is told

-- what is left at a slot: none of npm, a script or a WebAssembly module with other edges at most, and else what stood there
abbrev pub IsLeftAs : Option ModuleSlot → Option ModuleSlot → Type 0
IsLeftAs None n = n ≡ None
IsLeftAs (Some (Stands (Js m))) n =
    (x : JsModule) × (n ≡ Some (Stands (Js x))) × (x ≡ record m { dependencies = x.dependencies; maybe_types_dependency = x.maybe_types_dependency })
IsLeftAs (Some (Stands (Json m))) n = n ≡ Some (Stands (Json m))
IsLeftAs (Some (Stands (Wasm m))) n = (x : WasmModule) × (n ≡ Some (Stands (Wasm x))) × (x ≡ record m { dependencies = x.dependencies })
IsLeftAs (Some (Stands (Npm m))) n = n ≡ None
IsLeftAs (Some (Stands (Node m))) n = n ≡ Some (Stands (Node m))
IsLeftAs (Some (Stands (External m))) n = n ≡ Some (Stands (External m))
IsLeftAs (Some (Failed e)) n = n ≡ Some (Failed e)
IsLeftAs (Some (Pending is_asset)) n = n ≡ Some (Pending is_asset)

-- a load at no redirect yet and in no package
abbrev pub IsFromOutset : Load → Type 0
IsFromOutset load = (load.context.hops ≡ 0) × (load.context.«package» ≡ None)

-- loads to which only such ones were added
abbrev pub KeepsOutset : List Load → List Load → Type 0
KeepsOutset before after = All IsFromOutset before → All IsFromOutset after

-- a graph whose edges, imports and roots were resolved again: no module of npm is left and no redirect to npm, each other slot stands as
-- it did, but for the edges of modules, and what is to be loaded is at no redirect yet and in no package
pub record IsRepointed (g u : ModuleGraph) (loads : List Load) : Type 0 where
  pub rest : u ≡ record g { roots = u.roots; imports = u.imports; redirects = left_redirects g.redirects; slots = u.slots }
  pub slots : (t : List ℕ) → IsLeftAs (finite.get g.slots t) (finite.get u.slots t)
  pub outset : All IsFromOutset loads
