-- What a module holds.
use Rattle.std.specs.Prelude.{ℕ, List, Option, Some, None}
use Rattle.url.specs.Parts.{Parts}
use Rattle.media_types.specs.declared.media.MediaType.{MediaType}
use Rattle.media_types.specs.declared.media.MediaType.TheVariants.{JavaScript, Unknown, Wasm as WasmMedia}
use Rattle.graph_dependencies.specs.declared.dependency.Dependency.{Dependency}
use Rattle.graph_dependencies.specs.declared.dependency.TypesDependency.{TypesDependency}
use Rattle.module_slots.specs.declared.fast_check.FastCheckDiagnostic.{FastCheckDiagnostic}
use Rattle.module_slots.specs.declared.fast_check.FastCheckTypeModule.{FastCheckTypeModule}
use Rattle.module_slots.specs.declared.fast_check.FastCheckTypeModuleSlot.{FastCheckTypeModuleSlot}
use Rattle.module_slots.specs.declared.fast_check.FastCheckTypeModuleSlot.TheVariants.{Module as Found, Error as Refused}
use Rattle.module_slots.specs.declared.slot.BuiltInNodeModule.{BuiltInNodeModule}
use Rattle.module_slots.specs.declared.slot.ExternalModule.{ExternalModule}
use Rattle.module_slots.specs.declared.slot.JsModule.{JsModule}
use Rattle.module_slots.specs.declared.slot.JsonModule.{JsonModule}
use Rattle.module_slots.specs.declared.slot.Module.{Module}
use Rattle.module_slots.specs.declared.slot.NpmModule.{NpmModule}
use Rattle.module_slots.specs.declared.slot.Module.TheVariants.{Js, Json, Wasm, Npm, Node, External}

abbrev pub module_specifier : Module → Parts
module_specifier (Js m) = m.specifier
module_specifier (Json m) = m.specifier
module_specifier (Wasm m) = m.specifier
module_specifier (Npm m) = m.specifier
module_specifier (Node m) = m.specifier
module_specifier (External m) = m.specifier

abbrev pub module_media : Module → MediaType
module_media (Js m) = m.media_type
module_media (Json m) = m.media_type
module_media (Wasm m) = WasmMedia
module_media (Npm m) = Unknown
module_media (Node m) = JavaScript
module_media (External m) = Unknown

-- the text, of a module that has one
abbrev pub module_text : Module → Option (List ℕ)
module_text (Js m) = Some m.source.text
module_text (Json m) = Some m.source.text
module_text (Wasm m) = None
module_text (Npm m) = None
module_text (Node m) = None
module_text (External m) = None

-- the dependencies, of a module that has some
abbrev pub module_dependencies : Module → Option (List (List ℕ × Dependency))
module_dependencies (Js m) = Some m.dependencies
module_dependencies (Json m) = None
module_dependencies (Wasm m) = Some m.dependencies
module_dependencies (Npm m) = None
module_dependencies (Node m) = None
module_dependencies (External m) = None

-- ---- what a fast check found

abbrev pub found_in : Option FastCheckTypeModuleSlot → Option FastCheckTypeModule
found_in None = None
found_in (Some (Found m)) = Some m
found_in (Some (Refused ds)) = None

abbrev pub refused_in : Option FastCheckTypeModuleSlot → Option (List FastCheckDiagnostic)
refused_in None = None
refused_in (Some (Found m)) = None
refused_in (Some (Refused ds)) = Some ds

-- the module that it found
abbrev pub fast_check_module : JsModule → Option FastCheckTypeModule
fast_check_module m = found_in m.fast_check

-- why it found none
abbrev pub fast_check_diagnostics : JsModule → Option (List FastCheckDiagnostic)
fast_check_diagnostics m = refused_in m.fast_check

abbrev pub dependencies_found : List (List ℕ × Dependency) → Option FastCheckTypeModule → List (List ℕ × Dependency)
dependencies_found own None = own
dependencies_found own (Some m) = m.dependencies

-- the dependencies of the module that it found, else the script's own
abbrev pub dependencies_prefer_fast_check : JsModule → List (List ℕ × Dependency)
dependencies_prefer_fast_check m = dependencies_found m.dependencies (fast_check_module m)

abbrev pub module_dependencies_prefer_fast_check : Module → Option (List (List ℕ × Dependency))
module_dependencies_prefer_fast_check (Js m) = Some (dependencies_prefer_fast_check m)
module_dependencies_prefer_fast_check (Json m) = None
module_dependencies_prefer_fast_check (Wasm m) = Some m.dependencies
module_dependencies_prefer_fast_check (Npm m) = None
module_dependencies_prefer_fast_check (Node m) = None
module_dependencies_prefer_fast_check (External m) = None

-- ---- more of a module

-- where the types stand, of a module that tells it
abbrev pub module_types : Module → Option TypesDependency
module_types (Js m) = m.maybe_types_dependency
module_types (Json m) = None
module_types (Wasm m) = None
module_types (Npm m) = None
module_types (Node m) = None
module_types (External m) = None

abbrev pub as_script : Module → Option JsModule
as_script (Js m) = Some m
as_script (Json m) = None
as_script (Wasm m) = None
as_script (Npm m) = None
as_script (Node m) = None
as_script (External m) = None

abbrev pub as_npm : Module → Option NpmModule
as_npm (Js m) = None
as_npm (Json m) = None
as_npm (Wasm m) = None
as_npm (Npm m) = Some m
as_npm (Node m) = None
as_npm (External m) = None

abbrev pub as_node : Module → Option BuiltInNodeModule
as_node (Js m) = None
as_node (Json m) = None
as_node (Wasm m) = None
as_node (Npm m) = None
as_node (Node m) = Some m
as_node (External m) = None

abbrev pub as_external : Module → Option ExternalModule
as_external (Js m) = None
as_external (Json m) = None
as_external (Wasm m) = None
as_external (Npm m) = None
as_external (Node m) = None
as_external (External m) = Some m

abbrev pub as_json : Module → Option JsonModule
as_json (Js m) = None
as_json (Json m) = Some m
as_json (Wasm m) = None
as_json (Npm m) = None
as_json (Node m) = None
as_json (External m) = None

-- when the source of a module was last changed
abbrev pub module_mtime : Module → Option ℕ
module_mtime (Js m) = m.mtime
module_mtime (Json m) = m.mtime
module_mtime (Wasm m) = m.mtime
module_mtime (Npm m) = None
module_mtime (Node m) = None
module_mtime (External m) = None
