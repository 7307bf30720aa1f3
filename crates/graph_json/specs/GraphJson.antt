-- What a graph prints as JSON: tables of members, each with its value where it stands.
use Rattle.std.specs.Prelude.{ℕ, Bool, ◌&&◌, nat_lt, ◌==◌, List, [], ◌∷◌, length, codes, map, Option, Some, None, option_map, if◌then◌else◌}
use Rattle.std.specs.List.{list_all}
use Rattle.std.specs.Option.{unwrap_or}
use Rattle.std.specs.FinMap as finite
use Rattle.serde_json.specs.Data.{Data, null, number, unsigned, string}
use Rattle.url.specs.Parts.{Parts, serialize}
use Rattle.semver_npm.specs.Packages.{nv_text, req_text}
use Rattle.semver_npm.specs.declared.package.PackageNv.{PackageNv}
use Rattle.semver_npm.specs.declared.package.PackageReq.{PackageReq}
use Rattle.media_types.specs.Media.{media_name}
use Rattle.media_types.specs.declared.media.MediaType.{MediaType}
use Rattle.media_types.specs.declared.media.MediaType.TheVariants.{Unknown}
use Rattle.spec_base.specs.declared.position.Position.{Position}
use Rattle.spec_base.specs.declared.position.PositionRange.{PositionRange}
use Rattle.spec_base.specs.declared.position.Range.{Range}
use Rattle.spec_base.specs.declared.position.ResolutionMode.{ResolutionMode}
use Rattle.spec_base.specs.declared.position.ResolutionMode.TheVariants.{Import as ImportMode, Require}
use Rattle.json_forms.specs.Rows.{Rows, object_of, list_json, if_any, if_true}
use Rattle.graph_errors.specs.Errors.{error_text, resolution_error_text}
use Rattle.graph_dependencies.specs.Kinds.{is_source_phase}
use Rattle.graph_errors.specs.Resolutions.{failed_range}
use Rattle.graph_dependencies.specs.declared.dependency.Dependency.{Dependency}
use Rattle.graph_dependencies.specs.declared.dependency.Import.{Import}
use Rattle.graph_dependencies.specs.declared.dependency.TypesDependency.{TypesDependency}
use Rattle.graph_core.specs.declared.graph.ModuleGraph.{ModuleGraph}
use Rattle.graph_dependencies.specs.declared.graph_import.GraphImport.{GraphImport}
use Rattle.graph_errors.specs.declared.resolution.Resolution.{Resolution}
use Rattle.graph_errors.specs.declared.resolution.Resolution.TheVariants.{None as Nowhere, Ok as Leads, Err as Fails}
use Rattle.source_io.specs.declared.types.CacheInfo.{CacheInfo}
use Rattle.module_slots.specs.declared.slot.JsModule.{JsModule}
use Rattle.module_slots.specs.declared.slot.JsonModule.{JsonModule}
use Rattle.module_slots.specs.declared.slot.Module.{Module}
use Rattle.module_slots.specs.declared.slot.Module.TheVariants.{Js, Json, Wasm, Npm, Node, External}
use Rattle.module_slots.specs.declared.slot.ModuleSlot.{ModuleSlot}
use Rattle.module_slots.specs.declared.slot.ModuleSlot.TheVariants.{Module as Stands, Err as Failed, Pending}
use Rattle.module_slots.specs.declared.slot.WasmModule.{WasmModule}

abbrev pub specifier_json : Parts → Data
specifier_json s = string (serialize s)

-- the number of bytes
abbrev pub size_json : List ℕ → Data
size_json bytes = number (unsigned (length bytes))

-- ---- places

abbrev pub position_rows : Position → Rows
position_rows p =
    (codes "character", Some (number (unsigned p.character))) ∷ (codes "line", Some (number (unsigned p.line))) ∷ []

abbrev pub position_object : Position → Data
position_object p = object_of (position_rows p)

abbrev pub span_rows : PositionRange → Rows
span_rows r = (codes "end", Some (position_object r.end)) ∷ (codes "start", Some (position_object r.start)) ∷ []

abbrev pub span_json : PositionRange → Data
span_json r = object_of (span_rows r)

abbrev pub mode_json : ResolutionMode → Data
mode_json ImportMode = string (codes "import")
mode_json Require = string (codes "require")

-- ---- resolutions and dependencies

-- a resolution: what it is under a name, and the range of its text
abbrev pub resolution_rows : List ℕ → Data → Range → Rows
resolution_rows name value r =
    (name, Some value) ∷ (codes "resolutionMode", option_map mode_json r.resolution_mode) ∷ (codes "span", Some (span_json r.range)) ∷ []

-- a resolution that stands where something was resolved
abbrev pub if_resolved : Resolution → Option Data
if_resolved Nowhere = None
if_resolved (Leads r) = Some (object_of (resolution_rows (codes "specifier") (specifier_json r.specifier) r.range))
if_resolved (Fails e) = Some (object_of (resolution_rows (codes "error") (string (resolution_error_text e)) (failed_range e)))

-- null where nothing was resolved
abbrev pub resolution_json : Resolution → Data
resolution_json r = unwrap_or (if_resolved r) null

-- the value of the attribute `type`, where one is known
abbrev pub attribute_json : Option (List ℕ) → Option Data
attribute_json attribute = option_map string attribute

-- whether there are imports, and all of them are in the source phase
abbrev pub is_source : List Import → Bool
is_source is = nat_lt 0 (length is) && list_all (λ (i : Import). is_source_phase i.kind) is

-- the phase in which a module is imported, where it isn't that in which it is run
abbrev pub phase_json : List Import → Option Data
phase_json is = if is_source is then Some (string (codes "source")) else None

abbrev pub dependency_rows : List ℕ × Dependency → Rows
dependency_rows e =
    (codes "assertionType", attribute_json e.1.maybe_attribute_type) ∷ (codes "code", if_resolved e.1.maybe_code)
    ∷ (codes "isDynamic", if_true e.1.is_dynamic) ∷ (codes "phase", phase_json e.1.imports)
    ∷ (codes "specifier", Some (string e.0)) ∷ (codes "type", if_resolved e.1.maybe_type) ∷ []

abbrev pub dependency_json : List ℕ × Dependency → Data
dependency_json e = object_of (dependency_rows e)

-- where the types or the source map of a module stand
abbrev pub types_dependency_rows : TypesDependency → Rows
types_dependency_rows t =
    (codes "dependency", Some (resolution_json t.dependency)) ∷ (codes "specifier", Some (string t.specifier)) ∷ []

abbrev pub types_dependency_json : TypesDependency → Data
types_dependency_json t = object_of (types_dependency_rows t)

-- ---- modules

-- a media type that stands where it is known
abbrev pub media_json : MediaType → Option Data
media_json Unknown = None
media_json media = Some (string (media_name media))

-- the path of a cached copy, or null where none is known
abbrev pub path_json : Option (List ℕ) → Data
path_json None = null
path_json (Some path) = string path

-- what is known of a cached copy, where it is told
abbrev pub local_json : Option CacheInfo → Option Data
local_json None = None
local_json (Some info) = Some (path_json info.local)

abbrev pub script_rows : JsModule → Rows
script_rows m =
    (codes "dependencies", if_any dependency_json m.dependencies) ∷ (codes "kind", Some (string (codes "esm")))
    ∷ (codes "local", local_json m.maybe_cache_info)
    ∷ (codes "maybeSourceMapDependency", option_map types_dependency_json m.maybe_source_map_dependency)
    ∷ (codes "mediaType", media_json m.media_type) ∷ (codes "size", Some (size_json m.source.text))
    ∷ (codes "specifier", Some (specifier_json m.specifier))
    ∷ (codes "typesDependency", option_map types_dependency_json m.maybe_types_dependency) ∷ []

abbrev pub asserted_rows : JsonModule → Rows
asserted_rows m =
    (codes "kind", Some (string (codes "asserted"))) ∷ (codes "local", local_json m.maybe_cache_info) ∷ (codes "mediaType", media_json m.media_type)
    ∷ (codes "size", Some (size_json m.source.text)) ∷ (codes "specifier", Some (specifier_json m.specifier)) ∷ []

abbrev pub wasm_rows : WasmModule → Rows
wasm_rows m =
    (codes "dependencies", if_any dependency_json m.dependencies) ∷ (codes "kind", Some (string (codes "wasm")))
    ∷ (codes "local", local_json m.maybe_cache_info) ∷ (codes "size", Some (size_json m.source)) ∷ (codes "specifier", Some (specifier_json m.specifier)) ∷ []

-- a module of which the kind and the specifier are told, for Node.js its name, and outside of the graph its cached copy
abbrev pub outside_rows : List ℕ → Option CacheInfo → Option Data → Parts → Rows
outside_rows kind info name s =
    (codes "kind", Some (string kind)) ∷ (codes "local", local_json info) ∷ (codes "moduleName", name) ∷ (codes "specifier", Some (specifier_json s)) ∷ []

abbrev pub module_json : Module → Data
module_json (Js m) = object_of (script_rows m)
module_json (Json m) = object_of (asserted_rows m)
module_json (Wasm m) = object_of (wasm_rows m)
module_json (Npm m) = object_of (outside_rows (codes "npm") None None m.specifier)
module_json (Node m) = object_of (outside_rows (codes "node") None (Some (string m.module_name)) m.specifier)
module_json (External m) = object_of (outside_rows (codes "external") m.maybe_cache_info None m.specifier)

abbrev pub error_rows : List ℕ → List ℕ → Rows
error_rows text key = (codes "error", Some (string text)) ∷ (codes "specifier", Some (string key)) ∷ []

-- what stands at the text of a specifier
abbrev pub by_slot : List ℕ → ModuleSlot → Data
by_slot key (Stands m) = module_json m
by_slot key (Failed error) = object_of (error_rows (error_text error) key)
by_slot key (Pending is_asset) = object_of (error_rows (codes "[INTERNAL ERROR] A pending module load never completed.") key)

abbrev pub slot_json : List ℕ × ModuleSlot → Data
slot_json e = by_slot e.0 e.1

-- ---- the graph

-- where a specifier is redirected, under its text
abbrev pub redirect_row : List ℕ × Parts → List ℕ × Option Data
redirect_row e = (e.0, Some (specifier_json e.1))

-- the configured imports of one referrer
abbrev pub import_rows : Parts × GraphImport → Rows
import_rows e =
    (codes "dependencies", Some (list_json dependency_json e.1.dependencies)) ∷ (codes "referrer", Some (specifier_json e.0)) ∷ []

abbrev pub import_json : Parts × GraphImport → Data
import_json e = object_of (import_rows e)

-- the version that a requirement leads to, under the requirement's text
abbrev pub package_row : PackageReq × PackageNv → List ℕ × Option Data
package_row e = (req_text e.0, Some (string (nv_text e.1)))

-- the versions that requirements lead to, where there are some
abbrev pub packages_json : List (PackageReq × PackageNv) → Option Data
packages_json es = if length es == 0 then None else Some (object_of (map package_row es))

-- the configured imports, the slots in the order of their specifiers' texts, the versions that requirements lead to, the
-- redirects in the order of their specifiers' texts, and the roots
abbrev pub graph_rows : ModuleGraph → Rows
graph_rows g =
    (codes "imports", if_any import_json g.imports)
    ∷ (codes "modules", Some (list_json slot_json (finite.entries g.slots))) ∷ (codes "packages", packages_json g.packages.package_reqs)
    ∷ (codes "redirects", Some (object_of (map redirect_row (finite.entries g.redirects))))
    ∷ (codes "roots", Some (list_json specifier_json g.roots)) ∷ []

unfoldable pub graph_json : ModuleGraph → Data
graph_json g = object_of (graph_rows g)
