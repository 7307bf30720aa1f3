-- The errors of a walk.
use Rattle.std.specs.Prelude.{◌≡◌, ℕ, ◌+◌, List, [], ◌∷◌, ◌++◌, length, reverse, Bool, true, false, ◌&&◌, Option, Some, None, Ok, Err, Result, if◌then◌else◌, option_to_list, is_some, MatchOption, MatchResult}
use Rattle.url.specs.Parts.{Parts}
use Rattle.spec_base.specs.declared.position.Range.{Range}
use Rattle.graph_errors.specs.Errors.{missing_error, missing_dynamic_error}
use Rattle.graph_core.specs.Graph.{slot_at, resolved}
use Rattle.graph_dependencies.specs.Kinds.{include_types}
use Rattle.graph_walk.specs.Crossing.{is_downgrade, is_local_import}
use Rattle.graph_dependencies.specs.declared.dependency.TypesDependency.{TypesDependency}
use Rattle.graph_errors.specs.declared.errors.ModuleError.{ModuleError}
use Rattle.graph_errors.specs.declared.errors.ModuleErrorKind.{ModuleErrorKind}
use Rattle.graph_errors.specs.declared.errors.ModuleErrorKind.TheVariants.{Load, Missing, MissingDynamic, Parse, WasmParse, UnsupportedMediaType, InvalidTypeAssertion, UnsupportedImportAttributeType, UnsupportedModuleTypeForSourcePhaseImport}
use Rattle.graph_errors.specs.declared.errors.ModuleGraphError.{ModuleGraphError}
use Rattle.graph_errors.specs.declared.errors.ModuleGraphError.TheVariants.{ModuleError as OfModuleError, ResolutionError as OfResolution, TypesResolutionError as OfTypes}
use Rattle.graph_core.specs.declared.graph.ModuleGraph.{ModuleGraph}
use Rattle.graph_dependencies.specs.declared.graph_kind.GraphKind.TheVariants.{CodeOnly}
use Rattle.graph_errors.specs.declared.resolution.Resolution.{Resolution}
use Rattle.graph_errors.specs.declared.resolution.Resolution.TheVariants.{None as Nowhere, Ok as Leads, Err as Fails}
use Rattle.graph_errors.specs.declared.resolution.ResolutionError.{ResolutionError}
use Rattle.graph_errors.specs.declared.resolution.ResolutionError.TheVariants.{InvalidDowngrade, InvalidLocalImport}
use Rattle.graph_errors.specs.declared.resolution.ResolutionResolved.{ResolutionResolved}
use Rattle.module_slots.specs.declared.slot.Module.{Module}
use Rattle.module_slots.specs.declared.slot.Module.TheVariants.{Js, Json, Wasm, Npm, Node, External}
use Rattle.module_slots.specs.declared.slot.WasmModule.{WasmModule}
use Rattle.module_slots.specs.declared.slot.ModuleSlot.{ModuleSlot}
use Rattle.module_slots.specs.declared.slot.ModuleSlot.TheVariants.{Module as Stands, Err as Failed, Pending}
use Rattle.graph_walk.specs.Lists.{Text}
use Rattle.graph_walk.specs.Options.{How, is_checkable}
use Rattle.graph_walk.specs.Order.{Named, Entry, WalkView, walked, follows, rest, walk_order, texts}
use Rattle.graph_walk.specs.Order.Entry.{OfModule, OfError, Redirected}

-- ---- one edge

-- an edge, by the text that names it: whether it is one of types, and whether its dependency is dynamic
pub record Edge : Type 0 where
  pub here : Parts
  pub text : Text
  pub is_type : Bool
  pub is_dynamic : Bool

-- a resolution's error, by whether the edge is of types
abbrev pub as_error : Bool → ResolutionError → ModuleGraphError
as_error is_type e = if is_type then OfTypes e else OfResolution e

-- of a missing module: its specifier and who is to blame
abbrev pub missing_kind : ModuleErrorKind → Option (Parts × Option Range)
missing_kind (Load s r e) = None
missing_kind (Missing s r) = Some (s, r)
missing_kind (MissingDynamic s r) = None
missing_kind (Parse s t d) = None
missing_kind (WasmParse s t r) = None
missing_kind (UnsupportedMediaType s m r) = None
missing_kind (InvalidTypeAssertion s r m e) = None
missing_kind (UnsupportedImportAttributeType s r k) = None
missing_kind (UnsupportedModuleTypeForSourcePhaseImport s r m k) = None

-- the specifier that a failed slot says is missing, and who asked for it
abbrev pub missing_of : ModuleError → Option (Parts × Option Range)
missing_of e = missing_kind e.0

-- the same of a slot, where it is one that failed
abbrev pub missing_in : Option ModuleSlot → Option (Parts × Option Range)
missing_in None = None
missing_in (Some (Stands m)) = None
missing_in (Some (Failed e)) = missing_of e
missing_in (Some (Pending is_asset)) = None

-- what is missing: with the edge's range where the edge is dynamic, else with the import that is to blame
abbrev pub missing_at : Bool → Range → Parts × Option Range → ModuleError
missing_at is_dynamic range m = if is_dynamic then missing_dynamic_error m.0 range else missing_error m.0 m.1

-- the error of an edge whose target is missing: as of a dynamic import, or as of a static one
abbrev pub missing_behind : Bool → Range → Option (Parts × Option Range) → Option ModuleGraphError
missing_behind is_dynamic range None = None
missing_behind is_dynamic range (Some m) = Some (OfModuleError (missing_at is_dynamic range m))

-- the error of an edge that leads somewhere: from https to http, from remote to a local file, or, where dynamic imports are followed, to what is missing
abbrev pub leading_error : ModuleGraph → How → Edge → ResolutionResolved → Option ModuleGraphError
leading_error g o e r =
    if is_downgrade e.here r.specifier then Some (as_error e.is_type (InvalidDowngrade r.specifier r.range))
    else (if is_local_import e.here e.text r.specifier then Some (as_error e.is_type (InvalidLocalImport r.specifier r.range))
    else (if o.follow_dynamic then missing_behind e.is_dynamic r.range (missing_in (slot_at g (resolved g r.specifier))) else None))

-- the error of an edge, by what it was resolved to
abbrev pub edge_error : ModuleGraph → How → Edge → Resolution → Option ModuleGraphError
edge_error g o e Nowhere = None
edge_error g o e (Leads r) = leading_error g o e r
edge_error g o e (Fails x) = Some (as_error e.is_type x)

-- the same as a list of at most one
abbrev pub edge_errors : ModuleGraph → How → Edge → Resolution → List ModuleGraphError
edge_errors g o e r = option_to_list (edge_error g o e r)

-- ---- one entry, in the order in which its errors are collected

-- the code edge of a dependency
abbrev pub code_edge : Parts → Named → Edge
code_edge here d = record { here = here; text = d.0; is_type = false; is_dynamic = d.1.is_dynamic }

-- the types edge of a dependency
abbrev pub type_edge : Parts → Named → Edge
type_edge here d = record { here = here; text = d.0; is_type = true; is_dynamic = d.1.is_dynamic }

-- that of its code, then that of its type, of a dependency that is followed
abbrev pub named_errors : ModuleGraph → How → Bool → Parts → Named → List ModuleGraphError
named_errors g o checked here d =
    if follows o d then edge_errors g o (code_edge here d) d.1.maybe_code ++ (if checked then edge_errors g o (type_edge here d) d.1.maybe_type else [])
    else []

-- the errors of dependencies, in their order; `checked` says whether those of types count
unfoldable pub dependencies_errors : ModuleGraph → How → Bool → Parts → List Named → List ModuleGraphError
dependencies_errors g o checked here [] = []
dependencies_errors g o checked here (d ∷ ds) = named_errors g o checked here d ++ dependencies_errors g o checked here ds

-- the edge of a module to its types
abbrev pub types_edge : Parts → TypesDependency → Edge
types_edge here t = record { here = here; text = t.specifier; is_type = true; is_dynamic = false }

-- the error of the edge to the types, where the kind has types
abbrev pub types_errors : ModuleGraph → How → Parts → Option TypesDependency → List ModuleGraphError
types_errors g o here None = []
types_errors g o here (Some t) = if include_types o.kind then edge_errors g o (types_edge here t) t.dependency else []

-- the types of a WebAssembly module's imports always count, where types are included
abbrev pub wasm_errors : ModuleGraph → How → WasmModule → List ModuleGraphError
wasm_errors g o m = dependencies_errors g o (include_types o.kind) m.specifier m.dependencies

-- the errors of a module: those of its types first, then those of its dependencies
abbrev pub module_errors : ModuleGraph → How → Module → List ModuleGraphError
module_errors g o (Js m) =
    types_errors g o m.specifier m.maybe_types_dependency
    ++ dependencies_errors g o (include_types o.kind && is_checkable o m.specifier m.media_type) m.specifier (walked o m)
module_errors g o (Json m) = []
module_errors g o (Wasm m) = wasm_errors g o m
module_errors g o (Npm m) = []
module_errors g o (Node m) = []
module_errors g o (External m) = []

-- with dynamic edges a missing module is told at the edges
abbrev pub is_told_elsewhere : How → Option (Parts × Option Range) → Bool
is_told_elsewhere o m = is_some m && o.follow_dynamic

-- the errors of an entry: of a module its edges', of a failed slot its own, unless an edge tells it
abbrev pub entry_errors : ModuleGraph → How → Entry → List ModuleGraphError
entry_errors g o (OfModule m) = module_errors g o m
entry_errors g o (OfError e) = if is_told_elsewhere o (missing_of e) then [] else OfModuleError e ∷ []
entry_errors g o (Redirected t) = []

-- ---- a walk

-- those of each entry from the last to the first
unfoldable pub error_list : ModuleGraph → How → List (Text × Entry) → List ModuleGraphError
error_list g o [] = []
error_list g o (e ∷ es) = reverse (entry_errors g o e.1) ++ error_list g o es

-- a walk that goes on, the errors of its last entry that are left, and whether there was no memory
pub record ErrorsView (O : Type 0) : Type 0 where
  pub walk : WalkView O
  pub collected : List ModuleGraphError
  pub has_ended : Bool

-- the errors that a walk has yet to give: those collected at its last entry, then those of the entries to come
abbrev pub errors_left : {O : Type 0} → (O → How) → WalkView O → List ModuleGraphError → List ModuleGraphError
errors_left as_how w collected = reverse collected ++ error_list w.graph (as_how w.options) (rest as_how w)

-- the errors that are left, none once the walk has ended
abbrev pub rest_errors : {O : Type 0} → (O → How) → ErrorsView O → List ModuleGraphError
rest_errors as_how v = if v.has_ended then [] else errors_left as_how v.walk v.collected

-- how often it may still give something: its errors, or once that there is no memory
abbrev pub errors_room : {O : Type 0} → (O → How) → ErrorsView O → ℕ
errors_room as_how v = if v.has_ended then 0 else length (errors_left as_how v.walk v.collected) + 1

-- the first error that is left, or that there is no memory, after which nothing is left
abbrev pub YieldsError : {O E : Type 0} → (O → How) → ErrorsView O → Option (Result ModuleGraphError E) → ErrorsView O → Type 0
YieldsError as_how before r now = MatchOption r ((rest_errors as_how before ≡ []) × (rest_errors as_how now ≡ []))
    (λ x. MatchResult x (λ e. (rest_errors as_how before ≡ e ∷ rest_errors as_how now) × (before.has_ended ≡ false)) (λ _. (before.has_ended ≡ false) × (now.has_ended ≡ true)))

-- the first of errors
abbrev pub first_of : List ModuleGraphError → Result (Unit {0}) ModuleGraphError
first_of [] = Ok tt
first_of (e ∷ es) = Err e

-- the walk by which a graph is valid
abbrev pub valid_how : How
valid_how = record { kind = CodeOnly; follow_dynamic = false; prefers_fast_check = false; checks = λ _. true }

-- whether a graph is valid, or else the first error of the walk over its code that follows no dynamic import
unfoldable pub validity : ModuleGraph → Result (Unit {0}) ModuleGraphError
validity g = first_of (error_list g valid_how (walk_order g valid_how (texts g.roots)))
