-- While a build is in the static phase, it goes as a build that leaves dynamic imports out.
use Rattle.std.proofs.Common.{◌≡◌, ℕ, List, [], ◌∷◌, ◌++◌, Bool, true, false, ◌&&◌, ◌||◌, not, if◌then◌else◌, Option, None, Some, Result, Ok, Err, is_some, refl, sym, ap, ◌∙◌}
use Rattle.std.specs.List.{All}
use Rattle.std.specs.FinMap as finite
use Rattle.std.proofs.lemmas.List.Elements.{All-head, All-tail, All-nil, All-cons, All-append}
use Rattle.url.specs.Parts.{Parts}
use Rattle.spec_base.specs.Options.{by_option}
use Rattle.spec_base.specs.declared.position.Range.{Range}
use Rattle.graph_dependencies.specs.Kinds.{include_code}
use Rattle.graph_dependencies.specs.declared.dependency.Dependency.{Dependency}
use Rattle.graph_dependencies.specs.declared.dependency.TypesDependency.{TypesDependency}
use Rattle.graph_dependencies.specs.declared.graph_import.GraphImport.{GraphImport}
use Rattle.graph_dependencies.specs.declared.graph_kind.GraphKind.{GraphKind}
use Rattle.semver_npm.specs.declared.npm_error.PackageReqReferenceParseError.{PackageReqReferenceParseError}
use Rattle.semver_npm.specs.declared.package.PackageNv.{PackageNv}
use Rattle.semver_npm.specs.declared.reference.NpmPackageReqReference.{NpmPackageReqReference}
use Rattle.semver_npm.specs.declared.reference.PackageReqReference.{PackageReqReference}
use Rattle.version_dates.specs.declared.newest_date.NewestDependencyDateOptions.{NewestDependencyDateOptions}
use Rattle.registry_files.specs.Answers.{FileAnswer}
use Rattle.source_sums.specs.Sums.{KnownSums}
use Rattle.registry_files.specs.declared.kept_version.KeptVersion.{KeptVersion}
use Rattle.registry_urls.specs.Meaning.{RegistryMeaning}
use Rattle.graph_errors.specs.declared.errors.ModuleErrorKind.{ModuleErrorKind}
use Rattle.graph_errors.specs.declared.jsr_error.JsrLoadError.{JsrLoadError}
use Rattle.graph_errors.specs.declared.jsr_error.JsrPackageFormatError.{JsrPackageFormatError}
use Rattle.graph_errors.specs.declared.resolution.Resolution.{Resolution}
use Rattle.graph_errors.specs.declared.resolution.Resolution.TheVariants.{None as Nowhere, Ok as Leads, Err as Fails}
use Rattle.module_slots.specs.declared.load.Load.{Load}
use Rattle.module_slots.specs.declared.load.LoadContext.{LoadContext}
use Rattle.module_slots.specs.declared.slot.JsModule.{JsModule}
use Rattle.module_slots.specs.declared.slot.Module.TheVariants.{Js, Json, Wasm, Npm, Node, External}
use Rattle.module_slots.specs.declared.slot.ModuleSlot.{ModuleSlot}
use Rattle.module_slots.specs.declared.slot.ModuleSlot.TheVariants.{Module as Stands, Err as Failed, Pending}
use Rattle.graph_core.specs.Edges.{both_edges, edge_context, edge_of, edges_by, edges_of, import_context, import_edges, import_loads, loads_of, source_map_context, source_map_edge, source_map_edges, types_context, types_edge}
use Rattle.graph_core.specs.Graph.{has_slot, slot_at, with_slot}
use Rattle.graph_turns.specs.declared.flags.Flags.{Flags}
use Rattle.graph_turns.specs.declared.choosing.Verdict.{Verdict}
use Rattle.graph_turns.specs.declared.choosing.Verdict.TheVariants.{AsksAgain, Probes, Restarts, Gets, Fails}
use Rattle.graph_turns.specs.declared.dependencies.Note.{Note}
use Rattle.graph_turns.specs.declared.exports.Export.{Export}
use Rattle.graph_turns.specs.declared.outcome.Outcome.{Outcome}
use Rattle.graph_turns.specs.declared.outcome.Outcome.TheVariants.{At, To}
use Rattle.graph_turns.specs.declared.passes.Chosen.{Chosen}
use Rattle.graph_turns.specs.declared.passes.Pass.{Pass}
use Rattle.graph_turns.specs.declared.registry.RegistryFile.{RegistryFile}
use Rattle.graph_turns.specs.declared.registry.RegistryFile.TheVariants.{Package, PackageAgain, Version, Probe}
use Rattle.graph_turns.specs.declared.state.State.{State}
use Rattle.graph_turns.specs.declared.waiting.WaitingPackage.{WaitingPackage}
use Rattle.graph_turns.specs.Machine.Choosing.{judged, judged_by, judged_first, judged_in, package_refused, verdict}
use Rattle.graph_turns.specs.Machine.Passes.{all_entered, export_at, export_entered, export_entered_by, export_followed, exports_entered, exports_entered_in, versions_asked, versions_asked_in, with_used}
use Rattle.graph_turns.specs.Machine.RegistryFiles.{first_kept, wanted_kept}
use Rattle.graph_turns.specs.Machine.Npm.{npm_waiting_with}
use Rattle.graph_core.specs.Npm.{npm_waiting_at}
use Rattle.graph_turns.specs.Machine.Waiting.{load_of, note_of, noting, waiting_at, waiting_with, with_note}
use Rattle.graph_turns.specs.Promise.Packages.{is_jsr, is_npm, jsr_named, npm_named, unjoinable}
use Rattle.graph_turns.specs.Promise.Slots.{external_slot}
use Rattle.graph_turns.specs.Machine.Files.{file_kept}
use Rattle.graph_turns.specs.Machine.Known.{Known}
use Rattle.graph_turns.specs.Machine.Manners.{unsupported}
use Rattle.graph_turns.specs.Machine.Redirects.{leads_back, redirected_end, moved}
use Rattle.graph_turns.specs.Promise.Reached.{in_package}
use Rattle.graph_turns.specs.Machine.Turns.{deferred_entered, manner_in, waited_loads}
use Rattle.graph_turns.specs.Promise.Forbidden.{forbidden}
use Rattle.graph_turns.specs.Promise.Input.{EnteredGraph}
use Rattle.graph_turns.specs.Promise.Taken.{is_built_in}
use Rattle.graph_turns.proofs.Entering.Enter.{Edged, how_edged}
use Rattle.graph_turns.proofs.Entering.Enter.Edged.{queues, enters}
use Rattle.graph_turns.proofs.Entering.Rested.{still_enter, still_enter_all}
use Rattle.graph_turns.specs.Machine.Entering.{admitted, begun_at, deferred_with, edges_from, enter, enter_all, enter_edge, enter_edges, hop, is_shut, opened, package_kept, placed_at, queued, received, received_jsr, received_npm, redirected, redirects_ended, refused_at, resting_state, stopped, stored, unstopped, waits_for_asset, with_mark, with_node, is_end}

abbrev pub IsStatic : Load → Type 0
IsStatic load = load.context.in_dynamic_phase ≡ false

-- flags of a build that leaves dynamic imports out
abbrev pub static_flags : Flags → Flags
static_flags f = record f { skip_dynamic_deps = true }

-- the flags of one build are those of another that leaves dynamic imports out
abbrev pub static_known : Known → Known
static_known known = record known { flags = static_flags known.flags }

-- a state in which no dynamic import waits, of a build that leaves them out
abbrev pub static_part : State → State
static_part s = record s { dynamic = []; flags = static_flags s.flags }

-- ---- entering

-- a load that a slot stops
stopped_part : (s : State) (c : LoadContext) (at : Parts) → static_part (stopped s c at) ≡ stopped (static_part s) c at
stopped_part s c at = by (waits_for_asset s c at)
  where
    by : (wait : Bool) → static_part (if wait then record s { deferred = deferred_with s.deferred at c } else s) ≡ (if wait then record (static_part s) { deferred = deferred_with s.deferred at c } else static_part s)
    by true = refl
    by false = refl

-- whatever is noted
part_stopped : (s : State) (c : LoadContext) (at : Parts) (o : Option Note) → static_part (stopped (with_note s o) c at) ≡ stopped (with_note (static_part s) o) c at
part_stopped s c at (Some note) = stopped_part (record s { notes = s.notes ++ note ∷ [] }) c at
part_stopped s c at None = stopped_part s c at

-- a `jsr:` specifier that names a package
kept_part : (s : State) (c : LoadContext) (at : Parts) (r : PackageReqReference) → static_part (package_kept s c at r) ≡ package_kept (static_part s) c at r
kept_part s c at r = by s.flags.passthrough_jsr (has_slot s.graph at)
  where
    by_tests : State → Bool → Bool → State
    by_tests u passes stands = if passes then record u { graph = with_slot u.graph at (external_slot at false) } else if stands then u else waiting_with u (waiting_at at r c)

    by : (passes stands : Bool) → static_part (by_tests s passes stands) ≡ by_tests (static_part s) passes stands
    by true stands = refl
    by false true = refl
    by false false = refl

part_kept : (s : State) (c : LoadContext) (at : Parts) (r : PackageReqReference) (o : Option Note) → static_part (package_kept (with_note s o) c at r) ≡ package_kept (with_note (static_part s) o) c at r
part_kept s c at r (Some note) = kept_part (record s { notes = s.notes ++ note ∷ [] }) c at r
part_kept s c at r None = kept_part s c at r

part_jsr : (s : State) (c : LoadContext) (at : Parts) (r : Result PackageReqReference JsrPackageFormatError) → static_part (received_jsr s c at r) ≡ received_jsr (static_part s) c at r
part_jsr s c at (Ok r) = part_kept s c at r (note_of at c)
part_jsr s c at (Err e) = refl

part_opened : (s : State) (c : LoadContext) (at : Parts) (o : Option Note) → static_part (opened (with_note s o) c at) ≡ opened (with_note (static_part s) o) c at
part_opened s c at (Some note) = refl
part_opened s c at None = refl

part_npm : (s : State) (c : LoadContext) (at : Parts) (r : Result NpmPackageReqReference PackageReqReferenceParseError) → static_part (received_npm s c at r) ≡ received_npm (static_part s) c at r
part_npm s c at (Ok r) = by s.flags.resolves_npm (note_of at c)
  where
    by_tests : State → Option Note → Bool → State
    by_tests u o waits = if waits then npm_waiting_with (with_note u o) (npm_waiting_at at r c) else opened (with_note u o) c at

    by : (waits : Bool) (o : Option Note) → static_part (by_tests s o waits) ≡ by_tests (static_part s) o waits
    by true None = refl
    by true (Some note) = refl
    by false o = part_opened s c at o
part_npm s c at (Err e) = refl

part_admitted : (s : State) (c : LoadContext) (at : Parts) → static_part (admitted s c at) ≡ admitted (static_part s) c at
part_admitted s c at = by (is_built_in at) (is_jsr at) (is_npm at)
  where
    by_tests : State → Bool → Bool → Bool → State
    by_tests u built jsr npm =
        if built then record u { graph = with_node u.graph at }
        else if jsr then received_jsr u c at (jsr_named at)
        else if npm then received_npm u c at (npm_named at)
        else opened u c at

    by : (built jsr npm : Bool) → static_part (by_tests s built jsr npm) ≡ by_tests (static_part s) built jsr npm
    by true jsr npm = refl
    by false true npm = part_jsr s c at (jsr_named at)
    by false false true = part_npm s c at (npm_named at)
    by false false false = refl

part_unstopped : (s : State) (c : LoadContext) (at : Parts) → static_part (unstopped s c at) ≡ unstopped (static_part s) c at
part_unstopped s c at = by (unsupported (finite.get s.files) at c)
  where
    by : (fails : Option ModuleErrorKind) → static_part (by_option fails (admitted s c at) (refused_at s at)) ≡ by_option fails (admitted (static_part s) c at) (refused_at (static_part s) at)
    by (Some kind) = refl
    by None = part_admitted s c at

part_received : (s : State) (asked : Parts) (c : LoadContext) (at : Parts) → static_part (received s asked c at) ≡ received (static_part s) asked c at
part_received s asked c at = by (is_shut (slot_at s.graph at) c)
  where
    by : (shut : Bool) → static_part (if shut then stopped (noting s asked c) c at else unstopped s c at) ≡ (if shut then stopped (noting (static_part s) asked c) c at else unstopped (static_part s) c at)
    by true = part_stopped s c at (note_of asked c)
    by false = part_unstopped s c at

pub part_enter : (s : State) (load : Load) → static_part (enter s load) ≡ enter (static_part s) load
unfolding enter
part_enter s load = by (forbidden s.flags (redirected_end s.graph load.specifier) load.context)
  where
    by : (refusal : Option ModuleErrorKind) → static_part (by_option refusal (received s load.specifier load.context (redirected_end s.graph load.specifier)) (refused_at s (redirected_end s.graph load.specifier))) ≡ by_option refusal (received (static_part s) load.specifier load.context (redirected_end s.graph load.specifier)) (refused_at (static_part s) (redirected_end s.graph load.specifier))
    by (Some kind) = refl
    by None = part_received s load.specifier load.context (redirected_end s.graph load.specifier)

pub part_enter_all : (s : State) (loads : List Load) → static_part (enter_all s loads) ≡ enter_all (static_part s) loads
unfolding enter_all
part_enter_all s [] = refl
part_enter_all s (load ∷ loads) = part_enter_all (enter s load) loads ∙ ap (λ (x : State). enter_all x loads) (part_enter s load)

-- where a build begins
pub part_begun : (known : Known) (o : EnteredGraph) → static_part (begun_at known o) ≡ begun_at (static_known known) o
part_begun known o = part_enter_all (resting_state known o.graph) o.loads

-- ---- edges

-- an edge by its phase and that of the build
abbrev by_phases : State → Load → Bool → Bool → State
by_phases s load dynamic now = if dynamic && not now then record s { dynamic = queued s.dynamic load } else enter s (with_mark s.root_names load)

enter_by_phase : (s : State) (load : Load) → enter_edge s load ≡ by_phases s load load.context.in_dynamic_phase s.is_dynamic
unfolding enter_edge
enter_by_phase s load = refl

-- a static edge enters
pub edge_enters : (s : State) (load : Load) → IsStatic load → enter_edge s load ≡ enter s (with_mark s.root_names load)
edge_enters s load static = enter_by_phase s load ∙ ap (λ x. by_phases s load x s.is_dynamic) static

-- a dynamic one waits while the build isn't dynamic
pub edge_waits : (s : State) (load : Load) → s.is_dynamic ≡ false → load.context.in_dynamic_phase ≡ true → enter_edge s load ≡ record s { dynamic = queued s.dynamic load }
edge_waits s load now dynamic = enter_by_phase s load ∙ ap (λ x. by_phases s load x s.is_dynamic) dynamic ∙ ap (by_phases s load true) now

-- what holds of all loads that an edge may be
edge_all : (P : Load → Type 0) (F : Range → LoadContext) (t : Bool) (r : Resolution) → ((s : Parts) (range : Range) (t : Bool) → P (record { specifier = s; context = F range; is_type = t })) → All P (edge_of F t r)
edge_all P F t Nowhere each = All-nil P
edge_all P F t (Leads r) each = All-cons P _ [] (each r.specifier r.range t) (All-nil P)
edge_all P F t (Fails e) each = All-nil P

both_all : (P : Load → Type 0) (F : Range → LoadContext) (d : Dependency) → ((s : Parts) (range : Range) (t : Bool) → P (record { specifier = s; context = F range; is_type = t })) → All P (both_edges F d)
both_all P F d each = All-append P (edge_of F false d.maybe_code) (edge_of F true d.maybe_type) (edge_all P F false d.maybe_code each) (edge_all P F true d.maybe_type each)

import_all : (P : Load → Type 0) (dynamic : Bool) (dependencies : List (List ℕ × Dependency)) → ((s : Parts) (range : Range) (t : Bool) → P (record { specifier = s; context = import_context dynamic range; is_type = t })) → All P (import_edges dynamic dependencies)
import_all P dynamic [] each = All-nil P
import_all P dynamic (d ∷ ds) each = All-append P (both_edges (import_context dynamic) d.1) (import_edges dynamic ds) (both_all P (import_context dynamic) d.1 each) (import_all P dynamic ds each)

pub imports_all : (P : Load → Type 0) (dynamic : Bool) (imports : List (Parts × GraphImport)) → ((s : Parts) (range : Range) (t : Bool) → P (record { specifier = s; context = import_context dynamic range; is_type = t })) → All P (import_loads dynamic imports)
imports_all P dynamic [] each = All-nil P
imports_all P dynamic (i ∷ is) each = All-append P (import_edges dynamic i.1.dependencies) (import_loads dynamic is) (import_all P dynamic i.1.dependencies each) (imports_all P dynamic is each)

pub same_phase : (s : State) (load : Load) → (enter_edge s load).is_dynamic ≡ s.is_dynamic
same_phase s load = by_edged (enter_edge s load) (how_edged s load)
  where
    by_edged : (u : State) → Edged s load u → u.is_dynamic ≡ s.is_dynamic
    by_edged u (queues p f) = refl
    by_edged u enters = (still_enter s (with_mark s.root_names load)).is_dynamic

same_phases : (s : State) (loads : List Load) → (enter_edges s loads).is_dynamic ≡ s.is_dynamic
unfolding enter_edges
same_phases s [] = refl
same_phases s (load ∷ loads) = same_phases (enter_edge s load) loads ∙ same_phase s load

edges_both : (s : State) (xs ys : List Load) → enter_edges s (xs ++ ys) ≡ enter_edges (enter_edges s xs) ys
unfolding enter_edges
edges_both s [] ys = refl
edges_both s (x ∷ xs) ys = edges_both (enter_edge s x) xs ys

-- a static edge enters both
part_static : (s : State) (load : Load) → IsStatic load → static_part (enter_edge s load) ≡ enter_edge (static_part s) load
part_static s load static = ap static_part (edge_enters s load static) ∙ part_enter s (with_mark s.root_names load) ∙ sym (edge_enters (static_part s) load static)

part_statics : (s : State) (loads : List Load) → All IsStatic loads → static_part (enter_edges s loads) ≡ enter_edges (static_part s) loads
unfolding enter_edges
part_statics s [] all = refl
part_statics s (load ∷ loads) all = part_statics (enter_edge s load) loads (All-tail IsStatic load loads all) ∙ ap (λ (x : State). enter_edges x loads) (part_static s load (All-head IsStatic load loads all))

abbrev IsDynamic : Load → Type 0
IsDynamic load = load.context.in_dynamic_phase ≡ true

-- a dynamic edge waits
part_dynamic : (s : State) (load : Load) → s.is_dynamic ≡ false → IsDynamic load → static_part (enter_edge s load) ≡ static_part s
part_dynamic s load now dynamic = ap static_part (edge_waits s load now dynamic)

part_dynamics : (s : State) (loads : List Load) → s.is_dynamic ≡ false → All IsDynamic loads → static_part (enter_edges s loads) ≡ static_part s
unfolding enter_edges
part_dynamics s [] now all = refl
part_dynamics s (load ∷ loads) now all = part_dynamics (enter_edge s load) loads (same_phase s load ∙ now) (All-tail IsDynamic load loads all) ∙ part_dynamic s load now (All-head IsDynamic load loads all)

-- the edges of one dependency, under a static context
part_by : (skip : Bool) (s : State) (c : LoadContext) (d : Dependency) → s.is_dynamic ≡ false → c.in_dynamic_phase ≡ false → static_part (enter_edges s (edges_by skip c d)) ≡ enter_edges (static_part s) (edges_by true c d)
unfolding enter_edges
part_by skip s c d now static = by d.is_dynamic refl
  where
    by_skip : d.is_dynamic ≡ true → (b : Bool) → static_part (enter_edges s (if b then [] else both_edges (edge_context c d) d)) ≡ static_part s
    by_skip e true = refl
    by_skip e false = part_dynamics s (both_edges (edge_context c d) d) now (both_all IsDynamic (edge_context c d) d (λ n range t. ap (λ x. c.in_dynamic_phase || x) e ∙ ap (λ x. x || true) static))

    by : (b : Bool) → d.is_dynamic ≡ b → static_part (enter_edges s (edges_by skip c d)) ≡ enter_edges (static_part s) (edges_by true c d)
    by true e =
        ap (λ x. static_part (enter_edges s (if x && skip then [] else both_edges (edge_context c d) d))) e
        ∙ by_skip e skip
        ∙ sym (ap (λ x. enter_edges (static_part s) (if x && true then [] else both_edges (edge_context c d) d)) e)
    by false e =
        ap (λ x. static_part (enter_edges s (if x && skip then [] else both_edges (edge_context c d) d))) e
        ∙ part_statics s (both_edges (edge_context c d) d) (both_all IsStatic (edge_context c d) d (λ n range t. ap (λ x. c.in_dynamic_phase || x) e ∙ ap (λ x. x || false) static))
        ∙ sym (ap (λ x. enter_edges (static_part s) (if x && true then [] else both_edges (edge_context c d) d)) e)

-- those of all dependencies
part_of : (skip : Bool) (s : State) (c : LoadContext) (ds : List (List ℕ × Dependency)) → s.is_dynamic ≡ false → c.in_dynamic_phase ≡ false → static_part (enter_edges s (edges_of skip c ds)) ≡ enter_edges (static_part s) (edges_of true c ds)
unfolding enter_edges
part_of skip s c [] now static = refl
part_of skip s c (d ∷ ds) now static =
    ap static_part (edges_both s (edges_by skip c d.1) (edges_of skip c ds))
    ∙ part_of skip (enter_edges s (edges_by skip c d.1)) c ds (same_phases s (edges_by skip c d.1) ∙ now) static
    ∙ ap (λ (x : State). enter_edges x (edges_of true c ds)) (part_by skip s c d.1 now static)
    ∙ sym (edges_both (static_part s) (edges_by true c d.1) (edges_of true c ds))

types_static : (c : LoadContext) (types : Option TypesDependency) → c.in_dynamic_phase ≡ false → All IsStatic (types_edge c types)
types_static c None static = All-nil IsStatic
types_static c (Some t) static = edge_all IsStatic (types_context c) true t.dependency (λ n range t. static)

map_static : (c : LoadContext) (map : Option TypesDependency) → c.in_dynamic_phase ≡ false → All IsStatic (source_map_edge c map)
map_static c None static = All-nil IsStatic
map_static c (Some t) static = edge_all IsStatic (source_map_context c) false t.dependency (λ n range t. static)

source_map_static : (kind : GraphKind) (m : JsModule) (c : LoadContext) → c.in_dynamic_phase ≡ false → All IsStatic (source_map_edges kind m c)
source_map_static kind m c static = by (not (include_code kind) && is_some m.maybe_types_dependency)
  where
    by : (b : Bool) → All IsStatic (if b then [] else source_map_edge c m.maybe_source_map_dependency)
    by true = All-nil IsStatic
    by false = map_static c m.maybe_source_map_dependency static

-- those of a script: its source map, its dependencies and its types
part_script : (kind : GraphKind) (skip : Bool) (s : State) (c : LoadContext) (m : JsModule) → s.is_dynamic ≡ false → c.in_dynamic_phase ≡ false → static_part (enter_edges s (loads_of kind skip (Js m) c)) ≡ enter_edges (static_part s) (loads_of kind true (Js m) c)
unfolding loads_of
part_script kind skip s c m now static =
    ap static_part (edges_both s (maps ++ edges_of skip c m.dependencies) types ∙ ap (λ (x : State). enter_edges x types) (edges_both s maps (edges_of skip c m.dependencies)))
    ∙ part_statics (enter_edges (enter_edges s maps) (edges_of skip c m.dependencies)) types (types_static c m.maybe_types_dependency static)
    ∙ ap (λ (x : State). enter_edges x types) (part_of skip (enter_edges s maps) c m.dependencies (same_phases s maps ∙ now) static)
    ∙ ap (λ (x : State). enter_edges (enter_edges x (edges_of true c m.dependencies)) types) (part_statics s maps (source_map_static kind m c static))
    ∙ sym (edges_both (static_part s) (maps ++ edges_of true c m.dependencies) types ∙ ap (λ (x : State). enter_edges x types) (edges_both (static_part s) maps (edges_of true c m.dependencies)))
  where
    maps : List Load
    maps = source_map_edges kind m c

    types : List Load
    types = types_edge c m.maybe_types_dependency

part_edges : (kind : GraphKind) (skip : Bool) (s : State) (c : LoadContext) (slot : ModuleSlot) → s.is_dynamic ≡ false → c.in_dynamic_phase ≡ false → static_part (enter_edges s (edges_from kind skip slot c)) ≡ enter_edges (static_part s) (edges_from kind true slot c)
unfolding enter_edges loads_of
part_edges kind skip s c (Stands (Js m)) now static = part_script kind skip s c m now static
part_edges kind skip s c (Stands (Json m)) now static = refl
part_edges kind skip s c (Stands (Wasm m)) now static = part_of skip s c m.dependencies now static
part_edges kind skip s c (Stands (Npm m)) now static = refl
part_edges kind skip s c (Stands (Node m)) now static = refl
part_edges kind skip s c (Stands (External m)) now static = refl
part_edges kind skip s c (Failed e) now static = refl
part_edges kind skip s c (Pending asset) now static = refl

-- ---- what an answer gives

pub part_stored : (most : ℕ) (s : State) (load : Load) (o : Outcome) → s.is_dynamic ≡ false → IsStatic load → static_part (stored most s load o) ≡ stored most (static_part s) load o
unfolding stored
part_stored most s load (At name slot held None) now static = part_edges s.graph.kind s.flags.skip_dynamic_deps (placed_at s load held name slot) (in_package held load.context) slot now static
part_stored most s load (At name slot held (Some l)) now static =
    part_edges s.graph.kind s.flags.skip_dynamic_deps (placed_at (record s { contents = s.contents ++ l ∷ [] }) load held name slot) (in_package held load.context) slot now static
part_stored most s load (To n) now static = by (is_end most s load n)
  where
    by : (b : Bool) → static_part (if b then redirects_ended s load else redirected s load n) ≡ (if b then redirects_ended (static_part s) load else redirected (static_part s) load n)
    by true = refl
    by false = part_enter (record s { graph = moved s.graph load.specifier n }) (record { specifier = n; context = hop load.context; is_type = false })

-- ---- passes

pub part_deferred : (s : State) → static_part (deferred_entered s) ≡ deferred_entered (static_part s)
unfolding deferred_entered
part_deferred s = part_enter_all (record s { deferred = [] }) (waited_loads s.deferred)

pub part_judged : (newest : NewestDependencyDateOptions) (s : State) → static_part (judged newest s) ≡ judged newest (static_part s)
part_judged newest s = by_pass s.pass
  where
    by_verdict : (p : Pass) (item : WaitingPackage) (items : List WaitingPackage) (v : Verdict) → static_part (judged_by s p item items v) ≡ judged_by (static_part s) p item items v
    by_verdict p item items (AsksAgain name) = refl
    by_verdict p item items (Probes nvs) = refl
    by_verdict p item items Restarts = refl
    by_verdict p item items (Gets nv yanked) = refl
    by_verdict p item items (Fails e) = refl

    by_items : (p : Pass) (items : List WaitingPackage) → static_part (judged_first newest s p items) ≡ judged_first newest (static_part s) p items
    by_items p [] = refl
    by_items p (item ∷ items) = by_verdict p item items (verdict newest s item.req)

    by_pass : (o : Option Pass) → static_part (judged_in newest s o) ≡ judged_in newest (static_part s) o
    by_pass None = refl
    by_pass (Some p) = by_items p p.items

pub part_versions : (s : State) → static_part (versions_asked s) ≡ versions_asked (static_part s)
part_versions s = by s.pass
  where
    by : (o : Option Pass) → static_part (versions_asked_in s o) ≡ versions_asked_in (static_part s) o
    by None = refl
    by (Some p) = refl

part_export : (s : State) (top : Bool) (one : Chosen) → static_part (export_entered s top one) ≡ export_entered (static_part s) top one
part_export s top one = by_export (export_at s one)
  where
    by_back : (u : State) (to : Parts) (back : Bool) → static_part (if back then redirects_ended u (load_of one.item) else enter (record u { graph = moved u.graph one.item.specifier to }) (record { specifier = to; context = in_package (Some one.nv) one.item.context; is_type = false }))
        ≡ (if back then redirects_ended (static_part u) (load_of one.item) else enter (record (static_part u) { graph = moved u.graph one.item.specifier to }) (record { specifier = to; context = in_package (Some one.nv) one.item.context; is_type = false }))
    by_back u to true = refl
    by_back u to false = part_enter (record u { graph = moved u.graph one.item.specifier to }) (record { specifier = to; context = in_package (Some one.nv) one.item.context; is_type = false })

    by_to : (u : State) (e : Export) (o : Option Parts) → static_part (by_option o (package_refused u one.item (unjoinable one.nv e)) (export_followed u one)) ≡ by_option o (package_refused (static_part u) one.item (unjoinable one.nv e)) (export_followed (static_part u) one)
    by_to u e None = refl
    by_to u e (Some to) = by_back u to (leads_back u.graph one.item.specifier to)

    by_export : (r : Result Export JsrLoadError) → static_part (export_entered_by s top one r) ≡ export_entered_by (static_part s) top one r
    by_export (Ok e) = by_to (record s { graph = with_used s.graph one.nv e top }) e e.to
    by_export (Err e) = refl

part_all : (ones : List Chosen) (s : State) (top : Bool) → static_part (all_entered s top ones) ≡ all_entered (static_part s) top ones
unfolding all_entered
part_all [] s top = refl
part_all (one ∷ ones) s top = part_all ones (export_entered s top one) top ∙ ap (λ (x : State). all_entered x top ones) (part_export s top one)

pub part_exports : (s : State) → static_part (exports_entered s) ≡ exports_entered (static_part s)
part_exports s = by s.pass
  where
    by : (o : Option Pass) → static_part (exports_entered_in s o) ≡ exports_entered_in (static_part s) o
    by None = refl
    by (Some p) = part_all p.chosen (record s { pass = None }) p.is_top_level

pub part_wanted : (registry : RegistryMeaning) (s : State) (answer : FileAnswer) → static_part (wanted_kept registry s answer) ≡ wanted_kept registry (static_part s) answer
part_wanted registry s answer = by s.wanted
  where
    by : (files : List RegistryFile) → static_part (first_kept registry s answer files) ≡ first_kept registry (static_part s) answer files
    by [] = refl
    by (Package name ∷ files) = refl
    by (PackageAgain name ∷ files) = refl
    by (Version nv ∷ files) = refl
    by (Probe nv ∷ files) = refl

-- a version file that was read
pub part_file : (s : State) (nv : PackageNv) (kept : Result KeptVersion JsrLoadError) → static_part (file_kept s nv kept) ≡ file_kept (static_part s) nv kept
part_file s nv kept = refl

-- the turn of a load goes the same way
pub part_manner : (sums : Option KnownSums) (registry : RegistryMeaning) (s : State) (load : Load) → manner_in sums registry (static_part s) load ≡ manner_in sums registry s load
part_manner sums registry s load = refl

-- an answer changes no phase
pub stored_phase : (most : ℕ) (s : State) (load : Load) (o : Outcome) → (stored most s load o).is_dynamic ≡ s.is_dynamic
unfolding stored
stored_phase most s load (At name slot held None) = same_phases (placed_at s load held name slot) (edges_from s.graph.kind s.flags.skip_dynamic_deps slot (in_package held load.context))
stored_phase most s load (At name slot held (Some l)) = same_phases (placed_at (record s { contents = s.contents ++ l ∷ [] }) load held name slot) (edges_from s.graph.kind s.flags.skip_dynamic_deps slot (in_package held load.context))
stored_phase most s load (To n) = by (is_end most s load n)
  where
    by : (b : Bool) → (if b then redirects_ended s load else redirected s load n).is_dynamic ≡ s.is_dynamic
    by true = refl
    by false = (still_enter (record s { graph = moved s.graph load.specifier n }) (record { specifier = n; context = hop load.context; is_type = false })).is_dynamic

pub begun_phase : (known : Known) (o : EnteredGraph) → (begun_at known o).is_dynamic ≡ known.flags.is_dynamic
begun_phase known o = (still_enter_all (resting_state known o.graph) o.loads).is_dynamic
