-- The versions of packages that loads count in: their files stay read.
use Rattle.std.proofs.Common.{◌≡◌, ℕ, List, [], ◌∷◌, ◌++◌, map, Bool, true, false, not, ◌&&◌, if◌then◌else◌, Option, None, Some, is_some, Result, Ok, Err, refl, sym, ap, ◌∙◌, subst}
use Rattle.std.specs.List.{All}
use Rattle.std.specs.Map.{lookup}
use Rattle.std.specs.FinMap as finite
use Rattle.std.proofs.lemmas.Bool.{true≢false}
use Rattle.std.proofs.lemmas.List.Elements.{All-append, All-cons, All-head, All-map, All-nil, All-push, All-tail, All-weaker}
use Rattle.indexmap.specs.IndexMap.{insert_entry}
use Rattle.url.specs.Parts.{Parts}
use Rattle.spec_base.specs.Specifier.{same_specifier}
use Rattle.spec_base.specs.declared.position.Range.{Range}
use Rattle.semver_npm.specs.declared.package.PackageNv.{PackageNv}
use Rattle.source_io.specs.declared.types.Answer.{Answer}
use Rattle.registry_files.specs.Kept.{FilesAt}
use Rattle.registry_files.specs.declared.kept_version.KeptVersion.{KeptVersion}
use Rattle.graph_dependencies.specs.declared.dependency.Dependency.{Dependency}
use Rattle.graph_dependencies.specs.declared.dependency.TypesDependency.{TypesDependency}
use Rattle.graph_dependencies.specs.declared.graph_import.GraphImport.{GraphImport}
use Rattle.graph_dependencies.specs.declared.graph_kind.GraphKind.{GraphKind}
use Rattle.graph_dependencies.specs.Kinds.{include_code}
use Rattle.version_dates.specs.declared.newest_date.NewestDependencyDateOptions.{NewestDependencyDateOptions}
use Rattle.registry_urls.specs.Meaning.{RegistryMeaning}
use Rattle.registry_files.specs.Answers.{FileAnswer}
use Rattle.graph_errors.specs.declared.jsr_error.JsrLoadError.{JsrLoadError}
use Rattle.graph_errors.specs.declared.jsr_error.JsrLoadError.TheVariants.{PackageVersionNotFound}
use Rattle.graph_errors.specs.declared.resolution.Resolution.{Resolution}
use Rattle.graph_errors.specs.declared.resolution.Resolution.TheVariants.{None as Nowhere, Ok as Leads, Err as Fails}
use Rattle.module_slots.specs.declared.load.Load.{Load}
use Rattle.module_slots.specs.declared.load.LoadContext.{LoadContext}
use Rattle.module_slots.specs.declared.slot.JsModule.{JsModule}
use Rattle.module_slots.specs.declared.slot.Module.{Module}
use Rattle.module_slots.specs.declared.slot.Module.TheVariants.{Js, Json, Wasm, Npm, Node, External}
use Rattle.module_slots.specs.declared.slot.ModuleSlot.{ModuleSlot}
use Rattle.module_slots.specs.declared.slot.ModuleSlot.TheVariants.{Module as Stands, Err as Failed, Pending}
use Rattle.graph_core.specs.Edges.{both_edges, edge_context, edge_of, edges_by, edges_of, import_context, import_edges, import_loads, loads_of, source_map_context, source_map_edge, source_map_edges, types_context, types_edge}
use Rattle.graph_turns.specs.declared.question_of.Asked.{Asked}
use Rattle.graph_turns.specs.declared.exports.Export.{Export}
use Rattle.graph_turns.specs.declared.later_content.LaterContent.{LaterContent}
use Rattle.graph_turns.specs.declared.next.Next.{Next}
use Rattle.graph_turns.specs.declared.next.Next.TheVariants.{Notes, Load as ALoad, Wanted, Restart, Item, Versions, Exports, Deferred, Waiting, Dynamic, Content, End}
use Rattle.graph_turns.specs.declared.outcome.Outcome.{Outcome}
use Rattle.graph_turns.specs.declared.outcome.Outcome.TheVariants.{At, To}
use Rattle.graph_turns.specs.declared.passes.Chosen.{Chosen}
use Rattle.graph_turns.specs.declared.passes.Pass.{Pass}
use Rattle.graph_turns.specs.declared.run.Run.{Run}
use Rattle.graph_turns.specs.declared.run.Run.TheVariants.{Only, First, Due, Second}
use Rattle.graph_turns.specs.declared.starting.ResolvedStart.{ResolvedStart}
use Rattle.graph_turns.specs.declared.state.State.{State}
use Rattle.graph_turns.specs.Machine.Contents.{content_by, content_stored}
use Rattle.graph_turns.specs.Machine.Files.{file_kept}
use Rattle.graph_turns.specs.Machine.Held.{IsHeld, IsReadAt}
use Rattle.graph_turns.specs.Machine.Outcomes.{Suits, failure_outcome}
use Rattle.graph_turns.specs.Machine.Outcomes.Suits.{settles, comes, goes_on}
use Rattle.graph_turns.specs.Machine.Redirects.{redirected_end, moved}
use Rattle.graph_turns.specs.Machine.Choosing.{judged}
use Rattle.graph_turns.specs.Machine.Passes.{all_entered, export_at, export_by_file, export_entered, exports_entered, exports_entered_in, pass_begun, versions_asked}
use Rattle.graph_turns.specs.Machine.RegistryFiles.{wanted_kept}
use Rattle.graph_turns.specs.Machine.Runs.{begun_again, cleared, restarted}
use Rattle.graph_turns.specs.Machine.Starting.{added_imports, added_loads, added_roots, start_entered, with_start}
use Rattle.graph_turns.specs.Machine.Turns.{deferred_entered, dynamic_entered, gone_on, waited_imports, waited_loads}
use Rattle.graph_turns.specs.Machine.Waiting.{notes_added}
use Rattle.graph_turns.specs.Promise.Input.{root_load}
use Rattle.graph_turns.specs.Promise.Reached.{in_package}
use Rattle.graph_turns.specs.Promise.Slots.{jsr_slot}
use Rattle.graph_turns.specs.Promise.Versions.{kept_of}
use Rattle.graph_turns.proofs.Entering.Enter.{Entered, Edged, how_entered, how_edged}
use Rattle.graph_turns.proofs.Entering.Enter.Entered.{refused, waits, stood, unstated, node, no_package, no_npm_package, passed_through, stays, awaits, opens, resolves}
use Rattle.graph_turns.proofs.Entering.Enter.Edged.{queues, enters}
use Rattle.graph_turns.proofs.Entering.Exports.{ExportEntered, how_export, used}
use Rattle.graph_turns.proofs.Entering.Exports.ExportEntered.{refused as export_refused, unjoined, ended, onward}
use Rattle.graph_turns.proofs.Entering.Files.{FilesStay, WantedKept, files_kept, how_wanted}
use Rattle.graph_turns.proofs.Entering.Files.WantedKept.{no_file, of_package, of_package_again, of_probe, of_version}
use Rattle.graph_turns.proofs.Entering.Loads.{Queued, how_queued, put_import, put_by}
use Rattle.graph_turns.proofs.Entering.Loads.Queued.{stood as queue_stood, put as queue_put}
use Rattle.graph_turns.proofs.Entering.Manners.{read_stays}
use Rattle.graph_turns.proofs.Entering.Rested.{Rests, leaves_edge, leaves_enter, rests_asked, rests_judged, still_export_entered}
use Rattle.graph_turns.specs.Machine.Entering.{Imports, Waits, deferred_with, edges_from, enter, enter_all, enter_edge, enter_edges, hop, placed_at, queued, redirected, redirects_ended, stored, stored_at, with_content, with_mark, is_end}

-- ---- edges count in the version of their module

module _ (P : Option PackageNv → Type 0) where
  -- the version that a load counts in is so
  abbrev pub CountsSo : Load → Type 0
  CountsSo load = P load.context.«package»

  edge_so : (context : Range → LoadContext) → ((r : Range) → P (context r).«package») → (t : Bool) (r : Resolution) → All CountsSo (edge_of context t r)
  edge_so context so t Nowhere = All-nil CountsSo
  edge_so context so t (Leads r) = All-cons CountsSo (record { specifier = r.specifier; context = context r.range; is_type = t }) [] (so r.range) (All-nil CountsSo)
  edge_so context so t (Fails e) = All-nil CountsSo

  both_so : (context : Range → LoadContext) → ((r : Range) → P (context r).«package») → (d : Dependency) → All CountsSo (both_edges context d)
  both_so context so d = All-append CountsSo (edge_of context false d.maybe_code) (edge_of context true d.maybe_type) (edge_so context so false d.maybe_code) (edge_so context so true d.maybe_type)

  if_so : (b : Bool) (xs : List Load) → All CountsSo xs → All CountsSo (if b then [] else xs)
  if_so true xs all = All-nil CountsSo
  if_so false xs all = all

  module _ (c : LoadContext) (p : P c.«package») where
    edges_so : (skip : Bool) (dependencies : List (List ℕ × Dependency)) → All CountsSo (edges_of skip c dependencies)
    edges_so skip [] = All-nil CountsSo
    edges_so skip (e ∷ es) = All-append CountsSo (edges_by skip c e.1) (edges_of skip c es) (if_so (e.1.is_dynamic && skip) (both_edges (edge_context c e.1) e.1) (both_so (edge_context c e.1) (λ r. p) e.1)) (edges_so skip es)

    types_so : (types : Option TypesDependency) → All CountsSo (types_edge c types)
    types_so None = All-nil CountsSo
    types_so (Some t) = edge_so (types_context c) (λ r. p) true t.dependency

    map_so : (map : Option TypesDependency) → All CountsSo (source_map_edge c map)
    map_so None = All-nil CountsSo
    map_so (Some t) = edge_so (source_map_context c) (λ r. p) false t.dependency

    maps_so : (kind : GraphKind) (m : JsModule) → All CountsSo (source_map_edges kind m c)
    maps_so kind m = if_so (not (include_code kind) && is_some m.maybe_types_dependency) (source_map_edge c m.maybe_source_map_dependency) (map_so m.maybe_source_map_dependency)

    pub loads_so : (kind : GraphKind) (skip : Bool) (m : Module) → All CountsSo (loads_of kind skip m c)
    unfolding loads_of
    loads_so kind skip (Js m) = All-append CountsSo (source_map_edges kind m c ++ edges_of skip c m.dependencies) (types_edge c m.maybe_types_dependency)
        (All-append CountsSo (source_map_edges kind m c) (edges_of skip c m.dependencies) (maps_so kind m) (edges_so skip m.dependencies))
        (types_so m.maybe_types_dependency)
    loads_so kind skip (Json m) = All-nil CountsSo
    loads_so kind skip (Wasm m) = edges_so skip m.dependencies
    loads_so kind skip (Npm m) = All-nil CountsSo
    loads_so kind skip (Node m) = All-nil CountsSo
    loads_so kind skip (External m) = All-nil CountsSo

    pub edges_from_so : (kind : GraphKind) (skip : Bool) (slot : ModuleSlot) → All CountsSo (edges_from kind skip slot c)
    edges_from_so kind skip (Stands m) = loads_so kind skip m
    edges_from_so kind skip (Failed e) = All-nil CountsSo
    edges_from_so kind skip (Pending asset) = All-nil CountsSo

  -- roots and configured imports count in none
  module _ (none : P None) where
    import_so : (dynamic : Bool) (dependencies : List (List ℕ × Dependency)) → All CountsSo (import_edges dynamic dependencies)
    import_so dynamic [] = All-nil CountsSo
    import_so dynamic (e ∷ es) = All-append CountsSo (both_edges (import_context dynamic) e.1) (import_edges dynamic es) (both_so (import_context dynamic) (λ r. none) e.1) (import_so dynamic es)

    pub imports_so : (dynamic : Bool) (imports : List (Parts × GraphImport)) → All CountsSo (import_loads dynamic imports)
    imports_so dynamic [] = All-nil CountsSo
    imports_so dynamic (i ∷ is) = All-append CountsSo (import_edges dynamic i.1.dependencies) (import_loads dynamic is) (import_so dynamic i.1.dependencies) (imports_so dynamic is)

    pub roots_so : (dynamic : Bool) (roots : List Parts) → All CountsSo (map (root_load dynamic) roots)
    roots_so dynamic [] = All-nil CountsSo
    roots_so dynamic (s ∷ ss) = All-cons CountsSo (root_load dynamic s) (map (root_load dynamic) ss) none (roots_so dynamic ss)

-- ---- what waits

-- what holds of all that waits and of one more
deferred_all : (P : Parts × LoadContext → Type 0) (es : Waits) (s : Parts) (c : LoadContext) → All P es → P (s, c) → All P (deferred_with es s c)
deferred_all P es s c all p = by (is_some (lookup (same_specifier s) es)) refl
  where
    last : (es : Waits) → All P es → is_some (lookup (same_specifier s) es) ≡ false → All P (insert_entry same_specifier es s c)
    last [] all none = All-cons P (s, c) [] p all
    last (e ∷ es) all none = by_same (same_specifier s e.0) none (last es (All-tail P e es all))
      where
        by_same : (b : Bool) → is_some (if b then Some e.1 else lookup (same_specifier s) es) ≡ false → (is_some (lookup (same_specifier s) es) ≡ false → All P (insert_entry same_specifier es s c)) → All P (if b then (e.0, c) ∷ es else e ∷ insert_entry same_specifier es s c)
        by_same true none rest = absurd (true≢false none)
        by_same false none rest = All-cons P e _ (All-head P e es all) (rest none)

    by : (b : Bool) → is_some (lookup (same_specifier s) es) ≡ b → All P (if b then es else insert_entry same_specifier es s c)
    by true t = all
    by false f = last es all f

module _ (P : Parts × Load → Type 0) (same : (s t : Parts) (load : Load) → P (s, load) → P (t, load)) where
  put_all : (es : Imports) (s : Parts) (load : Load) → All P es → P (s, load) → All P (put_import es s load)
  put_all [] s load all p = All-cons P (s, load) [] p all
  put_all (e ∷ es) s load all p = put_by s load e es (All P)
      (λ t. All-cons P (e.0, load) es (same s e.0 load p) (All-tail P e es all))
      (λ f. All-cons P e _ (All-head P e es all) (put_all es s load (All-tail P e es all) p))

  queued_all : (es : Imports) (load : Load) (new : Imports) → Queued es load new → All P es → P (load.specifier, load) → All P new
  queued_all es load new (queue_stood e) all p = all
  queued_all es load new queue_put all p = put_all es load.specifier load all p

-- ---- a load enters

-- the file of the version that a load counts in was read
abbrev pub IsReadFor : State → Load → Type 0
IsReadFor s load = IsReadAt (finite.get s.files) load.context.«package»

-- the graph, what is noted and what waits for a pass or for the end don't count
held_as : (s : State) → IsHeld s → (u : State) → record u { files = s.files; loads = s.loads; deferred = s.deferred; dynamic = s.dynamic } ≡ u → IsHeld u
held_as s held u is = subst IsHeld is (record { loads = held.loads; deferred = held.deferred; dynamic = held.dynamic })

held_entered : (s : State) (c : LoadContext) (at : Parts) (u : State) → Entered s c at u → IsHeld s → IsReadAt (finite.get s.files) c.«package» → IsHeld u
held_entered s c at u (refused e) held read = held_as s held u refl
held_entered s c at u (waits h w) held read = record {
  loads = held.loads;
  deferred = deferred_all (λ (e : Parts × LoadContext). IsReadAt (finite.get s.files) e.1.«package») s.deferred at c held.deferred read;
  dynamic = held.dynamic;
}
held_entered s c at u (stood h) held read = held_as s held u refl
held_entered s c at u (unstated f h e) held read = held_as s held u refl
held_entered s c at u (node h n) held read = held_as s held u refl
held_entered s c at u (no_package f h j n) held read = held_as s held u refl
held_entered s c at u (no_npm_package f h j n) held read = held_as s held u refl
held_entered s c at u (passed_through f h j n p) held read = held_as s held u refl
held_entered s c at u (stays j h) held read = held_as s held u refl
held_entered s c at u (awaits f h j n p) held read = held_as s held u refl
held_entered s c at u (resolves f h j o n) held read = held_as s held u refl
held_entered s c at u (opens f h n) held read = record {
  loads = All-push (IsReadFor s) s.loads (record { specifier = at; context = c; is_type = false }) held.loads read;
  deferred = held.deferred;
  dynamic = held.dynamic;
}

pub held_enter : (s : State) (load : Load) → IsHeld s → IsReadFor s load → IsHeld (enter s load)
held_enter s load held read = held_entered s load.context (redirected_end s.graph load.specifier) (enter s load) (how_entered s load) held read

-- what is known of files is as it was
read_as : (s u : State) → u.files ≡ s.files → (loads : List Load) → All (IsReadFor s) loads → All (IsReadFor u) loads
read_as s u same loads all = All-weaker (IsReadFor s) (IsReadFor u) (λ load r. subst (λ f. IsReadAt (finite.get f) load.context.«package») (sym same) r) loads all

pub held_enter_all : (s : State) (loads : List Load) → IsHeld s → All (IsReadFor s) loads → IsHeld (enter_all s loads)
unfolding enter_all
held_enter_all s [] held all = held
held_enter_all s (load ∷ loads) held all =
    held_enter_all (enter s load) loads (held_enter s load held (All-head (IsReadFor s) load loads all)) (read_as s (enter s load) (leaves_enter s load).files loads (All-tail (IsReadFor s) load loads all))

held_edged : (s : State) (load : Load) (u : State) → Edged s load u → IsHeld s → IsReadFor s load → IsHeld u
held_edged s load u (queues p f) held read = record {
  loads = held.loads;
  deferred = held.deferred;
  dynamic = queued_all (λ (e : Parts × Load). IsReadFor s e.1) (λ a b l r. r) s.dynamic load (queued s.dynamic load) (how_queued s.dynamic load) held.dynamic read;
}
held_edged s load u enters held read = held_enter s (with_mark s.root_names load) held read

pub held_edge : (s : State) (load : Load) → IsHeld s → IsReadFor s load → IsHeld (enter_edge s load)
held_edge s load held read = held_edged s load (enter_edge s load) (how_edged s load) held read

pub held_edges : (s : State) (loads : List Load) → IsHeld s → All (IsReadFor s) loads → IsHeld (enter_edges s loads)
unfolding enter_edges
held_edges s [] held all = held
held_edges s (load ∷ loads) held all =
    held_edges (enter_edge s load) loads (held_edge s load held (All-head (IsReadFor s) load loads all)) (read_as s (enter_edge s load) (leaves_edge s load).files loads (All-tail (IsReadFor s) load loads all))

-- ---- an outcome is stored

held_stored_at : (s : State) (load : Load) (held : Option PackageNv) (name : Parts) (slot : ModuleSlot) → IsHeld s → IsReadAt (finite.get s.files) held → IsHeld (stored_at s load held name slot)
held_stored_at s load held name slot h read =
    held_edges (placed_at s load held name slot) (edges_from s.graph.kind s.flags.skip_dynamic_deps slot (in_package held load.context))
    (record { loads = h.loads; deferred = h.deferred; dynamic = h.dynamic })
    (edges_from_so (IsReadAt (finite.get s.files)) (in_package held load.context) read s.graph.kind s.flags.skip_dynamic_deps slot)

held_to : (s : State) (load : Load) (n : Parts) (b : Bool) → IsHeld s → IsReadFor s load → IsHeld (if b then redirects_ended s load else redirected s load n)
held_to s load n true held read = record { loads = held.loads; deferred = held.deferred; dynamic = held.dynamic }
held_to s load n false held read =
    held_enter (record s { graph = moved s.graph load.specifier n }) (record { specifier = n; context = hop load.context; is_type = false })
    (record { loads = held.loads; deferred = held.deferred; dynamic = held.dynamic }) read

by_suits : (most : ℕ) (s : State) (load : Load) (asked : Asked) (outcome : Outcome) → Suits load asked outcome → IsHeld s → IsReadFor s load → IsReadAt (finite.get s.files) asked.held → IsHeld (stored most s load outcome)
unfolding stored
by_suits most s load asked outcome (settles {name} {slot}) held read counts = held_stored_at s load asked.held name slot held counts
by_suits most s load asked outcome (comes {slot} a) held read counts =
    held_stored_at (with_content s (Some (record { specifier = load.specifier; context = load.context; checksum = asked.checksum }))) load asked.held load.specifier slot
    (record { loads = held.loads; deferred = held.deferred; dynamic = held.dynamic }) counts
by_suits most s load asked outcome (goes_on {n} e) held read counts = held_to s load n (is_end most s load n) held read

-- what suits a load, where the file of the version that it is asked about in was read
pub held_stored : (most : ℕ) (s : State) (load : Load) (asked : Asked) (outcome : Outcome) → IsHeld s → IsReadFor s load → IsReadAt (finite.get s.files) asked.held → Suits load asked outcome → IsHeld (stored most s load outcome)
held_stored most s load asked outcome held read counts suits = by_suits most s load asked outcome suits held read counts

-- a load that fails without a question
pub held_failed : (most : ℕ) (s : State) (load : Load) (name : Parts) (e : JsrLoadError) → IsHeld s → IsReadFor s load → IsHeld (stored most s load (failure_outcome load.context name e))
unfolding stored
held_failed most s load name e held read = held_stored_at s load load.context.«package» name (jsr_slot name load.context e) held read

-- the first load is taken
pub held_taken : (s rest : State) (load : Load) → s ≡ record rest { loads = load ∷ rest.loads } → IsHeld s → IsHeld rest × IsReadFor rest load
held_taken s rest load is held =
    let h : IsHeld (record rest { loads = load ∷ rest.loads }) = subst IsHeld is held in
    (record { loads = All-tail (IsReadFor rest) load rest.loads h.loads; deferred = h.deferred; dynamic = h.dynamic }, All-head (IsReadFor rest) load rest.loads h.loads)

-- ---- where no load is open

waits_read : (s : State) (es : Waits) → All (λ (e : Parts × LoadContext). IsReadAt (finite.get s.files) e.1.«package») es → All (IsReadFor s) (waited_loads es)
waits_read s es all = All-map (IsReadFor s) (λ (e : Parts × LoadContext). record { specifier = e.0; context = e.1; is_type = false }) es all

imports_read : (s : State) (names : List Parts) (es : Imports) → All (λ (e : Parts × Load). IsReadFor s e.1) es → All (IsReadFor s) (waited_imports names es)
imports_read s names es all = All-map (IsReadFor s) (λ (e : Parts × Load). with_mark names e.1) es all

pub held_deferred : (s : State) → IsHeld s → IsHeld (deferred_entered s)
unfolding deferred_entered
held_deferred s held = held_enter_all (record s { deferred = [] }) (waited_loads s.deferred)
    (record { loads = held.loads; deferred = All-nil (λ (e : Parts × LoadContext). IsReadAt (finite.get s.files) e.1.«package»); dynamic = held.dynamic })
    (waits_read s s.deferred held.deferred)

pub held_dynamic : (s : State) → IsHeld s → IsHeld (dynamic_entered s)
unfolding dynamic_entered
held_dynamic s held = held_enter_all (record s { dynamic = []; is_dynamic = true }) (waited_imports s.root_names s.dynamic)
    (record { loads = held.loads; deferred = held.deferred; dynamic = All-nil (λ (e : Parts × Load). IsReadFor s e.1) })
    (imports_read s s.root_names s.dynamic held.dynamic)

-- ---- a pass

-- what a step leaves by which nothing enters
held_rests : (s u : State) → Rests s u → IsHeld s → IsHeld u
held_rests s u a held = record {
  loads = subst (λ l. All (IsReadFor u) l) (sym a.loads) (read_as s u a.files s.loads held.loads);
  deferred = subst (λ l. All (λ (e : Parts × LoadContext). IsReadAt (finite.get u.files) e.1.«package») l) (sym a.deferred)
      (subst (λ f. All (λ (e : Parts × LoadContext). IsReadAt (finite.get f) e.1.«package») s.deferred) (sym a.files) held.deferred);
  dynamic = subst (λ l. All (λ (e : Parts × Load). IsReadAt (finite.get u.files) e.1.context.«package») l) (sym a.dynamic)
      (subst (λ f. All (λ (e : Parts × Load). IsReadAt (finite.get f) e.1.context.«package») s.dynamic) (sym a.files) held.dynamic);
}

-- an export that is used is one of a version whose file was read
pub export_read : (s : State) (one : Chosen) (e : Export) → export_at s one ≡ Ok e → IsReadAt (finite.get s.files) (Some one.nv)
export_read s one e is = by (finite.get s.files one.nv) refl is
  where
    by : (o : Option (Result KeptVersion JsrLoadError)) → finite.get s.files one.nv ≡ o → export_by_file one.nv one.item.sub_path o ≡ Ok e → (v : KeptVersion) × (finite.get s.files one.nv ≡ Some (Ok v))
    by None f is = absurd (let wrong : ◌≡◌ {A = Result Export JsrLoadError} (Err (PackageVersionNotFound one.nv)) (Ok e) = is in cc)
    by (Some (Err x)) f is = absurd (let wrong : ◌≡◌ {A = Result Export JsrLoadError} (Err x) (Ok e) = is in cc)
    by (Some (Ok v)) f is = (v, f)

held_export : (s : State) (top : Bool) (one : Chosen) (u : State) → ExportEntered s top one u → IsHeld s → IsHeld u
held_export s top one u (export_refused e) held = held_as s held u refl
held_export s top one u (unjoined e to) held = held_as s held u refl
held_export s top one u (ended e to b) held = held_as s held u refl
held_export s top one u (onward {e} {to} is leads b) held =
    let t : State = record (used s top one e) { graph = moved (used s top one e).graph one.item.specifier to } in
    held_enter t (record { specifier = to; context = in_package (Some one.nv) one.item.context; is_type = false }) (held_as s held t refl) (export_read s one e is)

pub held_export_entered : (s : State) (top : Bool) (one : Chosen) → IsHeld s → IsHeld (export_entered s top one)
held_export_entered s top one held = held_export s top one (export_entered s top one) (how_export s top one) held

pub held_all_entered : (s : State) (top : Bool) (all : List Chosen) → IsHeld s → IsHeld (all_entered s top all)
unfolding all_entered
held_all_entered s top [] held = held
held_all_entered s top (one ∷ others) held = held_all_entered (export_entered s top one) top others (held_export_entered s top one held)

pub held_exports : (s : State) → IsHeld s → IsHeld (exports_entered s)
held_exports s held = by s.pass
  where
    by : (o : Option Pass) → IsHeld (exports_entered_in s o)
    by None = held
    by (Some p) = held_all_entered (record s { pass = None }) p.is_top_level p.chosen (held_as s held (record s { pass = None }) refl)

-- ---- what a build begins with

pub held_started : (s : State) (start : ResolvedStart) → IsHeld s → IsHeld (start_entered s start)
unfolding start_entered
held_started s start held =
    let t : State = record s { graph = with_start s.graph start } in
    let roots : List Load = map (root_load s.flags.is_dynamic) (added_roots s.graph.roots start.roots) in
    let imports : List Load = import_loads s.flags.is_dynamic (added_imports s.graph.imports start.imports) in
    held_enter_all t (added_loads s.flags.is_dynamic s.graph start) (held_as s held t refl)
    (All-append (IsReadFor t) roots imports
    (roots_so (IsReadAt (finite.get s.files)) tt s.flags.is_dynamic (added_roots s.graph.roots start.roots))
    (imports_so (IsReadAt (finite.get s.files)) tt s.flags.is_dynamic (added_imports s.graph.imports start.imports)))

-- nothing is open in a state that begins once more
held_cleared : (s : State) → IsHeld (cleared s)
held_cleared s =
    let u : State = cleared s in
    record {
      loads = All-nil (IsReadFor u);
      deferred = All-nil (λ (e : Parts × LoadContext). IsReadAt (finite.get u.files) e.1.«package»);
      dynamic = All-nil (λ (e : Parts × Load). IsReadAt (finite.get u.files) e.1.context.«package»);
    }

pub held_restarted : (s : State) → IsHeld s → IsHeld (restarted s)
held_restarted s held = by s.run
  where
    by : (run : Run) → IsHeld (begun_again s run)
    by Only = held
    by (First start) = held
    by (Due start) = held_started (cleared s) start (held_cleared s)
    by (Second e) = held

-- ---- files and contents

-- more is known of files
pub held_file : (s : State) (nv : PackageNv) (kept : Result KeptVersion JsrLoadError) → IsHeld s → IsHeld (file_kept s nv kept)
held_file s nv kept held =
    let u : State = file_kept s nv kept in
    let more : (held : Option PackageNv) → IsReadAt (finite.get s.files) held → IsReadAt (finite.get u.files) held = λ h r. read_stays (finite.get s.files) (finite.get u.files) h (files_kept s nv kept) r in
    record {
      loads = All-weaker (IsReadFor s) (IsReadFor u) (λ load r. more load.context.«package» r) s.loads held.loads;
      deferred = All-weaker (λ (e : Parts × LoadContext). IsReadAt (finite.get s.files) e.1.«package») (λ (e : Parts × LoadContext). IsReadAt (finite.get u.files) e.1.«package») (λ e r. more e.1.«package» r) s.deferred held.deferred;
      dynamic = All-weaker (λ (e : Parts × Load). IsReadFor s e.1) (λ (e : Parts × Load). IsReadFor u e.1) (λ e r. more e.1.context.«package» r) s.dynamic held.dynamic;
    }

-- a content changes the graph alone
pub held_content : (s : State) (a : Answer) → IsHeld s → IsHeld (content_stored s a)
held_content s a held = by s.contents
  where
    by : (ls : List LaterContent) → IsHeld (content_by s ls a)
    by [] = held
    by (l ∷ ls) = record { loads = held.loads; deferred = held.deferred; dynamic = held.dynamic }

-- ---- what comes next is done

pub held_next : (registry : RegistryMeaning) (newest : NewestDependencyDateOptions) (s : State) (n : Next) → IsHeld s → IsHeld (gone_on registry newest s n)
held_next registry newest s Notes held = held_as s held (notes_added registry s) refl
held_next registry newest s ALoad held = held
held_next registry newest s Wanted held = held
held_next registry newest s Restart held = held_restarted s held
held_next registry newest s Item held = held_rests s (judged newest s) (rests_judged newest s) held
held_next registry newest s Versions held = held_rests s (versions_asked s) (rests_asked s) held
held_next registry newest s Exports held = held_exports s held
held_next registry newest s Deferred held = held_deferred s held
held_next registry newest s Waiting held = held_as s held (pass_begun s) refl
held_next registry newest s Dynamic held = held_dynamic s held
held_next registry newest s Content held = held
held_next registry newest s End held = held

-- a file that a pass wants is known
held_wanted_by : (registry : RegistryMeaning) (s : State) (answer : FileAnswer) (u : State) → WantedKept registry s answer u → IsHeld s → IsHeld u
held_wanted_by registry s answer u (no_file e) held = held
held_wanted_by registry s answer u (of_package e) held = held_as s held u refl
held_wanted_by registry s answer u (of_package_again e) held = held_as s held u refl
held_wanted_by registry s answer u (of_probe e) held = held_as s held u refl
held_wanted_by registry s answer u (of_version {nv} {files} e) held =
    let t : State = record s { wanted = files } in
    held_file t nv (kept_of registry nv answer) (held_as s held t refl)

pub held_wanted : (registry : RegistryMeaning) (s : State) (answer : FileAnswer) → IsHeld s → IsHeld (wanted_kept registry s answer)
held_wanted registry s answer held = held_wanted_by registry s answer (wanted_kept registry s answer) (how_wanted registry s answer) held
