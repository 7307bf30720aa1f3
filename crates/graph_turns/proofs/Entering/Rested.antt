-- What entering leaves as it was, and what the turns leave that put no question.
use Rattle.std.proofs.Common.{◌≡◌, ℕ, zero, suc, ◌+◌, List, [], ◌∷◌, ◌++◌, length, ◌==◌, ◌&&◌, not, Bool, true, false, Option, None, Some, Result, Ok, Err, if◌then◌else◌, refl, sym, ap, ◌∙◌, subst, append_assoc, arith}
use Rattle.std.proofs.lemmas.List.{append-nil}
use Rattle.std.proofs.lemmas.Bool.{true≢false}
use Rattle.std.proofs.lemmas.Bool.Decides.{nat_tests}
use Rattle.std.specs.List.{list_any}
use Rattle.url.specs.Parts.{Parts}
use Rattle.spec_base.specs.Options.{by_option}
use Rattle.semver_npm.specs.declared.package.PackageNv.{PackageNv}
use Rattle.version_dates.specs.declared.newest_date.NewestDependencyDateOptions.{NewestDependencyDateOptions}
use Rattle.registry_urls.specs.Meaning.{RegistryMeaning}
use Rattle.registry_files.specs.Answers.{FileAnswer}
use Rattle.registry_files.specs.declared.kept_version.KeptVersion.{KeptVersion}
use Rattle.graph_errors.specs.declared.jsr_error.JsrLoadError.{JsrLoadError}
use Rattle.graph_core.specs.declared.graph.ModuleGraph.{ModuleGraph}
use Rattle.module_slots.specs.declared.load.Load.{Load}
use Rattle.module_slots.specs.declared.load.LoadContext.{LoadContext}
use Rattle.module_slots.specs.declared.slot.ModuleSlot.{ModuleSlot}
use Rattle.graph_core.specs.Graph.{slot_at, with_slot}
use Rattle.module_slots.specs.Slots.{failed_slot}
use Rattle.graph_turns.specs.declared.choosing.Verdict.{Verdict}
use Rattle.graph_turns.specs.declared.choosing.Verdict.TheVariants.{AsksAgain, Probes, Restarts, Gets, Fails}
use Rattle.graph_turns.specs.declared.dependencies.Note.{Note}
use Rattle.graph_turns.specs.declared.exports.Export.{Export}
use Rattle.graph_turns.specs.declared.later_content.LaterContent.{LaterContent}
use Rattle.graph_turns.specs.declared.next.Next.{Next}
use Rattle.graph_turns.specs.declared.next.Next.TheVariants.{Notes, Load as ALoad, Wanted, Restart, Item, Versions, Exports, Deferred, Waiting, Dynamic, Content, End}
use Rattle.graph_turns.specs.declared.outcome.Outcome.{Outcome}
use Rattle.graph_turns.specs.declared.outcome.Outcome.TheVariants.{At, To}
use Rattle.graph_turns.specs.declared.passes.Chosen.{Chosen}
use Rattle.graph_turns.specs.declared.passes.Pass.{Pass}
use Rattle.graph_turns.specs.declared.registry.RegistryFile.{RegistryFile}
use Rattle.graph_turns.specs.declared.registry.RegistryFile.TheVariants.{Package, PackageAgain, Version, Probe}
use Rattle.graph_turns.specs.declared.run.Earlier.{Earlier}
use Rattle.graph_turns.specs.declared.run.Run.{Run}
use Rattle.graph_turns.specs.declared.run.Run.TheVariants.{Only, First, Due, Second}
use Rattle.graph_turns.specs.declared.starting.ResolvedStart.{ResolvedStart}
use Rattle.graph_turns.specs.declared.state.State.{State}
use Rattle.graph_turns.specs.declared.waiting.WaitingPackage.{WaitingPackage}
use Rattle.graph_turns.specs.Promise.Packages.{unjoinable}
use Rattle.graph_turns.specs.Promise.Reached.{in_package}
use Rattle.graph_turns.specs.Promise.Slots.{external_slot}
use Rattle.graph_turns.specs.Machine.Probing.{probes}
use Rattle.graph_turns.specs.Machine.Choosing.{judged, judged_by, judged_first, judged_in, verdict}
use Rattle.graph_turns.specs.Machine.Files.{file_kept}
use Rattle.graph_turns.specs.Machine.Next.{stands}
use Rattle.graph_turns.specs.Machine.Passes.{all_entered, export_entered, exports_entered, exports_entered_in, pass_begun, versions_asked, versions_asked_in}
use Rattle.graph_turns.specs.Machine.Redirects.{redirected_end, moved}
use Rattle.graph_turns.specs.Machine.RegistryFiles.{answer_kept, first_kept, wanted_kept}
use Rattle.graph_turns.specs.Machine.Runs.{begun_again, cleared, restarted}
use Rattle.graph_turns.specs.Machine.Starting.{added_loads, start_entered, with_start}
use Rattle.graph_turns.specs.Machine.Turns.{deferred_entered, dynamic_entered, gone_on, waited_imports, waited_loads}
use Rattle.graph_turns.specs.Machine.Waiting.{load_of, notes_added, waiting_at}
use Rattle.graph_turns.proofs.Entering.Enter.{Entered, Edged, how_entered, how_edged}
use Rattle.graph_turns.proofs.Entering.Enter.Entered.{refused, waits, stood, unstated, node, no_package, no_npm_package, passed_through, stays, awaits, opens, resolves}
use Rattle.graph_turns.proofs.Entering.Enter.Edged.{queues, enters}
use Rattle.graph_turns.proofs.Entering.Exports.{ExportEntered, how_export, used}
use Rattle.graph_turns.proofs.Entering.Exports.ExportEntered.{refused as export_refused, unjoined, ended, onward}
use Rattle.graph_turns.proofs.Entering.Next.{NextIs}
use Rattle.graph_turns.proofs.Entering.Next.NextIs.{notes as comes_notes, loads as comes_load, wanted as comes_file, restart as comes_restart, item as comes_item, versions as comes_versions, exports as comes_exports, deferred as comes_deferred, waiting as comes_waiting, dynamic as comes_dynamic, content as comes_content, ends as comes_end}
use Rattle.graph_turns.specs.Machine.Entering.{Waits, Imports, deferred_with, enter, enter_all, enter_edge, enter_edges, edges_from, hop, is_pending_asset_at, opened, opens_asset, placed_at, redirected, redirects_ended, stored, stored_at, waits_for_asset, with_mark, with_content, with_node, is_end}

-- later ones only come at the end
abbrev pub Grows : {A : Type 0} → List A → List A → Type 0
Grows {A} before after = (added : List A) × (after ≡ before ++ added)

pub grows_none : {A : Type 0} (l : List A) → Grows l l
grows_none l = ([], sym (append-nil l))

pub grows_both : {A : Type 0} (a b c : List A) → Grows a b → Grows b c → Grows a c
grows_both {A} a b c first second = (first.0 ++ second.0, second.1 ∙ ap (λ (l : List A). l ++ second.0) first.1 ∙ append_assoc a first.0 second.0)

pub grows_empty : {A : Type 0} (a b : List A) → Grows a b → b ≡ [] → a ≡ []
grows_empty [] b g e = refl
grows_empty (l ∷ a) b g e = let wrong : l ∷ (a ++ g.0) ≡ [] = sym g.1 ∙ e in cc

grows_same : {A : Type 0} (a b : List A) → b ≡ a → Grows a b
grows_same a b e = ([], e ∙ sym (append-nil a))

pub grows_from : {A : Type 0} (a b : List A) → a ≡ [] → Grows a b
grows_from {A} a b e = (b, sym (ap (λ (l : List A). l ++ b) e))

-- what loads that enter leave
pub record Still (s u : State) : Type 0 where
  pub flags : u.flags ≡ s.flags
  pub files : u.files ≡ s.files
  pub packages : u.packages ≡ s.packages
  pub reloaded : u.reloaded ≡ s.reloaded
  pub probed : u.probed ≡ s.probed
  pub wanted : u.wanted ≡ s.wanted
  pub pass : u.pass ≡ s.pass
  pub run : u.run ≡ s.run
  pub contents : u.contents ≡ s.contents
  pub dynamic : u.dynamic ≡ s.dynamic
  pub is_dynamic : u.is_dynamic ≡ s.is_dynamic
  pub root_names : u.root_names ≡ s.root_names
  pub sums : u.sums ≡ s.sums
  pub grows : Grows s.loads u.loads
  pub waiting : Grows s.waiting u.waiting
  pub deferred : u.loads ≡ [] → u.deferred ≡ s.deferred

-- the graph, what is noted, open or deferred, and what waits may change
still_with : (s : State) (g : ModuleGraph) (notes : List Note) (loads : List Load) (deferred : Waits) (waiting : List WaitingPackage) → Grows s.loads loads → Grows s.waiting waiting → (loads ≡ [] → deferred ≡ s.deferred) → Still s (record s { graph = g; notes = notes; loads = loads; deferred = deferred; waiting = waiting })
still_with s g notes loads deferred waiting more later kept = record {
  flags = refl;
  files = refl;
  packages = refl;
  reloaded = refl;
  probed = refl;
  wanted = refl;
  pass = refl;
  run = refl;
  contents = refl;
  dynamic = refl;
  is_dynamic = refl;
  root_names = refl;
  sums = refl;
  grows = more;
  waiting = later;
  deferred = kept;
}

-- the graph and what is noted
still_graph : (s : State) (g : ModuleGraph) (notes : List Note) → Still s (record s { graph = g; notes = notes })
still_graph s g notes = still_with s g notes s.loads s.deferred s.waiting (grows_none s.loads) (grows_none s.waiting) (λ e. refl)

pub still_same : (s : State) → Still s s
still_same s = still_graph s s.graph s.notes

pub still_both : (s t u : State) → Still s t → Still t u → Still s u
still_both s t u a b = record {
  flags = b.flags ∙ a.flags;
  files = b.files ∙ a.files;
  packages = b.packages ∙ a.packages;
  reloaded = b.reloaded ∙ a.reloaded;
  probed = b.probed ∙ a.probed;
  wanted = b.wanted ∙ a.wanted;
  pass = b.pass ∙ a.pass;
  run = b.run ∙ a.run;
  contents = b.contents ∙ a.contents;
  dynamic = b.dynamic ∙ a.dynamic;
  is_dynamic = b.is_dynamic ∙ a.is_dynamic;
  root_names = b.root_names ∙ a.root_names;
  sums = b.sums ∙ a.sums;
  grows = grows_both s.loads t.loads u.loads a.grows b.grows;
  waiting = grows_both s.waiting t.waiting u.waiting a.waiting b.waiting;
  deferred = λ e. b.deferred e ∙ a.deferred (grows_empty t.loads u.loads b.grows e);
}

-- behind another graph
still_over : (s u : State) (g : ModuleGraph) → Still (record s { graph = g }) u → Still s u
still_over s u g a = still_both s (record s { graph = g }) u (still_graph s g s.notes) a

pub and_last : (a b c : Bool) → a && (b && c) ≡ true → c ≡ true
and_last true true c e = e
and_last true false c e = absurd (true≢false (sym e))
and_last false b c e = absurd (true≢false (sym e))

-- a load that waits for an asset does so while a load is open
still_open : (s : State) (c : LoadContext) (at : Parts) → waits_for_asset s c at ≡ true → s.loads ≡ [] → deferred_with s.deferred at c ≡ s.deferred
still_open s c at w e = absurd (
    let some : list_any (opens_asset at) s.loads ≡ true = and_last (not c.asset) (is_pending_asset_at (slot_at s.graph at)) (list_any (opens_asset at) s.loads) w in
    let none : list_any (opens_asset at) s.loads ≡ false = ap (list_any (opens_asset at)) e in
    true≢false (sym some ∙ none))

still_entered : (s : State) (c : LoadContext) (at : Parts) (u : State) → Entered s c at u → Still s u
still_entered s c at u (refused {kind} e) = still_graph s (with_slot s.graph at (failed_slot kind)) s.notes
still_entered s c at u (waits {notes} h w) = still_with s s.graph notes s.loads (deferred_with s.deferred at c) s.waiting (grows_none s.loads) (grows_none s.waiting) (still_open s c at w)
still_entered s c at u (stood {notes} h) = still_graph s s.graph notes
still_entered s c at u (unstated {kind} f h e) = still_graph s (with_slot s.graph at (failed_slot kind)) s.notes
still_entered s c at u (node h n) = still_graph s (with_node s.graph at) s.notes
still_entered s c at u (no_package f h j n) = still_graph s u.graph s.notes
still_entered s c at u (no_npm_package f h j n) = still_graph s u.graph s.notes
still_entered s c at u (passed_through {notes} f h j n p) = still_graph s (with_slot s.graph at (external_slot at false)) notes
still_entered s c at u (stays {notes} j h) = still_graph s s.graph notes
still_entered s c at u (awaits {notes} {r} f h j n p) = still_with s s.graph notes s.loads s.deferred (s.waiting ++ waiting_at at r c ∷ []) (grows_none s.loads) (waiting_at at r c ∷ [], refl) (λ e. refl)
still_entered s c at u (resolves f h j o n) = record {
  flags = refl;
  files = refl;
  packages = refl;
  reloaded = refl;
  probed = refl;
  wanted = refl;
  pass = refl;
  run = refl;
  contents = refl;
  dynamic = refl;
  is_dynamic = refl;
  root_names = refl;
  sums = refl;
  grows = grows_none s.loads;
  waiting = grows_none s.waiting;
  deferred = λ e. refl;
}
still_entered s c at u (opens {notes} f h n) = still_with s u.graph notes u.loads s.deferred s.waiting ((record { specifier = at; context = c; is_type = false }) ∷ [], refl) (grows_none s.waiting) (λ e. refl)

pub still_enter : (s : State) (load : Load) → Still s (enter s load)
still_enter s load = still_entered s load.context (redirected_end s.graph load.specifier) (enter s load) (how_entered s load)

pub still_enter_all : (s : State) (loads : List Load) → Still s (enter_all s loads)
unfolding enter_all
still_enter_all s [] = still_same s
still_enter_all s (load ∷ loads) = still_both s (enter s load) _ (still_enter s load) (still_enter_all (enter s load) loads)

-- ---- edges

-- what edges that enter leave, and what an answer gives, but for a content that comes later
pub record Leaves (s u : State) : Type 0 where
  pub flags : u.flags ≡ s.flags
  pub files : u.files ≡ s.files
  pub packages : u.packages ≡ s.packages
  pub reloaded : u.reloaded ≡ s.reloaded
  pub probed : u.probed ≡ s.probed
  pub wanted : u.wanted ≡ s.wanted
  pub pass : u.pass ≡ s.pass
  pub run : u.run ≡ s.run
  pub contents : u.contents ≡ s.contents
  pub is_dynamic : u.is_dynamic ≡ s.is_dynamic
  pub grows : Grows s.loads u.loads
  pub waiting : Grows s.waiting u.waiting

leaves_still : (s u : State) → Still s u → Leaves s u
leaves_still s u a = record {
  flags = a.flags;
  files = a.files;
  packages = a.packages;
  reloaded = a.reloaded;
  probed = a.probed;
  wanted = a.wanted;
  pass = a.pass;
  run = a.run;
  contents = a.contents;
  is_dynamic = a.is_dynamic;
  grows = a.grows;
  waiting = a.waiting;
}

-- the graph, dynamic imports that wait, names of roots and sums may change
leaves_with : (s u : State) (v : State) → v ≡ record u { graph = v.graph; dynamic = v.dynamic; root_names = v.root_names; sums = v.sums } → Leaves s u → Leaves s v
leaves_with s u v is a = subst (Leaves s) (sym is) (record {
  flags = a.flags;
  files = a.files;
  packages = a.packages;
  reloaded = a.reloaded;
  probed = a.probed;
  wanted = a.wanted;
  pass = a.pass;
  run = a.run;
  contents = a.contents;
  is_dynamic = a.is_dynamic;
  grows = a.grows;
  waiting = a.waiting;
})

pub leaves_same : (s : State) → Leaves s s
leaves_same s = leaves_still s s (still_same s)

pub leaves_both : (s t u : State) → Leaves s t → Leaves t u → Leaves s u
leaves_both s t u a b = record {
  flags = b.flags ∙ a.flags;
  files = b.files ∙ a.files;
  packages = b.packages ∙ a.packages;
  reloaded = b.reloaded ∙ a.reloaded;
  probed = b.probed ∙ a.probed;
  wanted = b.wanted ∙ a.wanted;
  pass = b.pass ∙ a.pass;
  run = b.run ∙ a.run;
  contents = b.contents ∙ a.contents;
  is_dynamic = b.is_dynamic ∙ a.is_dynamic;
  grows = grows_both s.loads t.loads u.loads a.grows b.grows;
  waiting = grows_both s.waiting t.waiting u.waiting a.waiting b.waiting;
}

pub leaves_enter : (s : State) (load : Load) → Leaves s (enter s load)
leaves_enter s load = leaves_still s (enter s load) (still_enter s load)

pub leaves_enter_all : (s : State) (loads : List Load) → Leaves s (enter_all s loads)
leaves_enter_all s loads = leaves_still s (enter_all s loads) (still_enter_all s loads)

leaves_edged : (s : State) (load : Load) (u : State) → Edged s load u → Leaves s u
leaves_edged s load u (queues p f) = leaves_with s s u refl (leaves_same s)
leaves_edged s load u enters = leaves_enter s (with_mark s.root_names load)

pub leaves_edge : (s : State) (load : Load) → Leaves s (enter_edge s load)
leaves_edge s load = leaves_edged s load (enter_edge s load) (how_edged s load)

pub leaves_edges : (s : State) (loads : List Load) → Leaves s (enter_edges s loads)
unfolding enter_edges
leaves_edges s [] = leaves_same s
leaves_edges s (load ∷ loads) = leaves_both s (enter_edge s load) _ (leaves_edge s load) (leaves_edges (enter_edge s load) loads)

pub leaves_stored_at : (s : State) (load : Load) (held : Option PackageNv) (name : Parts) (slot : ModuleSlot) → Leaves s (stored_at s load held name slot)
leaves_stored_at s load held name slot =
    leaves_both s (placed_at s load held name slot) (stored_at s load held name slot)
    (leaves_with s s (placed_at s load held name slot) refl (leaves_same s))
    (leaves_edges (placed_at s load held name slot) (edges_from s.graph.kind s.flags.skip_dynamic_deps slot (in_package held load.context)))

-- what is stored leaves them, but for the content that comes later
pub leaves_at : (most : ℕ) (s : State) (load : Load) (name : Parts) (slot : ModuleSlot) (held : Option PackageNv) (content : Option LaterContent) → Leaves (with_content s content) (stored most s load (At name slot held content))
unfolding stored
leaves_at most s load name slot held content = leaves_stored_at (with_content s content) load held name slot

pub leaves_to : (most : ℕ) (s : State) (load : Load) (n : Parts) → Leaves s (stored most s load (To n))
unfolding stored
leaves_to most s load n = by_end (is_end most s load n)
  where
    by_end : (b : Bool) → Leaves s (if b then redirects_ended s load else redirected s load n)
    by_end true = leaves_with s s (redirects_ended s load) refl (leaves_same s)
    by_end false =
        let t : State = record s { graph = moved s.graph load.specifier n } in
        leaves_both s t (redirected s load n)
        (leaves_with s s t refl (leaves_same s))
        (leaves_enter t (record { specifier = n; context = hop load.context; is_type = false }))

files_content : (s : State) (content : Option LaterContent) → (with_content s content).files ≡ s.files
files_content s None = refl
files_content s (Some l) = refl

pub files_stored : (most : ℕ) (s : State) (load : Load) (o : Outcome) → (stored most s load o).files ≡ s.files
files_stored most s load (At name slot held content) = (leaves_at most s load name slot held content).files ∙ files_content s content
files_stored most s load (To n) = (leaves_to most s load n).files

-- what an answer gives leaves all but a content that comes later
pub record Stores (s u : State) : Type 0 where
  pub flags : u.flags ≡ s.flags
  pub files : u.files ≡ s.files
  pub packages : u.packages ≡ s.packages
  pub reloaded : u.reloaded ≡ s.reloaded
  pub probed : u.probed ≡ s.probed
  pub wanted : u.wanted ≡ s.wanted
  pub pass : u.pass ≡ s.pass
  pub run : u.run ≡ s.run
  pub is_dynamic : u.is_dynamic ≡ s.is_dynamic
  pub grows : Grows s.loads u.loads
  pub waiting : Grows s.waiting u.waiting

stores_leaves : (s u : State) → Leaves s u → Stores s u
stores_leaves s u a = record {
  flags = a.flags;
  files = a.files;
  packages = a.packages;
  reloaded = a.reloaded;
  probed = a.probed;
  wanted = a.wanted;
  pass = a.pass;
  run = a.run;
  is_dynamic = a.is_dynamic;
  grows = a.grows;
  waiting = a.waiting;
}

stores_content : (s : State) (content : Option LaterContent) (u : State) → Leaves (with_content s content) u → Stores s u
stores_content s None u a = stores_leaves s u a
stores_content s (Some l) u a = record {
  flags = a.flags;
  files = a.files;
  packages = a.packages;
  reloaded = a.reloaded;
  probed = a.probed;
  wanted = a.wanted;
  pass = a.pass;
  run = a.run;
  is_dynamic = a.is_dynamic;
  grows = a.grows;
  waiting = a.waiting;
}

pub stores : (most : ℕ) (s : State) (load : Load) (o : Outcome) → Stores s (stored most s load o)
stores most s load (At name slot held content) = stores_content s content (stored most s load (At name slot held content)) (leaves_at most s load name slot held content)
stores most s load (To n) = stores_leaves s (stored most s load (To n)) (leaves_to most s load n)

-- ---- turns

-- what turns leave
pub record Goes (s u : State) : Type 0 where
  pub flags : u.flags ≡ s.flags
  pub grows : Grows s.loads u.loads

pub goes_same : (s : State) → Goes s s
goes_same s = record { flags = refl; grows = grows_none s.loads }

pub goes_both : (s t u : State) → Goes s t → Goes t u → Goes s u
goes_both s t u a b = record { flags = b.flags ∙ a.flags; grows = grows_both s.loads t.loads u.loads a.grows b.grows }

goes_still : (s u : State) → Still s u → Goes s u
goes_still s u a = record { flags = a.flags; grows = a.grows }

pub goes_stored : (most : ℕ) (s : State) (load : Load) (o : Outcome) → Goes s (stored most s load o)
goes_stored most s load o = let a = stores most s load o in record { flags = a.flags; grows = a.grows }

pub not_zero : (n : ℕ) → (suc n == 0) ≡ false
not_zero n = grind (arith, nat_tests)

-- ---- where no load is open

pub still_deferred : (s : State) → Still (record s { deferred = [] }) (deferred_entered s)
unfolding deferred_entered
still_deferred s = still_enter_all (record s { deferred = [] }) (waited_loads s.deferred)

pub still_dynamic : (s : State) → Still (record s { dynamic = []; is_dynamic = true }) (dynamic_entered s)
unfolding dynamic_entered
still_dynamic s = still_enter_all (record s { dynamic = []; is_dynamic = true }) (waited_imports s.root_names s.dynamic)

pub leaves_deferred : (s : State) → Leaves s (deferred_entered s)
leaves_deferred s =
    let a = still_deferred s in
    record { flags = a.flags; files = a.files; packages = a.packages; reloaded = a.reloaded; probed = a.probed; wanted = a.wanted; pass = a.pass; run = a.run; contents = a.contents; is_dynamic = a.is_dynamic; grows = a.grows; waiting = a.waiting }

-- the dynamic phase has begun then
pub leaves_dynamic : (s : State) → Leaves (record s { is_dynamic = true }) (dynamic_entered s)
leaves_dynamic s =
    let a = still_dynamic s in
    record { flags = a.flags; files = a.files; packages = a.packages; reloaded = a.reloaded; probed = a.probed; wanted = a.wanted; pass = a.pass; run = a.run; contents = a.contents; is_dynamic = a.is_dynamic; grows = a.grows; waiting = a.waiting }

-- ---- a pass

-- what a step leaves by which nothing enters
pub record Rests (s u : State) : Type 0 where
  pub flags : u.flags ≡ s.flags
  pub loads : u.loads ≡ s.loads
  pub deferred : u.deferred ≡ s.deferred
  pub dynamic : u.dynamic ≡ s.dynamic
  pub is_dynamic : u.is_dynamic ≡ s.is_dynamic
  pub contents : u.contents ≡ s.contents
  pub root_names : u.root_names ≡ s.root_names
  pub sums : u.sums ≡ s.sums
  pub files : u.files ≡ s.files
  pub packages : u.packages ≡ s.packages
  pub reloaded : u.reloaded ≡ s.reloaded
  pub probed : u.probed ≡ s.probed
  pub waiting : u.waiting ≡ s.waiting

-- the graph, what is noted and wanted, the pass and the run may change
rests_with : (s : State) (g : ModuleGraph) (notes : List Note) (wanted : List RegistryFile) (pass : Option Pass) (run : Run) → Rests s (record s { graph = g; notes = notes; wanted = wanted; pass = pass; run = run })
rests_with s g notes wanted pass run = record {
  flags = refl;
  loads = refl;
  deferred = refl;
  dynamic = refl;
  is_dynamic = refl;
  contents = refl;
  root_names = refl;
  sums = refl;
  files = refl;
  packages = refl;
  reloaded = refl;
  probed = refl;
  waiting = refl;
}

pub rests_same : (s : State) → Rests s s
rests_same s = rests_with s s.graph s.notes s.wanted s.pass s.run

pub rests_noted : (registry : RegistryMeaning) (s : State) → Rests s (notes_added registry s)
rests_noted registry s = rests_with s (notes_added registry s).graph [] s.wanted s.pass s.run

pub rests_judged_by : (s : State) (p : Pass) (item : WaitingPackage) (items : List WaitingPackage) (v : Verdict) → Rests s (judged_by s p item items v)
rests_judged_by s p item items (AsksAgain name) = rests_with s s.graph s.notes (s.wanted ++ PackageAgain name ∷ []) s.pass s.run
rests_judged_by s p item items (Probes nvs) = rests_with s s.graph s.notes (s.wanted ++ probes nvs) s.pass s.run
rests_judged_by s p item items Restarts = let u : State = judged_by s p item items Restarts in rests_with s s.graph s.notes s.wanted s.pass u.run
rests_judged_by s p item items (Gets nv yanked) = let u : State = judged_by s p item items (Gets nv yanked) in rests_with s u.graph s.notes s.wanted u.pass s.run
rests_judged_by s p item items (Fails e) = let u : State = judged_by s p item items (Fails e) in rests_with s u.graph s.notes s.wanted u.pass s.run

pub rests_judged : (newest : NewestDependencyDateOptions) (s : State) → Rests s (judged newest s)
rests_judged newest s = by_pass s.pass
  where
    by_items : (p : Pass) (items : List WaitingPackage) → Rests s (judged_first newest s p items)
    by_items p [] = rests_same s
    by_items p (item ∷ items) = rests_judged_by s p item items (verdict newest s item.req)

    by_pass : (o : Option Pass) → Rests s (judged_in newest s o)
    by_pass None = rests_same s
    by_pass (Some p) = by_items p p.items

pub rests_asked : (s : State) → Rests s (versions_asked s)
rests_asked s = by_pass s.pass
  where
    by_pass : (o : Option Pass) → Rests s (versions_asked_in s o)
    by_pass None = rests_same s
    by_pass (Some p) = let u : State = versions_asked_in s (Some p) in rests_with s s.graph s.notes u.wanted u.pass s.run

-- what exports lead to enters
still_export : (s : State) (top : Bool) (one : Chosen) (u : State) → ExportEntered s top one u → Still s u
still_export s top one u (export_refused e) = still_graph s u.graph s.notes
still_export s top one u (unjoined e to) = still_graph s u.graph s.notes
still_export s top one u (ended e to b) = still_graph s u.graph s.notes
still_export s top one u (onward {e} {to} is leads b) =
    let g : ModuleGraph = moved (used s top one e).graph one.item.specifier to in
    still_over s u g (still_enter (record s { graph = g }) (record { specifier = to; context = in_package (Some one.nv) one.item.context; is_type = false }))

pub still_export_entered : (s : State) (top : Bool) (one : Chosen) → Still s (export_entered s top one)
still_export_entered s top one = still_export s top one (export_entered s top one) (how_export s top one)

pub still_all_entered : (s : State) (top : Bool) (all : List Chosen) → Still s (all_entered s top all)
unfolding all_entered
still_all_entered s top [] = still_same s
still_all_entered s top (one ∷ others) = still_both s (export_entered s top one) _ (still_export_entered s top one) (still_all_entered (export_entered s top one) top others)

pub still_exports : (s : State) → Still (record s { pass = None }) (exports_entered s)
still_exports s = by_pass s.pass refl
  where
    by_pass : (o : Option Pass) → s.pass ≡ o → Still (record s { pass = None }) (exports_entered_in s o)
    by_pass None e = subst (λ o. Still (record s { pass = None }) (record s { pass = o })) (sym e) (still_same (record s { pass = None }))
    by_pass (Some p) e = still_all_entered (record s { pass = None }) p.is_top_level p.chosen

-- ---- what comes next is done

-- what a build begins with enters
pub still_started : (s : State) (start : ResolvedStart) → Still (record s { graph = with_start s.graph start }) (start_entered s start)
unfolding start_entered
still_started s start = still_enter_all (record s { graph = with_start s.graph start }) (added_loads s.flags.is_dynamic s.graph start)

flags_again : (s : State) (run : Run) → (begun_again s run).flags ≡ s.flags
flags_again s Only = refl
flags_again s (First start) = refl
flags_again s (Due start) = (still_started (cleared s) start).flags
flags_again s (Second e) = refl

goes_rests : (s u : State) → Rests s u → Goes s u
goes_rests s u a = record { flags = a.flags; grows = grows_same s.loads u.loads a.loads }

pub goes_next : (registry : RegistryMeaning) (newest : NewestDependencyDateOptions) (s : State) (n : Next) → NextIs s n → Goes s (gone_on registry newest s n)
goes_next registry newest s n (comes_notes e) = goes_rests s (notes_added registry s) (rests_noted registry s)
goes_next registry newest s n (comes_load m e) = goes_same s
goes_next registry newest s n (comes_file m l e) = goes_same s
goes_next registry newest s n (comes_restart m l w d) = record { flags = flags_again s s.run; grows = grows_from s.loads (restarted s).loads l }
goes_next registry newest s n (comes_item c p e i) = goes_rests s (judged newest s) (rests_judged newest s)
goes_next registry newest s n (comes_versions c p e i) = goes_rests s (versions_asked s) (rests_asked s)
goes_next registry newest s n (comes_exports c p e) = let a = still_exports s in record { flags = a.flags; grows = a.grows }
goes_next registry newest s n (comes_deferred o e) = let a = still_deferred s in record { flags = a.flags; grows = a.grows }
goes_next registry newest s n (comes_waiting o d e) = record { flags = refl; grows = grows_none s.loads }
goes_next registry newest s n (comes_dynamic o d w e) = let a = still_dynamic s in record { flags = a.flags; grows = a.grows }
goes_next registry newest s n (comes_content i e) = goes_same s
goes_next registry newest s n (comes_end i) = goes_same s

-- what was answered about a file is kept
pub goes_file : (s : State) (nv : PackageNv) (kept : Result KeptVersion JsrLoadError) → Goes s (file_kept s nv kept)
goes_file s nv kept = record { flags = refl; grows = grows_none s.loads }

pub goes_wanted : (registry : RegistryMeaning) (s : State) (answer : FileAnswer) → Goes s (wanted_kept registry s answer)
goes_wanted registry s answer = by_list s.wanted
  where
    by_file : (files : List RegistryFile) (file : RegistryFile) → Goes s (answer_kept registry (record s { wanted = files }) file answer)
    by_file files (Package name) = record { flags = refl; grows = grows_none s.loads }
    by_file files (PackageAgain name) = record { flags = refl; grows = grows_none s.loads }
    by_file files (Version nv) = record { flags = refl; grows = grows_none s.loads }
    by_file files (Probe nv) = record { flags = refl; grows = grows_none s.loads }

    by_list : (l : List RegistryFile) → Goes s (first_kept registry s answer l)
    by_list [] = goes_same s
    by_list (file ∷ files) = by_file files file
