-- What stays explained, turn by turn, through the runs of a build.
use Rattle.std.proofs.Common.{◌≡◌, ◌==◌, ℕ, zero, suc, List, [], ◌∷◌, ◌++◌, map, length, Bool, true, false, ◌&&◌, not, if◌then◌else◌, Option, None, Some, is_some, Result, Ok, Err, refl, sym, ap, ◌∙◌, subst, inl, inr, ⊎_elim, ◌⊎◌}
use Rattle.std.specs.Prelude.{T, fold}
use Rattle.std.specs.FinMap as finite
use Rattle.std.specs.FinMap.{entries_sorted, find, get-empty, get-entries, is_sorted}
use Rattle.std.specs.List.{All}
use Rattle.std.specs.Option.{option_or}
use Rattle.std.proofs.lemmas.Bool.{true≢false}
use Rattle.std.proofs.lemmas.List.Elements.{All-append, All-map}
use Rattle.url.specs.Parts.{Parts}
use Rattle.semver_npm.specs.Orders.{nv_cmp}
use Rattle.semver_npm.specs.declared.package.PackageNv.{PackageNv}
use Rattle.source_io.specs.Answers.{answer_of}
use Rattle.source_sums.specs.Manifests.{KnownManifests}
use Rattle.source_sums.specs.Sums.{KnownSums}
use Rattle.graph_dependencies.specs.declared.graph_import.GraphImport.{GraphImport}
use Rattle.registry_files.specs.Kept.{Versions}
use Rattle.registry_files.specs.declared.kept_version.KeptVersion.{KeptVersion}
use Rattle.graph_errors.specs.declared.jsr_error.JsrLoadError.{JsrLoadError}
use Rattle.graph_dependencies.specs.declared.graph_kind.GraphKind.{GraphKind}
use Rattle.graph_core.specs.declared.graph.ModuleGraph.{ModuleGraph}
use Rattle.module_slots.specs.declared.load.Load.{Load}
use Rattle.graph_core.specs.Edges.{import_loads}
use Rattle.graph_core.specs.Graph.{new_graph}
use Rattle.graph_turns.specs.declared.flags.Flags.{Flags}
use Rattle.graph_turns.specs.declared.later_content.LaterContent.{LaterContent}
use Rattle.graph_turns.specs.declared.unresolved_input.LeftOver.{LeftOver}
use Rattle.graph_turns.specs.declared.next.Next.{Next}
use Rattle.graph_turns.specs.declared.next.Next.TheVariants.{Notes, Load as ALoad, Wanted, Restart, Item, Versions as Asks, Exports, Deferred, Waiting, Dynamic, Content, End}
use Rattle.graph_turns.specs.declared.registry.RegistryFile.{RegistryFile}
use Rattle.graph_turns.specs.declared.run.Earlier.{Earlier}
use Rattle.graph_turns.specs.declared.run.Run.{Run}
use Rattle.graph_turns.specs.declared.run.Run.TheVariants.{Only, First, Due, Second}
use Rattle.graph_turns.specs.declared.starting.ResolvedStart.{ResolvedStart}
use Rattle.graph_turns.specs.declared.state.State.{State}
use Rattle.graph_turns.specs.Machine.Known.{Known}
use Rattle.graph_turns.specs.Machine.Next.{next_of}
use Rattle.graph_turns.specs.Machine.Runs.{begins_anew, begun_again, begun_over, cleared, earlier_sums, found_by, is_due, manifests_read, restarted, run_begun, told_first, told_for, with_read}
use Rattle.graph_turns.specs.Machine.Starting.{added_imports, added_loads, added_roots, start_entered, start_entry, told_start}
use Rattle.graph_turns.specs.Machine.Sums.{file_sum, sum_in}
use Rattle.graph_turns.specs.Machine.Turns.{first_content_turn, first_file_turn, turn, turn_by, turns}
use Rattle.graph_turns.specs.Promise.Choices.{IsFoundBy, Lacks}
use Rattle.graph_turns.specs.Promise.Contents.{content_question}
use Rattle.graph_turns.specs.Promise.Input.{EnteredGraph, resolved_import, root_load}
use Rattle.turn_laws.specs.Promise.Keeps.{IsKeptBy}
use Rattle.graph_turns.specs.Promise.Runs.{IsRunOf, entry_in, may_begin_again}
use Rattle.graph_turns.specs.Promise.Runs.IsRunOf.{only as once, first as at_first, due as at_last_due, second as at_last}
use Rattle.graph_turns.specs.Promise.Told.{Told}
use Rattle.graph_turns.specs.Promise.Versions.{told_file, told_version}
use Rattle.graph_turns.proofs.Entering.Next.{NextIs, how_next, turn_as}
use Rattle.graph_turns.proofs.Entering.Next.NextIs.{notes as comes_notes, loads as comes_load, wanted as comes_file, restart as comes_restart, item as comes_item, versions as comes_versions, exports as comes_exports, deferred as comes_deferred, waiting as comes_waiting, dynamic as comes_dynamic, content as comes_content, ends as comes_end}
use Rattle.graph_turns.proofs.Entering.Joined.{or_none}
use Rattle.graph_turns.proofs.Entering.ToldManifests.{in_order_rest, one_failed, one_read}
use Rattle.turn_laws.proofs.Promise.Hops.{IsOutset, imports_outset}
use Rattle.turn_laws.proofs.Promise.Kept.{Kept, kept_deferred, kept_dynamic, kept_enter_all}
use Rattle.turn_laws.proofs.Promise.KeptLoads.{kept_blank, loads_reached, loads_read}
use Rattle.turn_laws.proofs.Promise.Kept.{no_sums}
use Rattle.turn_laws.proofs.Promise.KeptPasses.{kept_exports, kept_judged, kept_notes, kept_versions, kept_waiting}
use Rattle.turn_laws.proofs.Promise.Passing.{IsStage, RunBegins, RunKept}
use Rattle.turn_laws.proofs.Promise.Passing.IsStage.{same as goes_on, due as due_again}
use Rattle.turn_laws.proofs.Promise.Turned.{kept_filled, kept_load, kept_wanted}
use Rattle.turn_laws.proofs.Promise.Unmet.{has_choices}
use Rattle.graph_turns.specs.Machine.Entering.{begun_at, first_state, resting_state}

-- what comes next is that a run begins, or not
pub begins_or : (s : State) (n : Next) → NextIs s n → (n ≡ Restart → ⊥) ⊎ ((n ≡ Restart) × (is_due s.run ≡ true))
begins_or s n (comes_notes e) = inl (λ x. let wrong : Notes ≡ Restart = x in cc)
begins_or s n (comes_load m e) = inl (λ x. let wrong : ALoad ≡ Restart = x in cc)
begins_or s n (comes_file m l e) = inl (λ x. let wrong : Wanted ≡ Restart = x in cc)
begins_or s n (comes_restart m l e d) = inr (refl, d)
begins_or s n (comes_item c goes e i) = inl (λ x. let wrong : Item ≡ Restart = x in cc)
begins_or s n (comes_versions c goes e i) = inl (λ x. let wrong : Asks ≡ Restart = x in cc)
begins_or s n (comes_exports c goes e) = inl (λ x. let wrong : Exports ≡ Restart = x in cc)
begins_or s n (comes_deferred o e) = inl (λ x. let wrong : Deferred ≡ Restart = x in cc)
begins_or s n (comes_waiting o d e) = inl (λ x. let wrong : Waiting ≡ Restart = x in cc)
begins_or s n (comes_dynamic o d w e) = inl (λ x. let wrong : Dynamic ≡ Restart = x in cc)
begins_or s n (comes_content i e) = inl (λ x. let wrong : Content ≡ Restart = x in cc)
begins_or s n (comes_end i) = inl (λ x. let wrong : End ≡ Restart = x in cc)

-- ---- in one run

module _ (w : Told) (given : EnteredGraph) (begins : RunBegins given) where
  pub kept_next : (s : State) (n : Next) → NextIs s n → (n ≡ Restart → ⊥) → Kept w given begins s → Kept w given begins (turn_by w given.graph.kind s n)
  kept_next s n (comes_notes e) other kept = kept_notes w given begins w.registry s kept
  kept_next s n (comes_load {load} {others} m e) other kept = kept_load w given begins s load others e kept
  kept_next s n (comes_file {file} {others} m l e) other kept = subst (λ (x : List RegistryFile). Kept w given begins (first_file_turn w s x)) (sym e) (kept_wanted w given begins s file others e kept)
  kept_next s n (comes_restart m l e d) other kept = absurd (other refl)
  kept_next s n (comes_item {p} {first = item} {others} c goes e i) other kept = kept_judged w given begins s p item others c goes e i kept
  kept_next s n (comes_versions {p} c goes e i) other kept = kept_versions w given begins s p goes kept
  kept_next s n (comes_exports {p} c goes e) other kept = kept_exports w given begins s p c goes e kept
  kept_next s n (comes_deferred o e) other kept = kept_deferred w given begins s kept
  kept_next s n (comes_waiting o d e) other kept = kept_waiting w given begins s kept
  kept_next s n (comes_dynamic o d y e) other kept = kept_dynamic w given begins s kept
  kept_next s n (comes_content {first = l} {others} i e) other kept = subst (λ (x : List LaterContent). Kept w given begins (first_content_turn w s x)) (sym e) (kept_filled w given begins s l others e kept)
  kept_next s n (comes_end i) other kept = kept

  -- what a run keeps
  pub kept_by_run : (s : State) → Kept w given begins s → IsKeptBy w given s
  kept_by_run s kept = record {
    slots = kept.graph.slots;
    redirects = kept.graph.redirects;
    sums = kept.sums;
    loads = kept.loads;
    deferred = kept.deferred;
    dynamic = kept.dynamic;
    waiting = kept.waiting;
    npm = kept.npm;
    passing = kept.pass.of_pass;
    wanted = kept.pass.of_wanted;
    files = kept.files;
    packages = kept.answers.first;
    reloaded = kept.answers.again;
    probed = kept.answers.probes;
    contents = kept.contents;
    choices = has_choices w given s.contents s.graph kept.graph kept.packages;
    listed = kept.packages.listed;
  }

-- ---- a run begins

-- the loads of a start have no hops, and come from no package
pub start_outset : (dynamic : Bool) (g : ModuleGraph) (start : ResolvedStart) → All IsOutset (added_loads dynamic g start)
start_outset dynamic g start = All-append IsOutset (map (root_load dynamic) (added_roots g.roots start.roots)) (import_loads dynamic (added_imports g.imports start.imports))
    (All-map IsOutset (root_load dynamic) (added_roots g.roots start.roots) (λ k d below. (refl, refl)))
    (imports_outset dynamic (added_imports g.imports start.imports))

-- over a graph
abbrev pub begins_over : (dynamic : Bool) (g : ModuleGraph) (start : ResolvedStart) (run : Run) → RunBegins (start_entry dynamic g start)
begins_over dynamic g start run = record { outset = start_outset dynamic g start; run = run }

pub kept_started : (w : Told) (g : ModuleGraph) (start : ResolvedStart) (begun run : Run) (sums : Option KnownSums) → RunKept w (start_entry w.known.flags.is_dynamic g start) begun run → ((k sum : List ℕ) → sum_in sums k ≡ Some sum → sum_in (earlier_sums run) k ≡ Some sum) → Kept w (start_entry w.known.flags.is_dynamic g start) (begins_over w.known.flags.is_dynamic g start begun) (start_entered (record (first_state false w.known.flags g) { sums = sums; run = run }) start)
unfolding start_entered
kept_started w g start begun run sums told earlier =
    let given : EnteredGraph = start_entry w.known.flags.is_dynamic g start in
    let begins = begins_over w.known.flags.is_dynamic g start begun in
    let s : State = record (first_state false w.known.flags given.graph) { sums = sums; run = run } in
    kept_enter_all w given begins s given.loads (kept_blank w given begins run sums told earlier) (loads_reached w given begins) (loads_read w given begins s.files)

-- ---- a build in one run

-- from an entry
module _ (told : Told) (given : EnteredGraph) (outset : All IsOutset given.loads) where
  abbrev pub begins_once : RunBegins given
  begins_once = record { outset = outset; run = Only }

  pub kept_entered : Kept (told_for told Only) given begins_once (begun_at told.known given)
  kept_entered =
      let w : Told = told_for told Only in
      let s : State = resting_state told.known given.graph in
      kept_enter_all w given begins_once s given.loads
      (kept_blank w given begins_once Only (if is_some told.known.sums then Some finite.empty else None)
      (record { asks = refl; serves = refl; stage = goes_on; lacks = λ d. absurd (true≢false (sym d)) })
      (λ k sum e. absurd (no_sums (is_some told.known.sums) k sum e)))
      (loads_reached w given begins_once) (loads_read w given begins_once s.files)

  only_stage : (begun run : Run) → IsStage begun run → begun ≡ Only → run ≡ Only
  only_stage begun run goes_on is = is
  only_stage begun run (due_again {start = x} is_first) is = absurd (let wrong : First x ≡ Only = sym is_first ∙ is in cc)

  -- any turn
  pub kept_once : (s : State) → Kept (told_for told Only) given begins_once s → Kept (told_for told Only) given begins_once (turn told given.graph.kind s)
  kept_once s kept =
      let is : s.run ≡ Only = only_stage Only s.run kept.run.stage refl in
      let same_turn : turn told given.graph.kind s ≡ turn_by (told_for told Only) given.graph.kind s (next_of s) = turn_as told given.graph.kind s (next_of s) refl ∙ ap (λ r. turn_by (told_for told r) given.graph.kind s (next_of s)) is in
      subst (Kept (told_for told Only) given begins_once) (sym same_turn)
      (kept_next (told_for told Only) given begins_once s (next_of s) (how_next s)
      (λ again. ⊎_elim (λ no. no again) (λ due. true≢false (sym due.1 ∙ ap is_due is)) (begins_or s (next_of s) (how_next s)))
      kept)

-- ---- the sums of version files that were read

read_all : (m : KnownManifests) (es : List (PackageNv × Result KeptVersion JsrLoadError)) (k : PackageNv) → T (is_sorted nv_cmp es) → finite.get (fold with_read m es) k ≡ option_or (finite.get m k) (file_sum (find nv_cmp k es))
read_all m [] k sorted = sym (or_none (finite.get m k))
read_all m ((nv, Ok v) ∷ es) k sorted = read_all (with_read m (nv, Ok v)) es k (in_order_rest (nv, Ok v) es sorted) ∙ one_read m nv v es k
read_all m ((nv, Err e) ∷ es) k sorted = read_all m es k (in_order_rest (nv, Err e) es sorted) ∙ one_failed m nv e es k sorted

manifest_is : (files : Versions) (nv : PackageNv) → finite.get (manifests_read files) nv ≡ file_sum (finite.get files nv)
manifest_is files nv =
    read_all finite.empty (finite.entries files) nv (entries_sorted files)
    ∙ ap (λ (o : Option (List ℕ)). option_or o (file_sum (find nv_cmp nv (finite.entries files)))) (get-empty {X = List ℕ} nv_cmp nv)
    ∙ ap file_sum (sym (get-entries files nv))

-- a sum of a file is that of a version that was read
sum_read : (o : Option (Result KeptVersion JsrLoadError)) (sum : List ℕ) → file_sum o ≡ Some sum → (v : KeptVersion) × (o ≡ Some (Ok v)) × (v.file.checksum ≡ sum)
sum_read None sum e = absurd (let wrong : None ≡ Some sum = e in cc)
sum_read (Some (Ok v)) sum e = (v, refl, cc)
sum_read (Some (Err x)) sum e = absurd (let wrong : None ≡ Some sum = e in cc)

-- what a first run found
pub found_kept : (w : Told) (given : EnteredGraph) (begins : RunBegins given) (s : State) → earlier_sums s.run ≡ None → Kept w given begins s → IsFoundBy w given (found_by s)
found_kept w given begins s none kept = record {
  sources = λ k sum e. ⊎_elim (λ old. absurd (let wrong : None ≡ Some sum = sym (ap (λ (o : Option KnownSums). sum_in o k) none) ∙ old in cc)) (λ is. is) (kept.sums k sum e);
  manifests = λ nv sum e. at nv sum (sum_read (finite.get s.files nv) sum (sym (manifest_is s.files nv) ∙ e));
}
  where
    at : (nv : PackageNv) (sum : List ℕ) → (v : KeptVersion) × (finite.get s.files nv ≡ Some (Ok v)) × (v.file.checksum ≡ sum) → (v : KeptVersion) × (told_version w nv ≡ Ok v) × (v.file.checksum ≡ sum)
    at nv sum is = (is.0, sym (kept.files nv (Ok is.0) is.1), is.2)

-- ---- the runs of a build of a start over a graph

-- the entry of a run
abbrev pub entry_by : Bool → ModuleGraph → ResolvedStart → Run → EnteredGraph
entry_by dynamic g start Only = start_entry dynamic g start
entry_by dynamic g start (First x) = start_entry dynamic g start
entry_by dynamic g start (Due x) = start_entry dynamic g start
entry_by dynamic g start (Second e) = start_entry dynamic (new_graph g.kind) start

abbrev outset_by : (dynamic : Bool) (g : ModuleGraph) (start : ResolvedStart) (run : Run) → All IsOutset (entry_by dynamic g start run).loads
outset_by dynamic g start Only = start_outset dynamic g start
outset_by dynamic g start (First x) = start_outset dynamic g start
outset_by dynamic g start (Due x) = start_outset dynamic g start
outset_by dynamic g start (Second e) = start_outset dynamic (new_graph g.kind) start

abbrev pub begins_by : (dynamic : Bool) (g : ModuleGraph) (start : ResolvedStart) (run : Run) → RunBegins (entry_by dynamic g start run)
begins_by dynamic g start run = record { outset = outset_by dynamic g start run; run = run }

-- runs keep the kind of a graph
kind_by : (dynamic : Bool) (g : ModuleGraph) (start : ResolvedStart) (run : Run) → (entry_by dynamic g start run).graph.kind ≡ g.kind
kind_by dynamic g start Only = refl
kind_by dynamic g start (First x) = refl
kind_by dynamic g start (Due x) = refl
kind_by dynamic g start (Second e) = refl

-- a run that is to begin once more is told what it was told before
pub told_stage : (told : Told) (begun run : Run) → IsStage begun run → told_for told run ≡ told_for told begun
told_stage told begun run goes_on = refl
told_stage told begun run (due_again {start = x} is_first) = sym (ap (told_for told) is_first)

module _ (told : Told) (g : ModuleGraph) (start : ResolvedStart) where
  abbrev its_start : EnteredGraph
  its_start = start_entry told.known.flags.is_dynamic g start

  abbrev anew : Bool
  anew = begins_anew g start.roots start.imports

  -- one of them, as it begins
  pub data IsRunFrom : Run → Type 0 where
    only : begins_anew g start.roots start.imports ≡ false → IsRunFrom Only
    first : begins_anew g start.roots start.imports ≡ true → IsRunFrom (First start)
    second : {e : Earlier} → begins_anew g start.roots start.imports ≡ true → Lacks (told_first told) (start_entry told.known.flags.is_dynamic g start) → IsFoundBy (told_first told) (start_entry told.known.flags.is_dynamic g start) e → IsRunFrom (Second e)

  -- what is kept in the run that goes on
  pub record KeptInRun (s : State) : Type 0 where
    pub begun : Run
    pub is_run : IsRunFrom begun
    pub kept : Kept (told_for told begun) (entry_by told.known.flags.is_dynamic g start begun) (begins_by told.known.flags.is_dynamic g start begun) s

  pub never_due : (run : Run) → IsRunFrom run → is_due run ≡ false
  never_due run (only f) = refl
  never_due run (first t) = refl
  never_due run (second t lacks found) = refl

  -- a first run is that of the start
  pub first_is : (run : Run) (x : ResolvedStart) → IsRunFrom run → run ≡ First x → (begins_anew g start.roots start.imports ≡ true) × (run ≡ First start) × (x ≡ start)
  first_is run x (only f) is = absurd (let wrong : Only ≡ First x = is in cc)
  first_is run x (first t) is = (t, refl, cc)
  first_is run x (second {e} t lacks found) is = absurd (let wrong : Second e ≡ First x = is in cc)

  -- the first one begins
  pub kept_begun : KeptInRun (begun_over told.known g start)
  kept_begun = by (begins_anew g start.roots start.imports) refl
    where
      at : Bool → State
      at b = start_entered (if b then record (resting_state told.known g) { run = First start } else resting_state told.known g) start

      no_sum : Option KnownSums
      no_sum = if is_some told.known.sums then Some finite.empty else None

      by : (b : Bool) → begins_anew g start.roots start.imports ≡ b → KeptInRun (at b)
      by true t = record {
        begun = First start;
        is_run = first t;
        kept = kept_started (told_for told (First start)) g start (First start) (First start) no_sum
            (record { asks = refl; serves = refl; stage = goes_on; lacks = λ d. absurd (true≢false (sym d)) })
            (λ k sum e. absurd (no_sums (is_some told.known.sums) k sum e));
      }
      by false f = record {
        begun = Only;
        is_run = only f;
        kept = kept_started (told_for told Only) g start Only Only no_sum
            (record { asks = refl; serves = refl; stage = goes_on; lacks = λ d. absurd (true≢false (sym d)) })
            (λ k sum e. absurd (no_sums (is_some told.known.sums) k sum e));
      }

  -- and once more
  kept_second : (s : State) → begins_anew g start.roots start.imports ≡ true → s.run ≡ Due start → Kept (told_for told (First start)) (start_entry told.known.flags.is_dynamic g start) (begins_by told.known.flags.is_dynamic g start (First start)) s → KeptInRun (restarted s)
  kept_second s t is kept =
      let e : Earlier = found_by s in
      subst KeptInRun (sym again_is) record {
        begun = Second e;
        is_run = second t (kept.run.lacks (ap is_due is)) (found_kept (told_for told (First start)) its_start (begins_by told.known.flags.is_dynamic g start (First start)) s (ap earlier_sums is) kept);
        kept = kept_started (told_for told (Second e)) (new_graph g.kind) start (Second e) (Second e) s.sums
            (record { asks = refl; serves = refl; stage = goes_on; lacks = λ d. absurd (true≢false (sym d)) })
            (λ k sum x. x);
      }
    where
      again_is : restarted s ≡ start_entered (record (first_state false told.known.flags (new_graph g.kind)) { sums = s.sums; run = Second (found_by s) }) start
      again_is =
          ap (begun_again s) is
          ∙ ap (λ (f : Flags). start_entered (record (first_state false f (new_graph s.graph.kind)) { sums = s.sums; run = Second (found_by s) }) start) kept.flags
          ∙ ap (λ (k : GraphKind). start_entered (record (first_state false told.known.flags (new_graph k)) { sums = s.sums; run = Second (found_by s) }) start) kept.graph.kind

  pub kept_again : (s : State) → is_due s.run ≡ true → KeptInRun s → KeptInRun (restarted s)
  kept_again s d k = by s.run refl k.kept.run.stage
    where
      by : (run : Run) → s.run ≡ run → IsStage k.begun run → KeptInRun (restarted s)
      by run is goes_on = absurd (true≢false (sym d ∙ ap is_due is ∙ never_due k.begun k.is_run))
      by run is (due_again {start = x} is_first) =
          let one = first_is k.begun x k.is_run is_first in
          kept_second s one.0 (is ∙ ap Due one.2)
          (subst (λ r. Kept (told_for told r) (entry_by told.known.flags.is_dynamic g start r) (begins_by told.known.flags.is_dynamic g start r) s) one.1 k.kept)

  -- any turn
  pub kept_turn : (s : State) → KeptInRun s → KeptInRun (turn told g.kind s)
  kept_turn s k = ⊎_elim
      (λ no. record { begun = k.begun; is_run = k.is_run; kept = subst (Kept (told_for told k.begun) (entry_by told.known.flags.is_dynamic g start k.begun) (begins_by told.known.flags.is_dynamic g start k.begun)) (sym same_turn) (kept_next (told_for told k.begun) (entry_by told.known.flags.is_dynamic g start k.begun) (begins_by told.known.flags.is_dynamic g start k.begun) s (next_of s) (how_next s) no k.kept) })
      (λ again. subst KeptInRun (sym (turn_as told g.kind s Restart again.0)) (kept_again s again.1 k))
      (begins_or s (next_of s) (how_next s))
    where
      same_turn : turn told g.kind s ≡ turn_by (told_for told k.begun) (entry_by told.known.flags.is_dynamic g start k.begun).graph.kind s (next_of s)
      same_turn =
          turn_as told g.kind s (next_of s) refl
          ∙ ap (λ t. turn_by t g.kind s (next_of s)) (told_stage told k.begun s.run k.kept.run.stage)
          ∙ ap (λ c. turn_by (told_for told k.begun) c s (next_of s)) (sym (kind_by told.known.flags.is_dynamic g start k.begun))

  -- so many of them
  pub kept_turns : (n : ℕ) (s : State) → KeptInRun s → KeptInRun (turns told g.kind n s)
  unfolding turns
  kept_turns zero s k = k
  kept_turns (suc n) s k = kept_turn (turns told g.kind n s) (kept_turns n s k)

-- ---- the runs of a build of what is left over

pub same_length : {A B : Type 0} (f : A → B) (xs : List A) → length (map f xs) ≡ length xs
same_length f [] = refl
same_length f (x ∷ xs) = ap suc (same_length f xs)

module _ (told : Told) (g : ModuleGraph) (left : LeftOver) where
  pub entry_same : (run : Run) → entry_by told.known.flags.is_dynamic g (told_start told left) run ≡ entry_in told g left run
  entry_same Only = refl
  entry_same (First x) = refl
  entry_same (Due x) = refl
  entry_same (Second e) = refl

  anew_same : may_begin_again g left ≡ begins_anew g (told_start told left).roots (told_start told left).imports
  anew_same = ap (λ n. length g.roots == 0 && not (length left.roots == 0 && n == 0)) (sym (same_length (resolved_import told.resolving) left.imports))

  pub run_begun_of : (run : Run) → IsRunFrom told g (told_start told left) run → IsRunOf told g left run
  run_begun_of run (only f) = once (anew_same ∙ f)
  run_begun_of run (first t) = at_first (anew_same ∙ t)
  run_begun_of run (second t lacks found) = at_last (anew_same ∙ t) lacks found

  -- the run that goes on, and what is kept in it
  abbrev RunsOn : State → Run → Type 0
  RunsOn s run = IsRunOf told g left run × IsKeptBy (told_for told run) (entry_in told g left run) s

  pub kept_run : (s : State) → KeptInRun told g (told_start told left) s → IsRunOf told g left s.run × IsKeptBy (told_for told s.run) (entry_in told g left s.run) s
  kept_run s k = by s.run k.kept.run.stage k.kept.run.lacks
    where
      keeps : IsKeptBy (told_for told k.begun) (entry_by told.known.flags.is_dynamic g (told_start told left) k.begun) s
      keeps = kept_by_run (told_for told k.begun) (entry_by told.known.flags.is_dynamic g (told_start told left) k.begun) (begins_by told.known.flags.is_dynamic g (told_start told left) k.begun) s k.kept

      by : (run : Run) → IsStage k.begun run → (is_due run ≡ true → Lacks (told_for told k.begun) (entry_by told.known.flags.is_dynamic g (told_start told left) k.begun)) → RunsOn s run
      by run goes_on lacks = (run_begun_of k.begun k.is_run, subst (λ (e : EnteredGraph). IsKeptBy (told_for told k.begun) e s) (entry_same k.begun) keeps)
      by run (due_again {start = x} is_first) lacks =
          let one = first_is told g (told_start told left) k.begun x k.is_run is_first in (
            at_last_due (anew_same ∙ one.0) (subst (λ r. Lacks (told_for told r) (entry_by told.known.flags.is_dynamic g (told_start told left) r)) one.1 (lacks refl)),
            subst (λ r. IsKeptBy (told_for told r) (entry_by told.known.flags.is_dynamic g (told_start told left) r) s) one.1 keeps,
          )
