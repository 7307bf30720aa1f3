-- The other steps without an answer: exports, loads that enter or fail, and files in the given store; and how many steps there are.
use Rattle.graph_turns.specs.Machine.Next.{stands}
use Rattle.std.proofs.Common.{◌≡◌, ◌⊎◌, ℕ, suc, zero, ◌+◌, ◌≤◌, ◌<◌, List, [], ◌∷◌, ◌++◌, map, length, Bool, true, false, ◌||◌, if◌then◌else◌, Option, None, Some, IfSome, Result, Ok, Err, refl, sym, ap, ◌∙◌, subst, inl, inr, arith, ◌≢◌, ⊎_elim, ◌-◌, true≢false, cond}
use Rattle.std.proofs.lemmas.List.{length-map}
use Rattle.std.proofs.lemmas.List.Elements.{All-cons, All-head, All-map, All-nil, All-tail}
use Rattle.std.specs.FinMap.{find, get-entries}
use Rattle.std.specs.List.{All, list_any}
use Rattle.url.specs.Parts.{Parts}
use Rattle.spec_base.specs.Specifier.{specifier_text}
use Rattle.semver_npm.specs.Orders.{nv_cmp}
use Rattle.spec_base.specs.Shown.{text_cmp}
use Rattle.semver_npm.specs.declared.package.PackageNv.{PackageNv}
use Rattle.version_dates.specs.declared.newest_date.NewestDependencyDateOptions.{NewestDependencyDateOptions}
use Rattle.metadata_store.specs.declared.store.JsrMetadataStore.{JsrMetadataStore}
use Rattle.registry_urls.specs.Meaning.{RegistryMeaning}
use Rattle.registry_files.specs.Answers.{FileAnswer}
use Rattle.registry_files.specs.declared.kept_version.KeptVersion.{KeptVersion}
use Rattle.graph_errors.specs.declared.jsr_error.JsrLoadError.{JsrLoadError}
use Rattle.module_slots.specs.declared.load.Load.{Load}
use Rattle.module_slots.specs.declared.load.LoadContext.{LoadContext}
use Rattle.graph_turns.specs.declared.exports.Export.{Export}
use Rattle.graph_turns.specs.declared.passes.Chosen.{Chosen}
use Rattle.graph_turns.specs.declared.passes.Pass.{Pass}
use Rattle.graph_turns.specs.declared.registry.RegistryFile.TheVariants.{Version, Package, PackageAgain, Probe}
use Rattle.graph_turns.specs.declared.run.Run.{Run}
use Rattle.graph_turns.specs.declared.run.Run.TheVariants.{Only, First, Due, Second}
use Rattle.graph_turns.specs.declared.state.State.{State}
use Rattle.graph_turns.specs.declared.waiting.WaitingPackage.{WaitingPackage}
use Rattle.graph_turns.specs.Machine.Entering.{enter_all, enter_edges, with_mark, stored}
use Rattle.graph_turns.specs.Machine.Known.{Known}
use Rattle.graph_turns.specs.Machine.Redirects.{redirected_end, moved}
use Rattle.graph_turns.specs.Promise.Packages.{export_by, unjoinable}
use Rattle.graph_turns.specs.Promise.Versions.{answer_in, kept_of}
use Rattle.graph_turns.proofs.Entering.Covered.{In, in_left, in_right, GraphIn, is_failed, fresh, graph_put, graph_same, fresh_less, graph_done, graph_moved, graph_named, IsDone, stands_done}
use Rattle.graph_turns.proofs.Entering.Enter.Entered.{waits}
use Rattle.graph_turns.proofs.Entering.Lessens.{Ending}
use Rattle.graph_turns.proofs.Entering.Lessens.Ending.{all}
use Rattle.graph_turns.proofs.Entering.Lessens.Lex.{first, second}
use Rattle.graph_turns.proofs.Entering.Silent.{Goes, how_goes, silently}
use Rattle.graph_core.specs.declared.graph.ModuleGraph.{ModuleGraph}
use Rattle.module_slots.specs.declared.slot.ModuleSlot.{ModuleSlot}
use Rattle.graph_turns.specs.declared.next.Next.{Next}
use Rattle.std.specs.declared.cmp.Ordering.{Ordering}
use Rattle.graph_turns.specs.declared.registry.RegistryFile.{RegistryFile}
use Rattle.graph_turns.specs.Machine.Passes.{all_entered, export_at, export_by_file, export_entered, exports_entered, exports_entered_in}
use Rattle.graph_turns.proofs.Entering.Files.{answer_cases, same_version}
use Rattle.graph_turns.specs.Machine.RegistryFiles.{answer_kept, first_kept, wanted_kept}
use Rattle.graph_turns.proofs.Entering.Measure.{any_led, came_all, came_first, is_led, pass_led, place_rank, rank_ends, run_rank, Came, Ends, Held, IsItemIn, IsPassIn, ExportsIn, StoreIn, Less, Rank, Onward, came_enter, came_both, came_same, flag_le, less_place, less_rest, weight, weight_le, weight_less, rank, place, steps, steps_same, by_notes, by_item, by_versions, by_waiting}
use Rattle.graph_turns.specs.Machine.Runs.{begun_again, is_due, known_for, cleared}
use Rattle.std.specs.Prelude.{bytes_eq}
use Rattle.std.proofs.lemmas.Bool.{cases_lt, or_cases}
use Rattle.graph_turns.specs.Machine.Turns.{deferred_entered, dynamic_entered, gone_on, waited_imports, waited_loads}
use Rattle.std.specs.Ordering.{eq_by_cmp}
use Rattle.semver_npm.specs.References.{export_name}
use Rattle.module_slots.specs.Slots.{failed_slot}
use Rattle.graph_turns.specs.Machine.Outcomes.{failure_outcome}
use Rattle.graph_turns.specs.Machine.Files.{file_kept, noted}
use Rattle.graph_turns.specs.Machine.Outcomes.Suits.{goes_on}
use Rattle.graph_turns.proofs.Entering.Exports.{how_export, ExportEntered, used}
use Rattle.graph_turns.specs.Promise.Reached.{in_package}
use Rattle.registry_files.specs.Exports.{joined_export}
use Rattle.graph_turns.specs.Promise.Slots.{jsr_slot}
use Rattle.graph_errors.specs.Errors.{redirects_error}
use Rattle.graph_turns.proofs.Leading.Ways.{slot_put}
use Rattle.graph_turns.proofs.Entering.Rested.{still_started}
use Rattle.graph_core.specs.Graph.{with_slot}
use Rattle.std.specs.FinMap as finite
use Rattle.graph_errors.specs.declared.errors.ModuleLoadError.TheVariants.{Jsr}
use Rattle.graph_errors.specs.declared.errors.ModuleErrorKind.TheVariants.{Load as LoadFails}
use Rattle.module_slots.specs.declared.slot.ModuleSlot.TheVariants.{Err as Failed}
use Rattle.graph_turns.proofs.Entering.Measure.Ends.{stops, goes}
use Rattle.graph_turns.proofs.Entering.Measure.Onward.{stopped, again, less}
use Rattle.graph_turns.proofs.Entering.Exports.ExportEntered.{refused as not_there, unjoined, ended, onward as goes_on}
use Rattle.graph_turns.proofs.Entering.Next.{NextIs}
use Rattle.graph_turns.proofs.Entering.Next.NextIs.{notes as comes_notes, loads as comes_load, wanted as comes_file, restart as comes_restart, item as comes_item, versions as comes_versions, exports as comes_exports, deferred as comes_deferred, waiting as comes_pass, dynamic as comes_dynamic, content as comes_content, ends as comes_end}
use Rattle.graph_turns.proofs.Entering.Silent.Goes.{on, fails, reads, looks}
use Rattle.std.specs.Map.{lookup}

-- ---- exports

-- what exports that enter leave: either some specifier was redirected_end on that wasn't before, or all of theirs were
pub record Exported (ps : List Parts) (done : List (List ℕ)) (chosen : List Chosen) (s u : State) : Type 0 where
  pub now : List (List ℕ)
  pub held : Held ps now u
  pub run : u.run ≡ s.run
  pub pass : u.pass ≡ s.pass
  pub fewer : fresh ps now ≤ fresh ps done
  pub same : fresh ps done ≤ fresh ps now → (now ≡ done) × ((any_led done u.waiting ≡ true → any_led done s.waiting ≡ true) × All (λ (one : Chosen). is_led done one.item ≡ true) chosen)

module _ (ps : List Parts) (done now : List (List ℕ)) where
  -- one export enters; its specifier was redirected_end on then
  module _ (s : State) (top : Bool) (one : Chosen) (item_in : In ps one.item.specifier) (held : Held ps done s) (add : (g : ModuleGraph) → IsDone g (specifier_text one.item.specifier) → GraphIn ps done g → GraphIn ps now g) where
    error_graph : (g : ModuleGraph) (v : ModuleSlot) → is_failed (Some v) ≡ true → GraphIn ps done g → GraphIn ps now (with_slot g one.item.specifier v)
    error_graph g v error graph = add (with_slot g one.item.specifier v) (stands_done (with_slot g one.item.specifier v) (specifier_text one.item.specifier) (slot_put g (specifier_text one.item.specifier) v)) (graph_put ps done g (specifier_text one.item.specifier) v (λ failed. error) graph)

    used_graph : (e : Export) → GraphIn ps done (used s top one e).graph
    used_graph e = graph_same ps done s.graph (used s top one e).graph refl refl held.graph

    over : (g : ModuleGraph) → GraphIn ps now g → Held ps now (record s { graph = g })
    over g graph = record { graph = graph; loads = held.loads; deferred = held.deferred; dynamic = held.dynamic; waiting = held.waiting; passing = held.passing; files = held.files }

    over_came : (g : ModuleGraph) → GraphIn ps now g → Came ps now 1 s (record s { graph = g })
    over_came g graph = record { held = over g graph; run = refl; dynamic = refl; pass = refl; wanted = refl; few = omega arith; none_led = λ redirected_end. redirected_end }

    leads_in : (e : Export) (to : Parts) → export_at s one ≡ Ok e → e.to ≡ Some to → In ps to
    leads_in e to is leads = by_file (finite.get s.files one.nv) refl is
      where
        by_file : (o : Option (Result KeptVersion JsrLoadError)) → finite.get s.files one.nv ≡ o → export_by_file one.nv one.item.sub_path o ≡ Ok e → In ps to
        by_file None there found = absurd cc
        by_file (Some (Err x)) there found = absurd cc
        by_file (Some (Ok v)) there found = held.files one.nv v there (export_name one.item.sub_path) e to found leads

    came_export : (u : State) → ExportEntered s top one u → Came ps now 1 s u
    came_export u (not_there {e = e} is) =
        over_came (with_slot s.graph one.item.specifier (failed_slot (LoadFails one.item.specifier one.item.context.range (Jsr e))))
        (error_graph s.graph (failed_slot (LoadFails one.item.specifier one.item.context.range (Jsr e))) refl held.graph)
    came_export u (unjoined {e = e} is none) =
        over_came (with_slot (used s top one e).graph one.item.specifier (failed_slot (LoadFails one.item.specifier one.item.context.range (Jsr (unjoinable one.nv e)))))
        (error_graph (used s top one e).graph (failed_slot (LoadFails one.item.specifier one.item.context.range (Jsr (unjoinable one.nv e)))) refl (used_graph e))
    came_export u (ended {e = e} {to = to} is leads back) =
        over_came (with_slot (used s top one e).graph one.item.specifier (Failed (redirects_error one.item.specifier one.item.context.range)))
        (error_graph (used s top one e).graph (Failed (redirects_error one.item.specifier one.item.context.range)) refl (used_graph e))
    came_export u (goes_on {e = e} {to = to} is leads back) =
        let was = graph_moved ps done (used s top one e).graph one.item.specifier to back (leads_in e to is leads) (used_graph e) in
        let g : ModuleGraph = moved (used s top one e).graph one.item.specifier to in
        let came = came_enter ps now 1 (record s { graph = g }) (record { specifier = to; context = in_package (Some one.nv) one.item.context; is_type = false }) (λ w. omega arith) (leads_in e to is leads) (over g (add g was.done_now was.graph)) in
        record { held = came.held; run = came.run; dynamic = came.dynamic; pass = came.pass; wanted = came.wanted; few = came.few; none_led = came.none_led }

  pub came_one : (s : State) (top : Bool) (one : Chosen) → In ps one.item.specifier → Held ps done s → ((g : ModuleGraph) → IsDone g (specifier_text one.item.specifier) → GraphIn ps done g → GraphIn ps now g) → Came ps now 1 s (export_entered s top one)
  came_one s top one item_in held add = came_export s top one item_in held add (export_entered s top one) (how_export s top one)

module _ (ps : List Parts) (top : Bool) where
  pub all_exported : (done : List (List ℕ)) (s : State) (chosen : List Chosen) → All (λ (one : Chosen). IsItemIn ps one.item) chosen → Held ps done s → Exported ps done chosen s (all_entered s top chosen)
  unfolding all_entered
  all_exported done s [] within held = record { now = done; held = held; run = refl; pass = refl; fewer = omega arith; same = λ le. (refl, (λ redirected_end. redirected_end, All-nil (λ (c : Chosen). is_led done c.item ≡ true))) }
  all_exported done s (one ∷ others) within held = by_led (λ now came. all_exported now (export_entered s top one) others (All-tail (λ (c : Chosen). IsItemIn ps c.item) one others within) came.held) (is_led done one.item) refl
    where
      item_in : In ps one.item.specifier
      item_in = All-head (λ (c : Chosen). IsItemIn ps c.item) one others within

      by_led : ((now : List (List ℕ)) → Came ps now 1 s (export_entered s top one) → Exported ps now others (export_entered s top one) (all_entered (export_entered s top one) top others)) → (b : Bool) → is_led done one.item ≡ b → Exported ps done (one ∷ others) s (all_entered (export_entered s top one) top others)
      by_led rest true redirected_end =
          let came = came_one ps done done s top one item_in held (λ g is_done graph. graph) in
          let after = rest done came in
          record {
            now = after.now;
            held = after.held;
            run = after.run ∙ came.run;
            pass = after.pass ∙ came.pass;
            fewer = after.fewer;
            same = λ le. let all_same = after.same le in (all_same.0, (λ now_led. came.none_led (all_same.1.0 now_led), All-cons (λ (c : Chosen). is_led done c.item ≡ true) one others redirected_end all_same.1.1));
          }
      by_led rest false redirected_end =
          let came = came_one ps done (specifier_text one.item.specifier ∷ done) s top one item_in held (λ g is_done graph. graph_done ps done g (specifier_text one.item.specifier) is_done graph) in
          let after = rest (specifier_text one.item.specifier ∷ done) came in
          let strictly = fresh_less ps one.item.specifier done item_in redirected_end in
          record {
            now = after.now;
            held = after.held;
            run = after.run ∙ came.run;
            pass = after.pass ∙ came.pass;
            fewer = let le = after.fewer in omega (arith, le, strictly);
            same = λ le. absurd (let more = after.fewer in omega (arith, le, more, strictly));
          }

none_entered : (s : State) (top : Bool) → all_entered s top [] ≡ s
unfolding all_entered
none_entered s top = refl

-- ---- the other steps

module _ (known : Known) (registry : RegistryMeaning) (newest : NewestDependencyDateOptions) (most : ℕ) (ps : List Parts) (done : List (List ℕ)) where
  abbrev GoesOn : State → State → Type 0
  GoesOn s u = Onward known registry newest most ps done s u

  -- what exports of a pass lead to has entered
  by_exports : (s : State) (p : Pass) → s.pass ≡ Some p → p.is_entering ≡ true → Held ps done s → GoesOn s (exports_entered s)
  by_exports s p is_on entering held = subst (GoesOn s) (sym (ap (exports_entered_in s) is_on)) (by_chosen p.chosen refl)
    where
      passing_in : IsPassIn ps p
      passing_in = subst (λ (o : Option Pass). IfSome o (IsPassIn ps)) is_on held.passing

      outside : Held ps done (record s { pass = None })
      outside = record { graph = held.graph; loads = held.loads; deferred = held.deferred; dynamic = held.dynamic; waiting = held.waiting; passing = tt; files = held.files }

      nothing_entered : GoesOn s (record s { pass = None })
      nothing_entered =
          let before : place_rank s.pass ≡ 1 = ap place_rank is_on ∙ ap (λ (b : Bool). if b then 1 else 2 + length p.items) entering in
          less_place known registry newest most ps done s (record s { pass = None }) outside refl (weight_le ps done s (record s { pass = None }) (λ redirected_end. redirected_end) (λ redirected_end. absurd (true≢false (sym redirected_end)))) refl refl refl
          (first (omega (arith, before)))

      or_true : (b : Bool) → b || true ≡ true
      or_true true = refl
      or_true false = refl

      led_pass : (one : Chosen) (others : List Chosen) → p.chosen ≡ one ∷ others → All (λ (c : Chosen). is_led done c.item ≡ true) p.chosen → pass_led done s.pass ≡ true
      led_pass one others some all_led =
          let here : is_led done one.item ≡ true = All-head (λ (c : Chosen). is_led done c.item ≡ true) one others (subst (All (λ (c : Chosen). is_led done c.item ≡ true)) some all_led) in
          ap (pass_led done) is_on
          ∙ (ap (λ (cs : List Chosen). any_led done p.items || list_any (λ (c : Chosen). is_led done c.item) cs) some
          ∙ (ap (λ (b : Bool). any_led done p.items || (b || list_any (λ (c : Chosen). is_led done c.item) others)) here ∙ or_true (any_led done p.items)))

      lighter : (one : Chosen) (others : List Chosen) → p.chosen ≡ one ∷ others → (u : State) (after : Exported ps done p.chosen (record s { pass = None }) u) → weight ps after.now u < weight ps done s
      lighter one others some u after = ⊎_elim
          (λ (lt : fresh ps after.now < fresh ps done). weight_less (fresh ps after.now) (fresh ps done) 0 0 (any_led after.now u.waiting) (pass_led after.now u.pass) (any_led done s.waiting) (pass_led done s.pass) lt)
          (λ (le : fresh ps done ≤ fresh ps after.now).
          let same = after.same le in
          let redirected_end = led_pass one others some same.1.1 in
          let waits = flag_le 2 (any_led done u.waiting) (any_led done s.waiting) same.1.0 in
          let passes : ◌≡◌ {A = ℕ} (if pass_led done s.pass then 1 else 0) 1 = ap (λ (b : Bool). if b then 1 else 0) redirected_end in
          let gone : ◌≡◌ {A = ℕ} (if pass_led done u.pass then 1 else 0) 0 = ap (λ (o : Option Pass). if pass_led done o then 1 else 0) after.pass in
          let by_done : weight ps done u < weight ps done s = omega (arith, waits, passes, gone) in
          subst (λ (d : List (List ℕ)). weight ps d u < weight ps done s) (sym same.0) by_done)
          (lt_or_le (fresh ps after.now) (fresh ps done))
        where
          lt_or_le : (m n : ℕ) → (m < n) ⊎ (n ≤ m)
          lt_or_le m n = ⊎_elim (λ lt. inl lt) (λ le. inr le) (cases_lt m n)

      by_chosen : (chosen : List Chosen) → p.chosen ≡ chosen → GoesOn s (all_entered (record s { pass = None }) p.is_top_level p.chosen)
      by_chosen [] none = subst (λ (cs : List Chosen). GoesOn s (all_entered (record s { pass = None }) p.is_top_level cs)) (sym none) (subst (GoesOn s) (sym (none_entered (record s { pass = None }) p.is_top_level)) nothing_entered)
      by_chosen (one ∷ others) some =
          let after = all_exported ps p.is_top_level done (record s { pass = None }) p.chosen passing_in.chosen outside in
          less after.held (second (ap run_rank after.run) (first (lighter one others some (all_entered (record s { pass = None }) p.is_top_level p.chosen) after)))

  -- deferred loads have entered
  by_deferred : (s : State) (one : Parts × LoadContext) (others : List (Parts × LoadContext)) → s.loads ≡ [] → s.deferred ≡ one ∷ others → Held ps done s → GoesOn s (deferred_entered s)
  unfolding deferred_entered
  by_deferred s one others none_open here held =
      less_rest known registry newest most ps done s (enter_all (record s { deferred = [] }) (waited_loads s.deferred)) came.held came.run
      (weight_le ps done s (enter_all (record s { deferred = [] }) (waited_loads s.deferred)) came.none_led (λ redirected_end. ap (pass_led done) (sym came.pass) ∙ redirected_end))
      (second (ap length came.dynamic) (first (let few = came.few in let count : length s.deferred ≡ suc (length others) = ap length here in let same : length (waited_loads others) ≡ length others = length-map others waited in omega (arith, few, count, same))))
    where
      waited : Parts × LoadContext → Load
      waited e = record { specifier = e.0; context = e.1; is_type = false }

      emptied : Held ps done (record s { deferred = [] })
      emptied = record { graph = held.graph; loads = held.loads; deferred = All-nil (λ (e : Parts × LoadContext). In ps e.0); dynamic = held.dynamic; waiting = held.waiting; passing = held.passing; files = held.files }

      within : All (λ (x : Load). In ps x.specifier) (waited_loads s.deferred)
      within = All-map (λ (x : Load). In ps x.specifier) waited s.deferred held.deferred

      came : Came ps done (length (waited_loads others)) (record s { deferred = [] }) (enter_all (record s { deferred = [] }) (waited_loads s.deferred))
      came = subst (λ (es : List (Parts × LoadContext)). Came ps done (length (waited_loads others)) (record s { deferred = [] }) (enter_all (record s { deferred = [] }) (waited_loads es))) (sym here)
          (came_first ps done (record s { deferred = [] }) (waited one) (waited_loads others) none_open (subst (λ (es : List (Parts × LoadContext)). All (λ (x : Load). In ps x.specifier) (waited_loads es)) here within) emptied)

  -- the dynamic phase has begun
  by_dynamic : (s : State) (one : Parts × Load) (others : List (Parts × Load)) → s.dynamic ≡ one ∷ others → Held ps done s → GoesOn s (dynamic_entered s)
  unfolding dynamic_entered
  by_dynamic s one others here held =
      less_rest known registry newest most ps done s (enter_all (record s { dynamic = []; is_dynamic = true }) (waited_imports s.root_names s.dynamic)) came.held came.run
      (weight_le ps done s (enter_all (record s { dynamic = []; is_dynamic = true }) (waited_imports s.root_names s.dynamic)) came.none_led (λ redirected_end. ap (pass_led done) (sym came.pass) ∙ redirected_end))
      (first (let count : length s.dynamic ≡ suc (length others) = ap length here in let gone : length (enter_all (record s { dynamic = []; is_dynamic = true }) (waited_imports s.root_names s.dynamic)).dynamic ≡ 0 = ap length came.dynamic in omega (arith, count, gone)))
    where
      emptied : Held ps done (record s { dynamic = []; is_dynamic = true })
      emptied = record { graph = held.graph; loads = held.loads; deferred = held.deferred; dynamic = All-nil (λ (e : Parts × Load). In ps e.1.specifier); waiting = held.waiting; passing = held.passing; files = held.files }

      came : Came ps done (length (waited_imports s.root_names s.dynamic)) (record s { dynamic = []; is_dynamic = true }) (enter_all (record s { dynamic = []; is_dynamic = true }) (waited_imports s.root_names s.dynamic))
      came = came_all ps done (record s { dynamic = []; is_dynamic = true }) (waited_imports s.root_names s.dynamic) (All-map (λ (x : Load). In ps x.specifier) (λ (e : Parts × Load). with_mark s.root_names e.1) s.dynamic held.dynamic) emptied

  -- a load has failed
  failed_held : (rest : State) (load : Load) (name : Parts) (e : JsrLoadError) → Held ps done rest → Held ps done (stored most rest load (failure_outcome load.context name e))
  unfolding stored enter_edges
  failed_held rest load name e held = record {
    graph = graph_named ps done rest.graph load.specifier name (jsr_slot name load.context e) refl held.graph;
    loads = held.loads;
    deferred = held.deferred;
    dynamic = held.dynamic;
    waiting = held.waiting;
    passing = held.passing;
    files = held.files;
  }

  -- what it leaves of the rest
  pub record IsRest (s rest : State) (loads : List Load) : Type 0 where
    pub left : rest.loads ≡ loads
    pub run : rest.run ≡ s.run
    pub waiting : rest.waiting ≡ s.waiting
    pub pass : rest.pass ≡ s.pass
    pub dynamic : rest.dynamic ≡ s.dynamic
    pub deferred : rest.deferred ≡ s.deferred

  by_failing : (s rest : State) (load : Load) (loads : List Load) (name : Parts) (e : JsrLoadError) → s.loads ≡ load ∷ loads → IsRest s rest loads → Held ps done rest → GoesOn s (stored most rest load (failure_outcome load.context name e))
  unfolding stored enter_edges
  by_failing s rest load loads name e here is held =
      less_rest known registry newest most ps done s (stored most rest load (failure_outcome load.context name e)) (failed_held rest load name e held) is.run
      (weight_le ps done s (stored most rest load (failure_outcome load.context name e)) (λ redirected_end. ap (any_led done) (sym is.waiting) ∙ redirected_end) (λ redirected_end. ap (pass_led done) (sym is.pass) ∙ redirected_end))
      (second (ap length is.dynamic) (second (ap length is.deferred) (first (let count : length s.loads ≡ suc (length loads) = ap length here in let now : length rest.loads ≡ length loads = ap length is.left in omega (arith, count, now)))))

  without_first : (s : State) (load : Load) (loads : List Load) → s.loads ≡ load ∷ loads → Held ps done s → Held ps done (record s { loads = loads })
  without_first s load loads here held = record {
    graph = held.graph;
    loads = All-tail (λ (x : Load). In ps x.specifier) load loads (subst (All (λ (x : Load). In ps x.specifier)) here held.loads);
    deferred = held.deferred;
    dynamic = held.dynamic;
    waiting = held.waiting;
    passing = held.passing;
    files = held.files;
  }

  module _ (stored_in : StoreIn registry known.store ps) where
    -- a file of the given store is kept
    file_held : (s : State) (nv : PackageNv) (answer : FileAnswer) → answer_in known.store (Version nv) ≡ Some answer → Held ps done s → Held ps done (file_kept s nv (kept_of registry nv answer))
    file_held s nv answer there held = record {
      graph = by_kept (kept_of registry nv answer);
      loads = held.loads;
      deferred = held.deferred;
      dynamic = held.dynamic;
      waiting = held.waiting;
      passing = held.passing;
      files = λ k v e. ⊎_elim (λ before. held.files k v before) (λ now. stored_in nv answer v there (sym now.1)) (answer_cases s.files nv (kept_of registry nv answer) k (Ok v) e);
    }
      where
        by_kept : (r : Result KeptVersion JsrLoadError) → GraphIn ps done (noted s.graph r)
        by_kept (Ok v) = graph_same ps done s.graph (noted s.graph (Ok v)) refl refl held.graph
        by_kept (Err e) = held.graph

    by_looking : (s : State) (file : RegistryFile) (files : List RegistryFile) (answer : FileAnswer) → s.wanted ≡ file ∷ files → answer_in known.store file ≡ Some answer → Held ps done s → GoesOn s (wanted_kept registry s answer)
    by_looking s file files answer here there held = subst (GoesOn s) (sym (ap (first_kept registry s answer) here)) (by_file file there)
      where
        left : State
        left = record s { wanted = files }

        left_held : Held ps done left
        left_held = record { graph = held.graph; loads = held.loads; deferred = held.deferred; dynamic = held.dynamic; waiting = held.waiting; passing = held.passing; files = held.files }

        fewer : length files < length s.wanted
        fewer = let count : length s.wanted ≡ suc (length files) = ap length here in omega (arith, count)

        by_file : (f : RegistryFile) → answer_in known.store f ≡ Some answer → GoesOn s (answer_kept registry left f answer)
        by_file (Package name) found =
            less_place known registry newest most ps done s (answer_kept registry left (Package name) answer) (record { graph = held.graph; loads = held.loads; deferred = held.deferred; dynamic = held.dynamic; waiting = held.waiting; passing = held.passing; files = held.files }) refl (omega arith) refl refl refl (second refl (first fewer))
        by_file (PackageAgain name) found =
            less_place known registry newest most ps done s (answer_kept registry left (PackageAgain name) answer) (record { graph = held.graph; loads = held.loads; deferred = held.deferred; dynamic = held.dynamic; waiting = held.waiting; passing = held.passing; files = held.files }) refl (omega arith) refl refl refl (second refl (first fewer))
        by_file (Probe nv) found =
            less_place known registry newest most ps done s (answer_kept registry left (Probe nv) answer) (record { graph = held.graph; loads = held.loads; deferred = held.deferred; dynamic = held.dynamic; waiting = held.waiting; passing = held.passing; files = held.files }) refl (omega arith) refl refl refl (second refl (first fewer))
        by_file (Version nv) found =
            less_place known registry newest most ps done s (answer_kept registry left (Version nv) answer) (file_held left nv answer found left_held) refl (omega arith) refl refl refl (second refl (first fewer))

-- ---- all of them

-- a run that is due begins once more: none does so again
restart_rank : (s : State) (r : Run) → s.run ≡ r → is_due r ≡ true → run_rank (begun_again s r).run < run_rank s.run
restart_rank s Only is due = absurd (true≢false (sym due))
restart_rank s (First start) is due = absurd (true≢false (sym due))
restart_rank s (Due start) is due =
    let after : run_rank (begun_again s (Due start)).run ≡ 0 = ap run_rank (still_started (cleared s) start).run in
    let before : run_rank s.run ≡ 1 = ap run_rank is in
    omega (arith, after, before)
restart_rank s (Second e) is due = absurd (true≢false (sym due))

-- a store that counts in a run is the given one
store_stays : (known : Known) (run : Run) (nv : PackageNv) (answer : FileAnswer) → answer_in (known_for known run).store (Version nv) ≡ Some answer → answer_in known.store (Version nv) ≡ Some answer
store_stays known Only nv answer e = e
store_stays known (First start) nv answer e = e
store_stays known (Due start) nv answer e = e
store_stays known (Second earlier) nv answer e = absurd cc

module _ (known : Known) (registry : RegistryMeaning) (newest : NewestDependencyDateOptions) (most : ℕ) where
  module _ (ps : List Parts) (done : List (List ℕ)) (stored_in : StoreIn registry known.store ps) where
    run_stored : (run : Run) → StoreIn registry (known_for known run).store ps
    run_stored run nv answer v e = stored_in nv answer v (store_stays known run nv answer e)

    module _ (s : State) (held : Held ps done s) where
      by_next : (n : Next) → NextIs s n → stands n ≡ false → Onward known registry newest most ps done s (gone_on registry newest s n)
      by_next n (comes_notes {note = note} {others = others} here) silent = by_notes known registry newest most ps done s note others here held
      by_next n (comes_load none here) silent = absurd (true≢false silent)
      by_next n (comes_file none none_open here) silent = absurd (true≢false silent)
      by_next n (comes_restart none none_open none_wanted due) silent = again (restart_rank s s.run refl due)
      by_next n (comes_item {p = p} {first = one} {others = others} calm is_on not_yet items) silent = by_item known registry newest most ps done s p one others is_on not_yet items held calm
      by_next n (comes_versions {p = p} calm is_on not_yet none) silent = by_versions known registry newest most ps done s p is_on not_yet none held
      by_next n (comes_exports {p = p} calm is_on entering) silent = by_exports known registry newest most ps done s p is_on entering held
      by_next n (comes_deferred {first = one} {others = others} outside here) silent = by_deferred known registry newest most ps done s one others outside.calm.no_load here held
      by_next n (comes_pass {first = one} {others = others} outside none_deferred here) silent = by_waiting known registry newest most ps done s one others outside.no_pass here held
      by_next n (comes_dynamic {first = one} {others = others} outside none_deferred none_waits here) silent = by_dynamic known registry newest most ps done s one others here held
      by_next n (comes_content idle here) silent = absurd (true≢false silent)
      by_next n (comes_end at_end) silent = absurd (true≢false silent)

      by_goes : (u : State) → Goes (known_for known s.run) registry newest most s u → Onward known registry newest most ps done s u
      by_goes u (on {n = n} next silent) = by_next n next silent
      by_goes u (fails load loads name e none here) =
          by_failing known registry newest most ps done s (record s { loads = loads }) load loads name e here (record { left = refl; run = refl; waiting = refl; pass = refl; dynamic = refl; deferred = refl }) (without_first known registry newest most ps done s load loads here held)
      by_goes u (reads load loads nv answer name e none here there) =
          by_failing known registry newest most ps done s (record (file_kept s nv (kept_of registry nv answer)) { loads = loads }) load loads name e here (record { left = refl; run = refl; waiting = refl; pass = refl; dynamic = refl; deferred = refl })
          (without_first known registry newest most ps done (file_kept s nv (kept_of registry nv answer)) load loads here (file_held known registry newest most ps done stored_in s nv answer (store_stays known s.run nv answer there) held))
      by_goes u (looks {file = file} {files = files} {answer = answer} none none_open here there) = by_looking_for file here there
        where
          by_looking_for : (f : RegistryFile) → s.wanted ≡ f ∷ files → answer_in (known_for known s.run).store f ≡ Some answer → Onward known registry newest most ps done s (wanted_kept registry s answer)
          by_looking_for f is found = by_looking known registry newest most ps done stored_in s f files answer is (any_stored s.run found) held
            where
              any_stored : (run : Run) → answer_in (known_for known run).store f ≡ Some answer → answer_in known.store f ≡ Some answer
              any_stored Only e = e
              any_stored (First start) e = e
              any_stored (Due start) e = e
              any_stored (Second earlier) e = absurd cc

  -- ---- covered states

  -- what a map's values give
  abbrev all_of : {K X : Type 0} → (X → List Parts) → List (K × X) → List Parts
  all_of f [] = []
  all_of f (e ∷ es) = f e.1 ++ all_of f es

  in_all : {K X : Type 0} (R : K → K → Ordering) (f : X → List Parts) (es : List (K × X)) (q : K) (x : X) (p : Parts) → find R q es ≡ Some x → In (f x) p → In (all_of f es) p
  in_all R f [] q x p e i = absurd cc
  in_all R f (d ∷ es) q x p e i =
      elim (eq_by_cmp R q d.0) as (λ b. cond b (Some d.1) (find R q es) ≡ Some x → In (f d.1 ++ all_of f es) p) [
        | true ↦ λ h. let same : d.1 ≡ x = cc in in_left (f d.1) (all_of f es) p (subst (λ z. In (f z) p) (sym same) i)
        | false ↦ λ h. in_right (f d.1) (all_of f es) p (in_all R f es q x p h i)
      ] e

  in_one : (p : Parts) → In (p ∷ []) p
  in_one p = inl refl

  -- where the exports of a version lead
  abbrev leads_of : Option Parts → List Parts
  leads_of None = []
  leads_of (Some p) = p ∷ []

  abbrev exports_of_version : KeptVersion → List (List ℕ × List ℕ) → List Parts
  exports_of_version v [] = []
  exports_of_version v (e ∷ es) = leads_of (joined_export v.url e.1) ++ exports_of_version v es

  abbrev exports_of_read : Result KeptVersion JsrLoadError → List Parts
  exports_of_read (Ok v) = exports_of_version v v.file.exports
  exports_of_read (Err e) = []

  found_export : (v : KeptVersion) (name value : List ℕ) (to : Parts) (es : List (List ℕ × List ℕ)) → lookup (bytes_eq name) es ≡ Some value → joined_export v.url value ≡ Some to → In (exports_of_version v es) to
  found_export v name value to [] e leads = absurd cc
  found_export v name value to (d ∷ es) e leads =
      elim (bytes_eq name d.0) as (λ b. (if b then Some d.1 else lookup (bytes_eq name) es) ≡ Some value → In (leads_of (joined_export v.url d.1) ++ exports_of_version v es) to) [
        | true ↦ λ h. let same : d.1 ≡ value = cc in in_left (leads_of (joined_export v.url d.1)) (exports_of_version v es) to (subst (λ o. In (leads_of o) to) (sym (ap (joined_export v.url) same ∙ leads)) (in_one to))
        | false ↦ λ h. in_right (leads_of (joined_export v.url d.1)) (exports_of_version v es) to (found_export v name value to es h leads)
      ] e

  exports_in : (ps : List Parts) (v : KeptVersion) → ((p : Parts) → In (exports_of_version v v.file.exports) p → In ps p) → ExportsIn ps v
  exports_in ps v within name e to is leads = by_value (lookup (bytes_eq name) v.file.exports) refl is
    where
      by_value : (o : Option (List ℕ)) → lookup (bytes_eq name) v.file.exports ≡ o → export_by v name o ≡ Ok e → In ps to
      by_value None found is = absurd cc
      by_value (Some value) found is = within to (found_export v name value to v.file.exports found (joined is))
        where
          joined : export_by v name (Some value) ≡ Ok e → joined_export v.url value ≡ Some to
          joined same = let it : record { name = name; value = value; to = joined_export v.url value } ≡ e = cc in ap (λ (x : Export). x.to) it ∙ leads

  -- those of versions in a store
  abbrev exports_stored_in : List (PackageNv × FileAnswer) → List Parts
  exports_stored_in [] = []
  exports_stored_in (e ∷ es) = exports_of_read (kept_of registry e.0 e.1) ++ exports_stored_in es

  stored_export : (es : List (PackageNv × FileAnswer)) (nv : PackageNv) (answer : FileAnswer) (p : Parts) → find nv_cmp nv es ≡ Some answer → In (exports_of_read (kept_of registry nv answer)) p → In (exports_stored_in es) p
  stored_export [] nv answer p e i = absurd cc
  stored_export (d ∷ es) nv answer p e i = by (λ h. stored_export es nv answer p h i) (eq_by_cmp nv_cmp nv d.0) refl e
    where
      by : (find nv_cmp nv es ≡ Some answer → In (exports_stored_in es) p) → (b : Bool) → eq_by_cmp nv_cmp nv d.0 ≡ b → cond b (Some d.1) (find nv_cmp nv es) ≡ Some answer → In (exports_of_read (kept_of registry d.0 d.1) ++ exports_stored_in es) p
      by rest true same h =
          let value : d.1 ≡ answer = cc in
          let key : nv ≡ d.0 = same_version nv d.0 same in
          in_left (exports_of_read (kept_of registry d.0 d.1)) (exports_stored_in es) p (subst (λ (k : PackageNv). In (exports_of_read (kept_of registry k d.1)) p) key (subst (λ (a : FileAnswer). In (exports_of_read (kept_of registry nv a)) p) (sym value) i))
      by rest false other h = in_right (exports_of_read (kept_of registry d.0 d.1)) (exports_stored_in es) p (rest h)

  abbrev of_store : Option JsrMetadataStore → List Parts
  of_store None = []
  of_store (Some store) = exports_stored_in (finite.entries store.versions)

  abbrev of_pass : Option Pass → List Parts
  of_pass None = []
  of_pass (Some p) = map (λ (item : WaitingPackage). item.specifier) p.items ++ map (λ (one : Chosen). one.item.specifier) p.chosen

  -- all that may come to a state
  abbrev all_that_may_come : State → List Parts
  all_that_may_come s =
      map (λ (load : Load). load.specifier) s.loads
      ++ (map (λ (e : Parts × LoadContext). e.0) s.deferred
      ++ (map (λ (e : Parts × Load). e.1.specifier) s.dynamic
      ++ (map (λ (item : WaitingPackage). item.specifier) s.waiting
      ++ (of_pass s.pass
      ++ (all_of (λ (p : Parts). p ∷ []) (finite.entries s.graph.redirects)
      ++ (all_of exports_of_read (finite.entries s.files)
      ++ of_store known.store))))))

  in_map : {X : Type 0} (f : X → Parts) (xs : List X) (ps : List Parts) → ((p : Parts) → In (map f xs) p → In ps p) → All (λ (x : X). In ps (f x)) xs
  in_map f [] ps within = All-nil (λ y. In ps (f y))
  in_map f (x ∷ xs) ps within = All-cons (λ y. In ps (f y)) x xs (within (f x) (inl refl)) (in_map f xs ps (λ p i. within p (inr i)))

  pub record IsCovered (s : State) : Type 0 where
    pub ps : List Parts
    pub stored_in : StoreIn registry known.store ps
    pub held : Held ps [] s

  pub cover : (s : State) → IsCovered s
  cover s = record { ps = ps; stored_in = by_store known.store refl; held = record { graph = record { targets = λ k n e. inl (in_targets n (in_all text_cmp (λ (p : Parts). p ∷ []) (finite.entries s.graph.redirects) k n n (sym (get-entries s.graph.redirects k) ∙ e) (in_one n))); led_on = λ t h. absurd (true≢false (sym h)) }; loads = in_map (λ (load : Load). load.specifier) s.loads ps in_loads; deferred = in_map (λ (e : Parts × LoadContext). e.0) s.deferred ps in_deferred; dynamic = in_map (λ (e : Parts × Load). e.1.specifier) s.dynamic ps in_dynamic; waiting = in_map (λ (item : WaitingPackage). item.specifier) s.waiting ps in_waiting; passing = by_pass s.pass (λ p i. in_pass p i); files = λ nv v e. exports_in ps v (λ p i. in_files p (in_all nv_cmp exports_of_read (finite.entries s.files) nv (Ok v) p (sym (get-entries s.files nv) ∙ e) i)) } }
    where
      ps : List Parts
      ps = all_that_may_come s

      loads : List Parts
      loads = map (λ (load : Load). load.specifier) s.loads

      deferred : List Parts
      deferred = map (λ (e : Parts × LoadContext). e.0) s.deferred

      dynamic : List Parts
      dynamic = map (λ (e : Parts × Load). e.1.specifier) s.dynamic

      waiting : List Parts
      waiting = map (λ (item : WaitingPackage). item.specifier) s.waiting

      targets : List Parts
      targets = all_of (λ (p : Parts). p ∷ []) (finite.entries s.graph.redirects)

      files : List Parts
      files = all_of exports_of_read (finite.entries s.files)

      in_loads : (p : Parts) → In loads p → In ps p
      in_loads p i = in_left loads _ p i

      in_deferred : (p : Parts) → In deferred p → In ps p
      in_deferred p i = in_right loads _ p (in_left deferred _ p i)

      in_dynamic : (p : Parts) → In dynamic p → In ps p
      in_dynamic p i = in_right loads _ p (in_right deferred _ p (in_left dynamic _ p i))

      in_waiting : (p : Parts) → In waiting p → In ps p
      in_waiting p i = in_right loads _ p (in_right deferred _ p (in_right dynamic _ p (in_left waiting _ p i)))

      in_pass : (p : Parts) → In (of_pass s.pass) p → In ps p
      in_pass p i = in_right loads _ p (in_right deferred _ p (in_right dynamic _ p (in_right waiting _ p (in_left (of_pass s.pass) _ p i))))

      in_targets : (p : Parts) → In targets p → In ps p
      in_targets p i = in_right loads _ p (in_right deferred _ p (in_right dynamic _ p (in_right waiting _ p (in_right (of_pass s.pass) _ p (in_left targets _ p i)))))

      in_files : (p : Parts) → In files p → In ps p
      in_files p i = in_right loads _ p (in_right deferred _ p (in_right dynamic _ p (in_right waiting _ p (in_right (of_pass s.pass) _ p (in_right targets _ p (in_left files (of_store known.store) p i))))))

      in_store : (p : Parts) → In (of_store known.store) p → In ps p
      in_store p i = in_right loads _ p (in_right deferred _ p (in_right dynamic _ p (in_right waiting _ p (in_right (of_pass s.pass) _ p (in_right targets _ p (in_right files (of_store known.store) p i))))))

      by_pass : (o : Option Pass) → ((p : Parts) → In (of_pass o) p → In ps p) → IfSome o (IsPassIn ps)
      by_pass None within = tt
      by_pass (Some p) within = record {
        items = in_map (λ (item : WaitingPackage). item.specifier) p.items ps (λ q i. within q (in_left (map (λ (item : WaitingPackage). item.specifier) p.items) (map (λ (one : Chosen). one.item.specifier) p.chosen) q i));
        chosen = in_map (λ (one : Chosen). one.item.specifier) p.chosen ps (λ q i. within q (in_right (map (λ (item : WaitingPackage). item.specifier) p.items) (map (λ (one : Chosen). one.item.specifier) p.chosen) q i));
      }

      by_store : (store : Option JsrMetadataStore) → known.store ≡ store → StoreIn registry known.store ps
      by_store None none nv answer v e is = absurd (let nothing : None ≡ Some answer = sym (ap (λ (o : Option JsrMetadataStore). answer_in o (Version nv)) none) ∙ e in cc)
      by_store (Some store) some nv answer v e is = exports_in ps v (λ p i. in_store p (subst (λ (o : Option JsrMetadataStore). In (of_store o) p) (sym some) (stored_export (finite.entries store.versions) nv answer p (sym (get-entries store.versions nv) ∙ (sym (ap (λ (o : Option JsrMetadataStore). answer_in o (Version nv)) some) ∙ e)) (subst (λ (r : Result KeptVersion JsrLoadError). In (exports_of_read r) p) (sym is) i))))

  -- ---- they end

  ends_by : (r : Rank) → Ending Less r → (ps : List Parts) (done : List (List ℕ)) → StoreIn registry known.store ps → (s : State) → Held ps done s → rank ps done s ≡ r → ((u : State) → run_rank u.run < run_rank s.run → Ends known registry newest most u) → Ends known registry newest most s
  ends_by r (all rest) ps done stored_in s held is begins_again = by_step (λ now u held_now less_now again_from. ends_by (rank ps now u) (rest (rank ps now u) (subst (Less (rank ps now u)) is less_now)) ps now stored_in u held_now refl again_from) (silently known registry newest most s) refl
    where
      by_onward : ((now : List (List ℕ)) (u : State) → Held ps now u → Less (rank ps now u) (rank ps done s) → ((v : State) → run_rank v.run < run_rank u.run → Ends known registry newest most v) → Ends known registry newest most u) → (u : State) → Onward known registry newest most ps done s u → Ends known registry newest most u
      by_onward next u (stopped none) = stops none
      by_onward next u (again lt) = begins_again u lt
      by_onward next u (less {now = now} held_now less_now) = next now u held_now less_now (λ v lt. begins_again v (let le = run_le less_now in omega (arith, lt, le)))
        where
          run_le : Less (rank ps now u) (rank ps done s) → run_rank u.run ≤ run_rank s.run
          run_le (first lt) = omega (arith, lt)
          run_le (second same other) = omega (arith, same)

      by_step : ((now : List (List ℕ)) (u : State) → Held ps now u → Less (rank ps now u) (rank ps done s) → ((v : State) → run_rank v.run < run_rank u.run → Ends known registry newest most v) → Ends known registry newest most u) → (o : Option State) → silently known registry newest most s ≡ o → Ends known registry newest most s
      by_step next None e = stops e
      by_step next (Some u) e = goes e (by_onward next u (by_goes ps done stored_in s held u (how_goes known registry newest most s u e)))

  ends_under : (n : ℕ) (s : State) → run_rank s.run < n → Ends known registry newest most s
  ends_under zero s lt = absurd (omega arith)
  ends_under (suc n) s lt =
      let covered = cover s in
      ends_by (rank covered.ps [] s) (rank_ends (rank covered.ps [] s)) covered.ps [] covered.stored_in s covered.held refl (λ u less_run. ends_under n u (omega (arith, lt, less_run)))

  pub ends_always : (s : State) → Ends known registry newest most s
  ends_always s = ends_under (suc (run_rank s.run)) s (omega arith)

  -- how many steps without an answer there are
  pub left : State → ℕ
  left s = steps known registry newest most (ends_always s)

  -- each of them lessens that
  pub fewer_left : (s u : State) → silently known registry newest most s ≡ Some u → left u < left s
  unfolding left steps
  fewer_left s u e = by (ends_always s)
    where
      by : (a : Ends known registry newest most s) → left u < steps known registry newest most a
      by (stops none) = absurd (let wrong : None ≡ Some u = sym none ∙ e in cc)
      by (goes {u = v} is rest) =
          let same : v ≡ u = let both : Some v ≡ Some u = sym is ∙ e in cc in
          let equal = steps_same known registry newest most same rest (ends_always u) in
          omega (arith, equal)
