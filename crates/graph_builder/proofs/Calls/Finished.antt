-- What a build that is done gives.
use Rattle.std.proofs.Common.{Bool, ◌≡◌, ℕ, ◌+◌, List, [], ◌∷◌, length, true, ◌&&◌, not, Option, None, Some, refl, sym, ap, ◌∙◌, subst, inl, inr, ⊎_elim, ◌⊎◌, arith}
use Rattle.std.specs.Prelude.{◌==◌, OnOk, Result}
use Rattle.std.proofs.lemmas.Bool.{true≢false}
use Rattle.std.specs.FinMap as finite
use Rattle.std.specs.Ordering.{nat_cmp}
use Rattle.url.specs.Parts.{Parts}
use Rattle.registry_urls.specs.Meaning.{RegistryMeaning}
use Rattle.source_io.specs.declared.types.Answer.{Answer}
use Rattle.source_io.specs.declared.types.CacheSetting.{CacheSetting}
use Rattle.source_io.specs.declared.types.Question.{Question}
use Rattle.source_sums.specs.Sums.{KnownSums}
use Rattle.import_records.specs.Target.{Resolving}
use Rattle.graph_dependencies.specs.declared.graph_kind.GraphKind.{GraphKind}
use Rattle.source_io.specs.declared.types.World.{World}
use Rattle.cache_filling.specs.Noted.{Noted, NotesCopies}
use Rattle.cache_filling.proofs.NotedLemmas.{noted_so}
use Rattle.graph_core.specs.declared.graph.ModuleGraph.{ModuleGraph}
use Rattle.module_slots.specs.declared.load.Load.{Load}
use Rattle.module_slots.specs.declared.slot.ModuleSlot.TheVariants.{Pending}
use Rattle.graph_core.specs.Graph.{new_graph}
use Rattle.graph_core.proofs.At.{nothing_in_empty}
use Rattle.graph_turns.specs.declared.question_of.Asked.{Asked}
use Rattle.graph_turns.specs.declared.later_content.LaterContent.{LaterContent}
use Rattle.graph_turns.specs.declared.unresolved_input.LeftOver.{LeftOver}
use Rattle.npm_resolver.specs.declared.types.NpmTable.{NpmTable}
use Rattle.module_slots.specs.declared.npm_load.NpmLoad.{NpmLoad}
use Rattle.graph_turns.specs.declared.next.Next.{Next}
use Rattle.graph_turns.specs.declared.next.Next.TheVariants.{Load as ALoad, Wanted, Content, End}
use Rattle.graph_turns.specs.declared.registry.RegistryFile.{RegistryFile}
use Rattle.graph_turns.specs.declared.starting.ResolvedStart.{ResolvedStart}
use Rattle.graph_turns.specs.declared.state.State.{State}
use Rattle.turn_laws.specs.Budget.Asked.{AsksInRuns}
use Rattle.graph_turns.specs.Machine.Known.{Known}
use Rattle.graph_turns.specs.Machine.Next.{next_of}
use Rattle.graph_turns.specs.Machine.Npm.{IsEnded, ended_graph}
use Rattle.graph_turns.specs.Machine.Runs.{begins_anew, begun_over, known_for, setting_for}
use Rattle.graph_turns.specs.Machine.Starting.{IsResolved, start_entry, told_start}
use Rattle.graph_turns.specs.Machine.Turns.{IsAtEnd, IsTurnedFrom, put_by, turns}
use Rattle.turn_laws.specs.Promise.Complete.{IsComplete, NonePending}
use Rattle.graph_turns.specs.Promise.Input.{EnteredGraph, Given}
use Rattle.graph_turns.specs.Promise.Runs.{AreStaticFirst, IsGrownTo, IsStaticFirst, left_of, may_begin_again}
use Rattle.graph_turns.specs.Promise.Told.{Told}
use Rattle.graph_builder.specs.declared.build_phase.Phase.TheVariants.{Finished}
use Rattle.open_loads.specs.declared.turn_stage.Stage.{Stage}
use Rattle.open_loads.specs.declared.turn_stage.Stage.TheVariants.{Idle, Asks, AsksAgain, Reads, Looks, Fills}
use Rattle.open_loads.specs.Budget.Runs.{Passed, Runs}
use Rattle.graph_builder.specs.Calls.Builds.{BuildsOn, GoesBy, IsBuiltFrom, IsBuiltOver, IsTurning}
use Rattle.graph_builder.specs.Calls.Steps.{BuildState, IsDone, IsGoing, given_graph, is_begun}
use Rattle.open_loads.specs.Taught.{AreSumsIn}
use Rattle.open_loads.specs.Order.Asking.{AreStored, through}
use Rattle.open_loads.specs.Order.Unused.{Due, IsDue, dues, files_behind}
use Rattle.open_loads.specs.Order.Means.{Directions, untold}
use Rattle.open_loads.specs.Order.OpenLoads.{OpenLoads, known_now}
use Rattle.open_loads.specs.Order.Numbered.{filled_store}
use Rattle.open_loads.specs.Order.Ordered.{FitsEnd, FitsTurn, IsInOrder, Numbered, all_due}
use Rattle.turn_laws.proofs.Budget.Versions.{idle_free}
use Rattle.graph_turns.proofs.Entering.Next.NextIs.{ends}
use Rattle.graph_turns.proofs.Entering.Resting.{next_as}
use Rattle.turn_laws.proofs.Leading.Circles.{ends_of, no_circle_of}
use Rattle.turn_laws.proofs.Promise.Ended.{EndsAs, asks_ended, ended_plain, ends_as, grown_to_end, kept_plain}
use Rattle.turn_laws.proofs.Promise.Settled.{ended_told}
use Rattle.turn_laws.proofs.Promise.KeptEnds.{sum_found}
use Rattle.turn_laws.proofs.Promise.KeptTurns.{KeptInRun, kept_begun, kept_turns, same_length}
use Rattle.turn_laws.proofs.Promise.SoundBegun.{mended_with}
use Rattle.turn_laws.proofs.Static.First.{static_turned}
use Rattle.graph_builder.proofs.Budget.Asked.{asks_in_runs, put_in}
use Rattle.graph_builder.proofs.Budget.Orderly.{Ordered, Orderly, complete_end, complete_from, entry_is, first_run, is_first, ordered, run_in}
use Rattle.graph_builder.proofs.Calls.Builds.{entered_running, entered_turning}
use Rattle.graph_builder.proofs.Calls.Driven.{on_ok_both, on_ok_so}
use Rattle.graph_builder.proofs.Calls.Entered.{enters_self}
use Rattle.graph_builder.proofs.Calls.Meant.{told_directions, told_means}

-- ---- where nothing is left

end_is : (s : State) → IsAtEnd s → next_of s ≡ End
end_is s end = next_as s End (ends end)

not_end : (s : State) (n : Next) → next_of s ≡ End → next_of s ≡ n → End ≡ n
not_end s n end next = sym end ∙ next

-- no turn stands
stage_end : (b : OpenLoads) (stage : Stage) → next_of b.state ≡ End → FitsTurn b stage → (stage ≡ Idle) × FitsEnd b
stage_end b Idle e fits = (refl, fits.1)
stage_end b (Asks t asked) e fits = absurd (let wrong : End ≡ ALoad = not_end b.state ALoad e fits.0 in cc)
stage_end b (AsksAgain t asked first) e fits = absurd (let wrong : End ≡ ALoad = not_end b.state ALoad e fits.0 in cc)
stage_end b (Reads t nv at) e fits = absurd (let wrong : End ≡ ALoad = not_end b.state ALoad e fits.0 in cc)
stage_end b (Looks t at) e fits = absurd (let wrong : End ≡ Wanted = not_end b.state Wanted e fits.0 in cc)
stage_end b (Fills t) e fits = absurd (let wrong : End ≡ Content = not_end b.state Content e fits.0 in cc)

-- and nothing is due
due_end : (setting : CacheSetting) (known : Known) (ps : List (Option (ℕ × Asked))) (loads : List Load) (ws : List (Option (ℕ × Parts))) (files : List RegistryFile) (ts : List ℕ) (contents : List LaterContent) → ps ≡ [] → ws ≡ [] → ts ≡ [] → dues setting known Idle ps loads ws files ts contents ≡ []
due_end setting known [] loads [] files [] contents e f h = refl
due_end setting known [] loads [] files (t ∷ ts) contents e f h = cc
due_end setting known [] loads (w ∷ ws) files ts contents e f h = cc
due_end setting known (p ∷ ps) loads ws files ts contents e f h = cc

due_none : (setting : CacheSetting) (known : Known) (b : OpenLoads) → IsAtEnd b.state → FitsTurn b b.stage → dues setting known b.stage b.behind b.state.loads b.wanted b.state.wanted b.later b.state.contents ≡ []
due_none setting known b end fits =
    let none = stage_end b b.stage (end_is b.state end) fits in
    subst (λ (x : Stage). dues setting known x b.behind b.state.loads b.wanted b.state.wanted b.later b.state.contents ≡ []) (sym none.0)
    (due_end setting known b.behind b.state.loads b.wanted b.state.wanted b.later b.state.contents none.1.no_load none.1.no_file none.1.no_content)

no_queue : (queue : List Question) (kept : finite.FinMap nat_cmp Answer) (taken queued most : ℕ) (xs : List Due) → Numbered queue kept taken queued most xs → xs ≡ [] → length queue ≡ 0
no_queue [] kept taken queued most xs n e = refl
no_queue (q ∷ qs) kept taken queued most xs n e = absurd (subst (IsDue (record { ticket = taken + 0; question = q })) e (n.queue_due 0 q refl))

-- all that was queued was handed out
pub all_put : (t : OpenLoads) → IsInOrder t → IsAtEnd t.state → (put : ℕ) → t.queued ≡ put + through t.stage + length (all_due t) → t.taken ≡ put
all_put t order end put count =
    let nothing : all_due t ≡ [] = due_none (setting_for t.state.run) (known_now t) t end order.fits in
    let idle : through t.stage ≡ 0 = ap through (stage_end t t.stage (end_is t.state end) order.fits).0 in
    let unqueued = no_queue t.queue t.kept t.taken t.queued t.max_loads (all_due t) order.numbered nothing in
    let numbers = order.numbered.numbers in
    let no_due = ap length nothing in
    omega (arith, count, idle, unqueued, numbers, no_due)

-- the order stays, whatever is known then, and whatever the graph is
pub order_taught : (t : OpenLoads) (k : Known) (g : ModuleGraph) (npm : List NpmLoad) → IsAtEnd t.state → IsInOrder t → IsInOrder (record t { known = k; added = []; state = record t.state { graph = g; npm = npm } })
order_taught t k g npm end order = record {
  fits = subst (FitsTurn new) (sym none.0) (end_is t.state end, record { no_load = none.1.no_load; no_file = none.1.no_file; no_content = none.1.no_content });
  numbered = subst (Numbered t.queue t.kept t.taken t.queued t.max_loads) (nothing t.known ∙ sym (nothing k)) order.numbered;
  held = record { loads = order.held.loads; deferred = order.held.deferred; dynamic = order.held.dynamic };
  named = order.named;
  stored = subst (λ ws. AreStored (known_for k t.state.run).store ws (files_behind t.stage t.state.wanted)) (sym none.1.no_file) tt;
  stage_read = order.stage_read;
  ahead_read = order.ahead_read;
}
  where
    new : OpenLoads
    new = record t { known = k; added = []; state = record t.state { graph = g; npm = npm } }

    none : (t.stage ≡ Idle) × FitsEnd t
    none = stage_end t t.stage (end_is t.state end) order.fits

    nothing : (known : Known) → dues (setting_for t.state.run) (known_for known t.state.run) t.stage t.behind t.state.loads t.wanted t.state.wanted t.later t.state.contents ≡ []
    nothing known = due_none (setting_for t.state.run) (known_for known t.state.run) t end order.fits

-- ---- what was built

-- so many turns end, and put so many questions
pub record TurnsDone (w : Told) (kind : GraphKind) (start : State) (put : ℕ) : Type 0 where
  pub count : ℕ
  pub done : IsAtEnd (turns w kind count start)
  pub questions : put ≡ put_by w kind count start

-- a build of what is given may begin once more, or one of what that is resolved to
anew_resolved : (resolver : Option Resolving) (g : ModuleGraph) (given : LeftOver) (start : ResolvedStart) → IsResolved resolver given start → begins_anew g start.roots start.imports ≡ may_begin_again g given
anew_resolved resolver g given start resolved =
    ap (λ (n : ℕ). length g.roots == 0 && not (n == 0 && length start.imports == 0)) (ap length resolved.roots_are)
    ∙ ap (λ (n : ℕ). length g.roots == 0 && not (length given.roots == 0 && n == 0)) (sym (same_length (λ i. i.0) start.imports) ∙ ap length resolved.referrers_are ∙ same_length (λ i. i.referrer) given.imports)

-- nothing is pending in the empty graph
none_new : (g : ModuleGraph) → NonePending (new_graph g.kind)
none_new g = λ k asset at. nothing_in_empty k (Pending asset) at

-- what turns leave from the start of a graph in which nothing is pending
built_of : (known : Known) (registry : RegistryMeaning) (g : ModuleGraph) (start : ResolvedStart) (past : List Passed) (s : State) → Ordered ⊥ known registry (start_entry known.flags.is_dynamic g start) (first_run g start) past s → IsAtEnd s → NonePending g → (u : ModuleGraph) → EndsAs s u → IsBuiltFrom known.flags g start u ⊎ ((begins_anew g start.roots start.imports ≡ true) × IsBuiltFrom known.flags (new_graph g.kind) start u)
built_of known registry g start past s now end settled u adds = ⊎_elim
    (λ same. inl (complete_from (start_entry known.flags.is_dynamic g start) past s settled (subst (λ (o : EnteredGraph). Orderly ⊥ known registry o past s) same now.orderly) end.idle u adds))
    (λ anew. inr (anew.0, complete_from (start_entry known.flags.is_dynamic (new_graph g.kind) start) past s (none_new g) (subst (λ (o : EnteredGraph). Orderly ⊥ known registry o past s) anew.1 now.orderly) end.idle u adds))
    (entry_is known g start s.run now.entry now.run)

-- over the empty graph each run begins there
over_empty : (known : Known) (registry : RegistryMeaning) (given : Given) (start : ResolvedStart) (past : List Passed) (s : State) → Ordered ⊥ known registry (start_entry known.flags.is_dynamic (new_graph given.kind) start) (first_run (new_graph given.kind) start) past s → Orderly ⊥ known registry (start_entry known.flags.is_dynamic (new_graph given.kind) start) past s
over_empty known registry given start past s now = ⊎_elim
    (λ same. subst (λ (o : EnteredGraph). Orderly ⊥ known registry o past s) same now.orderly)
    (λ anew. subst (λ (o : EnteredGraph). Orderly ⊥ known registry o past s) anew.1 now.orderly)
    (entry_is known (new_graph given.kind) start s.run now.entry now.run)

module _ {O : Type 0} (b : BuildState O) (going : IsGoing b) (done : IsDone b) where
  pub going_taught : (k : Known) (g : ModuleGraph) (npm : List NpmLoad) → IsGoing (record b { phase = Finished; turns = record b.turns { known = k; added = []; state = record b.turns.state { graph = g; npm = npm } } })
  going_taught k g npm = record {
    not_ended = refl;
    in_order = order_taught b.turns k g npm done.at_end going.in_order;
    resting = going.resting;
    start_first = λ none. cc;
  }

  -- what the graph that it gives has of its turns
  module _ {table : Option NpmTable} (u : ModuleGraph) (ended : IsEnded table b.turns.state u) where
    adds : EndsAs b.turns.state u
    adds = ends_as b.turns.state u ended

    pub complete_of : (directions : Directions) (given : Given) → BuildsOn directions (new_graph given.kind) (left_of given) b → IsComplete directions.resolving b.turns.known.flags given u
    complete_of directions given on =
        let g = new_graph given.kind in
        let now = entered_running directions g (left_of given) b b (enters_self directions b done.begun) on in
        let i = now.building in
        complete_end directions.resolving given now.start now.resolved i.past b.turns.state
        (over_empty b.turns.known directions.registry given now.start i.past b.turns.state (ordered b.turns.redirects b.turns.known None (untold directions.registry directions.newest) g now.start on.no_circle i.run)) done.at_end.idle u adds

    pub complete_over_of : (directions : Directions) (g : ModuleGraph) (given : LeftOver) → BuildsOn directions g given b → NonePending g → IsBuiltOver directions.resolving b.turns.known.flags g given u
    complete_over_of directions g given on settled =
        let now = entered_running directions g given b b (enters_self directions b done.begun) on in
        let i = now.building in
        record {
          start = now.start;
          resolved = now.resolved;
          built = ⊎_elim inl (λ anew. inr (sym (anew_resolved directions.resolving g given now.start now.resolved) ∙ anew.0, anew.1))
              (built_of b.turns.known directions.registry g now.start i.past b.turns.state (ordered b.turns.redirects b.turns.known None (untold directions.registry directions.newest) g now.start on.no_circle i.run) done.at_end settled u adds);
          no_circle = no_circle_of u (λ x. adds.ends x (ends_of b.turns.state.graph on.whole.no_circle x));
        }

    -- what was asked about, each once in a run
    pub asks_of : (directions : Directions) (g : ModuleGraph) (given : LeftOver) → BuildsOn directions g given b → AsksInRuns directions.registry u b.turns.taken
    asks_of directions g given on =
        let now = entered_running directions g given b b (enters_self directions b done.begun) on in
        let i = now.building in
        let known = b.turns.known in
        let means = untold directions.registry directions.newest in
        let o = start_entry known.flags.is_dynamic g now.start in
        asks_ended b.turns.state u adds directions.registry b.turns.taken
        (asks_in_runs o (first_run g now.start) i.past b.turns.state b.turns.taken (ordered b.turns.redirects known None means g now.start on.no_circle i.run) done.at_end.idle.none_passing
        (idle_free directions.registry b.turns.state done.at_end.idle.none_open) (all_put b.turns going.in_order done.at_end i.put i.count)
        (put_in (λ (n : ℕ). Unit {0}) tt ⊥ b.turns.redirects known None means o (first_run g now.start) (is_first g now.start) (mended_with ⊥ known.flags.is_dynamic g now.start on.no_circle) (λ past put x before comes has. tt)
        (run_in b.turns.redirects known None means g now.start i.run)))

  -- ---- where all is told

  turning : (w : Told) (g : ModuleGraph) (given : LeftOver) → GoesBy w g given b → IsTurning w g given b
  turning w g given goes = ⊎_elim (λ waits. absurd (true≢false (sym done.begun ∙ ap is_begun waits.left_is))) (λ turns. turns) goes.phase

  -- what its turns kept
  kept_of : (w : Told) (g : ModuleGraph) (given : LeftOver) → GoesBy w g given b → KeptInRun w g (told_start w given) b.turns.state
  kept_of w g given goes =
      let d = (turning w g given goes).drives in
      subst (KeptInRun w g (told_start w given)) (sym d.state_is) (kept_turns w g (told_start w given) d.turn_count (begun_over w.known g (told_start w given)) (kept_begun w g (told_start w given)))

  -- nothing is pending
  closed_of : (w : Told) (g : ModuleGraph) (given : LeftOver) → GoesBy w g given b → NonePending g → (u : ModuleGraph) → EndsAs b.turns.state u → NonePending u
  closed_of w g given goes settled u adds =
      let start = told_start w given in
      let means = told_means w g.kind in
      let i = entered_turning (told_directions w) w g given b b refl (enters_self (told_directions w) b done.begun) going.in_order goes in
      let run : Runs b.turns.redirects w.known (Some w.world) means (begun_over w.known g start) i.past i.put b.turns.state = subst (λ (k : Known). Runs b.turns.redirects k (Some w.world) means (begun_over w.known g start) i.past i.put b.turns.state) goes.known_is i.run in
      ⊎_elim (λ built. built.none_pending) (λ anew. anew.1.none_pending)
      (built_of w.known w.registry g start i.past b.turns.state (ordered b.turns.redirects w.known (Some w.world) means g start goes.no_circle run) done.at_end settled u adds)

  -- nor is it as its turns end
  still_closed : (w : Told) (g : ModuleGraph) (given : LeftOver) → GoesBy w g given b → NonePending g → (u : ModuleGraph) → EndsAs b.turns.state u → NonePending b.turns.state.graph
  still_closed w g given goes settled u adds k asset at = closed_of w g given goes settled u adds k asset (adds.still k (Pending asset) at)

  pub explained_of : (w : Told) (g : ModuleGraph) (given : LeftOver) (u : ModuleGraph) → IsEnded (Some w.npm) b.turns.state u → GoesBy w g given b → NonePending g → IsGrownTo w g given u
  explained_of w g given u ended goes settled =
      let adds = ends_as b.turns.state u ended in
      grown_to_end w g given b.turns.state (kept_of w g given goes) done.at_end.none_comes settled (still_closed w g given goes settled u adds) u ended

  pub sources_of : (w : Told) (g : ModuleGraph) (given : LeftOver) → GoesBy w g given b → AreSumsIn w g given b.turns.state.sums
  sources_of w g given goes text sum at = sum_found w g given b.turns.state (kept_of w g given goes) text sum at

  -- so many turns were taken, which put what was handed out
  pub turns_of : (w : Told) (g : ModuleGraph) (given : LeftOver) → GoesBy w g given b → TurnsDone w g.kind (begun_over w.known g (told_start w given)) b.turns.taken
  turns_of w g given goes =
      let start = begun_over w.known g (told_start w given) in
      let d = (turning w g given goes).drives in
      record {
        count = d.turn_count;
        done = subst IsAtEnd d.state_is done.at_end;
        questions = all_put b.turns going.in_order done.at_end (put_by w g.kind d.turn_count start) d.count;
      }

  pub turned_of : (w : Told) (g : ModuleGraph) (given : LeftOver) (u : ModuleGraph) → IsEnded (Some w.npm) b.turns.state u → GoesBy w g given b → IsTurnedFrom w g.kind (begun_over w.known g (told_start w given)) u b.turns.state.sums (filled_store b.turns.known.store b.turns.added) b.turns.taken
  turned_of w g given u ended goes =
      let start = begun_over w.known g (told_start w given) in
      let d = (turning w g given goes).drives in
      record {
        count = d.turn_count;
        done = subst IsAtEnd d.state_is done.at_end;
        graph_is = ended_told w b.turns.state u ended ∙ ap (ended_graph w) d.state_is;
        sums_are = ap (λ (x : State). x.sums) d.state_is;
        store_is = d.store_is;
        questions = all_put b.turns going.in_order done.at_end (put_by w g.kind d.turn_count start) d.count;
      }

  -- over the empty graph, static imports come before dynamic ones
  pub static_of : {table : Option NpmTable} (w : Told) (given : Given) (u : ModuleGraph) → IsEnded table b.turns.state u → GoesBy w (new_graph given.kind) (left_of given) b → AreStaticFirst w given → IsStaticFirst w given u
  static_of w given u ended goes settled =
      let g = new_graph given.kind in
      let kept = kept_of w g (left_of given) goes in
      let d = (turning w g (left_of given) goes).drives in
      let same : u ≡ b.turns.state.graph = ended_plain b.turns.state u (kept_plain w g (left_of given) b.turns.state kept (λ run is. (settled run is).resolves_no_npm)) ended in
      subst (IsStaticFirst w given) (sym (same ∙ ap (λ (x : State). x.graph) d.state_is)) (static_turned w given settled d.turn_count (subst IsAtEnd d.state_is done.at_end).idle)

-- what a finished build gives, and the sums that it kept
module _ {O T E : Type 0} (r : Result T E) (old new : BuildState O) (same : OnOk r (new ≡ record old { phase = Finished; turns = record old.turns { known = new.turns.known; added = []; state = record old.turns.state { graph = new.turns.state.graph; npm = new.turns.state.npm } } })) where
  pub given_as : (caches : Bool) (world : Option World) (table : Option NpmTable) → OnOk r (Noted caches world (IsEnded table old.turns.state) new.turns.state.graph) → (P : ModuleGraph → Option KnownSums → Type 0) → ((u : ModuleGraph) → IsEnded table old.turns.state u → P u old.turns.state.sums) → OnOk r (Noted caches world (λ bare. P bare new.turns.state.sums) (given_graph new))
  given_as caches world table ended P done = on_ok_both r _ _ _ same ended
      (λ is end. subst (λ (g : ModuleGraph). Noted caches world (λ bare. P bare new.turns.state.sums) g) (sym (ap given_graph is))
      (noted_so end (λ u at. subst (P u) (sym (ap (λ (b : BuildState O). b.turns.state.sums) is)) (done u at))))

  pub given_sums : (P : Option KnownSums → Type 0) → OnOk r (P old.turns.state.sums) → OnOk r (P new.turns.state.sums)
  given_sums P done = on_ok_both r _ _ _ same done (λ is at. subst P (sym (ap (λ (b : BuildState O). b.turns.state.sums) is)) at)

-- what is noted in the end
module _ {O T E : Type 0} (r : Result T E) (caches : Bool) (world : Option World) (old new : BuildState O) (same : OnOk r (new ≡ record old { phase = Finished; turns = record old.turns { state = record old.turns.state { graph = new.turns.state.graph } } })) (noted : OnOk r (NotesCopies caches world old.turns.state.graph new.turns.state.graph)) where
  pub noted_graph : (P : ModuleGraph → Type 0) → P old.turns.state.graph → OnOk r (Noted caches world P new.turns.state.graph)
  noted_graph P holds = on_ok_so r _ _ noted (λ notes. record { bare = old.turns.state.graph; holds = holds; notes = notes })

  pub noted_end : (P : ModuleGraph → Type 0) → P old.turns.state.graph → OnOk r (Noted caches world P (given_graph new))
  noted_end P holds = on_ok_both r _ _ _ same (noted_graph P holds) (λ is at. subst (Noted caches world P) (sym (ap given_graph is)) at)
