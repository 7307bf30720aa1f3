-- A build that was driven by what is told has taken some turns, and the other way round.
use Rattle.std.proofs.Common.{◌≡◌, ℕ, zero, suc, ◌+◌, List, [], ◌∷◌, length, Bool, true, false, if◌then◌else◌, Option, None, Some, is_some, refl, sym, ap, ◌∙◌, subst, arith}
use Rattle.std.specs.Prelude.{option_map}
use Rattle.std.proofs.lemmas.Bool.{true≢false}
use Rattle.spec_base.specs.Options.{by_option}
use Rattle.metadata_store.specs.declared.store.JsrMetadataStore.{JsrMetadataStore}
use Rattle.registry_files.specs.Answers.{FileAnswer}
use Rattle.semver_npm.specs.declared.package.PackageNv.{PackageNv}
use Rattle.source_io.specs.declared.types.Answer.{Answer}
use Rattle.source_io.specs.declared.types.World.{World}
use Rattle.source_io.specs.Answers.{answer_of}
use Rattle.graph_dependencies.specs.declared.graph_kind.GraphKind.{GraphKind}
use Rattle.module_slots.specs.declared.load.Load.{Load}
use Rattle.graph_errors.specs.declared.jsr_error.JsrLoadError.TheVariants.{UnsupportedManifestChecksum}
use Rattle.graph_turns.specs.declared.question_of.Asked.{Asked}
use Rattle.graph_turns.specs.declared.manner.Manner.{Manner}
use Rattle.graph_turns.specs.declared.manner.Manner.TheVariants.{Asks as IsAskedAs, Reads as ReadsFirst, Unread, Unsupported}
use Rattle.graph_turns.specs.declared.next.Next.{Next}
use Rattle.graph_turns.specs.declared.next.Next.TheVariants.{Notes, Load as ALoad, Wanted, Restart, Item, Versions, Exports, Deferred, Waiting, Dynamic, Content, End}
use Rattle.graph_turns.specs.declared.outcome.Outcome.{Outcome}
use Rattle.graph_turns.specs.declared.registry.RegistryFile.{RegistryFile}
use Rattle.graph_turns.specs.declared.registry.RegistryFile.TheVariants.{Version}
use Rattle.graph_turns.specs.declared.state.State.{State}
use Rattle.graph_turns.specs.Machine.Contents.{content_stored}
use Rattle.graph_turns.specs.Machine.Entering.{stored}
use Rattle.graph_turns.specs.Machine.Files.{file_kept}
use Rattle.graph_turns.specs.Machine.Known.{Known}
use Rattle.graph_turns.specs.Machine.Next.{next_of, stands}
use Rattle.graph_turns.specs.Machine.Outcomes.{failure_outcome}
use Rattle.graph_turns.specs.Machine.RegistryFiles.{wanted_kept}
use Rattle.graph_turns.specs.Machine.Runs.{is_second, known_for, setting_for, told_for}
use Rattle.graph_turns.specs.Machine.Turns.{failing, first_load_reads, first_wanted, load_reads, manner_in, next_cost, put_by, reads_by, store_after, store_by, told_outcome, turn, turn_cost, turns}
use Rattle.graph_turns.specs.Promise.Contents.{content_question}
use Rattle.graph_turns.specs.Promise.Taken.{asks_again, first_to, taken_answer}
use Rattle.graph_turns.specs.Promise.Told.{Told, making_of}
use Rattle.graph_turns.specs.Promise.Versions.{answer_in, file_question, is_stored, kept_of, loaded, served_file, store_with, told_file, version_question}
use Rattle.turn_laws.proofs.Entering.Made.{outcome_final, outcome_suits}
use Rattle.graph_turns.proofs.Entering.Next.{NextIs, how_next}
use Rattle.graph_turns.proofs.Entering.Next.NextIs.{notes as comes_notes, loads as comes_load, wanted as comes_file, restart as comes_restart, item as comes_item, versions as comes_versions, exports as comes_exports, deferred as comes_deferred, waiting as comes_waiting, dynamic as comes_dynamic, content as comes_content, ends as comes_end}
use Rattle.graph_turns.proofs.Entering.Resting.{cost_asks, cost_content, cost_end, cost_fails, cost_next, cost_reads, cost_wanted, turn_asks, turn_content, turn_end, turn_fails, turn_next, turn_reads, turn_wanted}
use Rattle.open_loads.specs.Budget.Runs.{Answered, BeganAgain, Filled, LookedUp, MayCost, Passed, Read, Runs, goes_on, store_of}
use Rattle.open_loads.specs.Budget.Runs.MayCost.{once, twice}
use Rattle.open_loads.specs.Budget.Runs.Runs.{none, answered, failed, read, read_stored, looked_up, looked_up_stored, filled, went_on, began_again}
use Rattle.open_loads.specs.Order.Asking.{through}
use Rattle.open_loads.specs.Order.Means.{Means}
use Rattle.open_loads.specs.Order.OpenLoads.{OpenLoads}
use Rattle.open_loads.specs.Order.Numbered.{filled_store}
use Rattle.open_loads.specs.Order.Ordered.{Drives, IsBuilding, all_due}
use Rattle.graph_builder.proofs.Budget.Orderly.{idle_next}
use Rattle.open_loads.proofs.Order.Stores.{after_none, after_reads, after_stored, store_keeps}

-- by all that is told
abbrev pub told_means : Told → GraphKind → Means
told_means w kind = record { registry = w.registry; newest = w.newest; making = Some (making_of w kind) }

-- ---- what comes next

-- nothing is noted where a load comes next
pub no_notes : (s : State) (n : Next) → NextIs s n → n ≡ ALoad → s.notes ≡ []
no_notes s n (comes_notes e) is = absurd (let wrong : Notes ≡ ALoad = is in cc)
no_notes s n (comes_load m e) is = m
no_notes s n (comes_file m l e) is = absurd (let wrong : Wanted ≡ ALoad = is in cc)
no_notes s n (comes_restart m l x d) is = absurd (let wrong : Restart ≡ ALoad = is in cc)
no_notes s n (comes_item c goes e i) is = absurd (let wrong : Item ≡ ALoad = is in cc)
no_notes s n (comes_versions c goes e i) is = absurd (let wrong : Versions ≡ ALoad = is in cc)
no_notes s n (comes_exports c goes e) is = absurd (let wrong : Exports ≡ ALoad = is in cc)
no_notes s n (comes_deferred o e) is = absurd (let wrong : Deferred ≡ ALoad = is in cc)
no_notes s n (comes_waiting o d e) is = absurd (let wrong : Waiting ≡ ALoad = is in cc)
no_notes s n (comes_dynamic o d y e) is = absurd (let wrong : Dynamic ≡ ALoad = is in cc)
no_notes s n (comes_content i e) is = absurd (let wrong : Content ≡ ALoad = is in cc)
no_notes s n (comes_end i) is = absurd (let wrong : End ≡ ALoad = is in cc)

-- and no load is open where a file does
pub no_loads : (s : State) (n : Next) → NextIs s n → n ≡ Wanted → (s.notes ≡ []) × (s.loads ≡ [])
no_loads s n (comes_notes e) is = absurd (let wrong : Notes ≡ Wanted = is in cc)
no_loads s n (comes_load m e) is = absurd (let wrong : ALoad ≡ Wanted = is in cc)
no_loads s n (comes_file m l e) is = (m, l)
no_loads s n (comes_restart m l x d) is = absurd (let wrong : Restart ≡ Wanted = is in cc)
no_loads s n (comes_item c goes e i) is = absurd (let wrong : Item ≡ Wanted = is in cc)
no_loads s n (comes_versions c goes e i) is = absurd (let wrong : Versions ≡ Wanted = is in cc)
no_loads s n (comes_exports c goes e) is = absurd (let wrong : Exports ≡ Wanted = is in cc)
no_loads s n (comes_deferred o e) is = absurd (let wrong : Deferred ≡ Wanted = is in cc)
no_loads s n (comes_waiting o d e) is = absurd (let wrong : Waiting ≡ Wanted = is in cc)
no_loads s n (comes_dynamic o d y e) is = absurd (let wrong : Dynamic ≡ Wanted = is in cc)
no_loads s n (comes_content i e) is = absurd (let wrong : Content ≡ Wanted = is in cc)
no_loads s n (comes_end i) is = absurd (let wrong : End ≡ Wanted = is in cc)

-- what goes on waits for no answer, and reads nothing
goes_stands : (n : Next) → goes_on n ≡ true → stands n ≡ false
goes_stands Notes g = refl
goes_stands ALoad g = absurd (true≢false (sym g))
goes_stands Wanted g = absurd (true≢false (sym g))
goes_stands Restart g = absurd (true≢false (sym g))
goes_stands Item g = refl
goes_stands Versions g = refl
goes_stands Exports g = refl
goes_stands Deferred g = refl
goes_stands Waiting g = refl
goes_stands Dynamic g = refl
goes_stands Content g = absurd (true≢false (sym g))
goes_stands End g = absurd (true≢false (sym g))

goes_reads : (t : Told) (s : State) (n : Next) → goes_on n ≡ true → reads_by t s n ≡ None
goes_reads t s Notes g = refl
goes_reads t s ALoad g = absurd (true≢false (sym g))
goes_reads t s Wanted g = absurd (true≢false (sym g))
goes_reads t s Restart g = absurd (true≢false (sym g))
goes_reads t s Item g = refl
goes_reads t s Versions g = refl
goes_reads t s Exports g = refl
goes_reads t s Deferred g = refl
goes_reads t s Waiting g = refl
goes_reads t s Dynamic g = refl
goes_reads t s Content g = absurd (true≢false (sym g))
goes_reads t s End g = absurd (true≢false (sym g))

-- ---- files

unstored : (o : Option FileAnswer) → is_some o ≡ false → o ≡ None
unstored None f = refl
unstored (Some answer) f = absurd (true≢false f)

-- a file whose answer doesn't stand in the given store is served
asked_file : (t : Told) (file : RegistryFile) (a : Answer) → a ≡ answer_of t.world (file_question t.metadata t.registry t.known.manifests file) → is_stored t.known.store file ≡ false → told_file t file ≡ loaded a
asked_file t file a right fresh = ap (λ o. by_option o (served_file t file) (λ answer. answer)) (unstored (answer_in t.known.store file) fresh) ∙ sym (ap loaded right)

stored_file : (t : Told) (file : RegistryFile) (answer : FileAnswer) → answer_in t.known.store file ≡ Some answer → told_file t file ≡ answer
stored_file t file answer here = ap (λ o. by_option o (served_file t file) (λ x. x)) here

-- a load that fails reads nothing
failing_reads : (load : Load) (m : Manner) (o : Outcome) → failing load m ≡ Some o → load_reads m ≡ None
failing_reads load (IsAskedAs asked) o f = refl
failing_reads load (ReadsFirst nv) o f = absurd (let wrong : None ≡ Some o = f in cc)
failing_reads load (Unread name e) o f = refl
failing_reads load Unsupported o f = refl

-- ---- what a turn costs

-- what the world says
cost_told : (w : World) (known : Known) {n : ℕ} (load : Load) (asked : Asked) → MayCost known (Some w) load asked n → n ≡ turn_cost w known load asked
cost_told w known load asked (once a right e) = sym (ap (λ (b : Bool). if b then 2 else 1) (ap (asks_again asked) (sym right) ∙ e))
cost_told w known load asked (twice a right e) = sym (ap (λ (b : Bool). if b then 2 else 1) (ap (asks_again asked) (sym right) ∙ e))

-- a world leads the turn of a load to the answer that counts, at what the turn costs
told_cost : (w : World) (known : Known) (load : Load) (asked : Asked) → MayCost known (Some w) load asked (turn_cost w known load asked)
told_cost w known load asked = by (asks_again asked (first_to w known asked load.specifier load.context)) refl
  where
    by : (b : Bool) → asks_again asked (first_to w known asked load.specifier load.context) ≡ b → MayCost known (Some w) load asked (if b then 2 else 1)
    by true e = twice (first_to w known asked load.specifier load.context) refl e
    by false e = once (first_to w known asked load.specifier load.context) refl e

-- ---- a run as turns

-- a run leads to a state, puts so many questions, and leaves the given store so
record HasRun (w : Told) (kind : GraphKind) (start : State) (most : ℕ) (known : Known) (put : ℕ) (store : Option JsrMetadataStore) (s : State) : Type 0 where
  past : List Passed
  run : Runs most known (Some w.world) (told_means w kind) start past put s
  store_is : store_of most known (Some w.world) (told_means w kind) start run ≡ store

module _ (w : Told) (kind : GraphKind) (start : State) where
  -- so many turns lead to a state, put so many questions, and leave the given store so
  pub record IsTurnedTo (put : ℕ) (store : Option JsrMetadataStore) (s : State) : Type 0 where
    pub count : ℕ
    pub state_is : s ≡ turns w kind count start
    pub put_is : put ≡ put_by w kind count start
    pub store_is : store ≡ store_by w kind count start

  -- one turn more
  turned_more : {put : ℕ} {store : Option JsrMetadataStore} {s : State} (cost : ℕ) (after : Option JsrMetadataStore) (next : State) → IsTurnedTo put store s → next ≡ turn w kind s → cost ≡ next_cost w s → after ≡ store_after w s store → IsTurnedTo (cost + put) after next
  unfolding turns put_by store_by
  turned_more {put} {store} {s} cost after next before turned costs stores = record {
    count = suc before.count;
    state_is = turned ∙ ap (turn w kind) before.state_is;
    put_is = ap (λ (c : ℕ). c + put) (costs ∙ ap (next_cost w) before.state_is) ∙ ap (λ (p : ℕ). next_cost w (turns w kind before.count start) + p) before.put_is;
    store_is = stores ∙ ap (λ (x : State). store_after w x store) before.state_is ∙ ap (store_after w (turns w kind before.count start)) before.store_is;
  }

  -- with so many questions, said otherwise
  turned_as : {m n : ℕ} {store : Option JsrMetadataStore} {s : State} → m ≡ n → IsTurnedTo m store s → IsTurnedTo n store s
  turned_as e t = record { count = t.count; state_is = t.state_is; put_is = sym e ∙ t.put_is; store_is = t.store_is }

  abbrev pub RunsBy : List Passed → ℕ → State → Type 0
  RunsBy past put s = Runs w.world.max_redirects w.known (Some w.world) (told_means w kind) start past put s

  abbrev pub store_by_run : {past : List Passed} {put : ℕ} {s : State} → RunsBy past put s → Option JsrMetadataStore
  store_by_run run = store_of w.world.max_redirects w.known (Some w.world) (told_means w kind) start run

  -- where a load comes next, its turn reads the file of its version, or nothing
  load_read : (s rest : State) (load : Load) → next_of s ≡ ALoad → s ≡ record rest { loads = load ∷ rest.loads } → reads_by (told_for w s.run) s (next_of s) ≡ load_reads (manner_in (told_for w s.run).known.sums w.registry s load)
  load_read s rest load comes left = ap (reads_by (told_for w s.run) s) comes ∙ ap (first_load_reads (told_for w s.run) s) (ap (λ (x : State). x.loads) left)

  file_read : (s : State) (file : RegistryFile) (files : List RegistryFile) → next_of s ≡ Wanted → s.wanted ≡ file ∷ files → reads_by (told_for w s.run) s (next_of s) ≡ Some file
  file_read s file files comes first = ap (reads_by (told_for w s.run) s) comes ∙ ap first_wanted first

  -- what the given store has stands in what turns leave of it
  keeps_given : {put : ℕ} {store : Option JsrMetadataStore} {s : State} → IsTurnedTo put store s → (f : RegistryFile) → is_stored w.known.store f ≡ true → is_stored store f ≡ true
  keeps_given before f t = subst (λ (x : Option JsrMetadataStore). is_stored x f ≡ true) (sym before.store_is) (store_keeps w kind before.count start f t)

  -- a run leads where some turns do, puts as many questions, and leaves the given store as they do
  pub run_turned : {past : List Passed} {put : ℕ} {s : State} (run : RunsBy past put s) → IsTurnedTo put (store_by_run run) s
  unfolding turns put_by store_by
  run_turned none = record { count = 0; state_is = refl; put_is = refl; store_is = refl }
  run_turned (answered {cost = cost} {s = s} {rest = rest} {next = next} {load = load} {asked = asked} {outcome = outcome} run comes left how may costs is) =
      let none_noted = no_notes s (next_of s) (how_next s) comes in
      turned_more cost (store_by_run run) next (run_turned run)
      (is ∙ ap (stored w.world.max_redirects rest load) may.told ∙ sym (turn_asks w kind s rest load left none_noted asked how))
      (cost_told w.world (known_for w.known s.run) load asked costs ∙ sym (cost_asks w kind s rest load left none_noted asked how))
      (sym (after_none w s (store_by_run run) (load_read s rest load comes left ∙ ap load_reads how)))
  run_turned (failed {put = put} {s = s} {rest = rest} {next = next} {load = load} {outcome = outcome} run comes left fails is) =
      let none_noted = no_notes s (next_of s) (how_next s) comes in
      turned_as (let same : 0 + put ≡ put = omega arith in same) (turned_more 0 (store_by_run run) next (run_turned run)
      (is ∙ sym (turn_fails w kind s rest load left none_noted outcome fails))
      (sym (cost_fails w kind s rest load left none_noted outcome fails))
      (sym (after_none w s (store_by_run run) (load_read s rest load comes left ∙ failing_reads load (manner_in (told_for w s.run).known.sums w.registry s load) outcome fails))))
  run_turned (read {put = put} {s = s} {rest = rest} {next = next} {load = load} {nv = nv} a run comes left how right fresh is) =
      let none_noted = no_notes s (next_of s) (how_next s) comes in
      let told = asked_file (told_for w s.run) (Version nv) a right fresh in
      turned_as (let same : 1 + put ≡ suc put = omega arith in same) (turned_more 1 (store_by_run (read a run comes left how right fresh is)) next (run_turned run)
      (is ∙ ap (λ (x : FileAnswer). file_kept s nv (kept_of w.registry nv x)) (sym told) ∙ sym (turn_reads w kind s rest load left none_noted nv how))
      (sym (cost_reads w kind s rest load left none_noted nv how ∙ ap (λ (b : Bool). if b then 0 else 1) fresh))
      (sym (after_reads w s (store_by_run run) (Version nv) (loaded a) (load_read s rest load comes left ∙ ap load_reads how) told)))
  run_turned (read_stored {put = put} {s = s} {rest = rest} {next = next} {load = load} {nv = nv} {answer = answer} run comes left how there is) =
      let none_noted = no_notes s (next_of s) (how_next s) comes in
      let before = run_turned run in
      turned_as (let same : 0 + put ≡ put = omega arith in same) (turned_more 0 (store_by_run run) next before
      (is ∙ ap (λ (x : FileAnswer). file_kept s nv (kept_of w.registry nv x)) (sym (stored_file (told_for w s.run) (Version nv) answer there)) ∙ sym (turn_reads w kind s rest load left none_noted nv how))
      (sym (cost_reads w kind s rest load left none_noted nv how ∙ ap (λ (o : Option FileAnswer). if is_some o then 0 else 1) there))
      (sym (after_stored w s (store_by_run run) (Version nv) answer (load_read s rest load comes left ∙ ap load_reads how) there (keeps_given before))))
  run_turned (looked_up {put = put} {s = s} {next = next} {file = file} {files = files} a run comes first right fresh is) =
      let calm = no_loads s (next_of s) (how_next s) comes in
      let told = asked_file (told_for w s.run) file a right fresh in
      turned_as (let same : 1 + put ≡ suc put = omega arith in same) (turned_more 1 (store_by_run (looked_up a run comes first right fresh is)) next (run_turned run)
      (is ∙ ap (wanted_kept w.registry s) (sym told) ∙ sym (turn_wanted w kind s file files calm.0 calm.1 first))
      (sym (cost_wanted w kind s file files calm.0 calm.1 first ∙ ap (λ (b : Bool). if b then 0 else 1) fresh))
      (sym (after_reads w s (store_by_run run) file (loaded a) (file_read s file files comes first) told)))
  run_turned (looked_up_stored {put = put} {s = s} {next = next} {file = file} {files = files} {answer = answer} run comes first there is) =
      let calm = no_loads s (next_of s) (how_next s) comes in
      let before = run_turned run in
      turned_as (let same : 0 + put ≡ put = omega arith in same) (turned_more 0 (store_by_run run) next before
      (is ∙ ap (wanted_kept w.registry s) (sym (stored_file (told_for w s.run) file answer there)) ∙ sym (turn_wanted w kind s file files calm.0 calm.1 first))
      (sym (cost_wanted w kind s file files calm.0 calm.1 first ∙ ap (λ (o : Option FileAnswer). if is_some o then 0 else 1) there))
      (sym (after_stored w s (store_by_run run) file answer (file_read s file files comes first) there (keeps_given before))))
  run_turned (filled {put = put} {s = s} {next = next} {l = l} {ls = ls} a run comes here right is) =
      let idle = idle_next s (next_of s) (how_next s) comes in
      turned_as (let same : 1 + put ≡ suc put = omega arith in same) (turned_more 1 (store_by_run run) next (run_turned run)
      (is ∙ ap (content_stored s) right ∙ sym (turn_content w kind s l ls idle here))
      (sym (cost_content w kind s l ls idle here))
      (sym (after_none w s (store_by_run run) (ap (reads_by (told_for w s.run) s) comes))))
  run_turned (went_on {put = put} {s = s} {next = next} run goes is) =
      turned_as (let same : 0 + put ≡ put = omega arith in same) (turned_more 0 (store_by_run run) next (run_turned run)
      (is ∙ sym (turn_next w kind s (next_of s) refl (goes_stands (next_of s) goes)))
      (sym (cost_next w kind s (next_of s) refl (goes_stands (next_of s) goes)))
      (sym (after_none w s (store_by_run run) (goes_reads (told_for w s.run) s (next_of s) goes))))
  run_turned (began_again {put = put} {s = s} {next = next} run comes is) =
      turned_as (let same : 0 + put ≡ put = omega arith in same) (turned_more 0 (store_by_run run) next (run_turned run)
      (is ∙ sym (turn_next w kind s Restart comes refl))
      (sym (cost_next w kind s Restart comes refl))
      (sym (after_none w s (store_by_run run) (ap (reads_by (told_for w s.run) s) comes))))

  -- ---- turns as a run

  -- by what is told
  abbrev IsRun : ℕ → Option JsrMetadataStore → State → Type 0
  IsRun put store s = HasRun w kind start w.world.max_redirects w.known put store s

  -- the same, said otherwise
  run_as : {m n : ℕ} {a b : Option JsrMetadataStore} {s : State} → m ≡ n → a ≡ b → IsRun m a s → IsRun n b s
  run_as {m} {n} {a} {b} {s} e f r = subst (λ (x : Option JsrMetadataStore). IsRun n x s) f (subst (λ (k : ℕ). IsRun k a s) e r)

  module _ (s : State) (put : ℕ) (store : Option JsrMetadataStore) (now : IsRun put store s) (keeps : (f : RegistryFile) → is_stored w.known.store f ≡ true → is_stored store f ≡ true) where
    -- a run of one turn more
    abbrev GoesFurther : Type 0
    GoesFurther = IsRun (next_cost w s + put) (store_after w s store) (turn w kind s)

    -- what is answered about a file comes to the store in a first run
    abbrev after_first : RegistryFile → Answer → Option JsrMetadataStore → Option JsrMetadataStore
    after_first file a x = if is_second s.run then x else option_map (λ own. store_with own file (loaded a)) x

    costs_none : next_cost w s ≡ 0 → put ≡ next_cost w s + put
    costs_none free = omega (arith, free)

    costs_one : next_cost w s ≡ 1 → suc put ≡ next_cost w s + put
    costs_one e = omega (arith, e)

    -- where nothing is asked about, and nothing comes to the store
    further : (past : List Passed) (run : RunsBy past put (turn w kind s)) → store_by_run run ≡ store → next_cost w s ≡ 0 → store_after w s store ≡ store → GoesFurther
    further past run is free same = run_as (costs_none free) (sym same) (record { past = past; run = run; store_is = is })

    further_on : goes_on (next_of s) ≡ true → GoesFurther
    further_on goes = further now.past (went_on now.run goes (turn_next w kind s (next_of s) refl (goes_stands (next_of s) goes))) now.store_is
        (cost_next w kind s (next_of s) refl (goes_stands (next_of s) goes)) (after_none w s store (goes_reads (told_for w s.run) s (next_of s) goes))

    -- a load
    module _ (load : Load) (others : List Load) (comes : next_of s ≡ ALoad) (first : s.loads ≡ load ∷ others) where
      left : s ≡ record (record s { loads = others }) { loads = load ∷ others }
      left = ap (λ (l : List Load). record s { loads = l }) first

      none_noted : s.notes ≡ []
      none_noted = no_notes s (next_of s) (how_next s) comes

      fails_further : (outcome : Outcome) → failing load (manner_in (known_for w.known s.run).sums w.registry s load) ≡ Some outcome → GoesFurther
      fails_further outcome fails = further now.past (failed {rest = record s { loads = others }} {load = load} {outcome = outcome} now.run comes left fails (turn_fails w kind s (record s { loads = others }) load left none_noted outcome fails)) now.store_is
          (cost_fails w kind s (record s { loads = others }) load left none_noted outcome fails)
          (after_none w s store (load_read s (record s { loads = others }) load comes left ∙ failing_reads load (manner_in (told_for w s.run).known.sums w.registry s load) outcome fails))

      reads_further : (nv : PackageNv) → manner_in (known_for w.known s.run).sums w.registry s load ≡ ReadsFirst nv → (o : Option FileAnswer) → answer_in (known_for w.known s.run).store (Version nv) ≡ o → GoesFurther
      reads_further nv how None e =
          let fresh : is_stored (known_for w.known s.run).store (Version nv) ≡ false = ap is_some e in
          let a : Answer = answer_of w.world (version_question (setting_for s.run) w.registry (known_for w.known s.run).manifests nv) in
          let told = asked_file (told_for w s.run) (Version nv) a refl fresh in
          run_as (costs_one (cost_reads w kind s (record s { loads = others }) load left none_noted nv how ∙ ap (λ (b : Bool). if b then 0 else 1) fresh))
          (ap (λ (x : Option JsrMetadataStore). after_first (Version nv) a x) now.store_is ∙ sym (after_reads w s store (Version nv) (loaded a) (load_read s (record s { loads = others }) load comes left ∙ ap load_reads how) told))
          (record {
            past = Read nv ∷ now.past;
            run = read {rest = record s { loads = others }} {load = load} a now.run comes left how refl fresh (turn_reads w kind s (record s { loads = others }) load left none_noted nv how ∙ ap (λ (x : FileAnswer). file_kept s nv (kept_of w.registry nv x)) told);
            store_is = refl;
          })
      reads_further nv how (Some answer) e =
          further now.past (read_stored {rest = record s { loads = others }} {load = load} now.run comes left how e (turn_reads w kind s (record s { loads = others }) load left none_noted nv how ∙ ap (λ (x : FileAnswer). file_kept s nv (kept_of w.registry nv x)) (stored_file (told_for w s.run) (Version nv) answer e))) now.store_is
          (cost_reads w kind s (record s { loads = others }) load left none_noted nv how ∙ ap (λ (o : Option FileAnswer). if is_some o then 0 else 1) e)
          (after_stored w s store (Version nv) answer (load_read s (record s { loads = others }) load comes left ∙ ap load_reads how) e keeps)

      load_further : (m : Manner) → manner_in (known_for w.known s.run).sums w.registry s load ≡ m → GoesFurther
      load_further (IsAskedAs asked) how =
          run_as (ap (λ (c : ℕ). c + put) (sym (cost_asks w kind s (record s { loads = others }) load left none_noted asked how)))
          (now.store_is ∙ sym (after_none w s store (load_read s (record s { loads = others }) load comes left ∙ ap load_reads how)))
          (record {
            past = Answered load asked ∷ now.past;
            run = answered {cost = turn_cost w.world (known_for w.known s.run) load asked} {rest = record s { loads = others }} {outcome = told_outcome (told_for w s.run) kind load asked} now.run comes left how
                (record { final = outcome_final (making_of w kind) load asked (taken_answer w.world (known_for w.known s.run) asked load.specifier load.context); suits = outcome_suits (making_of w kind) load asked w.world (known_for w.known s.run); told = refl })
                (told_cost w.world (known_for w.known s.run) load asked) (turn_asks w kind s (record s { loads = others }) load left none_noted asked how);
            store_is = refl;
          })
      load_further (ReadsFirst nv) how = reads_further nv how (answer_in (known_for w.known s.run).store (Version nv)) refl
      load_further (Unread name error) how = fails_further (failure_outcome load.context name error) (ap (failing load) how)
      load_further Unsupported how = fails_further (failure_outcome load.context load.specifier UnsupportedManifestChecksum) (ap (failing load) how)

    -- a file that a pass wants
    file_further : (file : RegistryFile) (files : List RegistryFile) → next_of s ≡ Wanted → s.notes ≡ [] → s.loads ≡ [] → s.wanted ≡ file ∷ files → (o : Option FileAnswer) → answer_in (known_for w.known s.run).store file ≡ o → GoesFurther
    file_further file files comes noted shut first None e =
        let fresh : is_stored (known_for w.known s.run).store file ≡ false = ap is_some e in
        let a : Answer = answer_of w.world (file_question (setting_for s.run) w.registry (known_for w.known s.run).manifests file) in
        let told = asked_file (told_for w s.run) file a refl fresh in
        run_as (costs_one (cost_wanted w kind s file files noted shut first ∙ ap (λ (b : Bool). if b then 0 else 1) fresh))
        (ap (λ (x : Option JsrMetadataStore). after_first file a x) now.store_is ∙ sym (after_reads w s store file (loaded a) (file_read s file files comes first) told))
        (record {
          past = LookedUp file ∷ now.past;
          run = looked_up a now.run comes first refl fresh (turn_wanted w kind s file files noted shut first ∙ ap (wanted_kept w.registry s) told);
          store_is = refl;
        })
    file_further file files comes noted shut first (Some answer) e =
        further now.past (looked_up_stored now.run comes first e (turn_wanted w kind s file files noted shut first ∙ ap (wanted_kept w.registry s) (stored_file (told_for w s.run) file answer e))) now.store_is
        (cost_wanted w kind s file files noted shut first ∙ ap (λ (o : Option FileAnswer). if is_some o then 0 else 1) e)
        (after_stored w s store file answer (file_read s file files comes first) e keeps)

    one_further : (n : Next) → NextIs s n → next_of s ≡ n → GoesFurther
    one_further n (comes_notes e) is = further_on (ap goes_on is)
    one_further n (comes_load {load} {others} m e) is = load_further load others is e (manner_in (known_for w.known s.run).sums w.registry s load) refl
    one_further n (comes_file {file} {others} m l e) is = file_further file others is m l e (answer_in (known_for w.known s.run).store file) refl
    one_further n (comes_restart m l x d) is = further (BeganAgain s.graph put ∷ now.past) (began_again now.run is (turn_next w kind s Restart is refl)) now.store_is (cost_next w kind s Restart is refl) (after_none w s store (ap (reads_by (told_for w s.run) s) is))
    one_further n (comes_item c goes e i) is = further_on (ap goes_on is)
    one_further n (comes_versions c goes e i) is = further_on (ap goes_on is)
    one_further n (comes_exports c goes e) is = further_on (ap goes_on is)
    one_further n (comes_deferred o e) is = further_on (ap goes_on is)
    one_further n (comes_waiting o d e) is = further_on (ap goes_on is)
    one_further n (comes_dynamic o d y e) is = further_on (ap goes_on is)
    one_further n (comes_content {first = l} {others = ls} i e) is =
        run_as (costs_one (cost_content w kind s l ls i e)) (now.store_is ∙ sym (after_none w s store (ap (reads_by (told_for w s.run) s) is)))
        (record {
          past = Filled l ∷ now.past;
          run = filled (answer_of w.world (content_question (known_for w.known s.run) l)) now.run is e refl (turn_content w kind s l ls i e);
          store_is = refl;
        })
    one_further n (comes_end i) is =
        subst (IsRun (next_cost w s + put) (store_after w s store)) (sym (turn_end w kind s i))
        (run_as (costs_none (cost_end w kind s i)) (sym (after_none w s store (ap (reads_by (told_for w s.run) s) is))) now)

  -- so many turns are a run
  turns_run : (n : ℕ) → IsRun (put_by w kind n start) (store_by w kind n start) (turns w kind n start)
  unfolding turns put_by store_by
  turns_run zero = record { past = []; run = none; store_is = refl }
  turns_run (suc n) = one_further (turns w kind n start) (put_by w kind n start) (store_by w kind n start) (turns_run n) (store_keeps w kind n start) (next_of (turns w kind n start)) (how_next (turns w kind n start)) refl

-- ---- builds

pub drives_of : (w : Told) (kind : GraphKind) (start : State) (b : OpenLoads) → b.redirects ≡ w.world.max_redirects → b.known ≡ w.known → IsBuilding (Some w.world) (told_means w kind) start b → Drives w kind start b
drives_of w kind start b m known i =
    let store = filled_store b.known.store b.added in
    let now : HasRun w kind start w.world.max_redirects w.known i.put store b.state = subst (λ (k : Known). HasRun w kind start w.world.max_redirects k i.put store b.state) known
    (subst (λ (n : ℕ). HasRun w kind start n b.known i.put store b.state) m (record { past = i.past; run = i.run; store_is = sym i.store })) in
    let turned = run_turned w kind start now.run in
    record {
      turn_count = turned.count;
      state_is = turned.state_is;
      store_is = sym now.store_is ∙ turned.store_is;
      next = i.next;
      ahead = i.ahead;
      wanted = i.wanted;
      count = i.count ∙ ap (λ (n : ℕ). n + through b.stage + length (all_due b)) turned.put_is;
      kept_right = i.kept_right;
    }

pub building_of : (w : Told) (kind : GraphKind) (start : State) (b : OpenLoads) → b.redirects ≡ w.world.max_redirects → b.known ≡ w.known → Drives w kind start b → IsBuilding (Some w.world) (told_means w kind) start b
building_of w kind start b m known d =
    let put = put_by w kind d.turn_count start in
    let store = filled_store b.known.store b.added in
    let at : HasRun w kind start w.world.max_redirects w.known put store b.state = subst (λ (x : State). HasRun w kind start w.world.max_redirects w.known put store x) (sym d.state_is)
    (subst (λ (x : Option JsrMetadataStore). HasRun w kind start w.world.max_redirects w.known put x (turns w kind d.turn_count start)) (sym d.store_is) (turns_run w kind start d.turn_count)) in
    let now : HasRun w kind start b.redirects b.known put store b.state = subst (λ (n : ℕ). HasRun w kind start n b.known put store b.state) (sym m)
    (subst (λ (k : Known). HasRun w kind start w.world.max_redirects k put store b.state) (sym known) at) in
    record {
      past = now.past;
      put = put;
      run = now.run;
      store = sym now.store_is;
      next = d.next;
      ahead = d.ahead;
      wanted = d.wanted;
      count = d.count;
      kept_right = d.kept_right;
    }
