-- A budget that is enough for turns to their end is never spent.
use Rattle.std.proofs.Common.{◌≡◌, ℕ, zero, suc, ◌+◌, ◌<◌, ◌≤◌, List, [], ◌∷◌, ◌++◌, length, Bool, true, false, Option, None, Some, refl, sym, ap, ◌∙◌, subst, arith, if◌then◌else◌, inl, inr}
use Rattle.std.specs.Prelude.{◌-◌, IfSome, fold, option_map}
use Rattle.std.specs.FinMap as finite
use Rattle.std.specs.FinMap.{get-empty}
use Rattle.std.specs.Ordering.{nat_cmp}
use Rattle.std.proofs.lemmas.Bool.{cases_lt}
use Rattle.metadata_store.specs.declared.store.JsrMetadataStore.{JsrMetadataStore}
use Rattle.registry_files.specs.Answers.{FileAnswer}
use Rattle.url.specs.Parts.{Parts}
use Rattle.source_sums.specs.Sums.{KnownSums}
use Rattle.source_io.specs.declared.types.Answer.{Answer}
use Rattle.source_io.specs.declared.types.World.{World}
use Rattle.import_records.specs.Target.{Resolving}
use Rattle.graph_dependencies.specs.declared.graph_import.GraphImport.{GraphImport}
use Rattle.graph_core.specs.Graph.{new_graph}
use Rattle.graph_core.specs.declared.graph.ModuleGraph.{ModuleGraph}
use Rattle.graph_turns.specs.declared.registry.RegistryFile.{RegistryFile}
use Rattle.graph_turns.specs.declared.registry.RegistryFile.TheVariants.{Version}
use Rattle.graph_turns.specs.declared.starting.ResolvedStart.{ResolvedStart}
use Rattle.graph_turns.specs.declared.state.State.{State}
use Rattle.graph_turns.specs.declared.unresolved_input.LeftOver.{LeftOver}
use Rattle.graph_turns.specs.Machine.Known.{Known}
use Rattle.graph_turns.specs.Machine.Next.{next_of}
use Rattle.graph_turns.specs.Machine.Runs.{begun_over, is_second, known_for, setting_for}
use Rattle.graph_turns.specs.Machine.Starting.{IsResolved, told_start}
use Rattle.graph_turns.specs.Machine.Turns.{IsAtEnd, IsTurnedFrom, begun, put_by, turns}
use Rattle.graph_turns.specs.Promise.Input.{Given}
use Rattle.graph_turns.specs.Promise.Runs.{left_of}
use Rattle.graph_turns.specs.Promise.Told.{Told}
use Rattle.graph_turns.specs.Promise.Versions.{loaded, store_with}
use Rattle.open_loads.specs.declared.turn_stage.Stage.{Stage}
use Rattle.open_loads.specs.Budget.Open.{open_by}
use Rattle.open_loads.specs.Budget.Runs.{IsOver, Passed, Runs, store_of}
use Rattle.open_loads.specs.Budget.Runs.Runs.{none, answered, failed, read, read_stored, looked_up, looked_up_stored, filled, went_on, began_again}
use Rattle.graph_builder.specs.Calls.Makers.{means_by}
use Rattle.build_options.specs.Telling.{Telling, Tells}
use Rattle.open_loads.specs.Order.Means.{Means}
use Rattle.open_loads.specs.Order.Asking.{IsNext, through}
use Rattle.open_loads.specs.Order.Unused.{dues}
use Rattle.open_loads.specs.Order.OpenLoads.{OpenLoads}
use Rattle.open_loads.specs.Order.Numbered.{filled_store}
use Rattle.open_loads.specs.Order.Ordered.{Drives, IsBuilding}
use Rattle.graph_builder.proofs.Calls.Meant.{is_told_of, means_are, told_means}
use Rattle.graph_builder.proofs.Order.Drives.{drives_of}
use Rattle.store_turns.proofs.Costs.{open_bound}
use Rattle.store_turns.proofs.Ends.{past}

-- ---- what a given store gets in a run

fold_end : {A B : Type 0} (f : B → A → B) (first : B) (xs : List A) (x : A) → fold f first (xs ++ x ∷ []) ≡ f (fold f first xs) x
fold_end f first [] x = refl
fold_end f first (y ∷ xs) x = fold_end f (f first y) xs x

one_more : (store : Option JsrMetadataStore) (xs : List (RegistryFile × FileAnswer)) (e : RegistryFile × FileAnswer) → filled_store store (xs ++ e ∷ []) ≡ option_map (λ own. store_with own e.0 e.1) (filled_store store xs)
one_more None xs e = refl
one_more (Some own) xs e = ap Some (fold_end (λ s x. store_with s x.0 x.1) own xs e)

first_more : (b : Bool) (store o : Option JsrMetadataStore) (xs : List (RegistryFile × FileAnswer)) (e : RegistryFile × FileAnswer) → filled_store store xs ≡ o → filled_store store (if b then xs else xs ++ e ∷ []) ≡ (if b then o else option_map (λ own. store_with own e.0 e.1) o)
first_more true store o xs e is = is
first_more false store o xs e is = one_more store xs e ∙ ap (option_map (λ own. store_with own e.0 e.1)) is

module _ (w : Told) (g : ModuleGraph) (start : ResolvedStart) where
  abbrev RunsTo : List Passed → ℕ → State → Type 0
  RunsTo past put s = Runs w.world.max_redirects w.known (Some w.world) (told_means w g.kind) (begun_over w.known g start) past put s

  added_by : {past : List Passed} {put : ℕ} {s : State} → RunsTo past put s → List (RegistryFile × FileAnswer)
  added_by none = []
  added_by (answered run comes goes how may costs is) = added_by run
  added_by (failed run comes goes fails is) = added_by run
  added_by (read {s = s} {nv = nv} a run comes goes how right fresh is) = if is_second s.run then added_by run else added_by run ++ (Version nv, loaded a) ∷ []
  added_by (read_stored run comes goes how there is) = added_by run
  added_by (looked_up {s = s} {file = file} a run comes first right fresh is) = if is_second s.run then added_by run else added_by run ++ (file, loaded a) ∷ []
  added_by (looked_up_stored run comes first there is) = added_by run
  added_by (filled a run comes here right is) = added_by run
  added_by (went_on run goes is) = added_by run
  added_by (began_again run comes is) = added_by run

  added_right : {past : List Passed} {put : ℕ} {s : State} (run : RunsTo past put s) → filled_store w.known.store (added_by run) ≡ store_of w.world.max_redirects w.known (Some w.world) (told_means w g.kind) (begun_over w.known g start) run
  unfolding added_by
  added_right none = nothing w.known.store
    where
      nothing : (o : Option JsrMetadataStore) → filled_store o [] ≡ o
      nothing None = refl
      nothing (Some own) = refl
  added_right (answered run comes goes how may costs is) = added_right run
  added_right (failed run comes goes fails is) = added_right run
  added_right (read {s = s} {nv = nv} a run comes goes how right fresh is) = first_more (is_second s.run) w.known.store _ (added_by run) (Version nv, loaded a) (added_right run)
  added_right (read_stored run comes goes how there is) = added_right run
  added_right (looked_up {s = s} {file = file} a run comes first right fresh is) = first_more (is_second s.run) w.known.store _ (added_by run) (file, loaded a) (added_right run)
  added_right (looked_up_stored run comes first there is) = added_right run
  added_right (filled a run comes here right is) = added_right run
  added_right (went_on run goes is) = added_right run
  added_right (began_again run comes is) = added_right run

  -- a run leads where turns lead, and a build that stands there drives them
  abbrev standing : (put : ℕ) (s : State) (stage : Stage) (added : List (RegistryFile × FileAnswer)) → OpenLoads
  standing put s stage added = record {
    known = w.known;
    state = s;
    stage = stage;
    behind = [];
    later = [];
    wanted = [];
    added = added;
    queue = [];
    kept = finite.empty;
    redirects = w.world.max_redirects;
    max_loads = 0;
    queued = put + through stage + length (dues (setting_for s.run) (known_for w.known s.run) stage [] s.loads [] s.wanted [] s.contents);
    taken = 0;
  }

  drives : (budget : ℕ) (over : IsOver w.world.max_redirects w.known (Some w.world) (told_means w g.kind) (begun_over w.known g start) budget) → Drives w g.kind (begun_over w.known g start) (standing over.put over.state over.stage (added_by over.run))
  drives budget over =
      let b = standing over.put over.state over.stage (added_by over.run) in
      let building : IsBuilding (Some w.world) (told_means w g.kind) (begun_over w.known g start) b = record {
        past = over.past;
        put = over.put;
        run = over.run;
        store = added_right over.run;
        next = over.next;
        ahead = tt;
        wanted = tt;
        count = refl;
        kept_right = λ x a due is. absurd (let nothing = get-empty {X = Answer} nat_cmp x.ticket in cc);
      } in
      drives_of w g.kind (begun_over w.known g start) b refl refl building

  -- behind any number of turns they end
  record Reach (count n : ℕ) : Type 0 where
    more : ℕ
    end : IsAtEnd (turns w g.kind (more + n) (begun_over w.known g start))
    put : put_by w g.kind (more + n) (begun_over w.known g start) ≡ put_by w g.kind count (begun_over w.known g start)

  reach : (count n : ℕ) → IsAtEnd (turns w g.kind count (begun_over w.known g start)) → Reach count n
  reach count n end =
      elim (cases_lt count n) [
        | inl lt ↦
            let there = past w g.kind (begun_over w.known g start) n count (omega arith) end in
            let e : 0 + n ≡ n = omega arith in
            record {
              more = 0;
              end = subst (λ k. IsAtEnd (turns w g.kind k (begun_over w.known g start))) (sym e) (subst IsAtEnd (sym there.states) end);
              put = ap (λ k. put_by w g.kind k (begun_over w.known g start)) e ∙ there.put;
            }
        | inr le ↦
            let e : (count - n) + n ≡ count = omega arith in
            record {
              more = count - n;
              end = subst (λ k. IsAtEnd (turns w g.kind k (begun_over w.known g start))) (sym e) end;
              put = ap (λ k. put_by w g.kind k (begun_over w.known g start)) e;
            }
      ]

  -- turns that end put more than a budget that is spent
  pub over_end : (budget count : ℕ) → IsAtEnd (turns w g.kind count (begun_over w.known g start)) → IsOver w.world.max_redirects w.known (Some w.world) (told_means w g.kind) (begun_over w.known g start) budget → budget < put_by w g.kind count (begun_over w.known g start)
  over_end budget count end over =
      let d = drives budget over in
      let n = d.turn_count in
      let here : over.state ≡ turns w g.kind n (begun_over w.known g start) = d.state_is in
      let counted : over.put + through over.stage + length (dues (setting_for over.state.run) (known_for w.known over.state.run) over.stage [] over.state.loads [] over.state.wanted [] over.state.contents) ≡ put_by w g.kind n (begun_over w.known g start) + through over.stage + length (dues (setting_for over.state.run) (known_for w.known over.state.run) over.stage [] over.state.loads [] over.state.wanted [] over.state.contents) = d.count in
      let next : IsNext (Some w.world) (known_for w.known (turns w g.kind n (begun_over w.known g start)).run) w.registry (turns w g.kind n (begun_over w.known g start)) over.stage = subst (λ (s : State). IsNext (Some w.world) (known_for w.known s.run) w.registry s over.stage) here over.next in
      let opened : open_by (known_for w.known over.state.run) w.registry over.state (next_of over.state) ≡ open_by (known_for w.known (turns w g.kind n (begun_over w.known g start)).run) w.registry (turns w g.kind n (begun_over w.known g start)) (next_of (turns w g.kind n (begun_over w.known g start))) = ap (λ (s : State). open_by (known_for w.known s.run) w.registry s (next_of s)) here in
      let more : budget < over.put + through over.stage + open_by (known_for w.known over.state.run) w.registry over.state (next_of over.state) = over.more_open in
      let there = reach count n end in
      let below = open_bound w g start there.more n over.stage next there.end in
      let same = there.put in
      omega (arith, counted, opened, more, below, same)

-- ---- a build by a world

start_alike : (told : Told) (given : LeftOver) (start : ResolvedStart) → IsResolved (Some told.resolving) given start → start ≡ told_start told given
start_alike told given start is = ap (λ (r : List Parts). record { roots = r; imports = start.imports }) is.roots_are ∙ ap (λ (i : List (Parts × GraphImport)). record { roots = given.roots; imports = i }) is.imports_are

same_world : (v u : World) → Some v ≡ Some u → v ≡ u
same_world v u e = cc

-- a build by a world whose turns end within the budget doesn't spend it
pub never_spent : (telling : Telling) (known : Known) (told : Told) (given : Given) (graph : ModuleGraph) (loader : Option World) (v : World) (start : ResolvedStart) (budget : ℕ) (g : ModuleGraph) (sums : Option KnownSums) (own : Option JsrMetadataStore) (put : ℕ)
    → loader ≡ Some v → Tells (Some v) telling known told → graph ≡ new_graph given.kind → IsResolved telling.resolving (left_of given) start
    → IsOver v.max_redirects known loader (means_by telling known.flags graph.kind) (begun_over known graph start) budget
    → IsTurnedFrom told given.kind (begun told given) g sums own put → put ≤ budget → ⊥
never_spent telling known told given graph loader v start budget g sums own put loads tells fresh resolved over turned within =
    let world : v ≡ told.world = same_world v told.world tells.answers in
    let begins : start ≡ told_start told (left_of given) = start_alike told (left_of given) start (subst (λ (o : Option Resolving). IsResolved o (left_of given) start) tells.resolving resolved) in
    let means : means_by telling known.flags given.kind ≡ told_means told given.kind = means_are (means_by telling known.flags given.kind) told given.kind (is_told_of (Some v) telling known told given.kind tells).meant in
    let by_graph = subst (λ (x : ModuleGraph). IsOver v.max_redirects known loader (means_by telling known.flags x.kind) (begun_over known x start) budget) fresh over in
    let by_loader = subst (λ (o : Option World). IsOver v.max_redirects known o (means_by telling known.flags given.kind) (begun_over known (new_graph given.kind) start) budget) loads by_graph in
    let by_world = subst (λ (u : World). IsOver u.max_redirects known (Some u) (means_by telling known.flags given.kind) (begun_over known (new_graph given.kind) start) budget) world by_loader in
    let by_means = subst (λ (m : Means). IsOver told.world.max_redirects known (Some told.world) m (begun_over known (new_graph given.kind) start) budget) means by_world in
    let by_known = subst (λ (k : Known). IsOver told.world.max_redirects k (Some told.world) (told_means told given.kind) (begun_over k (new_graph given.kind) start) budget) tells.known_is by_means in
    let by_start = subst (λ (x : ResolvedStart). IsOver told.world.max_redirects told.known (Some told.world) (told_means told given.kind) (begun_over told.known (new_graph given.kind) x) budget) begins by_known in
    let more = over_end told (new_graph given.kind) (told_start told (left_of given)) budget turned.count turned.done by_start in
    let counted = turned.questions in
    omega (arith, more, counted, within)

-- the same of what a build over a loader of that world says of a spent budget
pub never_over : (telling : Telling) (known : Known) (told : Told) (given : Given) (graph : ModuleGraph) (loader : Option World) (v : World) (budget : ℕ) (g : ModuleGraph) (sums : Option KnownSums) (own : Option JsrMetadataStore) (put : ℕ)
    → loader ≡ Some v → Tells (Some v) telling known told → graph ≡ new_graph given.kind
    → IfSome loader (λ w. (start : ResolvedStart) × IsResolved telling.resolving (left_of given) start × IsOver w.max_redirects known loader (means_by telling known.flags graph.kind) (begun_over known graph start) budget)
    → IsTurnedFrom told given.kind (begun told given) g sums own put → put ≤ budget → ⊥
never_over telling known told given graph loader v budget g sums own put loads tells fresh over turned within =
    let spent : (start : ResolvedStart) × IsResolved telling.resolving (left_of given) start × IsOver v.max_redirects known loader (means_by telling known.flags graph.kind) (begun_over known graph start) budget =
    subst (λ (o : Option World). IfSome o (λ w. (start : ResolvedStart) × IsResolved telling.resolving (left_of given) start × IsOver w.max_redirects known loader (means_by telling known.flags graph.kind) (begun_over known graph start) budget)) loads over in
    never_spent telling known told given graph loader v spent.0 budget g sums own put loads tells fresh spent.1 spent.2 turned within
