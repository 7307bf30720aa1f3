-- What calls leave a build in.
use Rattle.std.proofs.Common.{◌≡◌, ℕ, List, true, if◌then◌else◌, Option, None, Some, refl, sym, ap, ◌∙◌, subst, inr, ⊎_elim, arith}
use Rattle.std.specs.Prelude.{option_map}
use Rattle.std.specs.List.{Contains}
use Rattle.std.specs.FinMap as finite
use Rattle.std.proofs.lemmas.List.Elements.{All-contains}
use Rattle.url.specs.Parts.{Parts}
use Rattle.metadata_store.specs.declared.store.JsrMetadataStore.{JsrMetadataStore}
use Rattle.version_dates.specs.declared.newest_date.NewestDependencyDateOptions.{NewestDependencyDateOptions}
use Rattle.registry_urls.specs.Meaning.{RegistryMeaning}
use Rattle.source_io.specs.declared.types.Answer.{Answer}
use Rattle.source_io.specs.declared.types.Question.{Question}
use Rattle.source_io.specs.declared.types.World.{World}
use Rattle.graph_dependencies.specs.declared.graph_import.GraphImport.{GraphImport}
use Rattle.graph_core.specs.declared.graph.ModuleGraph.{ModuleGraph}
use Rattle.module_slots.specs.declared.load.Load.{Load}
use Rattle.module_slots.specs.declared.slot.Module.{Module}
use Rattle.module_slots.specs.declared.slot.ModuleSlot.TheVariants.{Module as Stands}
use Rattle.slot_making.specs.Made.{Making}
use Rattle.graph_core.proofs.At.{nothing_in_empty}
use Rattle.graph_turns.specs.declared.unresolved_input.LeftOver.{LeftOver}
use Rattle.graph_turns.specs.declared.registry.RegistryFile.{RegistryFile}
use Rattle.graph_turns.specs.declared.registry.RegistryFile.TheVariants.{Version}
use Rattle.graph_turns.specs.declared.starting.ResolvedStart.{ResolvedStart}
use Rattle.graph_turns.specs.declared.state.State.{State}
use Rattle.graph_turns.specs.Machine.Held.{IsHeld}
use Rattle.graph_turns.specs.Machine.Known.{Known}
use Rattle.graph_turns.specs.Machine.Redirects.{HasNoCircle}
use Rattle.graph_turns.specs.Machine.Runs.{begun_over, is_second, known_for, told_for}
use Rattle.graph_turns.specs.Machine.Starting.{IsResolved, start_entry, told_start}
use Rattle.graph_turns.specs.Promise.Explains.{ComesLater}
use Rattle.graph_turns.specs.Promise.Input.{EnteredGraph}
use Rattle.turn_laws.specs.Promise.Keeps.{IsKeptBy, IsReachedFile}
use Rattle.turn_laws.specs.Promise.Keeps.IsReachedFile.{for_package, for_package_again, for_probe, for_version}
use Rattle.graph_turns.specs.Promise.Reached.{Reached}
use Rattle.graph_turns.specs.Promise.Taken.{asks_again, is_asked}
use Rattle.graph_turns.specs.Promise.Runs.{entry_in}
use Rattle.graph_turns.specs.Promise.Told.{Told}
use Rattle.graph_turns.specs.Promise.Versions.{file_question, loaded, store_with}
use Rattle.open_loads.specs.Budget.Runs.{Passed, Runs, since, store_of}
use Rattle.open_loads.specs.Budget.Runs.Runs.{none, answered, failed, read, read_stored, looked_up, looked_up_stored, filled, went_on, began_again}
use Rattle.graph_builder.specs.Calls.Builds.{AskedOnce, BuildsOn, GoesBy, IsPassed, IsPutBy, IsReachedQuestion, IsTurning, IsWaiting}
use Rattle.graph_builder.specs.Calls.Builds.IsQuestionAbout.{first_one, second_one, of_content, of_version}
use Rattle.graph_builder.specs.Calls.Builds.IsQuestionOfPackage.{of_package, of_package_again, of_choice, of_probe}
use Rattle.graph_builder.specs.Calls.Builds.IsReachedQuestion.{about_module, about_package}
use Rattle.graph_builder.specs.Calls.Steps.{BuildState, Enters, IsGoing, is_begun}
use Rattle.open_loads.specs.Order.Unused.{Due}
use Rattle.open_loads.specs.Order.Means.{Directions, IsMeant, Means, untold}
use Rattle.open_loads.specs.Order.OpenLoads.{OpenLoads, known_now}
use Rattle.open_loads.specs.Order.Ordered.{FitsTurn, IsBuilding, IsInOrder, IsTaken, TakesAnswer, all_due, asked_at, IsToldAnswer}
use Rattle.turn_laws.proofs.Budget.Contents.{OnceContent}
use Rattle.graph_turns.proofs.Entering.Loads.{Once}
use Rattle.turn_laws.proofs.Promise.KeptTurns.{kept_run}
use Rattle.turn_laws.proofs.Promise.SoundEnds.{has_load_at, whole_of}
use Rattle.graph_builder.proofs.Budget.Files.{asked_told, names_told, passed_known}
use Rattle.graph_builder.proofs.Budget.Orderly.{Ordered, entry_is, first_run, ordered}
use Rattle.graph_builder.proofs.Budget.Reaching.{reaching}
use Rattle.graph_builder.proofs.Calls.Dues.{IsAskedOf, of_due, one_due}
use Rattle.graph_builder.proofs.Calls.Dues.IsAskedOf.{first_of, again_of, version_of, file_of, content_of}
use Rattle.graph_builder.proofs.Calls.Entered.{enters_begun, enters_first, enters_self, entered_begun, going_entered, start_building, start_known, start_redirects, starts_turns}
use Rattle.graph_builder.proofs.Calls.Meant.{means_are, told_directions, told_itself, told_means}
use Rattle.graph_builder.proofs.Calls.Waiting.{deferred_among}
use Rattle.graph_builder.proofs.Order.Drives.{building_of, drives_of}
use Rattle.open_loads.proofs.Order.Dues.{due_under}
use Rattle.open_loads.proofs.Order.Coming.{fits_over}
use Rattle.open_loads.proofs.Order.InOrder.{building_taken}

-- ---- a run over a graph that was handed in, whatever was answered

-- where the run that goes on begins, no module stands that the graph hadn't
stood_before : (known : Known) (registry : RegistryMeaning) (g : ModuleGraph) (start : ResolvedStart) (past : List Passed) (s : State) (now : Ordered ⊥ known registry (start_entry known.flags.is_dynamic g start) (first_run g start) past s) (q : List ℕ) (m : Module) → finite.get now.entry.graph.slots q ≡ Some (Stands m) → finite.get g.slots q ≡ Some (Stands m)
stood_before known registry g start past s now q m here = ⊎_elim
    (λ same. subst (λ (o : EnteredGraph). finite.get o.graph.slots q ≡ Some (Stands m)) same here)
    (λ anew. absurd (nothing_in_empty q (Stands m) (subst (λ (o : EnteredGraph). finite.get o.graph.slots q ≡ Some (Stands m)) anew.1 here)))
    (entry_is known g start s.run now.entry now.run)

asked_once_of : (b : OpenLoads) → FitsTurn b b.stage → Once b.state.loads → OnceContent b.state.contents → AskedOnce b
asked_once_of b fits once later s t x y f g free_s free_t at_s at_t same =
    ap (λ (u : Due). u.ticket) (one_due b b.stage fits once later (record { ticket = s; question = x }) (record { ticket = t; question = y }) (due_under (all_due b) s x at_s) (due_under (all_due b) t y at_t) free_s free_t same)

-- what is given has entered, resolved, and turns were taken over a graph
pub record RunsOn (told : Option World) (means : Means) (directions : Directions) (g : ModuleGraph) (given : LeftOver) (t : OpenLoads) : Type 0 where
  pub start : ResolvedStart
  pub resolved : IsResolved directions.resolving given start
  pub building : IsBuilding told means (begun_over t.known g start) t

-- what a world's resolver resolves is the world's start
pub by_world : (w : Told) (given : LeftOver) (start : ResolvedStart) → IsResolved (Some w.resolving) given start → start ≡ told_start w given
by_world w given start resolved =
    ap (λ (l : List Parts). record { roots = l; imports = start.imports }) resolved.roots_are
    ∙ ap (λ (l : List (Parts × GraphImport)). record { roots = given.roots; imports = l }) resolved.imports_are

-- handing out changes no place
fits_still : (b new : OpenLoads) (n : ℕ) (queue : List Question) → new ≡ record b { taken = n; queue = queue } → FitsTurn b b.stage → FitsTurn new new.stage
fits_still b new n queue same fits = subst (λ (t : OpenLoads). FitsTurn t t.stage) (sym same) (fits_over b b.kept n queue b.stage fits)

module _ {O : Type 0} where
  builds_of : (directions : Directions) (g : ModuleGraph) (given : LeftOver) (b : BuildState O) → HasNoCircle g → is_begun b.phase ≡ true → FitsTurn b.turns b.turns.stage → RunsOn None (untold directions.registry directions.newest) directions g given b.turns → BuildsOn directions g given b
  builds_of directions g given b no_circle empty fits on =
      let i = on.building in
      let s = b.turns.state in
      let now = ordered b.turns.redirects b.turns.known None (untold directions.registry directions.newest) g on.start no_circle i.run in
      record {
        no_circle = no_circle;
        phase = inr record {
          begun = empty;
          start = on.start;
          resolved = on.resolved;
          building = i;
          asked_known = λ x among. All-contains (IsPassed directions.registry s) (since i.past) x (passed_known None (known_now b.turns) directions.registry now.entry i.past s b.turns.stage now.orderly i.next) among;
          deferred_asked = deferred_among i.past s now.orderly.deferred;
        };
        asked_once = asked_once_of b.turns fits now.orderly.counts.sound.once now.orderly.counts.contents.once;
        open_stand = λ k d below. now.orderly.counts.sound.held _ (has_load_at s.loads k d below);
        whole = whole_of s g now.entry (stood_before b.turns.known directions.registry g on.start i.past s now) now.orderly.counts.sound;
      }

  goes_of : (w : Told) (g : ModuleGraph) (given : LeftOver) (b : BuildState O) → HasNoCircle g → is_begun b.phase ≡ true → b.turns.redirects ≡ w.world.max_redirects → b.turns.known ≡ w.known → IsBuilding (Some w.world) (told_means w g.kind) (begun_over w.known g (told_start w given)) b.turns → GoesBy w g given b
  goes_of w g given b no_circle empty most known i =
      let start = told_start w given in
      let means = told_means w g.kind in
      let run : Runs b.turns.redirects w.known (Some w.world) means (begun_over w.known g start) i.past i.put b.turns.state = subst (λ (k : Known). Runs b.turns.redirects k (Some w.world) means (begun_over w.known g start) i.past i.put b.turns.state) known i.run in
      let now = reaching w g start (Some w.world) means (told_itself w g.kind) b.turns.redirects most run in
      let kept = kept_run w g given b.turns.state (record { begun = now.begun; is_run = now.is_run; kept = now.reach.kept }) in
      record {
        no_circle = no_circle;
        phase = inr record {
          begun = empty;
          drives = drives_of w g.kind (begun_over w.known g start) b.turns most known i;
          is_run = kept.0;
          kept = kept.1;
        };
        redirects_are = most;
        known_is = known;
      }

  -- ---- what was left over enters

  -- what waited begins a run, and a run goes on as it is
  waited : (told : Option World) (means : Means) (directions : Directions) (g : ModuleGraph) (given : LeftOver) (old new : BuildState O) → directions.registry ≡ means.registry → directions.newest ≡ means.newest → IsWaiting g given old → Enters directions old new → RunsOn told means directions g given new.turns
  waited told means directions g given old new meant newest waits e =
      let first = enters_first directions old new given waits.left_is e in
      let is = starts_turns directions old new given old.turns.known g old.turns.redirects old.turns.max_loads waits.turns_are first in
      let known : new.turns.known ≡ old.turns.known = start_known directions.registry directions.newest old.turns.known g old.turns.redirects old.turns.max_loads first.start new.turns is in
      record {
        start = first.start;
        resolved = first.resolved;
        building = subst (λ (k : Known). IsBuilding told means (begun_over k g first.start) new.turns) (sym known)
            (start_building directions.registry directions.newest old.turns.known g old.turns.redirects old.turns.max_loads first.start new.turns is told means meant newest);
      }

  pub entered_running : (directions : Directions) (g : ModuleGraph) (given : LeftOver) (old new : BuildState O) → Enters directions old new → BuildsOn directions g given old → RunsOn None (untold directions.registry directions.newest) directions g given new.turns
  entered_running directions g given old new e on = ⊎_elim
      (λ waits. waited None (untold directions.registry directions.newest) directions g given old new refl refl waits e)
      (λ runs. record {
        start = runs.start;
        resolved = runs.resolved;
        building = subst (λ (b : BuildState O). IsBuilding None (untold directions.registry directions.newest) (begun_over b.turns.known g runs.start) b.turns) (sym (enters_begun directions old new runs.begun e)) runs.building;
      })
      on.phase

  redirects_at : (directions : Directions) (old new : BuildState O) (g : ModuleGraph) (given : LeftOver) → IsWaiting g given old → Enters directions old new → new.turns.redirects ≡ old.turns.redirects
  redirects_at directions old new g given waits e =
      let first = enters_first directions old new given waits.left_is e in
      start_redirects directions.registry directions.newest old.turns.known g old.turns.redirects old.turns.max_loads first.start new.turns
      (starts_turns directions old new given old.turns.known g old.turns.redirects old.turns.max_loads waits.turns_are first)

  known_at : (directions : Directions) (old new : BuildState O) (g : ModuleGraph) (given : LeftOver) → IsWaiting g given old → Enters directions old new → new.turns.known ≡ old.turns.known
  known_at directions old new g given waits e =
      let first = enters_first directions old new given waits.left_is e in
      start_known directions.registry directions.newest old.turns.known g old.turns.redirects old.turns.max_loads first.start new.turns
      (starts_turns directions old new given old.turns.known g old.turns.redirects old.turns.max_loads waits.turns_are first)

  pub entered_turning : (directions : Directions) (w : Told) (g : ModuleGraph) (given : LeftOver) (old new : BuildState O) → directions ≡ told_directions w → Enters directions old new → IsInOrder old.turns → GoesBy w g given old → IsBuilding (Some w.world) (told_means w g.kind) (begun_over w.known g (told_start w given)) new.turns
  entered_turning directions w g given old new told e order goes = ⊎_elim
      (λ waits.
      let means = told_means w g.kind in
      let meant : directions.registry ≡ means.registry = ap (λ (d : Directions). d.registry) told in
      let newest : directions.newest ≡ means.newest = ap (λ (d : Directions). d.newest) told in
      let on = waited (Some w.world) means directions g given old new meant newest waits e in
      let start = by_world w given on.start (subst (λ (d : Directions). IsResolved d.resolving given on.start) told on.resolved) in
      let known = known_at directions old new g given waits e ∙ goes.known_is in
      subst (λ (s : ResolvedStart). IsBuilding (Some w.world) means (begun_over w.known g s) new.turns) start
      (subst (λ (k : Known). IsBuilding (Some w.world) means (begun_over k g on.start) new.turns) known on.building))
      (λ turns. subst (λ (b : BuildState O). IsBuilding (Some w.world) (told_means w g.kind) (begun_over w.known g (told_start w given)) b.turns) (sym (enters_begun directions old new turns.begun e)) (building_of w g.kind (begun_over w.known g (told_start w given)) old.turns goes.redirects_are goes.known_is turns.drives))
      goes.phase

  pub entered_redirects : (directions : Directions) (w : Told) (g : ModuleGraph) (given : LeftOver) (old new : BuildState O) → GoesBy w g given old → Enters directions old new → new.turns.redirects ≡ old.turns.redirects
  entered_redirects directions w g given old new goes e = ⊎_elim
      (λ waits. redirects_at directions old new g given waits e)
      (λ turns. ap (λ (b : BuildState O). b.turns.redirects) (enters_begun directions old new turns.begun e))
      goes.phase

  pub entered_known : (directions : Directions) (w : Told) (g : ModuleGraph) (given : LeftOver) (old new : BuildState O) → GoesBy w g given old → Enters directions old new → new.turns.known ≡ old.turns.known
  entered_known directions w g given old new goes e = ⊎_elim
      (λ waits. known_at directions old new g given waits e)
      (λ turns. ap (λ (b : BuildState O). b.turns.known) (enters_begun directions old new turns.begun e))
      goes.phase

  pub builds_entered : (directions : Directions) (g : ModuleGraph) (given : LeftOver) (old new : BuildState O) → IsGoing old → Enters directions old new → BuildsOn directions g given old → BuildsOn directions g given new
  builds_entered directions g given old new going e on = builds_of directions g given new on.no_circle (entered_begun directions old new e) (going_entered directions old new going e).in_order.fits (entered_running directions g given old new e on)

  pub goes_entered : (directions : Directions) (w : Told) (g : ModuleGraph) (given : LeftOver) (old new : BuildState O) → directions ≡ told_directions w → Enters directions old new → IsInOrder old.turns → GoesBy w g given old → GoesBy w g given new
  goes_entered directions w g given old new told e order goes = goes_of w g given new goes.no_circle (entered_begun directions old new e) (entered_redirects directions w g given old new goes e ∙ goes.redirects_are) (entered_known directions w g given old new goes e ∙ goes.known_is) (entered_turning directions w g given old new told e order goes)

  -- ---- a question

  pub builds_question : (directions : Directions) (g : ModuleGraph) (given : LeftOver) (old between new : BuildState O) (n : ℕ) (queue : List Question) → IsInOrder between.turns → Enters directions old between → new.turns ≡ record between.turns { taken = n; queue = queue } → is_begun new.phase ≡ true → BuildsOn directions g given old → BuildsOn directions g given new
  builds_question directions g given old between new n queue order e same empty on =
      let now = entered_running directions g given old between e on in
      let means = untold directions.registry directions.newest in
      builds_of directions g given new on.no_circle empty (fits_still between.turns new.turns n queue same order.fits) record {
        start = now.start;
        resolved = now.resolved;
        building = subst (λ (k : Known). IsBuilding None means (begun_over k g now.start) new.turns) (sym (ap (λ (t : OpenLoads). t.known) same))
            (building_taken None means (begun_over between.turns.known g now.start) between.turns new.turns n queue same now.building);
      }

  pub goes_question : (directions : Directions) (w : Told) (g : ModuleGraph) (given : LeftOver) (old between new : BuildState O) (n : ℕ) (queue : List Question) → directions ≡ told_directions w → Enters directions old between → new.turns ≡ record between.turns { taken = n; queue = queue } → is_begun new.phase ≡ true → IsInOrder old.turns → GoesBy w g given old → GoesBy w g given new
  goes_question directions w g given old between new n queue told e same empty order goes =
      goes_of w g given new goes.no_circle empty (ap (λ (t : OpenLoads). t.redirects) same ∙ entered_redirects directions w g given old between goes e ∙ goes.redirects_are)
      (ap (λ (t : OpenLoads). t.known) same ∙ entered_known directions w g given old between goes e ∙ goes.known_is)
      (building_taken (Some w.world) (told_means w g.kind) (begun_over w.known g (told_start w given)) between.turns new.turns n queue same (entered_turning directions w g given old between told e order goes))

  -- a build that handed a question out doesn't wait any more
  turned : (w : Told) (g : ModuleGraph) (given : LeftOver) (between new : BuildState O) (t : ℕ) (q : Question) → IsTaken between.turns new.turns t q → GoesBy w g given new → IsTurning w g given new
  turned w g given between new t q taken goes = ⊎_elim
      (λ waits. absurd (let none_yet = ap (λ (x : OpenLoads). x.taken) waits.turns_are in let one = ap (λ (x : OpenLoads). x.taken) taken.one_more in omega (arith, none_yet, one)))
      (λ turns. turns)
      goes.phase

-- a question of the turns of a state in which all is told is one about a reached pair
module _ (w : Told) (entry : EnteredGraph) (s : State) (held : IsHeld s) (kept : IsKeptBy (told_for w s.run) entry s) where
  load_reached : (load : Load) → Contains s.loads load → Reached (told_for w s.run) entry load.specifier load.context × (is_asked (told_for w s.run).known.flags load.specifier load.context ≡ true)
  load_reached load among = All-contains (λ (x : Load). Reached (told_for w s.run) entry x.specifier x.context × (is_asked (told_for w s.run).known.flags x.specifier x.context ≡ true)) s.loads load kept.loads among

  of_reached : (file : RegistryFile) → IsReachedFile (told_for w s.run) entry file → IsReachedQuestion (told_for w s.run) entry (file_question (told_for w s.run).metadata w.registry (told_for w s.run).known.manifests file)
  of_reached file (for_package at looked_for) = about_package at (of_package looked_for)
  of_reached file (for_package_again at looked_for again) = about_package at (of_package_again looked_for again)
  of_reached file (for_version at looked_for fits) = about_package at (of_choice looked_for fits)
  of_reached file (for_probe at looked_for prefers fits) = about_package at (of_probe looked_for prefers fits)

  reached_by : (q : Question) → IsAskedOf (Some w.world) (known_for w.known s.run) w.registry s q → IsReachedQuestion (told_for w s.run) entry q
  reached_by q (first_of {load} {asked} among how) =
      let at = load_reached load among in
      about_module at.0 at.1 (first_one (asked_told (told_for w s.run) s load held kept.files among asked how))
  reached_by q (again_of {load} {asked} a among how right again) =
      let at = load_reached load among in
      about_module at.0 at.1 (second_one (asked_told (told_for w s.run) s load held kept.files among asked how) (ap (asks_again asked) (sym right) ∙ again))
  reached_by q (version_of {load} {nv} among how fresh) =
      let at = load_reached load among in
      about_module at.0 at.1 (of_version (names_told (told_for w s.run) s load held kept.files among nv how))
  reached_by q (file_of {file} among fresh) = of_reached file (All-contains (IsReachedFile (told_for w s.run) entry) s.wanted file kept.wanted among)
  reached_by q (content_of {l} among) =
      let is : ComesLater (told_for w s.run) entry l = All-contains (ComesLater (told_for w s.run) entry) s.contents l kept.contents among in
      about_module is.reached is.takes.asked_for (of_content is.takes is.comes)

module _ {O : Type 0} where
  pub reached_question : (w : Told) (g : ModuleGraph) (given : LeftOver) (between new : BuildState O) (t : ℕ) (q : Question) → IsHeld between.turns.state → IsTaken between.turns new.turns t q → GoesBy w g given new → IsPutBy w g given q
  reached_question w g given between new t q held taken goes =
      let s = new.turns.state in
      let same : s ≡ between.turns.state = ap (λ (x : OpenLoads). x.state) taken.one_more in
      let turns = turned w g given between new t q taken goes in
      let about : asked_at new.turns t ≡ Some q = subst (λ (x : OpenLoads). asked_at x t ≡ Some q) (sym taken.one_more) taken.about in
      let is_of : IsAskedOf (Some w.world) (known_for w.known s.run) w.registry s q = subst (λ (k : Known). IsAskedOf (Some w.world) (known_for k s.run) w.registry s q) goes.known_is
      (of_due (Some w.world) (known_now new.turns) w.registry s new.turns.stage new.turns.behind new.turns.wanted new.turns.later turns.drives.next turns.drives.ahead turns.drives.wanted (record { ticket = t; question = q }) (due_under (all_due new.turns) t q about)) in
      record {
        run = s.run;
        is_run = turns.is_run;
        holds = reached_by w (entry_in w g given s.run) s (subst IsHeld (sym same) held) turns.kept q is_of;
      }

-- ---- an answer

no_world : (o : Option Question) (a : Answer) → IsToldAnswer None o a
no_world None a = tt
no_world (Some q) a = tt

-- whatever slots are made by, where nothing is told of answers
module _ (most : ℕ) (known : Known) (registry : RegistryMeaning) (newest : NewestDependencyDateOptions) (made other : Option Making) (start : State) where
  abbrev by_made : Means
  by_made = record { registry = registry; newest = newest; making = made }

  abbrev by_other : Means
  by_other = record { registry = registry; newest = newest; making = other }

  retold_run : {past : List Passed} {put : ℕ} {s : State} → Runs most known None by_made start past put s → Runs most known None by_other start past put s
  retold_run none = none
  retold_run (answered run comes left how may cost is) = answered (retold_run run) comes left how (record { final = may.final; suits = may.suits; told = tt }) cost is
  retold_run (failed run comes left how is) = failed (retold_run run) comes left how is
  retold_run (read a run comes left how right fresh is) = read a (retold_run run) comes left how right fresh is
  retold_run (read_stored run comes left how there is) = read_stored (retold_run run) comes left how there is
  retold_run (looked_up a run comes first right fresh is) = looked_up a (retold_run run) comes first right fresh is
  retold_run (looked_up_stored run comes first there is) = looked_up_stored (retold_run run) comes first there is
  retold_run (filled a run comes here right is) = filled a (retold_run run) comes here right is
  retold_run (went_on run goes is) = went_on (retold_run run) goes is
  retold_run (began_again run comes is) = began_again (retold_run run) comes is

  -- a first run is answered about files as before
  retold_file : (s : State) (file : RegistryFile) (a : Answer) (new old : Option JsrMetadataStore) → new ≡ old → (if is_second s.run then new else option_map (λ own. store_with own file (loaded a)) new) ≡ (if is_second s.run then old else option_map (λ own. store_with own file (loaded a)) old)
  retold_file s file a new old same = ap (λ (o : Option JsrMetadataStore). if is_second s.run then o else option_map (λ own. store_with own file (loaded a)) o) same

  retold_store : {past : List Passed} {put : ℕ} {s : State} (run : Runs most known None by_made start past put s) → store_of most known None by_other start (retold_run run) ≡ store_of most known None by_made start run
  unfolding retold_run
  retold_store none = refl
  retold_store (answered run comes left how may cost is) = retold_store run
  retold_store (failed run comes left how is) = retold_store run
  retold_store (read {s = s} {nv = nv} a run comes left how right fresh is) = retold_file s (Version nv) a (store_of most known None by_other start (retold_run run)) (store_of most known None by_made start run) (retold_store run)
  retold_store (read_stored run comes left how there is) = retold_store run
  retold_store (looked_up {s = s} {file = file} a run comes first right fresh is) = retold_file s file a (store_of most known None by_other start (retold_run run)) (store_of most known None by_made start run) (retold_store run)
  retold_store (looked_up_stored run comes first there is) = retold_store run
  retold_store (filled a run comes here right is) = retold_store run
  retold_store (went_on run goes is) = retold_store run
  retold_store (began_again run comes is) = retold_store run

retold : (registry : RegistryMeaning) (newest : NewestDependencyDateOptions) (made other : Option Making) (start : State) (b : OpenLoads) → IsBuilding None (record { registry = registry; newest = newest; making = made }) start b → IsBuilding None (record { registry = registry; newest = newest; making = other }) start b
retold registry newest made other start b i = record {
  past = i.past;
  put = i.put;
  run = retold_run b.redirects b.known registry newest made other start i.run;
  store = i.store ∙ sym (retold_store b.redirects b.known registry newest made other start i.run);
  next = i.next;
  ahead = i.ahead;
  wanted = i.wanted;
  count = i.count;
  kept_right = i.kept_right;
}

retold_to : (registry : RegistryMeaning) (newest : NewestDependencyDateOptions) (means : Means) (start : State) (b : OpenLoads) → registry ≡ means.registry → newest ≡ means.newest → IsBuilding None (untold registry newest) start b → IsBuilding None means start b
retold_to registry newest means start b same same_newest i =
    retold means.registry means.newest None means.making start b
    (subst (λ (r : RegistryMeaning). IsBuilding None (untold r means.newest) start b) same (subst (λ (d : NewestDependencyDateOptions). IsBuilding None (untold registry d) start b) same_newest i))

retold_from : (registry : RegistryMeaning) (newest : NewestDependencyDateOptions) (means : Means) (start : State) (b : OpenLoads) → registry ≡ means.registry → newest ≡ means.newest → IsBuilding None means start b → IsBuilding None (untold registry newest) start b
retold_from registry newest means start b same same_newest i =
    subst (λ (d : NewestDependencyDateOptions). IsBuilding None (untold registry d) start b) (sym same_newest)
    (subst (λ (r : RegistryMeaning). IsBuilding None (untold r means.newest) start b) (sym same) (retold means.registry means.newest means.making None start b i))

module _ {O : Type 0} where
  pub builds_answer : (means : Means) (directions : Directions) (g : ModuleGraph) (given : LeftOver) (old new : BuildState O) (t : ℕ) (a : Answer) → directions.registry ≡ means.registry → directions.newest ≡ means.newest → TakesAnswer means old.turns new.turns t a → is_begun old.phase ≡ true → is_begun new.phase ≡ true → BuildsOn directions g given old → BuildsOn directions g given new
  builds_answer means directions g given old new t a meant newest taken empty still on =
      let now = entered_running directions g given old old (enters_self directions old empty) on in
      let start = begun_over old.turns.known g now.start in
      let before = retold_to directions.registry directions.newest means start old.turns meant newest now.building in
      builds_of directions g given new on.no_circle still taken.in_order.fits record {
        start = now.start;
        resolved = now.resolved;
        building = subst (λ (k : Known). IsBuilding None (untold directions.registry directions.newest) (begun_over k g now.start) new.turns) (sym taken.same_known)
            (retold_from directions.registry directions.newest means start new.turns meant newest (taken.building None start before (no_world (asked_at old.turns t) a)));
      }

  pub goes_answer : (means : Means) (w : Told) (g : ModuleGraph) (given : LeftOver) (old new : BuildState O) (t : ℕ) (a : Answer) → TakesAnswer means old.turns new.turns t a → is_begun old.phase ≡ true → is_begun new.phase ≡ true → IsMeant means w g.kind → IsToldAnswer (Some w.world) (asked_at old.turns t) a → IsInOrder old.turns → GoesBy w g given old → GoesBy w g given new
  goes_answer means w g given old new t a taken empty still meant right order goes =
      let start = begun_over w.known g (told_start w given) in
      let same = means_are means w g.kind meant in
      let now = entered_turning (told_directions w) w g given old old refl (enters_self (told_directions w) old empty) order goes in
      let before : IsBuilding (Some w.world) means start old.turns = subst (λ (m : Means). IsBuilding (Some w.world) m start old.turns) (sym same) now in
      goes_of w g given new goes.no_circle still (taken.same_redirects ∙ goes.redirects_are) (taken.same_known ∙ goes.known_is) (subst (λ (m : Means). IsBuilding (Some w.world) m start new.turns) same (taken.building (Some w.world) start before right))
