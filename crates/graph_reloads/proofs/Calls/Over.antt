-- Loads enter a graph, which is built to its end.
use Rattle.std.proofs.Common.{◌≡◌, ◌≤◌, ℕ, suc, List, [], ◌∷◌, ◌++◌, map, length, Bool, true, false, if◌then◌else◌, Option, None, Some, is_some, refl, sym, ap, ◌∙◌, subst, inl, inr, ◌⊎◌, arith, ⊎_elim}
use Rattle.std.specs.Prelude.{Result}
use Rattle.std.specs.List.{All, list_any}
use Rattle.std.proofs.lemmas.Bool.{or_cases, true≢false}
use Rattle.std.proofs.lemmas.List.Elements.{All-cons, All-map, All-nil, All-weaker}
use Rattle.indexmap.specs.IndexSet.{insert_all, insert_key}
use Rattle.url.specs.Parts.{Parts}
use Rattle.spec_base.specs.Shown.{text_cmp}
use Rattle.spec_base.specs.Specifier.{same_specifier, specifier_text}
use Rattle.graph_core.specs.declared.graph.ModuleGraph.{ModuleGraph}
use Rattle.module_slots.specs.declared.load.Load.{Load}
use Rattle.module_slots.specs.declared.slot.ModuleSlot.TheVariants.{Pending}
use Rattle.graph_core.specs.Graph.{redirect_at, with_slot}
use Rattle.semver_npm.specs.declared.package.PackageNv.{PackageNv}
use Rattle.registry_urls.specs.Meaning.{RegistryMeaning}
use Rattle.registry_files.specs.declared.kept_version.KeptVersion.{KeptVersion}
use Rattle.graph_errors.specs.declared.jsr_error.JsrLoadError.{JsrLoadError}
use Rattle.source_io.specs.declared.types.World.{World}
use Rattle.open_loads.specs.Order.OpenLoads.{OpenLoads}
use Rattle.graph_turns.specs.declared.state.State.{State}
use Rattle.graph_turns.specs.Machine.Redirects.{HasNoCircle, RedirectsLead}
use Rattle.graph_turns.specs.Machine.Redirects.RedirectsLead.{last, onward}
use Rattle.turn_laws.specs.Promise.Complete.{NonePending, IsCompleteFrom}
use Rattle.turn_laws.specs.Budget.Covers.{Counted, CoversFrom}
use Rattle.graph_builder.specs.Calls.Driven.{GoesOver, IsLater}
use Rattle.npm_resolver.specs.declared.types.NpmTable.{NpmTable}
use Rattle.graph_turns.specs.Machine.Npm.{IsEnded, ended_graph}
use Rattle.graph_turns.specs.Promise.Explains.{AreSourceSums}
use Rattle.graph_turns.specs.Promise.Input.{EnteredGraph}
use Rattle.graph_builder.specs.Calls.Steps.{BuildState, IsDone, IsGoing, has_ended, is_begun}
use Rattle.open_loads.specs.Order.Entered.{no_turns}
use Rattle.graph_builder.specs.Calls.Over.{AreOutset, IsLeftBy, IsMended, entered, with_loads}
use Rattle.open_loads.specs.Order.Entered.{TurnsEntered}
use Rattle.open_loads.specs.Order.Ordered.{IsBuilding, IsInOrder, IsResting}
use Rattle.graph_turns.specs.Machine.Known.{Known}
use Rattle.graph_turns.specs.Machine.Entering.{enter_all}
use Rattle.open_loads.specs.Budget.Runs.{IsOver, Runs}
use Rattle.graph_turns.specs.Machine.Entering.{begun_at, resting_state}
use Rattle.graph_turns.specs.Machine.Turns.{IsAtEnd, IsTurnedFrom, put_by}
use Rattle.graph_turns.specs.Promise.Told.{Told}
use Rattle.graph_turns.specs.Promise.Versions.{told_version}
use Rattle.open_loads.specs.Order.Means.{IsTold, Means}
use Rattle.open_loads.specs.Order.Numbered.{Arranged, filled_store}
use Rattle.graph_core.proofs.At.{cases_text, cut_same, cut_other, text_of_same}
use Rattle.turn_laws.proofs.Leading.Circles.{ends_of, no_circle_of}
use Rattle.graph_turns.proofs.Leading.Ends.{Ends, stands}
use Rattle.graph_turns.proofs.Leading.Ends.Ends.{at_slot, at_last, on}
use Rattle.graph_builder.proofs.Calls.Entered.{first_budget, first_building, first_known, first_order, first_redirects, first_resting, first_taken, first_turns, held_entering, named_entering}
use Rattle.graph_builder.proofs.Calls.Meant.{means_are, told_means}
use Rattle.turn_laws.proofs.Promise.Ended.{EndsAs, asks_ended, ends_as, ends_at, grown_by_end}
use Rattle.turn_laws.proofs.Promise.Settled.{ended_told}
use Rattle.turn_laws.proofs.Promise.Hops.{IsOutset}
use Rattle.graph_turns.proofs.Entering.Loads.{HasLoad, HasText, roots_due}
use Rattle.turn_laws.proofs.Leading.Paths.Path.{stay, go}
use Rattle.graph_turns.proofs.Leading.Ways.{slot_put, slot_put_other}
use Rattle.graph_builder.proofs.Budget.Ran.{Orderly, Reaching, complete_from}
use Rattle.turn_laws.proofs.Promise.Sound.{End, Meets}
use Rattle.turn_laws.specs.Budget.Asked.{AsksInRuns}
use Rattle.turn_laws.proofs.Budget.Versions.{idle_free}
use Rattle.graph_builder.proofs.Budget.Asked.{asks_in_runs, put_in}
use Rattle.graph_builder.proofs.Calls.Finished.{TurnsDone, all_put}
use Rattle.graph_builder.proofs.Order.Drives.{drives_of}
use Rattle.graph_turns.specs.declared.run.Run.TheVariants.{First, Only}
use Rattle.graph_turns.specs.Promise.Runs.{IsGrownBy}
use Rattle.turn_laws.specs.Promise.Keeps.{IsKeptBy}
use Rattle.source_sums.specs.Sums.{KnownSums}
use Rattle.version_dates.specs.declared.newest_date.NewestDependencyDateOptions.{NewestDependencyDateOptions}
use Rattle.graph_turns.specs.declared.run.Run.{Run}
use Rattle.graph_turns.specs.Machine.Runs.{earlier_sums, told_for}
use Rattle.graph_builder.proofs.Budget.Reaching.{grown_by, reaching_once, tells_for}
use Rattle.graph_builder.proofs.Budget.Room.{no_room_once}
use Rattle.graph_builder.proofs.Budget.Orderly.{only_entry, ordered_from, Ordered}
use Rattle.graph_turns.specs.Machine.Sums.{sum_in}
use Rattle.std.specs.FinMap as finite
use Rattle.turn_laws.proofs.Promise.SoundBegun.{IsMendedBy}
use Rattle.turn_laws.proofs.Promise.Passing.{IsStage, RunBegins}
use Rattle.turn_laws.proofs.Promise.Passing.IsStage.{same as goes_as_begun, due as is_due_again}
use Rattle.turn_laws.proofs.Promise.SoundEnds.{ends_end}
use Rattle.turn_laws.proofs.Promise.KeptTurns.{kept_by_run}

-- ---- circles

-- a slot that was put at a load stands there, or stood before
stood_or_due : (g : ModuleGraph) (loads : List Load) (y : List ℕ) → stands (with_loads g loads) y ≡ true → (stands g y ≡ true) ⊎ HasLoad y loads
stood_or_due g [] y h = inl h
stood_or_due g (load ∷ loads) y h = ⊎_elim
    (λ stood. ⊎_elim (λ same. inr (inl same)) (λ ne. inl (sym (slot_put_other g (specifier_text load.specifier) (Pending false) y ne) ∙ stood)) (cases_text y (specifier_text load.specifier)))
    (λ due. inr (inr due))
    (stood_or_due (with_slot g load.specifier (Pending false)) loads y h)

still_stands : (g : ModuleGraph) (loads : List Load) (y : List ℕ) → stands g y ≡ true → stands (with_loads g loads) y ≡ true
still_stands g [] y t = t
still_stands g (load ∷ loads) y t = still_stands (with_slot g load.specifier (Pending false)) loads y (⊎_elim
    (λ same. ap (stands (with_slot g load.specifier (Pending false))) same ∙ slot_put g (specifier_text load.specifier) (Pending false))
    (λ ne. slot_put_other g (specifier_text load.specifier) (Pending false) y ne ∙ t)
    (cases_text y (specifier_text load.specifier)))

pub still_free : (g : ModuleGraph) (loads : List Load) (y : List ℕ) → stands (with_loads g loads) y ≡ false → stands g y ≡ false
still_free g [] y f = f
still_free g (load ∷ loads) y f = free_before g load y (still_free (with_slot g load.specifier (Pending false)) loads y f)
  where
    free_before : (g : ModuleGraph) (load : Load) (y : List ℕ) → stands (with_slot g load.specifier (Pending false)) y ≡ false → stands g y ≡ false
    free_before g load y f = ⊎_elim
        (λ same. absurd (true≢false (sym (ap (stands (with_slot g load.specifier (Pending false))) same ∙ slot_put g (specifier_text load.specifier) (Pending false)) ∙ f)))
        (λ ne. sym (slot_put_other g (specifier_text load.specifier) (Pending false) y ne) ∙ f)
        (cases_text y (specifier_text load.specifier))

pub same_redirects : (g : ModuleGraph) (loads : List Load) → (with_loads g loads).redirects ≡ g.redirects
same_redirects g [] = refl
same_redirects g (load ∷ loads) = same_redirects (with_slot g load.specifier (Pending false)) loads

module _ (g : ModuleGraph) (loads : List Load) where
  redirect_still : (y : List ℕ) → finite.get g.redirects y ≡ finite.get (with_loads g loads).redirects y
  redirect_still y = ap (λ (m : finite.FinMap text_cmp Parts). finite.get m y) (sym (same_redirects g loads))

  -- a way ends, or comes to one of them
  ends_or_meets : {m : ℕ} {x d : List ℕ} → Ends (with_loads g loads) m x d → End g x ⊎ Meets g loads x
  ends_or_meets (at_slot {x = x} h) = ⊎_elim
      (λ stood. inl record { steps = 0; end = x; way = at_slot stood })
      (λ due. inr record { at = x; way = stay; load = due })
      (stood_or_due g loads x h)
  ends_or_meets (at_last {x = x} h e) = inl record { steps = 0; end = x; way = at_last (still_free g loads x h) (redirect_still x ∙ e) }
  ends_or_meets (on {x = x} h e r) = ⊎_elim
      (λ end. inl record { steps = suc end.steps; end = end.end; way = on (still_free g loads x h) (redirect_still x ∙ e) end.way })
      (λ meets. inr record { at = meets.at; way = go (still_free g loads x h) (redirect_still x ∙ e) meets.way; load = meets.load })
      (ends_or_meets r)

-- a slot stands at each load
pub due_stands : (g : ModuleGraph) (loads : List Load) (y : List ℕ) → HasLoad y loads → stands (with_loads g loads) y ≡ true
due_stands g [] y h = absurd h
due_stands g (load ∷ loads) y (inl same) = still_stands (with_slot g load.specifier (Pending false)) loads y (ap (stands (with_slot g load.specifier (Pending false))) same ∙ slot_put g (specifier_text load.specifier) (Pending false))
due_stands g (load ∷ loads) y (inr rest) = due_stands (with_slot g load.specifier (Pending false)) loads y rest

-- a graph with no fewer slots has no other circle
pub no_circle_with : (g u : ModuleGraph) → ((y : List ℕ) → stands u y ≡ false → stands g y ≡ false) → u.redirects ≡ g.redirects → HasNoCircle g → HasNoCircle u
no_circle_with g u free same none s t leads is = none s t (leads_there leads) is
  where
    at : (s t : Parts) → redirect_at u s ≡ Some t → redirect_at g s ≡ Some t
    at s t e = ap (λ (m : finite.FinMap text_cmp Parts). finite.get m (specifier_text s)) (sym same) ∙ e

    leads_there : {s t : Parts} → RedirectsLead u s t → RedirectsLead g s t
    leads_there (last {s = s} {t = t} f e) = last (free (specifier_text s) f) (at s t e)
    leads_there (onward {s = s} {t = t} f e r) = onward (free (specifier_text s) f) (at s t e) (leads_there r)

-- loads over a graph whose circles have slots leave no circle without one
pub mended_over : (g : ModuleGraph) (loads : List Load) → HasNoCircle g → IsMended (entered g loads)
mended_over g loads none = no_circle_with g (with_loads g loads) (still_free g loads) (same_redirects g loads) none

-- known redirects end, or come to a load, where a slot or a load stands on each circle
pub mended_by : (entry : EnteredGraph) → IsMended entry → IsMendedBy (Unit {0}) entry
mended_by entry mended x = ⊎_elim inl (λ meets. inr (tt, meets)) (ends_or_meets entry.graph entry.loads (ends_of (with_loads entry.graph entry.loads) mended x).way)

-- ---- what enters

-- the turns of a graph that loads enter
module _ (registry : RegistryMeaning) (newest : NewestDependencyDateOptions) (known : Known) (g : ModuleGraph) (most budget : ℕ) (due : List Load) (outset : AreOutset due) (new : OpenLoads) (is : Arranged registry newest (first_turns known g most budget (begun_at known (entered g due))) new) where
  entered_order : IsInOrder new
  entered_order = first_order registry newest known g most budget (begun_at known (entered g due)) new is (held_entering known g due outset) (named_entering known g due)

  entered_resting : IsResting new
  entered_resting = first_resting registry newest known g most budget (begun_at known (entered g due)) new is

  entered_building : (told : Option World) (means : Means) → registry ≡ means.registry → newest ≡ means.newest → IsBuilding told means (begun_at known (entered g due)) new
  entered_building told means same same_newest =
      first_building registry newest known g most budget (begun_at known (entered g due)) new is told means same same_newest (held_entering known g due outset) (named_entering known g due) (begun_at known (entered g due)) refl

  entered_taken : new.taken ≡ 0
  entered_taken = first_taken registry newest known g most budget (begun_at known (entered g due)) new is

  entered_known : new.known ≡ known
  entered_known = first_known registry newest known g most budget (begun_at known (entered g due)) new is

  entered_redirects : new.redirects ≡ most
  entered_redirects = first_redirects registry newest known g most budget (begun_at known (entered g due)) new is

  entered_budget : new.max_loads ≡ budget
  entered_budget = first_budget registry newest known g most budget (begun_at known (entered g due)) new is

-- loads enter the turns of a build with nothing open
pub record LoadsEnter {O : Type 0} (registry : RegistryMeaning) (newest : NewestDependencyDateOptions) (b new : BuildState O) (due : List Load) : Type 0 where
  pub begins : b.turns ≡ no_turns b.turns.known b.turns.state.graph b.turns.redirects b.turns.max_loads
  pub entered_are : TurnsEntered registry newest b.turns due new.turns
  pub outset : AreOutset due
  pub same : new ≡ record b { turns = new.turns }

module _ {O : Type 0} (registry : RegistryMeaning) (newest : NewestDependencyDateOptions) (b new : BuildState O) (due : List Load) (loads : LoadsEnter registry newest b new due) where
  abbrev entry : EnteredGraph
  entry = entered b.turns.state.graph due

  arranged_entered : Arranged registry newest (first_turns b.turns.known b.turns.state.graph b.turns.redirects b.turns.max_loads (begun_at b.turns.known (entered b.turns.state.graph due))) new.turns
  arranged_entered = subst (λ (t : OpenLoads). Arranged registry newest (record t { state = enter_all t.state due }) new.turns) loads.begins loads.entered_are

  pub none_taken_entered : new.turns.taken ≡ 0
  none_taken_entered = entered_taken registry newest b.turns.known b.turns.state.graph b.turns.redirects b.turns.max_loads due loads.outset new.turns arranged_entered

  pub same_budget_entered : new.turns.max_loads ≡ b.turns.max_loads
  same_budget_entered = entered_budget registry newest b.turns.known b.turns.state.graph b.turns.redirects b.turns.max_loads due loads.outset new.turns arranged_entered

  same_redirects_entered : new.turns.redirects ≡ b.turns.redirects
  same_redirects_entered = entered_redirects registry newest b.turns.known b.turns.state.graph b.turns.redirects b.turns.max_loads due loads.outset new.turns arranged_entered

  pub same_known_entered : new.turns.known ≡ b.turns.known
  same_known_entered = entered_known registry newest b.turns.known b.turns.state.graph b.turns.redirects b.turns.max_loads due loads.outset new.turns arranged_entered

  building_entered : (told : Option World) (means : Means) → registry ≡ means.registry → newest ≡ means.newest → IsBuilding told means (begun_at b.turns.known entry) new.turns
  building_entered told means same same_newest = entered_building registry newest b.turns.known b.turns.state.graph b.turns.redirects b.turns.max_loads due loads.outset new.turns arranged_entered told means same same_newest

  pub going_entered : IsGoing b → is_begun b.phase ≡ true → IsGoing new
  going_entered going begun = record {
    not_ended = ap (λ (x : BuildState O). has_ended x.phase) loads.same ∙ going.not_ended;
    in_order = entered_order registry newest b.turns.known b.turns.state.graph b.turns.redirects b.turns.max_loads due loads.outset new.turns arranged_entered;
    resting = entered_resting registry newest b.turns.known b.turns.state.graph b.turns.redirects b.turns.max_loads due loads.outset new.turns arranged_entered;
    start_first = λ none. absurd (true≢false (sym begun ∙ sym (ap (λ (x : BuildState O). is_begun x.phase) loads.same) ∙ none));
  }

  -- loads over a budget aren't covered by it
  pub room_entered : (told : Option World) (means : Means) → registry ≡ means.registry → newest ≡ means.newest → GoesOver told means new → (w : Told) (questions : List Counted) → IsTold told means w b.turns.state.graph.kind → b.turns.redirects ≡ w.world.max_redirects → b.turns.known ≡ w.known → IsMendedBy (Unit {0}) entry → CoversFrom (told_for w Only) entry questions → length questions ≤ b.turns.max_loads → ⊥
  room_entered told means meant meant_newest over w questions tells most as_told mended covers enough =
      let g = b.turns.state.graph in
      let start = building_entered told means meant meant_newest in
      let redirects : new.turns.redirects ≡ w.world.max_redirects = same_redirects_entered ∙ most in
      let budget : new.turns.max_loads ≡ b.turns.max_loads = same_budget_entered in
      no_room_once (Unit {0}) told means w entry loads.outset tells new.turns.redirects redirects mended questions new.turns.max_loads
      (subst (λ (k : Known). IsOver new.turns.redirects k told means (begun_at k entry) new.turns.max_loads) as_told
      (subst (λ (k : Known). IsOver new.turns.redirects k told means (begun_at b.turns.known entry) new.turns.max_loads) same_known_entered
      (over (begun_at b.turns.known entry) start))) covers (omega (arith, enough, budget))

  -- the loads of a run that passed its budget are more than it
  pub over_entered : (told : Option World) (means : Means) → registry ≡ means.registry → newest ≡ means.newest → GoesOver told means new → IsOver b.turns.redirects b.turns.known told means (begun_at b.turns.known (entered b.turns.state.graph due)) b.turns.max_loads
  over_entered told means meant meant_newest over =
      let start : State = begun_at b.turns.known entry in
      (subst (λ (n : ℕ). IsOver n b.turns.known told means start b.turns.max_loads) same_redirects_entered
      (subst (λ (k : Known). IsOver new.turns.redirects k told means start b.turns.max_loads) same_known_entered
      (subst (λ (n : ℕ). IsOver new.turns.redirects new.turns.known told means start n) same_budget_entered
      (over start (building_entered told means meant meant_newest)))))

  -- a run that the loads began
  module _ (told : Option World) (means : Means) (meant : registry ≡ means.registry) (meant_newest : newest ≡ means.newest) (done : BuildState O) (later : IsLater told means new done) where
    building : IsBuilding told means (begun_at b.turns.known entry) done.turns
    building = later.building (begun_at b.turns.known entry) (building_entered told means meant meant_newest)

    same_redirect_count : done.turns.redirects ≡ b.turns.redirects
    same_redirect_count = later.redirects ∙ same_redirects_entered

    same_known : done.turns.known ≡ b.turns.known
    same_known = later.known ∙ same_known_entered

    -- the run, by what was known as it began
    run_done : Runs done.turns.redirects b.turns.known told means (begun_at b.turns.known entry) building.past building.put done.turns.state
    run_done = subst (λ (k : Known). Runs done.turns.redirects k told means (begun_at b.turns.known entry) building.past building.put done.turns.state) same_known building.run

    run_told : (w : Told) → b.turns.known ≡ w.known → Runs done.turns.redirects w.known told means (begun_at w.known entry) building.past building.put done.turns.state
    run_told w known = subst (λ (k : Known). Runs done.turns.redirects k told means (begun_at k entry) building.past building.put done.turns.state) known run_done

    ordered_done : IsMendedBy (Unit {0}) entry → Ordered (Unit {0}) b.turns.known means.registry entry Only building.past done.turns.state
    ordered_done mended = ordered_from (Unit {0}) done.turns.redirects b.turns.known told means entry Only tt mended run_done

    orderly_done : IsMendedBy (Unit {0}) entry → Orderly (Unit {0}) b.turns.known means.registry entry building.past done.turns.state
    orderly_done mended =
        let now = ordered_done mended in
        subst (λ (e : EnteredGraph). Orderly (Unit {0}) b.turns.known means.registry e building.past done.turns.state) (only_entry b.turns.known entry done.turns.state.run now.entry now.run) now.orderly

    complete_done : IsDone done → IsMendedBy (Unit {0}) entry → NonePending b.turns.state.graph → (u : ModuleGraph) → EndsAs done.turns.state u → IsCompleteFrom b.turns.known.flags entry u
    complete_done is_done mended settled u adds =
        complete_from entry building.past done.turns.state settled (orderly_done mended) is_done.at_end.idle u adds

    pub left_done : IsDone done → IsMendedBy (Unit {0}) entry → NonePending b.turns.state.graph → {table : Option NpmTable} (u : ModuleGraph) → IsEnded table done.turns.state u → IsLeftBy b.turns.known.flags entry u
    left_done is_done mended settled u ended =
        let now = orderly_done mended in
        let adds = ends_as done.turns.state u ended in
        let complete = complete_done is_done mended settled u adds in
        record {
          complete = complete;
          no_circle = no_circle_of u (λ x. ends_at done.turns.state u adds x (ends_end entry (Unit {0}) done.turns.state now.counts.sound is_done.at_end.idle x));
        }

    abbrev begins_told : (w : Told) → RunBegins entry
    begins_told w = record { outset = loads.outset; run = Only }

    reach_done : (w : Told) → IsTold told means w b.turns.state.graph.kind → b.turns.redirects ≡ w.world.max_redirects → b.turns.known ≡ w.known → Reaching (told_for w Only) entry (begins_told w) building.past done.turns.state
    reach_done w tells most known =
        let outset = loads.outset in
        let reach = reaching_once w entry outset told means tells done.turns.redirects (same_redirect_count ∙ most) (run_told w known) in
        let only : reach.begun ≡ Only = reach.is_run in
        subst (λ r. Reaching (told_for w r) entry (record { outset = outset; run = r }) building.past done.turns.state) only reach.reach

    kept_done : (w : Told) → IsTold told means w b.turns.state.graph.kind → b.turns.redirects ≡ w.world.max_redirects → b.turns.known ≡ w.known → IsKeptBy (told_for w Only) entry done.turns.state
    kept_done w tells most known = kept_by_run (told_for w Only) entry (begins_told w) done.turns.state (reach_done w tells most known).kept

    pub grown_done : (w : Told) → IsTold told means w b.turns.state.graph.kind → b.turns.redirects ≡ w.world.max_redirects → b.turns.known ≡ w.known → IsDone done → IsMendedBy (Unit {0}) entry → NonePending b.turns.state.graph → (u : ModuleGraph) → IsEnded (Some w.npm) done.turns.state u → IsGrownBy u (told_for w Only) entry
    grown_done w tells most known is_done mended settled u ended =
        let adds = ends_as done.turns.state u ended in
        let closed : NonePending done.turns.state.graph = λ k asset at. (complete_done is_done mended settled u adds).none_pending k asset (adds.still k (Pending asset) at) in
        grown_by_end (told_for w Only) entry done.turns.state u (kept_done w tells most known).npm ended record {
          grown = grown_by told means (told_for w Only) entry (begins_told w) (tells_for told means w entry.graph.kind tells Only) done.turns.state settled closed is_done.at_end (reach_done w tells most known).kept;
          choices = (kept_done w tells most known).choices;
        }

    -- a run that can't begin once more has no sums of an earlier one
    still_only : (w : Told) (run : Run) → IsStage Only run → run ≡ Only
    still_only w run goes_as_begun = refl
    still_only w run (is_due_again {start = x} was) = absurd (let wrong : Only ≡ First x = was in cc)

    pub run_only : (w : Told) → IsTold told means w b.turns.state.graph.kind → b.turns.redirects ≡ w.world.max_redirects → b.turns.known ≡ w.known → done.turns.state.run ≡ Only
    run_only w tells most known = still_only w done.turns.state.run (reach_done w tells most known).kept.run.stage

    -- the sums that it kept
    pub sources_done : (w : Told) → IsTold told means w b.turns.state.graph.kind → b.turns.redirects ≡ w.world.max_redirects → b.turns.known ≡ w.known → AreSourceSums (told_for w Only) entry done.turns.state.sums
    sources_done w tells most known k sum is =
        let none : earlier_sums done.turns.state.run ≡ None = ap earlier_sums (run_only w tells most known) in
        ⊎_elim (λ before. absurd (none_before (subst (λ (o : Option KnownSums). sum_in o k ≡ Some sum) none before))) (λ x. x) ((kept_done w tells most known).sums k sum is)
      where
        none_before : sum_in None k ≡ Some sum → ⊥
        none_before e = cc

    -- the version files that were read
    pub files_done : (w : Told) → IsTold told means w b.turns.state.graph.kind → b.turns.redirects ≡ w.world.max_redirects → b.turns.known ≡ w.known → (nv : PackageNv) (kept : Result KeptVersion JsrLoadError) → finite.get done.turns.state.files nv ≡ Some kept → kept ≡ told_version (told_for w Only) nv
    files_done w tells most known = (kept_done w tells most known).files

    -- what was asked about, each once
    pub asks_done : IsGoing done → IsDone done → IsMendedBy (Unit {0}) entry → {table : Option NpmTable} (u : ModuleGraph) → IsEnded table done.turns.state u → AsksInRuns registry u done.turns.taken
    asks_done going is_done mended u ended =
        asks_ended done.turns.state u (ends_as done.turns.state u ended) registry done.turns.taken
        let put = all_put done.turns going.in_order is_done.at_end building.put building.count in
        subst (λ (r : RegistryMeaning). AsksInRuns r done.turns.state.graph done.turns.taken) (sym meant)
        (asks_in_runs entry Only building.past done.turns.state done.turns.taken (ordered_done mended) is_done.at_end.idle.none_passing
        (idle_free means.registry done.turns.state is_done.at_end.idle.none_open) put
        (put_in (λ n. Unit {0}) tt (Unit {0}) done.turns.redirects b.turns.known told means entry Only tt mended (λ past put x before comes all. tt) run_done))

    -- so many turns were taken, which put what was handed out
    pub turns_done : (w : Told) → IsTold told means w b.turns.state.graph.kind → b.turns.redirects ≡ w.world.max_redirects → b.turns.known ≡ w.known → IsGoing done → IsDone done → TurnsDone w b.turns.state.graph.kind (begun_at w.known entry) done.turns.taken
    turns_done w tells most known going is_done =
        let kind = b.turns.state.graph.kind in
        let start = begun_at w.known entry in
        let from : IsBuilding told means start done.turns = subst (λ (k : Known). IsBuilding told means (begun_at k entry) done.turns) known building in
        let now : IsBuilding (Some w.world) (told_means w kind) start done.turns = subst (λ (m : Means). IsBuilding (Some w.world) m start done.turns) (means_are means w kind tells.meant) (subst (λ o. IsBuilding o means start done.turns) tells.answers from) in
        let d = drives_of w kind start done.turns (same_redirect_count ∙ most) (same_known ∙ known) now in
        record {
          count = d.turn_count;
          done = subst IsAtEnd d.state_is is_done.at_end;
          questions = all_put done.turns going.in_order is_done.at_end (put_by w kind d.turn_count start) d.count;
        }

    -- the turns that were taken
    pub turned_done : (w : Told) → IsTold told means w b.turns.state.graph.kind → b.turns.redirects ≡ w.world.max_redirects → b.turns.known ≡ w.known → IsGoing done → IsDone done → (u : ModuleGraph) → IsEnded (Some w.npm) done.turns.state u → IsTurnedFrom w b.turns.state.graph.kind (begun_at w.known entry) u done.turns.state.sums (filled_store done.turns.known.store done.turns.added) done.turns.taken
    turned_done w tells most known going is_done u ended =
        let kind = b.turns.state.graph.kind in
        let start = begun_at w.known entry in
        let from : IsBuilding told means start done.turns = subst (λ (k : Known). IsBuilding told means (begun_at k entry) done.turns) known building in
        let now : IsBuilding (Some w.world) (told_means w kind) start done.turns = subst (λ (m : Means). IsBuilding (Some w.world) m start done.turns) (means_are means w kind tells.meant) (subst (λ o. IsBuilding o means start done.turns) tells.answers from) in
        let d = drives_of w kind start done.turns (same_redirect_count ∙ most) (same_known ∙ known) now in
        record {
          count = d.turn_count;
          done = subst IsAtEnd d.state_is is_done.at_end;
          graph_is = ended_told w done.turns.state u ended ∙ ap (ended_graph w) d.state_is;
          sums_are = ap (λ (x : State). x.sums) d.state_is;
          store_is = d.store_is;
          questions = all_put done.turns going.in_order is_done.at_end (put_by w kind d.turn_count start) d.count;
        }
