-- What a caller that drives a build keeps, call by call.
use Rattle.std.proofs.Common.{OnOk, ◌≡◌, ℕ, true, ◌≤◌, List, Option, None, Some, refl, sym, ap, ◌∙◌, subst, arith}
use Rattle.std.specs.Prelude.{IfSome, Result, Ok, Err, IfErr, OnErr}
use Rattle.source_io.specs.declared.types.Answer.{Answer}
use Rattle.import_records.specs.Target.{Resolving}
use Rattle.source_io.specs.declared.types.World.{World}
use Rattle.graph_core.specs.declared.graph.ModuleGraph.{ModuleGraph}
use Rattle.open_loads.specs.Order.OpenLoads.{OpenLoads}
use Rattle.graph_builder.specs.declared.build_phase.Phase.{Phase}
use Rattle.graph_builder.specs.declared.build_phase.Phase.TheVariants.{Unbegun, Going, Finished, Ended}
use Rattle.graph_turns.specs.declared.starting.ResolvedStart.{ResolvedStart}
use Rattle.graph_turns.specs.declared.state.State.{State}
use Rattle.graph_builder.specs.Calls.Builds.{GoesBy}
use Rattle.turn_laws.specs.Budget.Covers.{Counted, CoversRuns, enough}
use Rattle.graph_builder.specs.Calls.Driven.{IsLater, EndsOver, GoesOver, IsSpent}
use Rattle.graph_turns.specs.declared.unresolved_input.LeftOver.{LeftOver}
use Rattle.graph_builder.specs.Calls.Steps.{BuildState, Enters, EntersAt, HasQueued, IsGoing, is_begun, left_at}
use Rattle.open_loads.specs.Order.Entered.{no_turns}
use Rattle.open_loads.specs.Order.Means.{Directions, IsTold, Means}
use Rattle.open_loads.specs.Order.Numbered.{Arranged}
use Rattle.graph_turns.specs.Machine.Starting.{nothing_left}
use Rattle.open_loads.specs.Order.Ordered.{asked_at, IsToldAnswer, IsBuilding, IsInOrder, TakesAnswer}
use Rattle.open_loads.specs.Budget.Runs.{IsOver}
use Rattle.graph_turns.specs.Machine.Known.{Known}
use Rattle.graph_turns.specs.Machine.Runs.{begun_over, run_begun}
use Rattle.graph_turns.specs.Machine.Starting.{IsResolved, told_start}
use Rattle.graph_turns.specs.Promise.Told.{Told}
use Rattle.graph_builder.proofs.Calls.Builds.{builds_question, goes_question, builds_answer, goes_answer, entered_known, entered_redirects, entered_turning}
use Rattle.graph_builder.proofs.Calls.Entered.{enters_self, first_turns, nothing_resolved, start_budget, start_building, start_known, start_redirects, starts_turns}
use Rattle.graph_builder.proofs.Calls.Meant.{means_are, told_directions, told_means}
use Rattle.graph_builder.proofs.Calls.Going.{entered_numbers, over_of}
use Rattle.open_loads.proofs.Order.InOrder.{building_taken}
use Rattle.graph_builder.proofs.Budget.Ran.{no_room}
use Rattle.graph_builder.proofs.Calls.Started.{none_building, nothing_is_resolved}

pub err_so : {T E : Type 0} (r : Result T E) (P Q : E → Type 0) → IfErr r P → ((e : E) → P e → Q e) → IfErr r Q
err_so (Ok x) P Q given so = tt
err_so (Err e) P Q given so = so e given

pub err_all : {T E : Type 0} (r : Result T E) (P : E → Type 0) → ((e : E) → P e) → IfErr r P
err_all (Ok x) P all = tt
err_all (Err e) P all = all e

pub err_both : {T E : Type 0} (r : Result T E) (P Q R : E → Type 0) → IfErr r P → IfErr r Q → ((e : E) → P e → Q e → R e) → IfErr r R
err_both (Ok x) P Q R first second so = tt
err_both (Err e) P Q R first second so = so e first second

pub on_ok_all : {T E : Type 0} (r : Result T E) (P : Type 0) → P → OnOk r P
on_ok_all (Ok x) P all = all
on_ok_all (Err e) P all = tt

pub on_ok_so : {T E : Type 0} (r : Result T E) (P Q : Type 0) → OnOk r P → (P → Q) → OnOk r Q
on_ok_so (Ok x) P Q given so = so given
on_ok_so (Err e) P Q given so = tt

pub on_ok_both : {T E : Type 0} (r : Result T E) (P Q R : Type 0) → OnOk r P → OnOk r Q → (P → Q → R) → OnOk r R
on_ok_both (Ok x) P Q R first second so = so first second
on_ok_both (Err e) P Q R first second so = tt

pub on_err_so : {T E : Type 0} (r : Result T E) (P Q : Type 0) → OnErr r P → (P → Q) → OnErr r Q
on_err_so (Ok x) P Q given so = tt
on_err_so (Err e) P Q given so = so given

pub some_so : {T : Type 0} (o : Option T) (P Q : T → Type 0) → IfSome o P → ((x : T) → P x → Q x) → IfSome o Q
some_so None P Q given so = tt
some_so (Some x) P Q given so = so x given

module _ {O : Type 0} where
  pub later_none : (told : Option World) (means : Means) (b : BuildState O) → is_begun b.phase ≡ true → IsLater told means b b
  later_none told means b empty = record {
    begun = empty;
    redirects = refl;
    known = refl;
    budget = refl;
    building = λ start i. i;
    builds_on = λ directions g given same newest on. on;
    goes_by = λ w g given tells goes. goes;
  }

  pub later_more : (told : Option World) (means : Means) (a b c : BuildState O) → IsLater told means a b → IsLater told means b c → IsLater told means a c
  later_more told means a b c x y = record {
    begun = y.begun;
    redirects = y.redirects ∙ x.redirects;
    known = y.known ∙ x.known;
    budget = y.budget ∙ x.budget;
    building = λ start i. y.building start (x.building start i);
    builds_on = λ directions g given same newest on. y.builds_on directions g given same newest (x.builds_on directions g given same newest on);
    goes_by = λ w g given tells goes. y.goes_by w g given tells (x.goes_by w g given tells goes);
  }

  -- a question was handed out, or none was queued
  pub later_question : (told : Option World) (means : Means) (old new : BuildState O) → IsInOrder old.turns → is_begun old.phase ≡ true → new ≡ record old { turns = new.turns } → new.turns ≡ record old.turns { taken = new.turns.taken; queue = new.turns.queue } → IsLater told means old new
  later_question told means old new order empty same turns =
      let still : is_begun new.phase ≡ true = ap (λ (b : BuildState O). is_begun b.phase) same ∙ empty in
      record {
        begun = still;
        redirects = ap (λ (t : OpenLoads). t.redirects) turns;
        known = ap (λ (t : OpenLoads). t.known) turns;
        budget = ap (λ (t : OpenLoads). t.max_loads) turns;
        building = λ start i. building_taken told means start old.turns new.turns new.turns.taken new.turns.queue turns i;
        builds_on = λ directions g given meant newest on. builds_question directions g given old old new new.turns.taken new.turns.queue order (enters_self directions old empty) turns still on;
        goes_by = λ w g given tells goes. goes_question (told_directions w) w g given old old new new.turns.taken new.turns.queue refl (enters_self (told_directions w) old empty) turns still order goes;
      }

  -- a question was answered by the world, where one is told
  pub later_answer : (told : Option World) (means : Means) (old new : BuildState O) (t : ℕ) (a : Answer) → IsInOrder old.turns → is_begun old.phase ≡ true → TakesAnswer means old.turns new.turns t a → new ≡ record old { turns = new.turns } → IsToldAnswer told (asked_at old.turns t) a → IsLater told means old new
  later_answer told means old new t a order empty taken same right =
      let still : is_begun new.phase ≡ true = ap (λ (b : BuildState O). is_begun b.phase) same ∙ empty in
      record {
        begun = still;
        redirects = taken.same_redirects;
        known = taken.same_known;
        budget = taken.same_budget;
        building = λ start i. taken.building told start i right;
        builds_on = λ directions g given meant newest on. builds_answer means directions g given old new t a meant newest taken empty still on;
        goes_by = λ w g given tells goes. goes_answer means w g given old new t a taken empty still tells.meant (subst (λ o. IsToldAnswer o (asked_at old.turns t) a) tells.answers right) order goes;
      }

  over_as : (told : Option World) (means : Means) (old new : BuildState O) (start : State) → new.turns.redirects ≡ old.turns.redirects → new.turns.known ≡ old.turns.known → new.turns.max_loads ≡ old.turns.max_loads → IsOver new.turns.redirects new.turns.known told means start new.turns.max_loads → IsOver old.turns.redirects old.turns.known told means start old.turns.max_loads
  over_as told means old new start redirects known budget over =
      subst (λ (n : ℕ). IsOver old.turns.redirects old.turns.known told means start n) budget
      (subst (λ (k : Known). IsOver old.turns.redirects k told means start new.turns.max_loads) known
      (subst (λ (n : ℕ). IsOver n new.turns.known told means start new.turns.max_loads) redirects over))

  -- a budget that is spent later is spent
  pub spent_before : (old new : BuildState O) → ((told : Option World) (means : Means) → IsLater told means old new) → IsInOrder new.turns → HasQueued new → new.turns.taken ≡ new.turns.max_loads → IsSpent old
  spent_before old new later order queued spent told means start i =
      let step = later told means in
      over_as told means old new start step.redirects step.known step.budget (over_of told means new start order queued spent (step.building start i))

  pub over_before : (told : Option World) (means : Means) (old new : BuildState O) → IsLater told means old new → GoesOver told means new → GoesOver told means old
  over_before told means old new step over start i = over_as told means old new start step.redirects step.known step.budget (over start (step.building start i))

  -- where nothing is given, all has entered
  ends_none : (told : Option World) (resolver : Option Resolving) (means : Means) (b entered : BuildState O) → b.turns ≡ no_turns b.turns.known b.turns.state.graph b.turns.redirects b.turns.max_loads → entered ≡ b → GoesOver told means entered → (start : ResolvedStart) × IsResolved resolver nothing_left start × IsOver b.turns.redirects b.turns.known told means (run_begun b.turns.state start) b.turns.max_loads
  ends_none told resolver means b entered begins same over =
      let building : IsBuilding told means (run_begun b.turns.state nothing_resolved) b.turns = subst (λ (t : OpenLoads). IsBuilding told means (run_begun t.state nothing_resolved) t) (sym begins) (none_building told means b.turns.known b.turns.state.graph b.turns.redirects b.turns.max_loads) in
      (nothing_resolved, nothing_is_resolved resolver, subst (GoesOver told means) same over (run_begun b.turns.state nothing_resolved) building)

  -- what is over once all has entered ends over
  ends_at : (told : Option World) (directions : Directions) (means : Means) (b entered : BuildState O) (p : Phase) → b.phase ≡ p → directions.registry ≡ means.registry → directions.newest ≡ means.newest → b.turns ≡ no_turns b.turns.known b.turns.state.graph b.turns.redirects b.turns.max_loads → EntersAt directions b entered p → GoesOver told means entered → (start : ResolvedStart) × IsResolved directions.resolving (left_at p) start × IsOver b.turns.redirects b.turns.known told means (run_begun b.turns.state start) b.turns.max_loads
  ends_at told directions means b entered (Unbegun left) is meant newest begins e over =
      let known = b.turns.known in
      let g = b.turns.state.graph in
      let most = b.turns.redirects in
      let budget = b.turns.max_loads in
      let first : Arranged directions.registry directions.newest (first_turns known g most budget (begun_over known g e.start)) entered.turns = starts_turns directions b entered left known g most budget begins e in
      let building : IsBuilding told means (run_begun b.turns.state e.start) entered.turns = subst (λ (x : State). IsBuilding told means (run_begun x e.start) entered.turns) (sym (ap (λ (t : OpenLoads). t.state) begins))
      (start_building directions.registry directions.newest known g most budget e.start entered.turns first told means meant newest) in (
        e.start,
        e.resolved,
        over_as told means b entered (run_begun b.turns.state e.start) (start_redirects directions.registry directions.newest known g most budget e.start entered.turns first) (start_known directions.registry directions.newest known g most budget e.start entered.turns first) (start_budget directions.registry directions.newest known g most budget e.start entered.turns first) (over (run_begun b.turns.state e.start) building),
      )
  ends_at told directions means b entered Going is meant newest begins e over = ends_none told directions.resolving means b entered begins e over
  ends_at told directions means b entered Finished is meant newest begins e over = ends_none told directions.resolving means b entered begins e over
  ends_at told directions means b entered Ended is meant newest begins e over = ends_none told directions.resolving means b entered begins e over

  pub ends_over : (told : Option World) (directions : Directions) (means : Means) (b entered : BuildState O) → directions.registry ≡ means.registry → directions.newest ≡ means.newest → b.turns ≡ no_turns b.turns.known b.turns.state.graph b.turns.redirects b.turns.max_loads → Enters directions b entered → GoesOver told means entered → EndsOver told directions.resolving means b
  ends_over told directions means b entered meant newest begins e over = ends_at told directions means b entered b.phase refl meant newest begins e over

  -- a covering list has room for what a world's answers let enter
  pub room_told : (told : Option World) (directions : Directions) (means : Means) (w : Told) (g : ModuleGraph) (given : LeftOver) (questions : List Counted) (b entered : BuildState O) → IsGoing b → directions ≡ told_directions w → Enters directions b entered → GoesBy w g given b → IsTold told means w g.kind → CoversRuns w g given questions → enough g given questions ≤ b.turns.max_loads → GoesOver told means entered → ⊥
  room_told told directions means w g given questions b entered going by e goes tells covers enough_is over =
      let start = begun_over w.known g (told_start w given) in
      let redirects : entered.turns.redirects ≡ w.world.max_redirects = entered_redirects directions w g given b entered goes e ∙ goes.redirects_are in
      let known : entered.turns.known ≡ w.known = entered_known directions w g given b entered goes e ∙ goes.known_is in
      let most : entered.turns.max_loads ≡ b.turns.max_loads = (entered_numbers directions b entered going e).1 in
      let turning = entered_turning directions w g given b entered by e going.in_order goes in
      let building : IsBuilding told means start entered.turns = subst (λ (m : Means). IsBuilding told m start entered.turns) (sym (means_are means w g.kind tells.meant)) (subst (λ o. IsBuilding o (told_means w g.kind) start entered.turns) (sym tells.answers) turning) in
      no_room told means w g given tells entered.turns.redirects redirects goes.no_circle questions covers entered.turns.max_loads
      (subst (λ (k : Known). IsOver entered.turns.redirects k told means start entered.turns.max_loads) known (over start building)) (omega (arith, enough_is, most))
