-- What is given enters a build.
use Rattle.std.proofs.Common.{◌≡◌, ℕ, Bool, true, false, ◌&&◌, if◌then◌else◌, List, [], ◌++◌, map, length, None, Some, Option, refl, sym, ap, ◌∙◌, subst, inl, arith}
use Rattle.std.specs.Prelude.{◌==◌, Result, Ok}
use Rattle.std.specs.List.{All}
use Rattle.std.proofs.lemmas.List.{drop_all}
use Rattle.std.proofs.lemmas.List.Elements.{All-append, All-map, All-nil, All-weaker}
use Rattle.std.specs.FinMap as finite
use Rattle.std.specs.FinMap.{get-empty}
use Rattle.std.specs.Ordering.{nat_cmp}
use Rattle.url.specs.Parts.{Parts}
use Rattle.metadata_store.specs.declared.store.JsrMetadataStore.{JsrMetadataStore}
use Rattle.source_io.specs.declared.types.Answer.{Answer}
use Rattle.source_io.specs.declared.types.World.{World}
use Rattle.semver_npm.specs.Orders.{nv_cmp}
use Rattle.semver_npm.specs.declared.package.PackageNv.{PackageNv}
use Rattle.version_dates.specs.declared.newest_date.NewestDependencyDateOptions.{NewestDependencyDateOptions}
use Rattle.registry_urls.specs.Meaning.{RegistryMeaning}
use Rattle.registry_files.specs.Kept.{Versions}
use Rattle.registry_files.specs.declared.kept_version.KeptVersion.{KeptVersion}
use Rattle.graph_errors.specs.declared.jsr_error.JsrLoadError.{JsrLoadError}
use Rattle.graph_core.specs.declared.graph.ModuleGraph.{ModuleGraph}
use Rattle.graph_dependencies.specs.declared.graph_import.GraphImport.{GraphImport}
use Rattle.module_slots.specs.declared.load.Load.{Load}
use Rattle.module_slots.specs.declared.load.LoadContext.{LoadContext}
use Rattle.graph_core.specs.Edges.{import_loads}
use Rattle.graph_turns.specs.declared.unresolved_input.LeftOver.{LeftOver}
use Rattle.graph_builder.specs.declared.build_phase.Phase.{Phase}
use Rattle.graph_builder.specs.declared.build_phase.Phase.TheVariants.{Unbegun, Going, Finished, Ended}
use Rattle.graph_turns.specs.declared.run.Run.{Run}
use Rattle.graph_turns.specs.declared.run.Run.TheVariants.{First, Only}
use Rattle.graph_turns.specs.declared.starting.ResolvedStart.{ResolvedStart}
use Rattle.graph_turns.specs.declared.state.State.{State}
use Rattle.graph_turns.specs.Promise.Input.{EnteredGraph, root_load}
use Rattle.graph_builder.specs.Calls.Steps.{BuildState, Enters, EntersAt, EntersStart, IsGoing, has_ended, is_begun}
use Rattle.open_loads.specs.Order.Entered.{TurnsWith, no_turns}
use Rattle.open_loads.specs.Order.Means.{Directions, Means, untold}
use Rattle.open_loads.specs.Order.OpenLoads.{OpenLoads}
use Rattle.open_loads.specs.Order.Numbered.{Arranged, filled_store}
use Rattle.open_loads.specs.Order.Ordered.{IsAheadRead, IsBuilding, IsInOrder, IsResting, Numbered}
use Rattle.open_loads.specs.Budget.Runs.{Runs, store_of}
use Rattle.open_loads.specs.Budget.Runs.Runs.{none}
use Rattle.graph_turns.specs.Machine.Held.{AreNamed, IsHeld, IsReadAt}
use Rattle.graph_turns.specs.Machine.Entering.{begun_at, enter_all, resting_state}
use Rattle.graph_turns.specs.Machine.Runs.{begins_anew, begun_over}
use Rattle.graph_turns.specs.Machine.Starting.{added_imports, added_roots, start_entered, start_entry, with_start}
use Rattle.graph_turns.specs.Machine.Known.{Known}
use Rattle.graph_builder.specs.Calls.Over.{AreOutset, entered}
use Rattle.graph_turns.proofs.Entering.Held.{IsReadFor, held_enter_all}
use Rattle.graph_turns.proofs.Entering.Rested.{leaves_enter_all}
use Rattle.turn_laws.proofs.Static.Part.{imports_all}
use Rattle.graph_builder.proofs.Budget.Orderly.{begun_in, first_run, over_in}
use Rattle.open_loads.proofs.Order.Coming.{IsReady}
use Rattle.open_loads.proofs.Order.InOrder.{AreRead, Follows, arranged_of, follows_building, follows_order}

-- nothing, resolved
abbrev pub nothing_resolved : ResolvedStart
nothing_resolved = record { roots = []; imports = [] }

pub start_none : (s : State) → start_entered s nothing_resolved ≡ s
unfolding start_entered enter_all
start_none s =
    ap (λ (l : List Parts). enter_all (record s { graph = with_start s.graph nothing_resolved }) (map (root_load s.flags.is_dynamic) l ++ import_loads s.flags.is_dynamic (added_imports s.graph.imports []))) (drop_all (length s.graph.roots) s.graph.roots (omega arith))
    ∙ ap (λ (l : List (Parts × GraphImport)). enter_all (record s { graph = with_start s.graph nothing_resolved }) (import_loads s.flags.is_dynamic l)) (drop_all (length s.graph.imports) s.graph.imports (omega arith))

-- a build of nothing doesn't begin once more
pub none_anew : (I : Type 0) (g : ModuleGraph) → begins_anew {I = I} g [] [] ≡ false
none_anew I g = and_false (length g.roots == 0)
  where
    and_false : (b : Bool) → b && false ≡ false
    and_false true = refl
    and_false false = refl

-- so nothing enters
pub begun_none : (known : Known) (g : ModuleGraph) → begun_over known g nothing_resolved ≡ resting_state known g
begun_none known g =
    ap (λ (b : Bool). start_entered (if b then record (resting_state known g) { run = First nothing_resolved } else resting_state known g) nothing_resolved) (none_anew (Parts × GraphImport) g)
    ∙ start_none (resting_state known g)

-- ---- no load of a start counts in a version

-- a load counts in none
abbrev IsOutside : Load → Type 0
IsOutside load = load.context.«package» ≡ None

pub held_resting : (known : Known) (g : ModuleGraph) → IsHeld (resting_state known g)
held_resting known g = record {
  loads = All-nil (IsReadFor (resting_state known g));
  deferred = All-nil (λ (e : Parts × LoadContext). IsReadAt (finite.get (resting_state known g).files) e.1.«package»);
  dynamic = All-nil (λ (e : Parts × Load). IsReadAt (finite.get (resting_state known g).files) e.1.context.«package»);
}

held_begun : (known : Known) (run : Run) (entry : EnteredGraph) → All IsOutside entry.loads → IsHeld (begun_in known run entry)
held_begun known run entry all =
    let s : State = record (resting_state known entry.graph) { run = run } in
    let held = held_resting known entry.graph in
    held_enter_all s entry.loads (record { loads = held.loads; deferred = held.deferred; dynamic = held.dynamic }) (λ k d below. subst (IsReadAt (finite.get s.files)) (sym (all k d below)) tt)

start_outside : (dynamic : Bool) (g : ModuleGraph) (start : ResolvedStart) → All IsOutside (start_entry dynamic g start).loads
start_outside dynamic g start = All-append IsOutside (map (root_load dynamic) (added_roots g.roots start.roots)) (import_loads dynamic (added_imports g.imports start.imports))
    (All-map IsOutside (root_load dynamic) (added_roots g.roots start.roots) (λ k d below. refl))
    (imports_all IsOutside dynamic (added_imports g.imports start.imports) (λ s range t. refl))

pub held_over : (known : Known) (g : ModuleGraph) (start : ResolvedStart) → IsHeld (begun_over known g start)
held_over known g start = subst IsHeld (sym (over_in known g start)) (held_begun known (first_run g start) (start_entry known.flags.is_dynamic g start) (start_outside known.flags.is_dynamic g start))

pub held_entering : (known : Known) (g : ModuleGraph) (due : List Load) → AreOutset due → IsHeld (begun_at known (entered g due))
held_entering known g due outset = held_begun known Only (entered g due) (All-weaker (λ load. (load.context.hops ≡ 0) × (load.context.«package» ≡ None)) IsOutside (λ load at. at.1) due outset)

-- no version file was asked about
pub no_files : (nv : PackageNv) (kept : Result KeptVersion JsrLoadError) → finite.get (finite.empty {X = Result KeptVersion JsrLoadError} {R = nv_cmp}) nv ≡ Some kept → ⊥
no_files nv kept at = let none = get-empty {X = Result KeptVersion JsrLoadError} nv_cmp nv in cc

named_begun : (known : Known) (run : Run) (entry : EnteredGraph) → AreNamed (finite.get (begun_in known run entry).files)
named_begun known run entry = subst (λ (m : Versions). AreNamed (finite.get m)) (sym (leaves_enter_all (record (resting_state known entry.graph) { run = run }) entry.loads).files) (λ nv v e. absurd (no_files nv (Ok v) e))

pub named_over : (known : Known) (g : ModuleGraph) (start : ResolvedStart) → AreNamed (finite.get (begun_over known g start).files)
named_over known g start = subst (λ (s : State). AreNamed (finite.get s.files)) (sym (over_in known g start)) (named_begun known (first_run g start) (start_entry known.flags.is_dynamic g start))

pub named_entering : (known : Known) (g : ModuleGraph) (due : List Load) → AreNamed (finite.get (begun_at known (entered g due)).files)
named_entering known g due = named_begun known Only (entered g due)

-- ---- the first turn begins

pub nothing_kept : (t : ℕ) (a : Answer) → finite.get (finite.empty {X = Answer} {R = nat_cmp}) t ≡ Some a → ⊥
nothing_kept t a e = let n = get-empty {X = Answer} nat_cmp t in cc

pub none_numbered : (most : ℕ) → Numbered [] (finite.empty {X = Answer} {R = nat_cmp}) 0 0 most []
none_numbered most = record {
  once = tt;
  within = λ x a. absurd a;
  numbers = refl;
  in_budget = omega arith;
  queue_due = λ i q e. cc;
  kept_due = λ t a e. absurd (nothing_kept t a e);
}

-- what enters first, before its first turn
abbrev pub first_turns : Known → ModuleGraph → ℕ → ℕ → State → OpenLoads
first_turns known g most budget s = record (no_turns known g most budget) { state = s }

-- a store that gets nothing stays
pub filled_none : (store : Option JsrMetadataStore) → filled_store store [] ≡ store
filled_none None = refl
filled_none (Some own) = refl

module _ (registry : RegistryMeaning) (newest : NewestDependencyDateOptions) (known : Known) (g : ModuleGraph) (most budget : ℕ) (s : State) (new : OpenLoads) (is : Arranged registry newest (first_turns known g most budget s) new) where
  first_ready : IsReady (first_turns known g most budget s)
  first_ready = record { idle = refl; loads_fit = omega arith; files_fit = inl refl; contents_fit = inl refl; stored = tt }

  first_follows : Follows (untold registry newest) (first_turns known g most budget s) new
  first_follows = arranged_of (untold registry newest) (first_turns known g most budget s) new first_ready is

  first_read : IsHeld s → AreNamed (finite.get s.files) → AreRead (first_turns known g most budget s)
  first_read held named = record { held = held; named = named; ahead_read = All-nil (IsAheadRead (finite.get s.files)) }

  pub first_order : IsHeld s → AreNamed (finite.get s.files) → IsInOrder new
  first_order held named = follows_order (untold registry newest) (first_turns known g most budget s) new first_follows (none_numbered budget) (first_read held named)

  pub first_resting : IsResting new
  first_resting t waits = ap (λ (m : finite.FinMap nat_cmp Answer). finite.get m t) first_follows.kept ∙ get-empty {X = Answer} nat_cmp t

  -- what enters first begins a run
  pub first_building : (told : Option World) (means : Means) → registry ≡ means.registry → newest ≡ means.newest → IsHeld s → AreNamed (finite.get s.files) → (start : State) → s ≡ start → IsBuilding told means start new
  first_building told means same same_newest held named start at =
      follows_building means (first_turns known g most budget s) new (arranged_of means (first_turns known g most budget s) new first_ready now) told start 0 (first_read held named)
      (record {
        led = record { past = []; run = begins.0; store_is = filled_none known.store ∙ sym begins.1 };
        ahead = tt;
        wanted = tt;
      })
      refl (none_numbered budget) (λ x a among here. absurd among)
    where
      now : Arranged means.registry means.newest (first_turns known g most budget s) new
      now = subst (λ (r : RegistryMeaning). Arranged r means.newest (first_turns known g most budget s) new) same (subst (λ (d : NewestDependencyDateOptions). Arranged registry d (first_turns known g most budget s) new) same_newest is)

      begins : (run : Runs most known told means start [] 0 s) × (store_of most known told means start run ≡ known.store)
      begins = subst (λ (x : State). (run : Runs most known told means start [] 0 x) × (store_of most known told means start run ≡ known.store)) (sym at) (none, refl)

  pub first_taken : new.taken ≡ 0
  first_taken = first_follows.taken

  pub first_known : new.known ≡ known
  first_known = first_follows.known

  pub first_redirects : new.redirects ≡ most
  first_redirects = first_follows.redirects

  pub first_budget : new.max_loads ≡ budget
  first_budget = first_follows.budget

-- the same where roots and imports enter
module _ (registry : RegistryMeaning) (newest : NewestDependencyDateOptions) (known : Known) (g : ModuleGraph) (most budget : ℕ) (start : ResolvedStart) (new : OpenLoads) (is : Arranged registry newest (first_turns known g most budget (begun_over known g start)) new) where
  pub start_order : IsInOrder new
  start_order = first_order registry newest known g most budget (begun_over known g start) new is (held_over known g start) (named_over known g start)

  pub start_resting : IsResting new
  start_resting = first_resting registry newest known g most budget (begun_over known g start) new is

  pub start_building : (told : Option World) (means : Means) → registry ≡ means.registry → newest ≡ means.newest → IsBuilding told means (begun_over known g start) new
  start_building told means same same_newest =
      first_building registry newest known g most budget (begun_over known g start) new is told means same same_newest (held_over known g start) (named_over known g start) (begun_over known g start) refl

  pub start_taken : new.taken ≡ 0
  start_taken = first_taken registry newest known g most budget (begun_over known g start) new is

  pub start_known : new.known ≡ known
  start_known = first_known registry newest known g most budget (begun_over known g start) new is

  pub start_redirects : new.redirects ≡ most
  start_redirects = first_redirects registry newest known g most budget (begun_over known g start) new is

  pub start_budget : new.max_loads ≡ budget
  start_budget = first_budget registry newest known g most budget (begun_over known g start) new is

-- ---- phases

module _ {O : Type 0} where
  -- a build in which what is given has entered stays as it is
  begun_as : (directions : Directions) (old new : BuildState O) (p : Phase) → is_begun p ≡ true → EntersAt directions old new p → new ≡ old
  begun_as directions old new (Unbegun left) b e = cc
  begun_as directions old new Going b e = e
  begun_as directions old new Finished b e = e
  begun_as directions old new Ended b e = e

  pub enters_begun : (directions : Directions) (old new : BuildState O) → is_begun old.phase ≡ true → Enters directions old new → new ≡ old
  enters_begun directions old new b e = begun_as directions old new old.phase b e

  self_as : (directions : Directions) (b : BuildState O) (p : Phase) → is_begun p ≡ true → EntersAt directions b b p
  self_as directions b (Unbegun left) e = cc
  self_as directions b Going e = refl
  self_as directions b Finished e = refl
  self_as directions b Ended e = refl

  pub enters_self : (directions : Directions) (b : BuildState O) → is_begun b.phase ≡ true → Enters directions b b
  enters_self directions b e = self_as directions b b.phase e

  -- what entered a build in which nothing had
  pub enters_first : (directions : Directions) (old new : BuildState O) (left : LeftOver) → old.phase ≡ Unbegun left → Enters directions old new → EntersStart directions old new left
  enters_first directions old new left is e = subst (EntersAt directions old new) is e

  -- it enters turns that haven't begun
  pub starts_turns : (directions : Directions) (old new : BuildState O) (left : LeftOver) (known : Known) (g : ModuleGraph) (most budget : ℕ) → old.turns ≡ no_turns known g most budget → (e : EntersStart directions old new left) → Arranged directions.registry directions.newest (first_turns known g most budget (begun_over known g e.start)) new.turns
  starts_turns directions old new left known g most budget turns e =
      subst (λ (t : OpenLoads). TurnsWith directions.registry directions.newest t e.start new.turns) turns e.begun

  begun_by_phase : (directions : Directions) (old new : BuildState O) (p : Phase) → old.phase ≡ p → EntersAt directions old new p → is_begun new.phase ≡ true
  begun_by_phase directions old new (Unbegun left) is e = ap (λ (b : BuildState O). is_begun b.phase) e.same
  begun_by_phase directions old new Going is e = ap (λ (b : BuildState O). is_begun b.phase) e ∙ ap is_begun is
  begun_by_phase directions old new Finished is e = ap (λ (b : BuildState O). is_begun b.phase) e ∙ ap is_begun is
  begun_by_phase directions old new Ended is e = ap (λ (b : BuildState O). is_begun b.phase) e ∙ ap is_begun is

  pub entered_begun : (directions : Directions) (old new : BuildState O) → Enters directions old new → is_begun new.phase ≡ true
  entered_begun directions old new e = begun_by_phase directions old new old.phase refl e

-- ---- builds that go on

module _ {O : Type 0} where
  -- the first turn of a build begins
  pub record Fresh (directions : Directions) (old new : BuildState O) : Type 0 where
    pub left : LeftOver
    pub turns_are : old.turns ≡ no_turns old.turns.known old.turns.state.graph old.turns.redirects old.turns.max_loads
    pub enters : EntersStart directions old new left

  -- a build in which what is given has entered is as it was, or its first turn has begun
  pub data EntersHow (directions : Directions) (old new : BuildState O) : Type 0 where
    stood : new ≡ old → EntersHow directions old new
    fresh : Fresh directions old new → EntersHow directions old new

  how_at : (directions : Directions) (old new : BuildState O) (p : Phase) → old.phase ≡ p → IsGoing old → EntersAt directions old new p → EntersHow directions old new
  how_at directions old new (Unbegun left) is going e = fresh record { left = left; turns_are = going.start_first (ap is_begun is); enters = e }
  how_at directions old new Going is going e = stood e
  how_at directions old new Finished is going e = stood e
  how_at directions old new Ended is going e = stood e

  pub how : (directions : Directions) (old new : BuildState O) → IsGoing old → Enters directions old new → EntersHow directions old new
  how directions old new going e = how_at directions old new old.phase refl going e

  pub fresh_arranged : (directions : Directions) (old new : BuildState O) (f : Fresh directions old new) → Arranged directions.registry directions.newest (first_turns old.turns.known old.turns.state.graph old.turns.redirects old.turns.max_loads (begun_over old.turns.known old.turns.state.graph f.enters.start)) new.turns
  fresh_arranged directions old new f = starts_turns directions old new f.left old.turns.known old.turns.state.graph old.turns.redirects old.turns.max_loads f.turns_are f.enters

  order_how : (directions : Directions) (old new : BuildState O) → IsInOrder old.turns → EntersHow directions old new → IsInOrder new.turns
  order_how directions old new order (stood e) = subst (λ (b : BuildState O). IsInOrder b.turns) (sym e) order
  order_how directions old new order (fresh f) = start_order directions.registry directions.newest old.turns.known old.turns.state.graph old.turns.redirects old.turns.max_loads f.enters.start new.turns (fresh_arranged directions old new f)

  resting_how : (directions : Directions) (old new : BuildState O) → IsResting old.turns → EntersHow directions old new → IsResting new.turns
  resting_how directions old new rests (stood e) = subst (λ (b : BuildState O). IsResting b.turns) (sym e) rests
  resting_how directions old new rests (fresh f) = start_resting directions.registry directions.newest old.turns.known old.turns.state.graph old.turns.redirects old.turns.max_loads f.enters.start new.turns (fresh_arranged directions old new f)

  phase_how : (directions : Directions) (old new : BuildState O) → has_ended old.phase ≡ false → EntersHow directions old new → has_ended new.phase ≡ false
  phase_how directions old new goes (stood e) = ap (λ (b : BuildState O). has_ended b.phase) e ∙ goes
  phase_how directions old new goes (fresh f) = ap (λ (b : BuildState O). has_ended b.phase) f.enters.same

  -- a build goes on once what is given has entered
  pub going_entered : (directions : Directions) (b entered : BuildState O) → IsGoing b → Enters directions b entered → IsGoing entered
  going_entered directions b entered going e =
      let way = how directions b entered going e in
      record {
        not_ended = phase_how directions b entered going.not_ended way;
        in_order = order_how directions b entered going.in_order way;
        resting = resting_how directions b entered going.resting way;
        start_first = λ none. let begun = entered_begun directions b entered e in cc;
      }
