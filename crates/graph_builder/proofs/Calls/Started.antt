-- A build before its first turn.
use Rattle.std.proofs.Common.{◌≡◌, ◌∙◌, ℕ, List, [], ◌∷◌, true, false, Option, None, Some, refl, sym, ap, subst, arith, inl, inr, ◌⊎◌}
use Rattle.std.specs.Prelude.{Ok}
use Rattle.std.specs.List.{Contains}
use Rattle.std.proofs.lemmas.List.Elements.{All-nil}
use Rattle.std.specs.FinMap as finite
use Rattle.url.specs.Parts.{Parts}
use Rattle.source_io.specs.declared.types.Question.{Question}
use Rattle.source_io.specs.declared.types.World.{World}
use Rattle.source_sums.specs.Manifests.{KnownManifests}
use Rattle.source_sums.specs.Sums.{KnownSums}
use Rattle.import_records.specs.Target.{Resolving}
use Rattle.graph_dependencies.specs.declared.referrer_imports.ReferrerImports.{ReferrerImports}
use Rattle.graph_core.specs.declared.graph.ModuleGraph.{ModuleGraph}
use Rattle.module_slots.specs.declared.load.Load.{Load}
use Rattle.graph_core.specs.Graph.{has_slot}
use Rattle.graph_turns.specs.declared.unresolved_input.LeftOver.{LeftOver}
use Rattle.graph_turns.specs.declared.run.Run.TheVariants.{Only}
use Rattle.graph_turns.specs.declared.starting.ResolvedStart.{ResolvedStart}
use Rattle.graph_turns.specs.declared.state.State.{State}
use Rattle.graph_turns.specs.Machine.Entering.{resting_state}
use Rattle.graph_turns.specs.Machine.Known.{Known}
use Rattle.graph_turns.specs.Machine.Redirects.{HasNoCircle}
use Rattle.graph_turns.specs.Machine.Runs.{begun_over, told_for}
use Rattle.graph_turns.specs.Machine.Starting.{IsResolved, nothing_left}
use Rattle.turn_laws.specs.Promise.Keeps.{IsKeptBy}
use Rattle.graph_turns.specs.Promise.Runs.{IsRunOf, entry_in}
use Rattle.graph_turns.specs.Promise.Told.{Told}
use Rattle.build_options.specs.declared.options.BuildOptions.{BuildOptions}
use Rattle.open_loads.specs.Budget.Runs.{IsOver, Runs, store_of}
use Rattle.open_loads.specs.Budget.Runs.Runs.{none}
use Rattle.graph_builder.specs.Calls.Builds.{BuildsOn, GoesBy, IsRunning, IsTurning, IsWaiting}
use Rattle.graph_builder.specs.Calls.Driven.{EndsOver}
use Rattle.graph_builder.specs.Calls.Steps.{BuildState, first_phase, given_over, has_ended, is_finished, left_at, started, IsGoing}
use Rattle.open_loads.specs.Order.Entered.{no_turns}
use Rattle.build_options.specs.Telling.{known_in, without_locker}
use Rattle.open_loads.specs.Order.Asking.IsNext.{rests}
use Rattle.graph_builder.specs.Order.InFlight.{Matches}
use Rattle.open_loads.specs.Order.Means.{Directions, Means, untold}
use Rattle.open_loads.specs.Order.OpenLoads.{OpenLoads}
use Rattle.open_loads.specs.Order.Ordered.{Drives, IsAheadRead, IsBuilding, IsInFlight}
use Rattle.turn_laws.proofs.Promise.KeptTurns.{kept_begun, kept_run}
use Rattle.graph_builder.proofs.Calls.Entered.{begun_none, filled_none, held_resting, no_files, none_numbered, nothing_resolved}
use Rattle.graph_builder.proofs.Calls.Meant.{told_means}
use Rattle.graph_builder.proofs.Order.Drives.{drives_of}

-- what is left over at first is what is given
pub left_first : (roots : List Parts) (imports : List ReferrerImports) → left_at (first_phase roots imports) ≡ record { roots = roots; imports = imports }
left_first [] [] = refl
left_first [] (i ∷ is) = refl
left_first (r ∷ rs) imports = refl

not_ended_first : (roots : List Parts) (imports : List ReferrerImports) → has_ended (first_phase roots imports) ≡ false
not_ended_first [] [] = refl
not_ended_first [] (i ∷ is) = refl
not_ended_first (r ∷ rs) imports = refl

pub unfinished_first : (roots : List Parts) (imports : List ReferrerImports) → is_finished (first_phase roots imports) ≡ false
unfinished_first [] [] = refl
unfinished_first [] (i ∷ is) = refl
unfinished_first (r ∷ rs) imports = refl

-- where nothing is given, a run has begun
pub none_building : (told : Option World) (means : Means) (known : Known) (g : ModuleGraph) (most budget : ℕ) → IsBuilding told means (begun_over known g nothing_resolved) (no_turns known g most budget)
none_building told means known g most budget = record {
  past = [];
  put = 0;
  run = begins.0;
  store = filled_none known.store ∙ sym begins.1;
  next = rests refl;
  ahead = tt;
  wanted = tt;
  count = refl;
  kept_right = λ x a among. absurd among;
}
  where
    begins : (run : Runs most known told means (begun_over known g nothing_resolved) [] 0 (resting_state known g)) × (store_of most known told means (begun_over known g nothing_resolved) run ≡ known.store)
    begins = subst (λ (s : State). (run : Runs most known told means (begun_over known g nothing_resolved) [] 0 s) × (store_of most known told means (begun_over known g nothing_resolved) run ≡ known.store)) (begun_none known g) (none, refl)

pub nothing_is_resolved : (resolver : Option Resolving) → IsResolved resolver nothing_left nothing_resolved
nothing_is_resolved None = record { roots_are = refl; referrers_are = refl; imports_are = tt }
nothing_is_resolved (Some m) = record { roots_are = refl; referrers_are = refl; imports_are = refl }

module _ {O : Type 0} (known : Known) (g : ModuleGraph) (most budget : ℕ) (options : O) where
  waits_or_runs : (directions : Directions) (roots : List Parts) (imports : List ReferrerImports) → IsWaiting g (record { roots = roots; imports = imports }) (started known g roots imports most budget options) ⊎ IsRunning directions g (record { roots = roots; imports = imports }) (started known g roots imports most budget options)
  unfolding none_building
  waits_or_runs directions [] [] = inr record {
    begun = refl;
    start = nothing_resolved;
    resolved = nothing_is_resolved directions.resolving;
    building = none_building None (untold directions.registry directions.newest) known g most budget;
    asked_known = λ x among. absurd (none_among x among);
    deferred_asked = λ e among. absurd (none_among e among);
  }
    where
      none_among : {A : Type 0} (x : A) → Contains [] x → ⊥
      none_among x c = let low = c.1 in omega (arith, low)
  waits_or_runs directions [] (i ∷ is) = inl record { left_is = refl; turns_are = refl }
  waits_or_runs directions (r ∷ rs) imports = inl record { left_is = refl; turns_are = refl }

  -- what such a run keeps
  kept_none : (w : Told) → known ≡ w.known → IsRunOf w g nothing_left Only × IsKeptBy (told_for w Only) (entry_in w g nothing_left Only) (resting_state known g)
  kept_none w same =
      subst (λ (k : Known). IsRunOf w g nothing_left Only × IsKeptBy (told_for w Only) (entry_in w g nothing_left Only) (resting_state k g)) (sym same)
      (subst (λ (s : State). IsRunOf w g nothing_left s.run × IsKeptBy (told_for w s.run) (entry_in w g nothing_left s.run) s) (begun_none w.known g)
      (kept_run w g nothing_left (begun_over w.known g nothing_resolved) (kept_begun w g nothing_resolved)))

  waits_or_turns : (w : Told) → most ≡ w.world.max_redirects → known ≡ w.known → (roots : List Parts) (imports : List ReferrerImports) → IsWaiting g (record { roots = roots; imports = imports }) (started known g roots imports most budget options) ⊎ IsTurning w g (record { roots = roots; imports = imports }) (started known g roots imports most budget options)
  waits_or_turns w same knows [] [] = inr record {
    begun = refl;
    drives = subst (λ (k : Known). Drives w g.kind (begun_over k g nothing_resolved) (no_turns known g most budget)) knows
        (drives_of w g.kind (begun_over known g nothing_resolved) (no_turns known g most budget) same knows (none_building (Some w.world) (told_means w g.kind) known g most budget));
    is_run = (kept_none w knows).0;
    kept = (kept_none w knows).1;
  }
  waits_or_turns w same knows [] (i ∷ is) = inl record { left_is = refl; turns_are = refl }
  waits_or_turns w same knows (r ∷ rs) imports = inl record { left_is = refl; turns_are = refl }

-- no question was handed out, so none is in flight
pub none_in_flight : (t : OpenLoads) → t.taken ≡ 0 → (k : ℕ) → IsInFlight t k → ⊥
none_in_flight t e k f = let low = f.was_taken in omega (arith, low, e)

pub matches_none : (tickets : List (ℕ × Question)) (t : OpenLoads) → tickets ≡ [] → t.taken ≡ 0 → Matches tickets t
matches_none tickets t e zero_taken = subst (λ l. Matches l t) (sym e) record {
  flies = λ x q a. absurd a;
  open_still = λ x f. absurd (none_in_flight t zero_taken x f);
  once = tt;
}

module _ {O : Type 0} (known : Known) (g : ModuleGraph) (roots : List Parts) (imports : List ReferrerImports) (most budget : ℕ) (options : O) where
  pub started_going : IsGoing (started known g roots imports most budget options)
  started_going = record {
    not_ended = not_ended_first roots imports;
    in_order = record {
      fits = (refl, record { no_load = refl; no_file = refl; no_content = refl });
      numbered = none_numbered budget;
      held = held_resting known g;
      named = λ nv v e. absurd (no_files nv (Ok v) e);
      stored = tt;
      stage_read = tt;
      ahead_read = All-nil (IsAheadRead (finite.get (resting_state known g).files));
    };
    resting = λ t waits. cc;
    start_first = λ e. refl;
  }

  pub started_matches : (tickets : List (ℕ × Question)) → tickets ≡ [] → Matches tickets (no_turns known g most budget)
  started_matches tickets e = matches_none tickets (no_turns known g most budget) e refl

  pub started_builds : (directions : Directions) → HasNoCircle g → BuildsOn directions g (record { roots = roots; imports = imports }) (started known g roots imports most budget options)
  started_builds directions no_circle = record {
    no_circle = no_circle;
    phase = waits_or_runs known g most budget options directions roots imports;
    asked_once = λ s t x y f h free_s free_t at_s at_t same. absurd (none_in_flight (no_turns known g most budget) refl s f);
    open_stand = All-nil (λ (load : Load). has_slot g load.specifier ≡ true);
    whole = record { edges_lead = λ k m c e new. absurd (new e); no_circle = no_circle };
  }

module _ {O : Type 0} (known : Known) (g : ModuleGraph) (roots : List Parts) (imports : List ReferrerImports) (most budget : ℕ) (options : O) where
  pub started_goes : (w : Told) → HasNoCircle g → most ≡ w.world.max_redirects → known ≡ w.known → GoesBy w g (record { roots = roots; imports = imports }) (started known g roots imports most budget options)
  started_goes w no_circle same sums = record {
    no_circle = no_circle;
    phase = waits_or_turns known g most budget options w same sums roots imports;
    redirects_are = same;
    known_is = sums;
  }

-- a build that begins by options that were taken begins by these
pub started_as : {S L T U A R N C Q : Type 0} (remote : L → KnownSums) (manifests : L → KnownManifests) (g : ModuleGraph) (roots : List Parts) (imports : List ReferrerImports) (most : ℕ) (own options : BuildOptions S L T U A R N C Q) (b : BuildState (BuildOptions S L T U A R N C Q)) → own ≡ options → b ≡ started (known_in remote manifests own) g roots imports most own.max_loads (without_locker own) → b ≡ started (known_in remote manifests options) g roots imports most options.max_loads (without_locker options)
started_as {S} {L} {T} {U} {A} {R} {N} {C} {Q} remote manifests g roots imports most own options b same is =
    is ∙ ap (λ (o : BuildOptions S L T U A R N C Q). started (known_in remote manifests o) g roots imports most o.max_loads (without_locker o)) same

module _ {O : Type 0} (known : Known) (g : ModuleGraph) (roots : List Parts) (imports : List ReferrerImports) (most budget : ℕ) (options : O) where
  -- where a run from what entered first is over the budget, one from a start of what is given is
  pub started_over : (told : Option World) (resolver : Option Resolving) (means : Means) (b : BuildState O) → b ≡ started known g roots imports most budget options → EndsOver told resolver means b → (start : ResolvedStart) × IsResolved resolver (given_over roots imports) start × IsOver most known told means (begun_over known g start) budget
  started_over told resolver means b is over =
      let now : EndsOver told resolver means (started known g roots imports most budget options) = subst (EndsOver told resolver means) is over in
      (now.0, subst (λ (l : LeftOver). IsResolved resolver l now.0) (left_first roots imports) now.1, now.2)
