-- Answers kept until their turn: where the next turn begins, and what it keeps.
-- ---- what is due under a ticket
use Rattle.std.proofs.Common.{◌≡◌, ◌⊎◌, ℕ, suc, ◌+◌, ◌-◌, ◌≤◌, ◌<◌, List, [], ◌∷◌, ◌++◌, drop, length, Bool, true, false, Option, None, Some, refl, sym, ap, ◌∙◌, subst, inl, inr, ⊎_elim, arith, is_some, cond}
use Rattle.std.proofs.lemmas.Bool.{cases_eq, true≢false}
use Rattle.std.proofs.lemmas.List.Elements.{All-head, All-nil, All-tail}
use Rattle.std.specs.List.{All}
use Rattle.std.specs.FinMap as finite
use Rattle.std.specs.FinMap.{len-remove, empty_of_len, get-empty}
use Rattle.std.specs.Ordering.{nat_cmp}
use Rattle.std.specs.Cmp.{nat_cmp_total}
use Rattle.spec_base.specs.Options.{by_option}
use Rattle.semver_npm.specs.declared.package.PackageNv.{PackageNv}
use Rattle.source_io.specs.declared.types.Answer.{Answer}
use Rattle.source_io.specs.declared.types.Question.{Question}
use Rattle.source_io.specs.declared.types.World.{World}
use Rattle.registry_urls.specs.Packages.{version_file_url}
use Rattle.registry_files.specs.Answers.{FileAnswer}
use Rattle.registry_files.specs.Kept.{Versions}
use Rattle.url.specs.Parts.{Parts}
use Rattle.graph_errors.specs.declared.jsr_error.JsrLoadError.TheVariants.{UnsupportedManifestChecksum}
use Rattle.module_slots.specs.declared.load.Load.{Load}
use Rattle.graph_turns.specs.declared.question_of.Asked.{Asked}
use Rattle.graph_turns.specs.declared.later_content.LaterContent.{LaterContent}
use Rattle.graph_turns.specs.declared.manner.Manner.{Manner}
use Rattle.graph_turns.specs.declared.manner.Manner.TheVariants.{Asks as IsAskedAs, Reads as ReadsFirst, Unread, Unsupported}
use Rattle.graph_turns.specs.declared.next.Next.{Next}
use Rattle.graph_turns.specs.declared.next.Next.TheVariants.{Notes, Load as ALoad, Wanted, Restart, Item, Versions as AllVersions, Exports, Deferred, Waiting, Dynamic, Content, End}
use Rattle.graph_turns.specs.declared.outcome.Outcome.{Outcome}
use Rattle.graph_turns.specs.declared.registry.RegistryFile.{RegistryFile}
use Rattle.graph_turns.specs.declared.registry.RegistryFile.TheVariants.{Version}
use Rattle.graph_turns.specs.declared.run.Run.{Run}
use Rattle.graph_turns.specs.declared.state.State.{State}
use Rattle.graph_turns.specs.Machine.Entering.{stored}
use Rattle.graph_turns.specs.Machine.Files.{file_kept}
use Rattle.graph_turns.specs.Machine.Held.{AreNamed, IsHeld}
use Rattle.graph_turns.specs.Machine.Known.{Known}
use Rattle.graph_turns.specs.Machine.Next.{next_of}
use Rattle.graph_turns.specs.Machine.Outcomes.{failure_outcome}
use Rattle.graph_turns.specs.Machine.RegistryFiles.{wanted_kept}
use Rattle.graph_turns.specs.Machine.Runs.{known_for, setting_for}
use Rattle.graph_turns.specs.Machine.Turns.{failing, gone_on, manner_in}
use Rattle.graph_turns.specs.Machine.Waiting.{notes_added}
use Rattle.graph_turns.specs.Promise.Versions.{answer_in, is_stored, kept_of, version_question}
use Rattle.graph_turns.proofs.Entering.Files.{FilesStay, answer_there, files_kept, files_wanted, named_file, named_kept, named_wanted}
use Rattle.graph_turns.proofs.Entering.Held.{IsReadFor, held_file, held_next, held_taken, held_wanted}
use Rattle.graph_turns.proofs.Entering.Manners.{asked_read, reads_is}
use Rattle.graph_turns.proofs.Entering.Rested.{Stores, stores}
use Rattle.open_loads.specs.declared.turn_stage.Stage.{Stage}
use Rattle.open_loads.specs.declared.turn_stage.Stage.TheVariants.{Idle, Asks, Reads, Looks, Fills}
use Rattle.open_loads.specs.Budget.Runs.{BeganAgain, goes_on}
use Rattle.open_loads.specs.Budget.Runs.Runs.{failed as run_failed, read_stored as run_read_stored, looked_up_stored as run_looked_up_stored, went_on as run_went_on, began_again as run_began_again}
use Rattle.open_loads.specs.Order.Asking.{AreAhead, AreStored, AreWanted, IsNext, asked_question, through}
use Rattle.open_loads.specs.Order.Asking.IsNext.{rests, asks, reads, looks, fills}
use Rattle.open_loads.specs.Order.Unused.{Due, behind_first, content_dues, dues, dues_of, file_dues, files_behind, loads_behind}
use Rattle.open_loads.specs.Order.Means.{Means}
use Rattle.open_loads.specs.Order.OpenLoads.{OpenLoads, known_now}
use Rattle.open_loads.specs.Order.Numbered.{Arranged, GoesOn, GoesOnBy, ahead_all, begun_known, begun_so, content_begun, file_begun, late, late_by, later_all, load_begun, manner_at, read_so, stored_begun, stored_read, turn_begun, turn_begun_by, wanted_all}
use Rattle.open_loads.specs.Order.Numbered.Arranged.{stands, passes}
use Rattle.open_loads.specs.Order.Ordered.{FitsLoad, FitsTurn, IsAheadRead, IsBuilding, IsInOrder, IsNumbered, IsStageRead, Numbered, all_due}
use Rattle.open_loads.proofs.Order.Dues.{AreRight, adds_as, adds_none, adds_put, append_none, dues_short, length_both, numbered_as}
use Rattle.open_loads.proofs.Order.Placing.{PutAhead, PutLater, PutWanted, all_contents_put, all_files_put, all_loads_put}
pub use Rattle.open_loads.proofs.Order.Steps.{AreRead, Builds, Follows, IsStoodOn, IsStoodRead, Led, LedTo, Steps, ahead_more, ahead_over, due_idle, led_as, read_more}
use Rattle.open_loads.proofs.Order.Steps.{ahead_same, follows_after, others_at, steps_both}
use Rattle.open_loads.proofs.Order.Coming.{none_within, whole, LoadComes, load_next_is, load_comes, FileComes, file_next_is, ContentComes, content_next_is, is_past, FilesFit, ContentsFit, IsReady, is_wanted, is_content, no_file, no_content, no_ahead, failed_held, named_next, LookedUp, looked_up, files_come}

-- ---- a round

-- it stands, or a step passes
abbrev Went : Means → OpenLoads → Bool → OpenLoads → Type 0
Went means b true new = Follows means b new
Went means b false new = Steps means b new × IsReady new

abbrev WentOn : Means → OpenLoads → Bool × OpenLoads → Type 0
WentOn means b x = Went means b x.0 x.1

went_after : (means : Means) (a b : OpenLoads) (z : Bool) (new : OpenLoads) → Steps means a b → Went means b z new → Went means a z new
went_after means a b true new p f = follows_after means a b new p f
went_after means a b false new p s = (steps_both means a b new p s.0, s.1)

module _ (means : Means) where
  -- ---- steps that are no turn of a load, a file or a content

  -- what was noted is added
  notes_step : (b : OpenLoads) → IsReady b → next_of b.state ≡ Notes → Steps means b (record b { state = notes_added means.registry b.state }) × IsReady (record b { state = notes_added means.registry b.state })
  notes_step b ready comes = (
    record {
      known = refl;
      kept = refl;
      taken = refl;
      redirects = refl;
      budget = refl;
      added = refl;
      adds = adds_none b.kept b.taken b.max_loads b.queue b.queued (due_idle b);
      read = λ r. record { held = held_next means.registry means.newest b.state Notes r.held; named = r.named; ahead_read = r.ahead_read };
      builds = λ told start put r i. record {
        led = record {
          past = i.led.past;
          run = run_went_on i.led.run (ap goes_on comes) (sym (ap (gone_on means.registry means.newest b.state) comes));
          store_is = i.led.store_is;
        };
        ahead = ahead_same (known_now b) means.registry b.state (notes_added means.registry b.state) b.behind b.state.loads refl i.ahead;
        wanted = i.wanted;
      };
    },
    record {
      idle = ready.idle;
      loads_fit = ready.loads_fit;
      files_fit = inl (no_file b ready Notes comes refl);
      contents_fit = inl (no_content b ready Notes comes refl);
      stored = ready.stored;
    },
  )

  -- nothing is put
  abbrev bare : OpenLoads → OpenLoads
  bare b = record b { behind = []; wanted = []; later = [] }

  bare_step : (b : OpenLoads) (n : Next) → next_of b.state ≡ n → ((told : Option World) (start : State) (put : ℕ) → LedTo told means start put (bare b) → LedTo told means start put (record (bare b) { state = gone_on means.registry means.newest b.state n })) → Steps means (bare b) (record (bare b) { state = gone_on means.registry means.newest b.state n })
  bare_step b n comes led = record {
    known = refl;
    kept = refl;
    taken = refl;
    redirects = refl;
    budget = refl;
    added = refl;
    adds = adds_none b.kept b.taken b.max_loads b.queue b.queued [];
    read = λ r. record {
      held = held_next means.registry means.newest b.state n r.held;
      named = named_next means.registry means.newest b.state n r.named;
      ahead_read = All-nil (IsAheadRead (finite.get (gone_on means.registry means.newest b.state n).files));
    };
    builds = λ told start put r i. record { led = led told start put i.led; ahead = tt; wanted = tt };
  }

  bare_ready : (b : OpenLoads) (u : State) → b.stage ≡ Idle → IsReady (record (bare b) { state = u })
  bare_ready b u idle = record { idle = idle; loads_fit = omega arith; files_fit = inl refl; contents_fit = inl refl; stored = tt }

  bare_is : (b : OpenLoads) → b.behind ≡ [] → b.wanted ≡ [] → b.later ≡ [] → bare b ≡ b
  bare_is b e f g =
      sym (ap (λ (ps : List (Option (ℕ × Asked))). record b { behind = ps; wanted = []; later = [] }) e)
      ∙ sym (ap (λ (ws : List (Option (ℕ × Parts))). record b { wanted = ws; later = [] }) f)
      ∙ sym (ap (λ (ts : List ℕ). record b { later = ts }) g)

  past_step : (b : OpenLoads) → IsReady b → (n : Next) → next_of b.state ≡ n → is_past n ≡ true → is_wanted n ≡ false → is_content n ≡ false → ((told : Option World) (start : State) (put : ℕ) → LedTo told means start put (bare b) → LedTo told means start put (record (bare b) { state = gone_on means.registry means.newest b.state n })) → Steps means b (record b { state = gone_on means.registry means.newest b.state n }) × IsReady (record b { state = gone_on means.registry means.newest b.state n })
  past_step b ready n comes past unwanted uncontent led =
      subst (λ (x : OpenLoads). Steps means x (record x { state = gone_on means.registry means.newest x.state n }) × IsReady (record x { state = gone_on means.registry means.newest x.state n }))
      (bare_is b (no_ahead b ready n comes past) (no_file b ready n comes unwanted) (no_content b ready n comes uncontent))
      (bare_step b n comes led, bare_ready b (gone_on means.registry means.newest b.state n) ready.idle)

  on_led : (b : OpenLoads) (n : Next) → next_of b.state ≡ n → goes_on n ≡ true → (told : Option World) (start : State) (put : ℕ) → LedTo told means start put (bare b) → LedTo told means start put (record (bare b) { state = gone_on means.registry means.newest b.state n })
  on_led b n comes goes told start put l = record {
    past = l.past;
    run = run_went_on l.run (ap goes_on comes ∙ goes) (sym (ap (gone_on means.registry means.newest b.state) comes));
    store_is = l.store_is;
  }

  again_led : (b : OpenLoads) → next_of b.state ≡ Restart → (told : Option World) (start : State) (put : ℕ) → LedTo told means start put (bare b) → LedTo told means start put (record (bare b) { state = gone_on means.registry means.newest b.state Restart })
  again_led b comes told start put l = record { past = BeganAgain b.state.graph put ∷ l.past; run = run_began_again l.run comes refl; store_is = l.store_is }

  -- ---- loads

  -- the question of the first load was put ahead
  module _ (b : OpenLoads) (comes : next_of b.state ≡ ALoad) (load : Load) (left : List Load) (loads_are : b.state.loads ≡ load ∷ left) (no_files : b.wanted ≡ []) (no_contents : b.later ≡ []) where
    module _ (p : ℕ × Asked) (ps : List (Option (ℕ × Asked))) (places_are : b.behind ≡ Some p ∷ ps) (long : length left ≡ length ps) where
      asked_dues : due_idle b ≡ dues (setting_for b.state.run) (known_now b) (Asks p.0 p.1) ps b.state.loads b.wanted b.state.wanted b.later b.state.contents
      asked_dues =
          ap (λ (qs : List (Option (ℕ × Asked))). dues_of (known_now b) qs b.state.loads ++ others_at b b.wanted b.later) places_are
          ∙ ap (λ (ls : List Load). dues_of (known_now b) (Some p ∷ ps) ls ++ others_at b b.wanted b.later) loads_are
          ∙ sym (ap (λ (ls : List Load). dues (setting_for b.state.run) (known_now b) (Asks p.0 p.1) ps ls b.wanted b.state.wanted b.later b.state.contents) loads_are)

      ahead_was : AreAhead (known_now b) means.registry b.state b.behind b.state.loads → (manner_in (known_now b).sums means.registry b.state load ≡ IsAskedAs p.1) × AreAhead (known_now b) means.registry b.state ps left
      ahead_was a = subst (λ (qs : List (Option (ℕ × Asked))). AreAhead (known_now b) means.registry b.state qs (load ∷ left)) places_are (subst (AreAhead (known_now b) means.registry b.state b.behind) loads_are a)

      asked_follows : Follows means b (record b { behind = ps; stage = Asks p.0 p.1 })
      asked_follows = record {
        known = refl;
        kept = refl;
        taken = refl;
        redirects = refl;
        budget = refl;
        added = refl;
        fits = (comes, record { places = ap length loads_are ∙ ap suc long; no_file = no_files; no_content = no_contents });
        stored = subst (λ (ws : List (Option (ℕ × Parts))). AreStored (known_now b).store ws b.state.wanted) (sym no_files) tt;
        adds = adds_as b.kept b.taken b.max_loads refl asked_dues (adds_none b.kept b.taken b.max_loads b.queue b.queued (due_idle b));
        none_through = refl;
        read = λ r.
            let all : All (IsAheadRead (finite.get b.state.files)) (Some p ∷ ps) = subst (All (IsAheadRead (finite.get b.state.files))) places_are r.ahead_read in
            record {
              held = r.held;
              named = r.named;
              stage_read = All-head (IsAheadRead (finite.get b.state.files)) (Some p) ps all;
              ahead_read = All-tail (IsAheadRead (finite.get b.state.files)) (Some p) ps all;
            };
        builds = λ told start put r i. record {
          led = i.led;
          next = asks comes loads_are (ahead_was i.ahead).0;
          ahead = subst (λ (ls : List Load). AreAhead (known_now b) means.registry b.state ps (behind_first ls)) (sym loads_are) (ahead_was i.ahead).1;
          wanted = i.wanted;
        };
      }

    -- it wasn't
    module _ (idle : b.stage ≡ Idle) (ps : List (Option (ℕ × Asked))) (places_are : b.behind ≡ None ∷ ps) (long : length left ≡ length ps) where
      gap_dues : due_idle b ≡ dues_of (known_now b) ps left ++ others_at b b.wanted b.later
      gap_dues =
          ap (λ (qs : List (Option (ℕ × Asked))). dues_of (known_now b) qs b.state.loads ++ others_at b b.wanted b.later) places_are
          ∙ ap (λ (ls : List Load). dues_of (known_now b) (None ∷ ps) ls ++ others_at b b.wanted b.later) loads_are

      gap_ahead : AreAhead (known_now b) means.registry b.state b.behind b.state.loads → AreAhead (known_now b) means.registry b.state ps left
      gap_ahead a = subst (λ (qs : List (Option (ℕ × Asked))). AreAhead (known_now b) means.registry b.state qs (load ∷ left)) places_are (subst (AreAhead (known_now b) means.registry b.state b.behind) loads_are a)

      gap_read : All (IsAheadRead (finite.get b.state.files)) b.behind → All (IsAheadRead (finite.get b.state.files)) ps
      gap_read all = All-tail (IsAheadRead (finite.get b.state.files)) None ps (subst (All (IsAheadRead (finite.get b.state.files))) places_are all)

      gap_fits : FitsLoad (record b { behind = ps })
      gap_fits = record { places = ap length loads_are ∙ ap suc long; no_file = no_files; no_content = no_contents }

      none_stored : AreStored (known_now b).store b.wanted b.state.wanted
      none_stored = subst (λ (ws : List (Option (ℕ × Parts))). AreStored (known_now b).store ws b.state.wanted) (sym no_files) tt

      -- it is asked about now
      now_asked : (asked : Asked) → manner_at means.registry b load ≡ IsAskedAs asked → Follows means b (record b { behind = ps; stage = Asks b.queued asked; queue = b.queue ++ asked_question (known_now b) load asked ∷ []; queued = b.queued + 1 })
      now_asked asked m = record {
        known = refl;
        kept = refl;
        taken = refl;
        redirects = refl;
        budget = refl;
        added = refl;
        fits = (comes, record { places = gap_fits.places; no_file = no_files; no_content = no_contents });
        stored = none_stored;
        adds = adds_as b.kept b.taken b.max_loads (sym gap_dues)
            (sym (ap (λ (ls : List Load). dues (setting_for b.state.run) (known_now b) (Asks b.queued asked) ps ls b.wanted b.state.wanted b.later b.state.contents) loads_are))
            (adds_put b.kept b.taken b.max_loads b.queue b.queued [] (dues_of (known_now b) ps left ++ others_at b b.wanted b.later) (asked_question (known_now b) load asked));
        none_through = refl;
        read = λ r. record {
          held = r.held;
          named = r.named;
          stage_read = asked_read (known_now b).sums means.registry (finite.get b.state.files) load.specifier r.named load.context asked m;
          ahead_read = gap_read r.ahead_read;
        };
        builds = λ told start put r i. record {
          led = i.led;
          next = asks comes loads_are m;
          ahead = subst (λ (ls : List Load). AreAhead (known_now b) means.registry b.state ps (behind_first ls)) (sym loads_are) (gap_ahead i.ahead);
          wanted = i.wanted;
        };
      }

      -- the file of its version is asked about first
      now_read : (nv : PackageNv) → manner_at means.registry b load ≡ ReadsFirst nv → is_stored (known_now b).store (Version nv) ≡ false → Follows means b (record b { behind = ps; stage = Reads b.queued nv (version_file_url means.registry.url nv); queue = b.queue ++ version_question (setting_for b.state.run) means.registry (known_now b).manifests nv ∷ []; queued = b.queued + 1 })
      now_read nv m unknown = record {
        known = refl;
        kept = refl;
        taken = refl;
        redirects = refl;
        budget = refl;
        added = refl;
        fits = (comes, record { places = gap_fits.places; no_file = no_files; no_content = no_contents });
        stored = none_stored;
        adds = adds_as b.kept b.taken b.max_loads (sym gap_dues)
            (sym (ap (λ (ls : List Load). dues (setting_for b.state.run) (known_now b) (Reads b.queued nv (version_file_url means.registry.url nv)) ps ls b.wanted b.state.wanted b.later b.state.contents) loads_are))
            (adds_put b.kept b.taken b.max_loads b.queue b.queued [] (dues_of (known_now b) ps left ++ others_at b b.wanted b.later) (version_question (setting_for b.state.run) means.registry (known_now b).manifests nv));
        none_through = refl;
        read = λ r. record { held = r.held; named = r.named; stage_read = tt; ahead_read = gap_read r.ahead_read };
        builds = λ told start put r i. record {
          led = i.led;
          next = reads comes loads_are m unknown refl;
          ahead = subst (λ (ls : List Load). AreAhead (known_now b) means.registry b.state ps (behind_first ls)) (sym loads_are) (gap_ahead i.ahead);
          wanted = i.wanted;
        };
      }

      -- it fails
      module _ (outcome : Outcome) (fails : failing load (manner_at means.registry b load) ≡ Some outcome) where
        abbrev over : State
        over = stored b.redirects (record b.state { loads = left }) load outcome

        over_stores : Stores (record b.state { loads = left }) over
        over_stores = stores b.redirects (record b.state { loads = left }) load outcome

        over_loads : (added : List Load) × (over.loads ≡ left ++ added)
        over_loads = over_stores.grows

        over_known : known_for b.known over.run ≡ known_now b
        over_known = ap (known_for b.known) over_stores.run

        no_others : (u : State) → file_dues (setting_for u.run) (known_for b.known u.run) b.wanted u.wanted ++ content_dues (known_for b.known u.run) b.later u.contents ≡ []
        no_others u =
            ap (λ (ws : List (Option (ℕ × Parts))). file_dues (setting_for u.run) (known_for b.known u.run) ws u.wanted ++ content_dues (known_for b.known u.run) b.later u.contents) no_files
            ∙ ap (λ (ts : List ℕ). content_dues (known_for b.known u.run) ts u.contents) no_contents

        over_dues : due_idle (record b { behind = ps; state = over }) ≡ due_idle b
        over_dues =
            ap (λ (d : List Due). dues_of (known_for b.known over.run) ps over.loads ++ d) (no_others over)
            ∙ append_none (dues_of (known_for b.known over.run) ps over.loads)
            ∙ ap (λ (k : Known). dues_of k ps over.loads) over_known
            ∙ ap (dues_of (known_now b) ps) over_loads.1
            ∙ dues_short (known_now b) ps left over_loads.0 (omega (arith, long))
            ∙ sym (append_none (dues_of (known_now b) ps left))
            ∙ sym (ap (λ (d : List Due). dues_of (known_now b) ps left ++ d) (no_others b.state))
            ∙ sym gap_dues

        over_held : IsHeld b.state → IsHeld over
        over_held h =
            let before : IsHeld (record b.state { loads = left }) × IsReadFor (record b.state { loads = left }) load = held_taken b.state (record b.state { loads = left }) load (whole b.state load left loads_are) h in
            failed_held b.redirects (record b.state { loads = left }) load (manner_at means.registry b load) outcome fails before.0 before.1

        fails_step : Steps means b (record b { behind = ps; state = over }) × IsReady (record b { behind = ps; state = over })
        fails_step = (
          record {
            known = refl;
            kept = refl;
            taken = refl;
            redirects = refl;
            budget = refl;
            added = refl;
            adds = adds_as b.kept b.taken b.max_loads refl (sym over_dues) (adds_none b.kept b.taken b.max_loads b.queue b.queued (due_idle b));
            read = λ r. record {
              held = over_held r.held;
              named = subst (λ (v : Versions). AreNamed (finite.get v)) (sym over_stores.files) r.named;
              ahead_read = subst (λ (v : Versions). All (IsAheadRead (finite.get v)) ps) (sym over_stores.files) (gap_read r.ahead_read);
            };
            builds = λ told start put r i. record {
              led = record {
                past = i.led.past;
                run = run_failed {rest = record b.state { loads = left }} i.led.run comes (whole b.state load left loads_are) fails refl;
                store_is = i.led.store_is;
              };
              ahead = subst (λ (k : Known). AreAhead k means.registry over ps over.loads) (sym over_known)
                  (subst (AreAhead (known_now b) means.registry over ps) (sym over_loads.1) (ahead_over (known_now b) means.registry b.state over ps left over_loads.0 over_stores.files (gap_ahead i.ahead)));
              wanted = subst (λ (ws : List (Option (ℕ × Parts))). AreWanted (known_for b.known over.run) means.registry ws over.wanted) (sym no_files) tt;
            };
          },
          record {
            idle = idle;
            loads_fit = let g : length over.loads ≡ length (left ++ over_loads.0) = ap length over_loads.1 in let m = length_both left over_loads.0 in omega (arith, g, m, long);
            files_fit = inl no_files;
            contents_fit = inl no_contents;
            stored = subst (λ (ws : List (Option (ℕ × Parts))). AreStored (known_for b.known over.run).store ws over.wanted) (sym no_files) tt;
          },
        )

  -- the file of its version stands in the given store, and is read
  module _ (b : OpenLoads) (comes : next_of b.state ≡ ALoad) (load : Load) (left : List Load) (loads_are : b.state.loads ≡ load ∷ left) (nv : PackageNv) (answer : FileAnswer) (m : manner_at means.registry b load ≡ ReadsFirst nv) (there : answer_in (known_now b).store (Version nv) ≡ Some answer) where
    stays : FilesStay (finite.get b.state.files) (finite.get (file_kept b.state nv (kept_of means.registry nv answer)).files)
    stays = files_kept b.state nv (kept_of means.registry nv answer)

    read_step : Steps means b (stored_read means.registry b nv answer)
    read_step = record {
      known = refl;
      kept = refl;
      taken = refl;
      redirects = refl;
      budget = refl;
      added = refl;
      adds = adds_none b.kept b.taken b.max_loads b.queue b.queued (due_idle b);
      read = λ r. record {
        held = held_file b.state nv (kept_of means.registry nv answer) r.held;
        named = named_file b.state nv (kept_of means.registry nv answer) r.named (named_kept means.registry nv answer);
        ahead_read = read_more b.state (file_kept b.state nv (kept_of means.registry nv answer)) b.behind stays r.ahead_read;
      };
      builds = λ told start put r i. record {
        led = record {
          past = i.led.past;
          run = run_read_stored {rest = record b.state { loads = left }} i.led.run comes (whole b.state load left loads_are) m there refl;
          store_is = i.led.store_is;
        };
        ahead = ahead_more (known_now b) means.registry b.state (file_kept b.state nv (kept_of means.registry nv answer)) b.behind b.state.loads stays r.held.loads i.ahead;
        wanted = i.wanted;
      };
    }

    -- and isn't read again
    never_again : (again : PackageNv) → manner_at means.registry (stored_read means.registry b nv answer) load ≡ ReadsFirst again → ⊥
    never_again again e =
        let first = reads_is (known_now b).sums means.registry (finite.get b.state.files) load.specifier load.context nv m in
        let second = reads_is (known_now b).sums means.registry (finite.get (file_kept b.state nv (kept_of means.registry nv answer)).files) load.specifier load.context again e in
        let both : Some nv ≡ Some again = sym first.names ∙ second.names in
        let same : nv ≡ again = cc in
        let now : finite.get (file_kept b.state nv (kept_of means.registry nv answer)).files nv ≡ Some (kept_of means.registry nv answer) = answer_there b.state.files nv (kept_of means.registry nv answer) first.unknown in
        let gone = subst (λ (k : PackageNv). finite.get (file_kept b.state nv (kept_of means.registry nv answer)).files k ≡ None) (sym same) second.unknown in
        cc

  -- by how the turn of the first load goes, behind what was read in the given store
  module _ (b : OpenLoads) (comes : next_of b.state ≡ ALoad) (load : Load) (left : List Load) (loads_are : b.state.loads ≡ load ∷ left) (no_files : b.wanted ≡ []) (no_contents : b.later ≡ []) (idle : b.stage ≡ Idle) (ps : List (Option (ℕ × Asked))) (places_are : b.behind ≡ None ∷ ps) (long : length left ≡ length ps) where
    by_known : (m : Manner) → manner_at means.registry b load ≡ m → ((nv : PackageNv) → m ≡ ReadsFirst nv → is_stored (known_now b).store (Version nv) ≡ false) → WentOn means b (begun_known means.registry (record b { behind = ps }) load left m)
    by_known (IsAskedAs asked) m unknown = now_asked b comes load left loads_are no_files no_contents idle ps places_are long asked m
    by_known (ReadsFirst nv) m unknown = now_read b comes load left loads_are no_files no_contents idle ps places_are long nv m (unknown nv refl)
    by_known (Unread name e) m unknown = fails_step b comes load left loads_are no_files no_contents idle ps places_are long (failure_outcome load.context name e) (ap (failing load) m)
    by_known Unsupported m unknown = fails_step b comes load left loads_are no_files no_contents idle ps places_are long (failure_outcome load.context load.specifier UnsupportedManifestChecksum) (ap (failing load) m)

  module _ (b : OpenLoads) (comes : next_of b.state ≡ ALoad) (load : Load) (left : List Load) (loads_are : b.state.loads ≡ load ∷ left) (no_files : b.wanted ≡ []) (no_contents : b.later ≡ []) (idle : b.stage ≡ Idle) (ps : List (Option (ℕ × Asked))) (places_are : b.behind ≡ None ∷ ps) (long : length left ≡ length ps) where
    by_store : (nv : PackageNv) → manner_at means.registry b load ≡ ReadsFirst nv → (o : Option FileAnswer) → answer_in (known_now b).store (Version nv) ≡ o → WentOn means b (read_so means.registry (record b { behind = ps }) load left nv o)
    by_store nv m None e = now_read b comes load left loads_are no_files no_contents idle ps places_are long nv m (ap is_some e)
    by_store nv m (Some answer) e =
        let at : OpenLoads = stored_read means.registry b nv answer in
        let began : Bool × OpenLoads = begun_known means.registry (record at { behind = ps }) load left (manner_at means.registry at load) in
        went_after means b at began.0 began.1 (read_step b comes load left loads_are nv answer m e)
        (by_known at (load_comes b.state at.state refl refl comes) load left loads_are no_files no_contents idle ps places_are long (manner_at means.registry at load) refl (λ again is. absurd (never_again b comes load left loads_are nv answer m e again is)))

    by_manner : (m : Manner) → manner_at means.registry b load ≡ m → WentOn means b (begun_so means.registry (record b { behind = ps }) load left m)
    by_manner (IsAskedAs asked) m = by_known b comes load left loads_are no_files no_contents idle ps places_are long (IsAskedAs asked) m (λ nv is. absurd (let wrong : IsAskedAs asked ≡ ReadsFirst nv = is in cc))
    by_manner (ReadsFirst nv) m = by_store nv m (answer_in (known_now b).store (Version nv)) refl
    by_manner (Unread name e) m = by_known b comes load left loads_are no_files no_contents idle ps places_are long (Unread name e) m (λ nv is. absurd (let wrong : Unread name e ≡ ReadsFirst nv = is in cc))
    by_manner Unsupported m = by_known b comes load left loads_are no_files no_contents idle ps places_are long Unsupported m (λ nv is. absurd (let wrong : Unsupported ≡ ReadsFirst nv = is in cc))

    -- the turn of the first load begins whose question wasn't put ahead
    late_went : WentOn means b (late means.registry (record b { behind = ps }))
    late_went = subst (WentOn means b) (sym (ap (late_by means.registry (record b { behind = ps })) loads_are)) (by_manner (manner_at means.registry b load) refl)

  -- all loads have their places, and the first one's turn begins
  load_round : (b : OpenLoads) → next_of b.state ≡ ALoad → b.stage ≡ Idle → length b.behind ≡ length b.state.loads → b.wanted ≡ [] → b.later ≡ [] → (places : List (Option (ℕ × Asked))) → b.behind ≡ places → WentOn means b (load_begun means.registry b places)
  load_round b comes idle full no_files no_contents places is = by (load_next_is b.state comes) places is
    where
      by : (l : LoadComes b.state) (ps : List (Option (ℕ × Asked))) → b.behind ≡ ps → WentOn means b (load_begun means.registry b ps)
      by l [] at = absurd (let m : length b.behind ≡ 0 = ap length at in let n : length b.state.loads ≡ suc (length l.left) = ap length l.are in omega (arith, m, n, full))
      by l (Some p ∷ ps) at =
          asked_follows b comes l.load l.left l.are no_files no_contents p ps at (let m : length b.behind ≡ suc (length ps) = ap length at in let n : length b.state.loads ≡ suc (length l.left) = ap length l.are in omega (arith, m, n, full))
      by l (None ∷ ps) at =
          late_went b comes l.load l.left l.are no_files no_contents idle ps at (let m : length b.behind ≡ suc (length ps) = ap length at in let n : length b.state.loads ≡ suc (length l.left) = ap length l.are in omega (arith, m, n, full))

  -- ---- files of the registry

  module _ (b : OpenLoads) (comes : next_of b.state ≡ Wanted) (idle : b.stage ≡ Idle) (no_places : b.behind ≡ []) (no_contents : b.later ≡ []) (file : RegistryFile) (files : List RegistryFile) (files_are : b.state.wanted ≡ file ∷ files) where
    -- its question was put
    module _ (p : ℕ × Parts) (ps : List (Option (ℕ × Parts))) (places_are : b.wanted ≡ Some p ∷ ps) (long : length files ≡ length ps) where
      looks_dues : due_idle b ≡ dues (setting_for b.state.run) (known_now b) (Looks p.0 p.1) b.behind b.state.loads ps b.state.wanted b.later b.state.contents
      looks_dues =
          ap (λ (qs : List (Option (ℕ × Asked))). dues_of (known_now b) qs b.state.loads ++ others_at b b.wanted b.later) no_places
          ∙ ap (λ (ws : List (Option (ℕ × Parts))). file_dues (setting_for b.state.run) (known_now b) ws b.state.wanted ++ content_dues (known_now b) b.later b.state.contents) places_are
          ∙ ap (λ (fs : List RegistryFile). file_dues (setting_for b.state.run) (known_now b) (Some p ∷ ps) fs ++ content_dues (known_now b) b.later b.state.contents) files_are
          ∙ sym (ap (λ (fs : List RegistryFile). dues (setting_for b.state.run) (known_now b) (Looks p.0 p.1) [] b.state.loads ps fs b.later b.state.contents) files_are)
          ∙ sym (ap (λ (qs : List (Option (ℕ × Asked))). dues (setting_for b.state.run) (known_now b) (Looks p.0 p.1) qs b.state.loads ps b.state.wanted b.later b.state.contents) no_places)

      was_wanted : AreWanted (known_now b) means.registry b.wanted b.state.wanted → AreWanted (known_now b) means.registry (Some p ∷ ps) (file ∷ files)
      was_wanted a = subst (λ (ws : List (Option (ℕ × Parts))). AreWanted (known_now b) means.registry ws (file ∷ files)) places_are (subst (AreWanted (known_now b) means.registry b.wanted) files_are a)

      looks_follows : AreStored (known_now b).store b.wanted b.state.wanted → Follows means b (record b { wanted = ps; stage = Looks p.0 p.1 })
      looks_follows stored_are = record {
        known = refl;
        kept = refl;
        taken = refl;
        redirects = refl;
        budget = refl;
        added = refl;
        fits = (comes, record { no_load = no_places; places = ap length files_are ∙ ap suc long; no_content = no_contents });
        stored = subst (λ (fs : List RegistryFile). AreStored (known_now b).store ps (behind_first fs)) (sym files_are)
            (subst (λ (ws : List (Option (ℕ × Parts))). AreStored (known_now b).store ws (file ∷ files)) places_are (subst (AreStored (known_now b).store b.wanted) files_are stored_are));
        adds = adds_as b.kept b.taken b.max_loads refl looks_dues (adds_none b.kept b.taken b.max_loads b.queue b.queued (due_idle b));
        none_through = refl;
        read = λ r. record { held = r.held; named = r.named; stage_read = tt; ahead_read = r.ahead_read };
        builds = λ told start put r i.
            let w : AreWanted (known_now b) means.registry (Some p ∷ ps) (file ∷ files) = was_wanted i.wanted in
            record {
              led = i.led;
              next = looks comes files_are w.0 w.1;
              ahead = i.ahead;
              wanted = subst (λ (fs : List RegistryFile). AreWanted (known_now b) means.registry ps (behind_first fs)) (sym files_are) w.2;
            };
      }

    -- its answer stands in the given store
    module _ (ps : List (Option (ℕ × Parts))) (places_are : b.wanted ≡ None ∷ ps) (long : length files ≡ length ps) (no_note : b.state.notes ≡ []) (no_load : b.state.loads ≡ []) (answer : FileAnswer) (there : answer_in (known_now b).store file ≡ Some answer) where
      abbrev found : State
      found = wanted_kept means.registry b.state answer

      found_is : LookedUp b.state files found
      found_is = looked_up means.registry b.state answer file files files_are

      found_known : known_for b.known found.run ≡ known_now b
      found_known = ap (known_for b.known) found_is.run

      dues_by : (u : State) (ws : List (Option (ℕ × Parts))) → dues_of (known_for b.known u.run) b.behind u.loads ++ (file_dues (setting_for u.run) (known_for b.known u.run) ws u.wanted ++ content_dues (known_for b.known u.run) b.later u.contents) ≡ file_dues (setting_for u.run) (known_for b.known u.run) ws u.wanted
      dues_by u ws =
          ap (λ (qs : List (Option (ℕ × Asked))). dues_of (known_for b.known u.run) qs u.loads ++ (file_dues (setting_for u.run) (known_for b.known u.run) ws u.wanted ++ content_dues (known_for b.known u.run) b.later u.contents)) no_places
          ∙ ap (λ (ts : List ℕ). file_dues (setting_for u.run) (known_for b.known u.run) ws u.wanted ++ content_dues (known_for b.known u.run) ts u.contents) no_contents
          ∙ append_none (file_dues (setting_for u.run) (known_for b.known u.run) ws u.wanted)

      found_dues : due_idle (record b { wanted = ps; state = found }) ≡ due_idle b
      found_dues =
          dues_by found ps
          ∙ ap (λ (r : Run). file_dues (setting_for r) (known_for b.known r) ps found.wanted) found_is.run
          ∙ ap (file_dues (setting_for b.state.run) (known_now b) ps) found_is.wanted
          ∙ sym (ap (file_dues (setting_for b.state.run) (known_now b) (None ∷ ps)) files_are)
          ∙ sym (ap (λ (ws : List (Option (ℕ × Parts))). file_dues (setting_for b.state.run) (known_now b) ws b.state.wanted) places_are)
          ∙ sym (dues_by b.state b.wanted)

      were_wanted : AreWanted (known_now b) means.registry b.wanted b.state.wanted → (is_stored (known_now b).store file ≡ true) × AreWanted (known_now b) means.registry ps files
      were_wanted a = subst (λ (ws : List (Option (ℕ × Parts))). AreWanted (known_now b) means.registry ws (file ∷ files)) places_are (subst (AreWanted (known_now b) means.registry b.wanted) files_are a)

      were_stored : AreStored (known_now b).store b.wanted b.state.wanted → (is_stored (known_now b).store file ≡ true) × AreStored (known_now b).store ps files
      were_stored a = subst (λ (ws : List (Option (ℕ × Parts))). AreStored (known_now b).store ws (file ∷ files)) places_are (subst (AreStored (known_now b).store b.wanted) files_are a)

      stored_step : AreStored (known_now b).store b.wanted b.state.wanted → Steps means b (record b { wanted = ps; state = found }) × IsReady (record b { wanted = ps; state = found })
      stored_step stored_are = (
        record {
          known = refl;
          kept = refl;
          taken = refl;
          redirects = refl;
          budget = refl;
          added = refl;
          adds = adds_as b.kept b.taken b.max_loads refl (sym found_dues) (adds_none b.kept b.taken b.max_loads b.queue b.queued (due_idle b));
          read = λ r. record {
            held = held_wanted means.registry b.state answer r.held;
            named = named_wanted means.registry b.state answer r.named;
            ahead_read = read_more b.state found b.behind (files_wanted means.registry b.state answer) r.ahead_read;
          };
          builds = λ told start put r i. record {
            led = record {
              past = i.led.past;
              run = run_looked_up_stored i.led.run comes files_are there refl;
              store_is = i.led.store_is;
            };
            ahead = subst (λ (qs : List (Option (ℕ × Asked))). AreAhead (known_for b.known found.run) means.registry found qs found.loads) (sym no_places) tt;
            wanted = subst (λ (k : Known). AreWanted k means.registry ps found.wanted) (sym found_known) (subst (AreWanted (known_now b) means.registry ps) (sym found_is.wanted) (were_wanted i.wanted).1);
          };
        },
        record {
          idle = idle;
          loads_fit = subst (λ (qs : List (Option (ℕ × Asked))). length qs ≤ length found.loads) (sym no_places) (omega arith);
          files_fit = ⊎_elim inl (λ f. inr (record { comes = f.0; fit = f.1 })) (files_come b.state found ps files found_is no_note no_load long);
          contents_fit = inl no_contents;
          stored = subst (λ (k : Known). AreStored k.store ps found.wanted) (sym found_known) (subst (AreStored (known_now b).store ps) (sym found_is.wanted) (were_stored stored_are).1);
        },
      )

    by_answer : (ps : List (Option (ℕ × Parts))) → b.wanted ≡ None ∷ ps → length files ≡ length ps → b.state.notes ≡ [] → b.state.loads ≡ [] → AreStored (known_now b).store b.wanted b.state.wanted → (o : Option FileAnswer) → answer_in (known_now b).store file ≡ o → WentOn means b (by_option o (true, record b { wanted = ps }) (λ (answer : FileAnswer). (false, record b { wanted = ps; state = wanted_kept means.registry b.state answer })))
    by_answer ps at long none none_open stored_are None e =
        let known : is_stored (known_now b).store file ≡ true = (subst (λ (ws : List (Option (ℕ × Parts))). AreStored (known_now b).store ws (file ∷ files)) at (subst (AreStored (known_now b).store b.wanted) files_are stored_are)).0 in
        absurd (true≢false (sym known ∙ ap is_some e))
    by_answer ps at long none none_open stored_are (Some answer) e = stored_step ps at long none none_open answer e stored_are

  -- all files have their places, and the first one's turn begins
  file_round : (b : OpenLoads) → next_of b.state ≡ Wanted → b.stage ≡ Idle → length b.wanted ≡ length b.state.wanted → b.behind ≡ [] → b.later ≡ [] → AreStored (known_now b).store b.wanted b.state.wanted → (places : List (Option (ℕ × Parts))) → b.wanted ≡ places → WentOn means b (file_begun means.registry b places)
  file_round b comes idle full no_places no_contents stored_are places is = by (file_next_is b.state comes) places is
    where
      by : (f : FileComes b.state) (ps : List (Option (ℕ × Parts))) → b.wanted ≡ ps → WentOn means b (file_begun means.registry b ps)
      by f [] at = absurd (let m : length b.wanted ≡ 0 = ap length at in let n : length b.state.wanted ≡ suc (length f.files) = ap length f.are in omega (arith, m, n, full))
      by f (Some p ∷ ps) at =
          looks_follows b comes idle no_places no_contents f.file f.files f.are p ps at (let m : length b.wanted ≡ suc (length ps) = ap length at in let n : length b.state.wanted ≡ suc (length f.files) = ap length f.are in omega (arith, m, n, full)) stored_are
      by f (None ∷ ps) at =
          subst (λ (fs : List RegistryFile). WentOn means b (stored_begun means.registry (record b { wanted = ps }) fs)) (sym f.are)
          (by_answer b comes idle no_places no_contents f.file f.files f.are ps at (let m : length b.wanted ≡ suc (length ps) = ap length at in let n : length b.state.wanted ≡ suc (length f.files) = ap length f.are in omega (arith, m, n, full)) f.no_note f.no_load stored_are (answer_in (known_now b).store f.file) refl)

  -- ---- contents, and the end

  module _ (b : OpenLoads) (comes : next_of b.state ≡ Content) (no_places : b.behind ≡ []) (no_files : b.wanted ≡ []) (l : LaterContent) (ls : List LaterContent) (contents_are : b.state.contents ≡ l ∷ ls) (t : ℕ) (ts : List ℕ) (tickets_are : b.later ≡ t ∷ ts) (long : length ls ≡ length ts) where
    content_all : due_idle b ≡ dues (setting_for b.state.run) (known_now b) (Fills t) b.behind b.state.loads b.wanted b.state.wanted ts b.state.contents
    content_all =
        ap (λ (qs : List (Option (ℕ × Asked))). dues_of (known_now b) qs b.state.loads ++ others_at b b.wanted b.later) no_places
        ∙ ap (λ (ws : List (Option (ℕ × Parts))). file_dues (setting_for b.state.run) (known_now b) ws b.state.wanted ++ content_dues (known_now b) b.later b.state.contents) no_files
        ∙ ap (λ (n : List ℕ). content_dues (known_now b) n b.state.contents) tickets_are
        ∙ ap (content_dues (known_now b) (t ∷ ts)) contents_are
        ∙ sym (ap (dues (setting_for b.state.run) (known_now b) (Fills t) [] b.state.loads [] b.state.wanted ts) contents_are)
        ∙ sym (ap (λ (ws : List (Option (ℕ × Parts))). dues (setting_for b.state.run) (known_now b) (Fills t) [] b.state.loads ws b.state.wanted ts b.state.contents) no_files)
        ∙ sym (ap (λ (qs : List (Option (ℕ × Asked))). dues (setting_for b.state.run) (known_now b) (Fills t) qs b.state.loads b.wanted b.state.wanted ts b.state.contents) no_places)

    content_follows : AreStored (known_now b).store b.wanted b.state.wanted → Follows means b (record b { stage = Fills t; later = ts })
    content_follows stored_are = record {
      known = refl;
      kept = refl;
      taken = refl;
      redirects = refl;
      budget = refl;
      added = refl;
      fits = (comes, record { no_load = no_places; no_file = no_files; places = ap length contents_are ∙ ap suc long });
      stored = stored_are;
      adds = adds_as b.kept b.taken b.max_loads refl content_all (adds_none b.kept b.taken b.max_loads b.queue b.queued (due_idle b));
      none_through = refl;
      read = λ r. record { held = r.held; named = r.named; stage_read = tt; ahead_read = r.ahead_read };
      builds = λ told start put r i. record {
        led = i.led;
        next = fills comes contents_are;
        ahead = i.ahead;
        wanted = i.wanted;
      };
    }

  content_round : (b : OpenLoads) → next_of b.state ≡ Content → length b.later ≡ length b.state.contents → b.behind ≡ [] → b.wanted ≡ [] → AreStored (known_now b).store b.wanted b.state.wanted → (tickets : List ℕ) → b.later ≡ tickets → Follows means b (content_begun b tickets)
  content_round b comes full no_places no_files stored_are tickets is = by (content_next_is b.state comes) tickets is
    where
      by : (c : ContentComes b.state) (ts : List ℕ) → b.later ≡ ts → Follows means b (content_begun b ts)
      by c [] at = absurd (let m : length b.later ≡ 0 = ap length at in let n : length b.state.contents ≡ suc (length c.contents) = ap length c.are in omega (arith, m, n, full))
      by c (t ∷ ts) at =
          content_follows b comes no_places no_files c.content c.contents c.are t ts at (let m : length b.later ≡ suc (length ts) = ap length at in let n : length b.state.contents ≡ suc (length c.contents) = ap length c.are in omega (arith, m, n, full)) stored_are

  -- nothing is left
  end_follows : (b : OpenLoads) → IsReady b → next_of b.state ≡ End → Follows means b b
  end_follows b ready comes = record {
    known = refl;
    kept = refl;
    taken = refl;
    redirects = refl;
    budget = refl;
    added = refl;
    fits = subst (FitsTurn b) (sym ready.idle) (comes, record { no_load = no_ahead b ready End comes refl; no_file = no_file b ready End comes refl; no_content = no_content b ready End comes refl });
    stored = subst (λ (s : Stage). AreStored (known_now b).store b.wanted (files_behind s b.state.wanted)) (sym ready.idle) ready.stored;
    adds = adds_as b.kept b.taken b.max_loads refl (sym (ap (λ (s : Stage). dues (setting_for b.state.run) (known_now b) s b.behind b.state.loads b.wanted b.state.wanted b.later b.state.contents) ready.idle)) (adds_none b.kept b.taken b.max_loads b.queue b.queued (due_idle b));
    none_through = ap through ready.idle;
    read = λ r. record { held = r.held; named = r.named; stage_read = subst (IsStageRead (finite.get b.state.files)) (sym ready.idle) tt; ahead_read = r.ahead_read };
    builds = λ told start put r i. record {
      led = i.led;
      next = subst (IsNext told (known_now b) means.registry b.state) (sym ready.idle) (rests comes);
      ahead = subst (λ (s : Stage). AreAhead (known_now b) means.registry b.state b.behind (loads_behind s b.state.loads)) (sym ready.idle) i.ahead;
      wanted = subst (λ (s : Stage). AreWanted (known_now b) means.registry b.wanted (files_behind s b.state.wanted)) (sym ready.idle) i.wanted;
    };
  }

  -- ---- by what comes next

  loads_round : (b : OpenLoads) → IsReady b → next_of b.state ≡ ALoad → WentOn means b (turn_begun_by means.registry means.newest b ALoad)
  loads_round b ready comes =
      let new : OpenLoads = ahead_all means.registry (drop (length b.behind) b.state.loads) b in
      let p : PutAhead means (length b.state.loads) b new = all_loads_put means b ready.loads_fit in
      let began : Bool × OpenLoads = load_begun means.registry new new.behind in
      went_after means b new began.0 began.1 p.steps
      (load_round new (ap next_of p.state ∙ comes) (p.stage ∙ ready.idle) (p.long ∙ sym (ap (λ (s : State). length s.loads) p.state)) (p.wanted ∙ no_file b ready ALoad comes refl) (p.later ∙ no_content b ready ALoad comes refl) new.behind refl)

  wanted_fit : (b : OpenLoads) → IsReady b → length b.wanted ≤ length b.state.wanted
  wanted_fit b ready = ⊎_elim (λ e. subst (λ (ws : List (Option (ℕ × Parts))). length ws ≤ length b.state.wanted) (sym e) (omega arith)) (λ (f : FilesFit b). f.fit) ready.files_fit

  later_fit : (b : OpenLoads) → IsReady b → length b.later ≤ length b.state.contents
  later_fit b ready = ⊎_elim (λ e. subst (λ (ts : List ℕ). length ts ≤ length b.state.contents) (sym e) (omega arith)) (λ (f : ContentsFit b). f.fit) ready.contents_fit

  files_round : (b : OpenLoads) → IsReady b → next_of b.state ≡ Wanted → WentOn means b (turn_begun_by means.registry means.newest b Wanted)
  files_round b ready comes =
      let new : OpenLoads = wanted_all means.registry (drop (length b.wanted) b.state.wanted) b in
      let p : PutWanted means (length b.state.wanted) b new = all_files_put means b (wanted_fit b ready) in
      let began : Bool × OpenLoads = file_begun means.registry new new.wanted in
      let none : b.behind ≡ [] = none_within b.behind b.state.loads ready.loads_fit (file_next_is b.state comes).no_load in
      went_after means b new began.0 began.1 p.steps
      (file_round new (ap next_of p.state ∙ comes) (p.stage ∙ ready.idle) (p.long ∙ sym (ap (λ (s : State). length s.wanted) p.state)) (p.behind ∙ none) (p.later ∙ no_content b ready Wanted comes refl) (p.stored ready.stored) new.wanted refl)

  contents_round : (b : OpenLoads) → IsReady b → next_of b.state ≡ Content → WentOn means b (turn_begun_by means.registry means.newest b Content)
  contents_round b ready comes =
      let new : OpenLoads = later_all (drop (length b.later) b.state.contents) b in
      let p : PutLater means (length b.state.contents) b new = all_contents_put means b (later_fit b ready) in
      let none : new.wanted ≡ [] = p.wanted ∙ no_file b ready Content comes refl in
      follows_after means b new (content_begun new new.later) p.steps
      (content_round new (ap next_of p.state ∙ comes) (p.long ∙ sym (ap (λ (s : State). length s.contents) p.state)) (p.behind ∙ no_ahead b ready Content comes refl) none (subst (λ (ws : List (Option (ℕ × Parts))). AreStored (known_now new).store ws new.state.wanted) (sym none) tt) new.later refl)

  by_next : (b : OpenLoads) → IsReady b → (n : Next) → next_of b.state ≡ n → WentOn means b (turn_begun_by means.registry means.newest b n)
  by_next b ready Notes comes = notes_step b ready comes
  by_next b ready ALoad comes = loads_round b ready comes
  by_next b ready Wanted comes = files_round b ready comes
  by_next b ready Restart comes = past_step b ready Restart comes refl refl refl (again_led b comes)
  by_next b ready Item comes = past_step b ready Item comes refl refl refl (on_led b Item comes refl)
  by_next b ready AllVersions comes = past_step b ready AllVersions comes refl refl refl (on_led b AllVersions comes refl)
  by_next b ready Exports comes = past_step b ready Exports comes refl refl refl (on_led b Exports comes refl)
  by_next b ready Deferred comes = past_step b ready Deferred comes refl refl refl (on_led b Deferred comes refl)
  by_next b ready Waiting comes = past_step b ready Waiting comes refl refl refl (on_led b Waiting comes refl)
  by_next b ready Dynamic comes = past_step b ready Dynamic comes refl refl refl (on_led b Dynamic comes refl)
  by_next b ready Content comes = contents_round b ready comes
  by_next b ready End comes = end_follows b ready comes

  one_round : (b : OpenLoads) → IsReady b → WentOn means b (turn_begun means.registry means.newest b)
  one_round b ready = by_next b ready (next_of b.state) refl

  -- ---- turns begin until one stands

  pub arranged_of : (b new : OpenLoads) → IsReady b → Arranged means.registry means.newest b new → Follows means b new
  arranged_of b new ready (stands e) = subst (WentOn means b) e (one_round b ready)
  arranged_of b new ready (passes {next = next} e more) =
      let s : Steps means b next × IsReady next = subst (WentOn means b) e (one_round b ready) in
      follows_after means b next new s.0 (arranged_of next new s.1 more)

  -- the turn of the first load goes on after the file of its version was read
  pub late_of : (b new : OpenLoads) (load : Load) (left : List Load) (ps : List (Option (ℕ × Asked))) → next_of b.state ≡ ALoad → b.state.loads ≡ load ∷ left → b.wanted ≡ [] → b.later ≡ [] → b.stage ≡ Idle → b.behind ≡ None ∷ ps → length left ≡ length ps → GoesOn means.registry means.newest (late means.registry (record b { behind = ps })) new → Follows means b new
  late_of b new load left ps comes e no_files no_contents idle at long goes =
      let began : Bool × OpenLoads = late means.registry (record b { behind = ps }) in
      by began.0 began.1 (late_went b comes load left e no_files no_contents idle ps at long) goes
    where
      by : (z : Bool) (now : OpenLoads) → Went means b z now → GoesOnBy means.registry means.newest z now new → Follows means b new
      by true now f is = subst (Follows means b) (sym is) f
      by false now s more = follows_after means b now new s.0 (arranged_of now new s.1 more)

-- ---- what a new turn keeps

module _ (means : Means) (b new : OpenLoads) (f : Follows means b new) where
  pub follows_numbered : Numbered b.queue b.kept b.taken b.queued b.max_loads (due_idle b) → IsNumbered new
  follows_numbered n = numbered_as new.queue new.queued (all_due new) b.kept new.kept b.taken new.taken b.max_loads new.max_loads f.kept f.taken f.budget (f.adds.numbered n)

  -- it is in order
  pub follows_order : Numbered b.queue b.kept b.taken b.queued b.max_loads (due_idle b) → AreRead b → IsInOrder new
  follows_order n r =
      let now = f.read r in
      record {
        fits = f.fits;
        numbered = follows_numbered n;
        held = now.held;
        named = now.named;
        stage_read = now.stage_read;
        ahead_read = now.ahead_read;
        stored = f.stored;
      }

  -- and is built
  pub follows_building : (told : Option World) (start : State) (put : ℕ) → AreRead b → Builds told means start put b → b.queued ≡ put + length (due_idle b) → Numbered b.queue b.kept b.taken b.queued b.max_loads (due_idle b) → AreRight b.kept told (due_idle b) → IsBuilding told means start new
  follows_building told start put r i count n right =
      let now : IsStoodOn told means start put new = f.builds told start put r i in
      record {
        past = now.led.past;
        put = put;
        run = now.led.run;
        store = now.led.store_is;
        next = now.next;
        ahead = now.ahead;
        wanted = now.wanted;
        count = let cost = f.adds.cost in let none = f.none_through in omega (arith, cost, none, count);
        kept_right = λ x a among e. f.adds.right told n right x a among (ap (λ (m : finite.FinMap nat_cmp Answer). finite.get m x.ticket) (sym f.kept) ∙ e);
      }

-- ---- measures

pub len_falls : {X : Type 0} (m : finite.FinMap nat_cmp X) (k : ℕ) (x : X) → finite.get m k ≡ Some x → finite.len (finite.remove m k) < finite.len m
len_falls {X} m k x e =
    let one_less : finite.len (finite.remove m k) ≡ finite.len m - 1 = len-remove nat_cmp_total m k ∙ ap (λ o. cond (is_some o) (finite.len m - 1) (finite.len m)) e in
    let some : 1 ≤ finite.len m = ⊎_elim (λ none. absurd (let at = ap (λ (n : finite.FinMap nat_cmp X). finite.get n k) (empty_of_len m none) ∙ get-empty {X = X} nat_cmp k in cc)) (λ ne. omega arith) (cases_eq (finite.len m) 0) in
    omega arith

-- handing out a question changes nothing of what was built
pub building_taken : (told : Option World) (means : Means) (start : State) (b new : OpenLoads) (n : ℕ) (queue : List Question) → new ≡ record b { taken = n; queue = queue } → IsBuilding told means start b → IsBuilding told means start new
building_taken told means start b new n queue same i = subst (IsBuilding told means start) (sym same) record {
  past = i.past;
  put = i.put;
  run = i.run;
  store = i.store;
  next = i.next;
  ahead = i.ahead;
  wanted = i.wanted;
  count = i.count;
  kept_right = i.kept_right;
}
