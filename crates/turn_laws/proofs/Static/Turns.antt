-- What turns keep, in the static phase and after it.
use Rattle.std.proofs.Common.{◌≡◌, ℕ, List, [], ◌∷◌, map, Bool, true, false, if◌then◌else◌, Option, None, Some, refl, sym, ap, ◌∙◌, subst, inl, inr, ⊎_elim, ◌⊎◌}
use Rattle.std.proofs.lemmas.Bool.{true≢false}
use Rattle.std.specs.Prelude.{IfSome}
use Rattle.std.specs.List.{All}
use Rattle.std.proofs.lemmas.List.Elements.{All-append, All-contains, All-head, All-map, All-nil, All-tail, All-weaker}
use Rattle.std.specs.FinMap as finite
use Rattle.url.specs.Parts.{Parts}
use Rattle.spec_base.specs.Options.{by_option}
use Rattle.spec_base.specs.Specifier.{specifier_text}
use Rattle.spec_base.specs.declared.position.Range.{Range}
use Rattle.semver_npm.specs.declared.package.PackageNv.{PackageNv}
use Rattle.registry_files.specs.Answers.{FileAnswer}
use Rattle.registry_urls.specs.Meaning.{RegistryMeaning}
use Rattle.graph_errors.specs.Errors.{jsr_error, missing_error, redirects_error}
use Rattle.graph_errors.specs.declared.errors.ModuleError.{ModuleError}
use Rattle.graph_errors.specs.declared.errors.ModuleLoadError.TheVariants.{Jsr}
use Rattle.graph_errors.specs.declared.jsr_error.JsrLoadError.TheVariants.{RedirectInPackage, UnsupportedManifestChecksum}
use Rattle.graph_core.specs.declared.graph.ModuleGraph.{ModuleGraph}
use Rattle.module_slots.specs.declared.load.Load.{Load}
use Rattle.module_slots.specs.declared.load.LoadContext.{LoadContext}
use Rattle.module_slots.specs.declared.slot.Module.{Module}
use Rattle.module_slots.specs.declared.slot.ModuleSlot.{ModuleSlot}
use Rattle.module_slots.specs.declared.slot.ModuleSlot.TheVariants.{Module as Stands, Err as Failed, Pending}
use Rattle.graph_core.specs.Edges.{import_context, import_loads, loads_of}
use Rattle.slot_making.specs.Filled.{filled_slot}
use Rattle.slot_making.specs.Made.{made_slot}
use Rattle.module_slots.specs.Slots.{is_asset_slot}
use Rattle.graph_turns.specs.declared.flags.Flags.{Flags}
use Rattle.graph_turns.specs.declared.question_of.Asked.{Asked}
use Rattle.graph_turns.specs.declared.manner.Manner.{Manner}
use Rattle.graph_turns.specs.declared.manner.Manner.TheVariants.{Asks, Reads, Unread, Unsupported}
use Rattle.graph_turns.specs.declared.next.Next.{Next}
use Rattle.graph_turns.specs.declared.next.Next.TheVariants.{Restart}
use Rattle.graph_turns.specs.declared.outcome.Outcome.{Outcome}
use Rattle.graph_turns.specs.declared.outcome.Outcome.TheVariants.{At, To}
use Rattle.graph_turns.specs.declared.passes.Chosen.{Chosen}
use Rattle.graph_turns.specs.declared.passes.Pass.{Pass}
use Rattle.graph_turns.specs.declared.registry.RegistryFile.{RegistryFile}
use Rattle.graph_turns.specs.declared.registry.RegistryFile.TheVariants.{Package, PackageAgain, Version, Probe}
use Rattle.graph_turns.specs.declared.state.State.{State}
use Rattle.graph_turns.specs.Machine.Entering.{edges_from, hop, is_end, redirected, redirects_ended, stored, stored_at, with_content}
use Rattle.graph_turns.specs.Machine.Outcomes.{failed_outcome, failure_outcome, outcome_of}
use Rattle.graph_turns.specs.Machine.Redirects.{moved}
use Rattle.graph_turns.specs.Machine.RegistryFiles.{first_kept, wanted_kept}
use Rattle.graph_turns.specs.Machine.Turns.{deferred_entered, dynamic_entered, first_file_turn, first_load_turn, load_turn, manner_in, told_outcome, turn_by, waited_imports, waited_loads}
use Rattle.graph_turns.specs.Promise.Contents.{content_of}
use Rattle.graph_turns.specs.Promise.Explains.{Explains, refusal_error}
use Rattle.graph_turns.specs.Promise.Explains.Explains.{made, filled, unfilled, outside, at_hand, missing, refused as refused_answer, redirected as redirected_answer, unread_version, unsupported_sum, ended, no_package, no_npm_package, npm_resolved, passed_through, package_unread, not_met, version_unread, no_export, unjoined, led_back, built_in, forbidden_asset}
use Rattle.graph_turns.specs.Promise.Input.{Given, Start, fresh_entry, root_load, start_loads, start_of}
use Rattle.turn_laws.specs.Promise.Keeps.{IsReachedChoice, IsReachedPass}
use Rattle.graph_core.specs.Npm.{npm_result}
use Rattle.graph_turns.specs.Promise.Reached.{Reached, in_package}
use Rattle.graph_turns.specs.Promise.Reached.Reached.{first, known, named, exported, hopped, edge, marked}
use Rattle.graph_turns.specs.Promise.Slots.{external_slot}
use Rattle.graph_turns.specs.Promise.Static.{IsExplainedStatically, IsSettledStatically}
use Rattle.graph_turns.specs.Promise.Taken.{Taken as Answered, Found, Outside, AtHand, Onward, Absent, Refused, IsAsked, CountsFor, taken_answer}
use Rattle.graph_turns.specs.Promise.Told.{Told, making_of}
use Rattle.graph_turns.specs.Promise.Versions.{told_file, told_version}
use Rattle.graph_core.proofs.At.{nothing_in_empty}
use Rattle.turn_laws.proofs.Budget.Beside.{beside_stored, comes_with}
use Rattle.turn_laws.proofs.Budget.Resting.{sound_stored}
use Rattle.graph_turns.proofs.Entering.Loads.{HasKey, HasLoad}
use Rattle.turn_laws.proofs.Entering.Made.{failure_final, made_final, made_inside, outcome_final}
use Rattle.graph_turns.proofs.Entering.Next.{IsOutside, NextIs}
use Rattle.graph_turns.proofs.Entering.Next.NextIs.{notes as comes_notes, loads as comes_load, wanted as comes_file, restart as comes_restart, item as comes_item, versions as comes_versions, exports as comes_exports, deferred as comes_deferred, waiting as comes_waiting, dynamic as comes_dynamic, content as comes_content, ends as comes_end}
use Rattle.graph_turns.proofs.Entering.Rested.{leaves_deferred, leaves_dynamic, rests_asked, rests_judged, still_exports}
use Rattle.turn_laws.proofs.Promise.Filling.{filled_inside, how_filled}
use Rattle.turn_laws.proofs.Promise.Kept.{Kept, IsAskedFor, IsReached, edges_reached, imports_reached, kept_deferred, kept_dynamic, kept_stored, waits_reached}
use Rattle.turn_laws.proofs.Promise.KeptLoads.{asked_told, kept_rest, kept_unsupported, unread_told, unsupported_now}
use Rattle.turn_laws.proofs.Promise.KeptPasses.{kept_exports, kept_judged, kept_notes, kept_versions, kept_waiting}
use Rattle.turn_laws.proofs.Promise.Passing.{RunBegins}
use Rattle.turn_laws.proofs.Promise.Settled.{npm_plain}
use Rattle.turn_laws.proofs.Promise.Sound.{AwaitsEnd, AwaitsPass, HasAwaited, HasItem, Lead, Sound, StandsIn, asset_at, nothing}
use Rattle.turn_laws.proofs.Promise.SoundPasses.{before_deferred, before_dynamic, sound_deferred, sound_dynamic, sound_exports, sound_judged, sound_pass, sound_versions}
use Rattle.turn_laws.proofs.Promise.SoundTurned.{sound_file, sound_notes, sound_wanted}
use Rattle.turn_laws.proofs.Promise.Storing.{Taken, not_back, redirected_ends, taken}
use Rattle.turn_laws.proofs.Promise.Turned.{kept_file, kept_wanted}
use Rattle.turn_laws.proofs.Static.Part.{IsStatic, imports_all, part_deferred, part_exports, part_judged, part_stored, part_versions, part_wanted, static_part, stored_phase}
use Rattle.turn_laws.proofs.Static.Past.{IsNew, Past, past_beside, past_enter, past_file, past_redirected, past_stored}
use Rattle.turn_laws.proofs.Static.PastGiven.{IsModuleLoad, past_at, past_enter_all}
use Rattle.turn_laws.proofs.Static.PastPasses.{IsModuleItem, past_exports, past_judged, past_notes, past_pass, past_versions, past_wanted}
use Rattle.turn_laws.proofs.Static.ReachedStatically.{KeptStatically, none_comes_later, static_answered, static_file, static_unsupported}
use Rattle.turn_laws.proofs.Static.StaticPasses.{static_deferred, static_exports, static_judged, static_notes, static_pass, static_versions, static_wanted}

-- what holds of all loads that a start may have
pub starts_all : (P : Load → Type 0) (dynamic : Bool) (start : Start) → ((s : Parts) → P (root_load dynamic s)) → ((s : Parts) (range : Range) (t : Bool) → P (record { specifier = s; context = import_context dynamic range; is_type = t })) → All P (start_loads dynamic start)
starts_all P dynamic start roots imports = All-append P (map (root_load dynamic) start.roots) (import_loads dynamic start.imports)
    (All-map P (root_load dynamic) start.roots (λ k d below. roots _))
    (imports_all P dynamic start.imports imports)

-- what is wanted says nothing of phases and contents
wanted_phase : (registry : RegistryMeaning) (s : State) (answer : FileAnswer) → (wanted_kept registry s answer).is_dynamic ≡ s.is_dynamic
wanted_phase registry s answer = by s.wanted
  where
    by : (files : List RegistryFile) → (first_kept registry s answer files).is_dynamic ≡ s.is_dynamic
    by [] = refl
    by (Package name ∷ files) = refl
    by (PackageAgain name ∷ files) = refl
    by (Version nv ∷ files) = refl
    by (Probe nv ∷ files) = refl

wanted_contents : (registry : RegistryMeaning) (s : State) (answer : FileAnswer) → (wanted_kept registry s answer).contents ≡ s.contents
wanted_contents registry s answer = by s.wanted
  where
    by : (files : List RegistryFile) → (first_kept registry s answer files).contents ≡ s.contents
    by [] = refl
    by (Package name ∷ files) = refl
    by (PackageAgain name ∷ files) = refl
    by (Version nv ∷ files) = refl
    by (Probe nv ∷ files) = refl

module _ (told : Told) (given : Given) (begins : RunBegins (fresh_entry told given)) where
  abbrev pub IsKept : State → Type 0
  IsKept s = Kept told (fresh_entry told given) begins s

  -- nothing is left out, and no start is early
  abbrev pub IsSound : State → Type 0
  IsSound s = Sound (fresh_entry told given) ⊥ nothing nothing [] s

  -- where no content is left to come
  none_left : (most : ℕ) (s : State) (load : Load) (o : Outcome) → comes_with o ≡ None → s.contents ≡ [] → (stored most s load o).contents ≡ []
  none_left most s load o none now = (beside_stored most s load o).contents ∙ ap (λ c. (with_content s c).contents) none ∙ now

  module _ (settled : IsSettledStatically told given) where
    -- no reached pair is one of an asset
    reached_plain : {s : Parts} {c : LoadContext} → Reached told (fresh_entry told given) s c → c.asset ≡ false
    reached_plain (first {load} h) = All-contains IsModuleLoad (fresh_entry told given).loads load (starts_all IsModuleLoad told.known.flags.is_dynamic (start_of told.resolving given) (λ s. refl) (λ s range t. refl)) h
    reached_plain (known r e) = reached_plain r
    reached_plain (named r e same has) = reached_plain r
    reached_plain (exported r is) = reached_plain r
    reached_plain (hopped r e same takes none) = reached_plain r
    reached_plain (edge {s} {c} {load} r is) = settled.no_asset s c load r is
    reached_plain (marked r q e h same) = reached_plain r

    all_plain : (loads : List Load) → All (IsReached told (fresh_entry told given) begins) loads → All IsModuleLoad loads
    all_plain loads all = λ k d below. reached_plain (all k d below)

    explained_plain : (s : Parts) (c : LoadContext) (k : List ℕ) (v : ModuleSlot) → Reached told (fresh_entry told given) s c → Explains told (fresh_entry told given) s c k v → is_asset_slot v ≡ false
    explained_plain s c k v r (made {asked} {source} takes whole) = made_inside (making_of told given.kind) source c
    explained_plain s c k v r (filled {asked} {source} {l} {content} takes later same is) =
        filled_inside (made_slot (making_of told given.kind) source c) (filled_slot content (made_slot (making_of told given.kind) source c)) (how_filled content (made_slot (making_of told given.kind) source c)) (made_inside (making_of told given.kind) source c)
    explained_plain s c k v r (unfilled later at under none) = refl
    explained_plain s c k v r (outside takes) = refl
    explained_plain s c k v r (at_hand takes) = reached_plain r
    explained_plain s c k v r (missing takes) = refl
    explained_plain s c k v r (refused_answer takes) = refl
    explained_plain s c k v r (redirected_answer takes held) = refl
    explained_plain s c k v r (unread_version is manner) = refl
    explained_plain s c k v r (unsupported_sum free manner) = refl
    explained_plain s c k v r (ended takes none ends) = refl
    explained_plain s c k v r (no_package j free e) = refl
    explained_plain s c k v r (no_npm_package j free e) = refl
    explained_plain s c k v r (npm_resolved {r = reference} j o free e) = npm_plain s c reference (npm_result told.npm reference.inner.req c.is_dynamic)
    explained_plain s c k v r (passed_through j free e p) = refl
    explained_plain s c k v r (package_unread looked free file) = refl
    explained_plain s c k v r (not_met looked free file none) = refl
    explained_plain s c k v r (version_unread looked free fits e) = refl
    explained_plain s c k v r (no_export looked free fits e f) = refl
    explained_plain s c k v r (unjoined looked free fits e f g) = refl
    explained_plain s c k v r (led_back free is back) = refl
    explained_plain s c k v r (built_in e) = refl
    explained_plain s c k v r (forbidden_asset e) = refl

    -- ---- the dynamic phase

    module _ (old : ModuleGraph) where
      -- an error at the own specifier
      past_error : (s : State) (load : Load) (held : Option PackageNv) (x : ModuleError) → Taken (fresh_entry told given) ⊥ (specifier_text load.specifier) s → IsNew old (specifier_text load.specifier) → Past old s → Past old (stored_at s load held load.specifier (Failed x))
      past_error s load held x took new past = past_at (fresh_entry told given) old s load held load.specifier (Failed x) took refl refl refl new (All-nil IsModuleLoad) past

      -- what an answer gives leaves what stood
      past_given : (most : ℕ) (s : State) (load : Load) (asked : Asked) (t : Answered) → taken_answer told.world told.known asked load.specifier load.context ≡ t → IsAsked told load.specifier load.context asked → Taken (fresh_entry told given) ⊥ (specifier_text load.specifier) s → IsKept s → IsAskedFor told (fresh_entry told given) begins load → IsNew old (specifier_text load.specifier) → Past old s
          → Past old (stored most s load (outcome_of (making_of told given.kind) load.specifier load.context asked t))
      unfolding stored loads_of
      past_given most s load asked (Found source) is under took kept r new past =
          let takes : CountsFor told load.specifier load.context asked (Found source) = record { asked_for = r.1; under = under; is = is } in
          let whole : source.info ≡ None = settled.whole load.specifier load.context asked source r.0 takes in
          let slot = made_slot (making_of told given.kind) source load.context in
          let edges = all_plain (edges_from given.kind told.known.flags.skip_dynamic_deps slot (in_package asked.held load.context)) (edges_reached told (fresh_entry told given) begins load.specifier load.context asked source slot takes r.0 refl) in
          subst (λ i. Past old (stored most s load (At source.name (made_slot (making_of told given.kind) source load.context) asked.held (content_of load.specifier load.context asked i)))) (sym whole)
          (past_at (fresh_entry told given) old s load asked.held source.name slot took (settled.named load.specifier source.name load.context r.0 (asked, Found source, takes, refl)) (made_final (making_of told given.kind) source load.context) (made_inside (making_of told given.kind) source load.context) new
          (subst (λ x. All IsModuleLoad (edges_from x s.flags.skip_dynamic_deps slot (in_package asked.held load.context))) (sym kept.graph.kind)
          (subst (λ f. All IsModuleLoad (edges_from given.kind f slot (in_package asked.held load.context))) (ap (λ f. f.skip_dynamic_deps) (sym kept.flags)) edges))
          past)
      past_given most s load asked (Outside n) is under took kept r new past =
          let takes : CountsFor told load.specifier load.context asked (Outside n) = record { asked_for = r.1; under = under; is = is } in
          past_at (fresh_entry told given) old s load asked.held n (external_slot n false) took (settled.named load.specifier n load.context r.0 (asked, Outside n, takes, refl)) refl refl new (All-nil IsModuleLoad) past
      past_given most s load asked AtHand is under took kept r new past =
          past_at (fresh_entry told given) old s load asked.held load.specifier (external_slot load.specifier load.context.asset) took refl refl (reached_plain r.0) new (All-nil IsModuleLoad) past
      past_given most s load asked Absent is under took kept r new past = past_error s load asked.held (missing_error load.specifier load.context.range) took new past
      past_given most s load asked (Refused e) is under took kept r new past = past_error s load asked.held (refusal_error load.specifier load.context asked e) took new past
      past_given most s load asked (Onward n) is under took kept r new past = by_held asked.held
        where
          by_end : (b : Bool) → is_end most s load n ≡ b → Past old (if b then redirects_ended s load else redirected s load n)
          by_end true t = past_stored old s (specifier_text load.specifier) (Failed (redirects_error load.specifier load.context.range)) s.root_names s.sums new refl past
          by_end false f =
              past_enter old (record s { graph = moved s.graph load.specifier n }) (record { specifier = n; context = hop load.context; is_type = false })
              (redirected_ends (fresh_entry told given) n s load took (not_back _ _ f) (specifier_text n)) (reached_plain r.0) (past_redirected old s load.specifier n new past)

          by_held : (h : Option PackageNv) → Past old (stored most s load (by_option h (To n) (λ nv. failed_outcome load.specifier load.context (Some nv) (Jsr (RedirectInPackage n)))))
          by_held None = by_end (is_end most s load n) refl
          by_held (Some nv) = past_error s load (Some nv) (jsr_error load.specifier load.context.range (RedirectInPackage n)) took new past

      -- so does the error of a load whose version has its sum in no form that is known
      past_unsupported : (most : ℕ) (s : State) (load : Load) → Taken (fresh_entry told given) ⊥ (specifier_text load.specifier) s → IsNew old (specifier_text load.specifier) → Past old s → Past old (stored most s load (failure_outcome load.context load.specifier UnsupportedManifestChecksum))
      unfolding stored
      past_unsupported most s load took new past = past_error s load load.context.«package» (jsr_error load.specifier load.context.range UnsupportedManifestChecksum) took new past

      past_deferred : (s : State) → IsSound s → IsKept s → Past old s → Past old (deferred_entered s)
      unfolding deferred_entered
      past_deferred s sound kept past = past_enter_all (fresh_entry told given) old (waited_loads s.deferred) (record s { deferred = [] })
          (before_deferred (fresh_entry told given) ⊥ s sound)
          (all_plain (waited_loads s.deferred) (waits_reached told (fresh_entry told given) begins s.deferred kept.deferred))
          (past_beside old s _ (record { slots = refl; redirects = refl; starts_are = refl; flags = refl; loads = refl }) (λ k a. a) past)

      past_dynamic : (s : State) → IsSound s → IsKept s → Past old s → Past old (dynamic_entered s)
      unfolding dynamic_entered
      past_dynamic s sound kept past = past_enter_all (fresh_entry told given) old (waited_imports s.root_names s.dynamic) (record s { dynamic = []; is_dynamic = true })
          (before_dynamic (fresh_entry told given) ⊥ s sound)
          (all_plain (waited_imports s.root_names s.dynamic) (imports_reached told (fresh_entry told given) begins s.root_names s.dynamic kept.names kept.dynamic))
          (past_beside old s _ (record { slots = refl; redirects = refl; starts_are = refl; flags = refl; loads = refl }) (λ k a. a) past)

    -- ---- both phases

    -- in the static phase: what stands is what static pairs give, nothing of what static imports lead to is left out, and no content is
    -- to come
    pub record First (s : State) : Type 0 where
      pub kept : IsKept s
      pub sound : IsSound s
      pub phase : s.is_dynamic ≡ false
      pub statically : KeptStatically told given begins s
      pub part : IsSound (static_part s)
      pub none_comes : s.contents ≡ []

    -- a graph in which static imports alone were followed to their end
    pub record Base (old : ModuleGraph) : Type 0 where
      pub explained : (k : List ℕ) (v : ModuleSlot) → finite.get old.slots k ≡ Some v → IsExplainedStatically told given k v
      pub start_leads : (k : List ℕ) → HasLoad k (fresh_entry told given).loads → Lead old nothing k
      pub edges_lead : (q k : List ℕ) (m : Module) (c : LoadContext) → finite.get old.slots q ≡ Some (Stands m) → HasLoad k (loads_of old.kind true m c) → Lead old nothing k

    -- since then: what stood then stands
    pub record Later (s : State) : Type 0 where
      pub old : ModuleGraph
      pub base : Base old
      pub past : Past old s
      pub kept : IsKept s
      pub sound : IsSound s
      pub none_comes : s.contents ≡ []

    -- where nothing is open or waits, and no pass goes on, static imports were followed to their end
    pub later_of : (s : State) → First s → IsOutside s → s.waiting ≡ [] → Later s
    later_of s now none_goes waits = record {
      old = s.graph;
      base = record {
        explained = λ k v e. ⊎_elim (λ p. absurd (pending k p.0 (e ∙ ap Some p.1))) (λ x. x) (now.statically.slots k v e);
        start_leads = λ k h. settle k (now.part.wanted k (inl h));
        edges_lead = λ q k m c e h. settle k (now.part.wanted k (inr (q, m, c, e, (λ there. nothing_in_empty q (Stands m) there), h)));
      };
      past = record {
        slots = λ k v e. e;
        redirects = λ k n e. e;
        loads = subst (All (λ load. IsNew s.graph (specifier_text load.specifier))) (sym none_goes.calm.no_load) (All-nil (λ load. IsNew s.graph (specifier_text load.specifier)));
        awaited = λ k a. absurd (none_awaited k a);
        plain = λ k. plain k (finite.get s.graph.slots k) refl;
        away = λ k n e f. f;
      };
      kept = now.kept;
      sound = now.sound;
      none_comes = now.none_comes;
    }
      where
        pending : (k : List ℕ) (asset : Bool) → finite.get s.graph.slots k ≡ Some (Pending asset) → ⊥
        pending k asset p = ⊎_elim (λ a. ⊎_elim (λ n. n) (λ h. subst (HasLoad k) none_goes.calm.no_load h) a) (λ there. nothing_in_empty k (Pending asset) there) (now.sound.asked k asset p)

        none_npm : (k : List ℕ) → AwaitsEnd s k → ⊥
        none_npm k n = true≢false (sym n.0 ∙ ap (λ (f : Flags). f.resolves_npm) now.kept.flags ∙ settled.resolves_no_npm)

        none_awaited : (k : List ℕ) → AwaitsPass s k → ⊥
        none_awaited k a = ⊎_elim (λ w. subst (HasItem k) waits w) (λ p. subst (λ (q : Option Pass). StandsIn q k) none_goes.no_pass p) a

        -- nothing waits in the static part
        settle : (k : List ℕ) → Lead s.graph (λ e. HasAwaited s e ⊎ nothing e) k ⊎ (⊥ ⊎ HasKey k []) → Lead s.graph nothing k
        settle k l = ⊎_elim
            (λ lead. record { end = lead.end; way = lead.way; slot = ⊎_elim inl (λ m. absurd (⊎_elim (λ a. ⊎_elim (none_awaited lead.end) (none_npm lead.end) a) (λ b. b) m)) lead.slot })
            (λ left. absurd (⊎_elim (λ b. b) (λ b. b) left)) l

        -- a slot that is explained in the static phase isn't at hand alone
        plain : (k : List ℕ) (v : Option ModuleSlot) → finite.get s.graph.slots k ≡ v → asset_at (finite.get s.graph.slots k) ≡ false
        plain k None e = ap asset_at e
        plain k (Some v) e = ap asset_at e ∙ ⊎_elim
            (λ p. ap is_asset_slot p.1)
            (λ x. explained_plain x.0 x.1 k v x.2 x.4)
            (now.statically.slots k v e)

    -- ---- a turn of a load

    rest_static : (rest : State) (load : Load) → KeptStatically told given begins (record rest { loads = load ∷ rest.loads }) → KeptStatically told given begins rest
    rest_static rest load now = record { slots = now.slots; loads = All-tail IsStatic load rest.loads now.loads; deferred = now.deferred; waiting = now.waiting; items = now.items; chosen = now.chosen }

    first_of_load : (rest : State) (load : Load) (m : Manner) → manner_in told.known.sums told.registry (record rest { loads = load ∷ rest.loads }) load ≡ m → First (record rest { loads = load ∷ rest.loads }) → First (load_turn told given.kind (record rest { loads = load ∷ rest.loads }) load rest.loads m)
    first_of_load rest load (Asks asked) at now =
        let outcome = told_outcome told given.kind load asked in
        let parts = kept_rest told (fresh_entry told given) begins rest load now.kept in
        let under = asked_told told (fresh_entry told given) begins rest load asked parts.0 parts.2 at in
        let static : IsStatic load = All-head IsStatic load rest.loads now.statically.loads in
        let final = outcome_final (making_of told given.kind) load asked (taken_answer told.world told.known asked load.specifier load.context) in
        record {
          kept = kept_stored told (fresh_entry told given) begins told.world.max_redirects rest load asked outcome refl refl parts.0 parts.1 parts.2 under.0 under.1;
          sound = sound_stored (fresh_entry told given) ⊥ told.world.max_redirects rest load outcome (taken (fresh_entry told given) ⊥ rest load now.sound) final;
          phase = stored_phase told.world.max_redirects rest load outcome ∙ now.phase;
          statically = static_answered told given begins settled rest load asked at parts.2 parts.0 parts.1 static now.phase
              (rest_static rest load now.statically);
          part = subst (Sound (fresh_entry told given) ⊥ nothing nothing []) (sym (part_stored told.world.max_redirects rest load outcome now.phase static))
              (sound_stored (fresh_entry told given) ⊥ told.world.max_redirects (static_part rest) load outcome (taken (fresh_entry told given) ⊥ (static_part rest) load now.part) final);
          none_comes = none_left told.world.max_redirects rest load outcome (none_comes_later told given begins settled rest load asked at parts.2 parts.0 parts.1) now.none_comes;
        }
    first_of_load rest load (Reads nv) at now =
        let s = record rest { loads = load ∷ rest.loads } in
        record {
          kept = kept_file told (fresh_entry told given) begins s nv now.kept;
          sound = sound_file (fresh_entry told given) ⊥ s nv (told_version told nv) now.sound;
          phase = now.phase;
          statically = static_file told given begins s nv (told_version told nv) now.statically;
          part = sound_file (fresh_entry told given) ⊥ (static_part s) nv (told_version told nv) now.part;
          none_comes = now.none_comes;
        }
    first_of_load rest load (Unread name e) at now =
        let parts = kept_rest told (fresh_entry told given) begins rest load now.kept in
        absurd (settled.read load.specifier name load.context e parts.1.0 (unread_told told (fresh_entry told given) begins rest load name e parts.0 parts.2 at))
    first_of_load rest load Unsupported at now =
        let outcome = failure_outcome load.context load.specifier UnsupportedManifestChecksum in
        let parts = kept_rest told (fresh_entry told given) begins rest load now.kept in
        let manner = unsupported_now told (fresh_entry told given) begins rest load parts.0 parts.2 at in
        let static : IsStatic load = All-head IsStatic load rest.loads now.statically.loads in
        let final = failure_final load load.specifier UnsupportedManifestChecksum in
        record {
          kept = kept_unsupported told (fresh_entry told given) begins told.world.max_redirects rest load parts.0 parts.1 parts.2 manner;
          sound = sound_stored (fresh_entry told given) ⊥ told.world.max_redirects rest load outcome (taken (fresh_entry told given) ⊥ rest load now.sound) final;
          phase = stored_phase told.world.max_redirects rest load outcome ∙ now.phase;
          statically = static_unsupported told given begins told.world.max_redirects rest load parts.0 parts.1 parts.2 static now.phase
              (rest_static rest load now.statically) manner;
          part = subst (Sound (fresh_entry told given) ⊥ nothing nothing []) (sym (part_stored told.world.max_redirects rest load outcome now.phase static))
              (sound_stored (fresh_entry told given) ⊥ told.world.max_redirects (static_part rest) load outcome (taken (fresh_entry told given) ⊥ (static_part rest) load now.part) final);
          none_comes = none_left told.world.max_redirects rest load outcome refl now.none_comes;
        }

    -- the others, of what opened where nothing stood
    rest_past : (old : ModuleGraph) (rest : State) (load : Load) → Past old (record rest { loads = load ∷ rest.loads }) → Past old rest
    rest_past old rest load past = record { slots = past.slots; redirects = past.redirects; loads = All-tail (λ l. IsNew old (specifier_text l.specifier)) load rest.loads past.loads; awaited = past.awaited; plain = past.plain; away = past.away }

    later_load_turn : (rest : State) (load : Load) (m : Manner) → manner_in told.known.sums told.registry (record rest { loads = load ∷ rest.loads }) load ≡ m → Later (record rest { loads = load ∷ rest.loads }) → Later (load_turn told given.kind (record rest { loads = load ∷ rest.loads }) load rest.loads m)
    later_load_turn rest load (Asks asked) at now =
        let outcome = told_outcome told given.kind load asked in
        let parts = kept_rest told (fresh_entry told given) begins rest load now.kept in
        let under = asked_told told (fresh_entry told given) begins rest load asked parts.0 parts.2 at in
        let took = taken (fresh_entry told given) ⊥ rest load now.sound in
        let final = outcome_final (making_of told given.kind) load asked (taken_answer told.world told.known asked load.specifier load.context) in
        record {
          old = now.old;
          base = now.base;
          past = past_given now.old told.world.max_redirects rest load asked (taken_answer told.world told.known asked load.specifier load.context) refl under.0 took parts.0 parts.1
              (All-head (λ l. IsNew now.old (specifier_text l.specifier)) load rest.loads now.past.loads)
              (rest_past now.old rest load now.past);
          kept = kept_stored told (fresh_entry told given) begins told.world.max_redirects rest load asked outcome refl refl parts.0 parts.1 parts.2 under.0 under.1;
          sound = sound_stored (fresh_entry told given) ⊥ told.world.max_redirects rest load outcome took final;
          none_comes = none_left told.world.max_redirects rest load outcome (none_comes_later told given begins settled rest load asked at parts.2 parts.0 parts.1) now.none_comes;
        }
    later_load_turn rest load (Reads nv) at now =
        let s = record rest { loads = load ∷ rest.loads } in
        record {
          old = now.old;
          base = now.base;
          past = past_file now.old s nv (told_version told nv) now.past;
          kept = kept_file told (fresh_entry told given) begins s nv now.kept;
          sound = sound_file (fresh_entry told given) ⊥ s nv (told_version told nv) now.sound;
          none_comes = now.none_comes;
        }
    later_load_turn rest load (Unread name e) at now =
        let parts = kept_rest told (fresh_entry told given) begins rest load now.kept in
        absurd (settled.read load.specifier name load.context e parts.1.0 (unread_told told (fresh_entry told given) begins rest load name e parts.0 parts.2 at))
    later_load_turn rest load Unsupported at now =
        let outcome = failure_outcome load.context load.specifier UnsupportedManifestChecksum in
        let parts = kept_rest told (fresh_entry told given) begins rest load now.kept in
        let took = taken (fresh_entry told given) ⊥ rest load now.sound in
        record {
          old = now.old;
          base = now.base;
          past = past_unsupported now.old told.world.max_redirects rest load took
              (All-head (λ l. IsNew now.old (specifier_text l.specifier)) load rest.loads now.past.loads)
              (rest_past now.old rest load now.past);
          kept = kept_unsupported told (fresh_entry told given) begins told.world.max_redirects rest load parts.0 parts.1 parts.2 (unsupported_now told (fresh_entry told given) begins rest load parts.0 parts.2 at);
          sound = sound_stored (fresh_entry told given) ⊥ told.world.max_redirects rest load outcome took (failure_final load load.specifier UnsupportedManifestChecksum);
          none_comes = none_left told.world.max_redirects rest load outcome refl now.none_comes;
        }

    -- ---- other turns

    abbrev pub InPhase : State → Type 0
    InPhase s = First s ⊎ Later s

    is_first : (s : State) (load : Load) (others : List Load) → s.loads ≡ load ∷ others → s ≡ record s { loads = load ∷ others }
    is_first s load others e = ap (λ (l : List Load). record s { loads = l }) e

    chosen_plain : (s : State) (p : Pass) → s.pass ≡ Some p → IsKept s → All (λ (one : Chosen). IsModuleItem one.item) p.chosen
    chosen_plain s p goes kept =
        let of_pass = subst (λ (q : Option Pass). IfSome q (IsReachedPass told (fresh_entry told given))) goes kept.pass.of_pass in
        All-weaker (IsReachedChoice told (fresh_entry told given)) (λ (one : Chosen). IsModuleItem one.item) (λ one is. reached_plain is.item.reached) p.chosen of_pass.chosen

    later_dynamic : (s : State) → Later s → Later (dynamic_entered s)
    later_dynamic s now = record {
      old = now.old;
      base = now.base;
      past = past_dynamic now.old s now.sound now.kept now.past;
      kept = kept_dynamic told (fresh_entry told given) begins s now.kept;
      sound = sound_dynamic (fresh_entry told given) ⊥ s now.sound;
      none_comes = (leaves_dynamic s).contents ∙ now.none_comes;
    }

    first_next : (s : State) (n : Next) → NextIs s n → (n ≡ Restart → ⊥) → First s → InPhase (turn_by told given.kind s n)
    first_next s n (comes_notes e) goes now = inl record {
      kept = kept_notes told (fresh_entry told given) begins told.registry s now.kept;
      sound = sound_notes (fresh_entry told given) ⊥ told.registry s now.sound;
      phase = now.phase;
      statically = static_notes told given begins told.registry s now.statically;
      part = sound_notes (fresh_entry told given) ⊥ told.registry (static_part s) now.part;
      none_comes = now.none_comes;
    }
    first_next s n (comes_load {load} {others} m e) goes now =
        let rest : State = record s { loads = others } in
        inl (subst First (sym (ap (first_load_turn told given.kind s) e ∙ ap (λ (x : State). load_turn told given.kind x load others (manner_in told.known.sums told.registry x load)) (is_first s load others e)))
        (first_of_load rest load (manner_in told.known.sums told.registry (record rest { loads = load ∷ rest.loads }) load) refl (subst First (is_first s load others e) now)))
    first_next s n (comes_file {file} {others} m l e) goes now =
        let answer = told_file told file in
        inl (subst First (sym (ap (first_file_turn told s) e)) record {
          kept = kept_wanted told (fresh_entry told given) begins s file others e now.kept;
          sound = sound_wanted (fresh_entry told given) ⊥ told.registry s answer now.sound;
          phase = wanted_phase told.registry s answer ∙ now.phase;
          statically = static_wanted told given begins told.registry s answer now.statically;
          part = subst IsSound (sym (part_wanted told.registry s answer)) (sound_wanted (fresh_entry told given) ⊥ told.registry (static_part s) answer now.part);
          none_comes = wanted_contents told.registry s answer ∙ now.none_comes;
        })
    first_next s n (comes_restart m l e d) goes now = absurd (goes refl)
    first_next s n (comes_item {p} {first} {others} c goes_on before items) goes now = inl record {
      kept = kept_judged told (fresh_entry told given) begins s p first others c goes_on before items now.kept;
      sound = sound_judged (fresh_entry told given) ⊥ s p first others goes_on before items now.sound told.newest;
      phase = (rests_judged told.newest s).is_dynamic ∙ now.phase;
      statically = static_judged told given begins s p first others c goes_on before items now.kept now.statically;
      part = subst IsSound (sym (part_judged told.newest s)) (sound_judged (fresh_entry told given) ⊥ (static_part s) p first others goes_on before items now.part told.newest);
      none_comes = (rests_judged told.newest s).contents ∙ now.none_comes;
    }
    first_next s n (comes_versions {p} c goes_on before items) goes now = inl record {
      kept = kept_versions told (fresh_entry told given) begins s p goes_on now.kept;
      sound = sound_versions (fresh_entry told given) ⊥ s p goes_on items now.sound;
      phase = (rests_asked s).is_dynamic ∙ now.phase;
      statically = static_versions told given begins s now.statically;
      part = subst IsSound (sym (part_versions s)) (sound_versions (fresh_entry told given) ⊥ (static_part s) p goes_on items now.part);
      none_comes = (rests_asked s).contents ∙ now.none_comes;
    }
    first_next s n (comes_exports {p} c goes_on entering) goes now = inl record {
      kept = kept_exports told (fresh_entry told given) begins s p c goes_on entering now.kept;
      sound = sound_exports (fresh_entry told given) ⊥ s p goes_on entering now.sound;
      phase = (still_exports s).is_dynamic ∙ now.phase;
      statically = static_exports told given begins s p c goes_on entering now.kept now.statically;
      part = subst IsSound (sym (part_exports s)) (sound_exports (fresh_entry told given) ⊥ (static_part s) p goes_on entering now.part);
      none_comes = (still_exports s).contents ∙ now.none_comes;
    }
    first_next s n (comes_deferred o e) goes now = inl record {
      kept = kept_deferred told (fresh_entry told given) begins s now.kept;
      sound = sound_deferred (fresh_entry told given) ⊥ s now.sound;
      phase = (leaves_deferred s).is_dynamic ∙ now.phase;
      statically = static_deferred told given begins s now.kept now.statically;
      part = subst IsSound (sym (part_deferred s)) (sound_deferred (fresh_entry told given) ⊥ (static_part s) now.part);
      none_comes = (leaves_deferred s).contents ∙ now.none_comes;
    }
    first_next s n (comes_waiting o d e) goes now = inl record {
      kept = kept_waiting told (fresh_entry told given) begins s now.kept;
      sound = sound_pass (fresh_entry told given) ⊥ s o.no_pass now.sound;
      phase = now.phase;
      statically = static_pass told given begins s now.statically;
      part = sound_pass (fresh_entry told given) ⊥ (static_part s) o.no_pass now.part;
      none_comes = now.none_comes;
    }
    first_next s n (comes_dynamic o d w e) goes now = inr (later_dynamic s (later_of s now o w))
    first_next s n (comes_content {first = content} {others} i e) goes now = absurd (let wrong : content ∷ others ≡ [] = sym e ∙ now.none_comes in cc)
    first_next s n (comes_end i) goes now = inl now

    later_next : (s : State) (n : Next) → NextIs s n → (n ≡ Restart → ⊥) → Later s → Later (turn_by told given.kind s n)
    later_next s n (comes_notes e) goes now = record {
      old = now.old;
      base = now.base;
      past = past_notes now.old told.registry s now.past;
      kept = kept_notes told (fresh_entry told given) begins told.registry s now.kept;
      sound = sound_notes (fresh_entry told given) ⊥ told.registry s now.sound;
      none_comes = now.none_comes;
    }
    later_next s n (comes_load {load} {others} m e) goes now =
        let rest : State = record s { loads = others } in
        subst Later (sym (ap (first_load_turn told given.kind s) e ∙ ap (λ (x : State). load_turn told given.kind x load others (manner_in told.known.sums told.registry x load)) (is_first s load others e)))
        (later_load_turn rest load (manner_in told.known.sums told.registry (record rest { loads = load ∷ rest.loads }) load) refl (subst Later (is_first s load others e) now))
    later_next s n (comes_file {file} {others} m l e) goes now =
        let answer = told_file told file in
        subst Later (sym (ap (first_file_turn told s) e)) record {
          old = now.old;
          base = now.base;
          past = past_wanted now.old told.registry s answer now.past;
          kept = kept_wanted told (fresh_entry told given) begins s file others e now.kept;
          sound = sound_wanted (fresh_entry told given) ⊥ told.registry s answer now.sound;
          none_comes = wanted_contents told.registry s answer ∙ now.none_comes;
        }
    later_next s n (comes_restart m l e d) goes now = absurd (goes refl)
    later_next s n (comes_item {p} {first} {others} c goes_on before items) goes now = record {
      old = now.old;
      base = now.base;
      past = past_judged now.old s p first others goes_on items now.past told.newest;
      kept = kept_judged told (fresh_entry told given) begins s p first others c goes_on before items now.kept;
      sound = sound_judged (fresh_entry told given) ⊥ s p first others goes_on before items now.sound told.newest;
      none_comes = (rests_judged told.newest s).contents ∙ now.none_comes;
    }
    later_next s n (comes_versions {p} c goes_on before items) goes now = record {
      old = now.old;
      base = now.base;
      past = past_versions now.old s now.past;
      kept = kept_versions told (fresh_entry told given) begins s p goes_on now.kept;
      sound = sound_versions (fresh_entry told given) ⊥ s p goes_on items now.sound;
      none_comes = (rests_asked s).contents ∙ now.none_comes;
    }
    later_next s n (comes_exports {p} c goes_on entering) goes now = record {
      old = now.old;
      base = now.base;
      past = past_exports now.old (fresh_entry told given) s p goes_on entering (chosen_plain s p goes_on now.kept) now.sound now.past;
      kept = kept_exports told (fresh_entry told given) begins s p c goes_on entering now.kept;
      sound = sound_exports (fresh_entry told given) ⊥ s p goes_on entering now.sound;
      none_comes = (still_exports s).contents ∙ now.none_comes;
    }
    later_next s n (comes_deferred o e) goes now = record {
      old = now.old;
      base = now.base;
      past = past_deferred now.old s now.sound now.kept now.past;
      kept = kept_deferred told (fresh_entry told given) begins s now.kept;
      sound = sound_deferred (fresh_entry told given) ⊥ s now.sound;
      none_comes = (leaves_deferred s).contents ∙ now.none_comes;
    }
    later_next s n (comes_waiting o d e) goes now = record {
      old = now.old;
      base = now.base;
      past = past_pass now.old s now.past;
      kept = kept_waiting told (fresh_entry told given) begins s now.kept;
      sound = sound_pass (fresh_entry told given) ⊥ s o.no_pass now.sound;
      none_comes = now.none_comes;
    }
    later_next s n (comes_dynamic o d w e) goes now = later_dynamic s now
    later_next s n (comes_content {first = content} {others} i e) goes now = absurd (let wrong : content ∷ others ≡ [] = sym e ∙ now.none_comes in cc)
    later_next s n (comes_end i) goes now = now

    pub phase_next : (s : State) (n : Next) → NextIs s n → (n ≡ Restart → ⊥) → InPhase s → InPhase (turn_by told given.kind s n)
    phase_next s n is goes now = ⊎_elim (first_next s n is goes) (λ later. inr (later_next s n is goes later)) now
