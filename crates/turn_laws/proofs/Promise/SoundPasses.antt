-- That nothing is left out where a pass over the registry goes on, and where deferred loads and dynamic imports enter.
use Rattle.std.proofs.Common.{◌≡◌, ℕ, List, [], ◌∷◌, ◌++◌, Bool, true, false, Option, None, Some, refl, sym, ap, ◌∙◌, subst, inl, inr, ⊎_elim, ◌⊎◌}
use Rattle.std.proofs.lemmas.Bool.{true≢false}
use Rattle.url.specs.Parts.{Parts}
use Rattle.spec_base.specs.Specifier.{specifier_text}
use Rattle.version_dates.specs.declared.newest_date.NewestDependencyDateOptions.{NewestDependencyDateOptions}
use Rattle.registry_urls.specs.Meaning.{RegistryMeaning}
use Rattle.graph_errors.specs.Errors.{redirects_error}
use Rattle.graph_errors.specs.declared.errors.ModuleError.{ModuleError}
use Rattle.graph_errors.specs.declared.errors.ModuleErrorKind.TheVariants.{Load as LoadFails}
use Rattle.graph_errors.specs.declared.errors.ModuleLoadError.TheVariants.{Jsr}
use Rattle.module_slots.specs.declared.load.Load.{Load}
use Rattle.module_slots.specs.declared.slot.ModuleSlot.TheVariants.{Module as Stands, Err as Failed}
use Rattle.module_slots.specs.Slots.{failed_slot}
use Rattle.graph_turns.specs.declared.choosing.Verdict.{Verdict}
use Rattle.graph_turns.specs.declared.choosing.Verdict.TheVariants.{AsksAgain, Probes, Restarts, Gets, Fails}
use Rattle.graph_turns.specs.declared.exports.Export.{Export}
use Rattle.graph_turns.specs.declared.next.Next.{Next}
use Rattle.graph_turns.specs.declared.next.Next.TheVariants.{Restart}
use Rattle.graph_turns.specs.declared.passes.Chosen.{Chosen}
use Rattle.graph_turns.specs.declared.passes.Pass.{Pass}
use Rattle.graph_turns.specs.declared.state.State.{State}
use Rattle.graph_turns.specs.declared.waiting.WaitingPackage.{WaitingPackage}
use Rattle.graph_turns.specs.Machine.Choosing.{judged, judged_by}
use Rattle.graph_turns.specs.Machine.Passes.{all_entered, export_entered, exports_entered, exports_entered_in, pass_begun, versions_asked, versions_asked_in}
use Rattle.graph_turns.specs.Machine.Redirects.{redirected_end, moved}
use Rattle.graph_turns.specs.Machine.Turns.{deferred_entered, dynamic_entered, gone_on, waited_imports, waited_loads}
use Rattle.graph_turns.specs.Promise.Input.{EnteredGraph}
use Rattle.graph_turns.specs.Promise.Packages.{names_jsr, unjoinable}
use Rattle.graph_turns.specs.Promise.Reached.{in_package}
use Rattle.graph_turns.proofs.Entering.Exports.{ExportEntered, how_export, used}
use Rattle.graph_turns.proofs.Entering.Exports.ExportEntered.{refused, unjoined, ended, onward}
use Rattle.graph_turns.proofs.Entering.Judged.{how_judged}
use Rattle.graph_turns.proofs.Entering.Loads.{HasLoad, waited_due}
use Rattle.graph_turns.proofs.Entering.Next.{NextIs}
use Rattle.graph_turns.proofs.Entering.Next.NextIs.{notes, loads, wanted, restart, item, versions, exports, deferred, waiting, dynamic, content, ends}
use Rattle.turn_laws.proofs.Promise.Moving.{is_moved}
use Rattle.turn_laws.proofs.Promise.Sound.{HasChosen, HasItem, IsAlone, Sound, StandsIn, due_as, failed_alone, nothing, sound_alone, sound_as, sound_beside, sound_carried, sound_enter_all, sound_enter_beside}
use Rattle.turn_laws.proofs.Promise.SoundTurned.{sound_notes}
use Rattle.turn_laws.proofs.Promise.Storing.{excuse, sound_moved}

-- ---- specifiers of chosen versions

has_chosen_left : (k : List ℕ) (ones more : List Chosen) → HasChosen k ones → HasChosen k (ones ++ more)
has_chosen_left k [] more h = absurd h
has_chosen_left k (one ∷ ones) more (inl e) = inl e
has_chosen_left k (one ∷ ones) more (inr h) = inr (has_chosen_left k ones more h)

has_chosen_last : (ones : List Chosen) (one : Chosen) → HasChosen (specifier_text one.item.specifier) (ones ++ one ∷ [])
has_chosen_last [] one = inl refl
has_chosen_last (o ∷ ones) one = inr (has_chosen_last ones one)

pub has_chosen_cases : (k : List ℕ) (ones : List Chosen) (one : Chosen) → HasChosen k (ones ++ one ∷ []) → HasChosen k ones ⊎ (k ≡ specifier_text one.item.specifier)
has_chosen_cases k [] one (inl e) = inr e
has_chosen_cases k [] one (inr h) = absurd h
has_chosen_cases k (o ∷ ones) one (inl e) = inl (inl e)
has_chosen_cases k (o ∷ ones) one (inr h) = ⊎_elim (λ a. inl (inr a)) inr (has_chosen_cases k ones one h)

same_pass : (p q : Pass) → Some p ≡ Some q → p ≡ q
same_pass p q e = cc

-- a pass that isn't entering isn't another one that is
not_entering : (p q : Pass) → p.is_entering ≡ false → Some p ≡ Some q → q.is_entering ≡ true → ⊥
not_entering p q f e t = true≢false (sym t ∙ ap (λ (x : Pass). x.is_entering) (sym (same_pass p q e)) ∙ f)

-- an error has no edges
error_alone : (e : ModuleError) → IsAlone (Failed e)
error_alone e m kind skip c k is h = let wrong : Failed e ≡ Stands m = is in cc

module _ (o : EnteredGraph) (early : Type 0) where
  -- ---- a pass begins

  pub sound_pass : (s : State) → s.pass ≡ None → Sound o early nothing nothing [] s → Sound o early nothing nothing [] (pass_begun s)
  sound_pass s none sound = sound_carried o early nothing nothing nothing [] [] s (pass_begun s) (record {
    beside = record { slots = refl; redirects = refl; starts_are = refl; flags = refl; loads = refl };
    keyed = sound.keyed;
    met = λ e m. inr (⊎_elim (λ a. inl (⊎_elim (λ b. inl (⊎_elim (λ w. inr (inl w)) (λ p. absurd (subst (λ (q : Option Pass). StandsIn q e) none p)) b)) inr a)) inr m);
    left = λ k l. l;
    packages = λ k a. ⊎_elim (λ b. absurd b) (λ p. ⊎_elim (λ w. sound.packages k (inl w)) (λ b. absurd b) p) a;
    entering = λ p e t. absurd (not_entering _ p refl e t);
  }) sound

  -- ---- the first specifier is judged

  module _ (s : State) (p : Pass) (first : WaitingPackage) (others : List WaitingPackage) (goes : s.pass ≡ Some p) (before : p.is_entering ≡ false) (items : p.items ≡ first ∷ others) (sound : Sound o early nothing nothing [] s) where
    -- what stood in the pass
    stood_in : (e : List ℕ) → StandsIn s.pass e → (e ≡ specifier_text first.specifier) ⊎ (HasItem e others ⊎ HasChosen e p.chosen)
    stood_in e a = ⊎_elim (λ w. ⊎_elim inl (λ r. inr (inl r)) (subst (HasItem e) items w)) (λ c. inr (inr c)) (subst (λ (q : Option Pass). StandsIn q e) goes a)

    item_jsr : (k : List ℕ) → HasItem k (first ∷ others) → names_jsr k ≡ true
    item_jsr k h = sound.packages k (inr (subst (λ (q : Option Pass). StandsIn q k) (sym goes) (inl (subst (HasItem k) (sym items) h))))

    chosen_jsr : (k : List ℕ) → HasChosen k p.chosen → names_jsr k ≡ true
    chosen_jsr k h = sound.packages k (inr (subst (λ (q : Option Pass). StandsIn q k) (sym goes) (inr h)))

    -- it leaves the pass
    sound_left : Sound o early nothing (λ e. (e ≡ specifier_text first.specifier) ⊎ nothing e) [] (record s { pass = Some (record p { items = others }) })
    sound_left = sound_carried o early nothing nothing (λ e. (e ≡ specifier_text first.specifier) ⊎ nothing e) [] [] s (record s { pass = Some (record p { items = others }) }) (record {
      beside = record { slots = refl; redirects = refl; starts_are = refl; flags = refl; loads = refl };
      keyed = sound.keyed;
      met = λ e m. inr (⊎_elim (λ a. ⊎_elim (λ b. ⊎_elim (λ w. inl (inl (inl w))) (λ q. ⊎_elim (λ same. inr (inl same)) (λ r. inl (inl (inr r))) (stood_in e q)) b) (λ n. inl (inr n)) a) (λ b. absurd b) m);
      left = λ k l. l;
      packages = λ k a. ⊎_elim (λ w. sound.packages k (inl w)) (λ q. ⊎_elim (λ w. item_jsr k (inr w)) (chosen_jsr k) q) a;
      entering = λ q e t. absurd (not_entering (record p { items = others }) q before e t);
    }) sound

    sound_judged_by : (verdict : Verdict) → Sound o early nothing nothing [] (judged_by s p first others verdict)
    sound_judged_by (AsksAgain name) = sound_beside o early nothing nothing [] s (judged_by s p first others (AsksAgain name)) (record { slots = refl; redirects = refl; starts_are = refl; flags = refl; loads = refl }) refl refl refl refl sound
    sound_judged_by (Probes nvs) = sound_beside o early nothing nothing [] s (judged_by s p first others (Probes nvs)) (record { slots = refl; redirects = refl; starts_are = refl; flags = refl; loads = refl }) refl refl refl refl sound
    sound_judged_by Restarts = sound_beside o early nothing nothing [] s (judged_by s p first others Restarts) (record { slots = refl; redirects = refl; starts_are = refl; flags = refl; loads = refl }) refl refl refl refl sound
    sound_judged_by (Gets nv yanked) =
        let one : Chosen = record { item = first; nv = nv } in
        sound_carried o early nothing nothing nothing [] [] s (judged_by s p first others (Gets nv yanked)) (record {
          beside = record { slots = refl; redirects = refl; starts_are = refl; flags = refl; loads = refl };
          keyed = sound.keyed;
          met = λ e m. inr (⊎_elim (λ a. inl (⊎_elim (λ b. inl (⊎_elim inl (λ q. inr (⊎_elim
              (λ same. inr (subst (λ z. HasChosen z (p.chosen ++ one ∷ [])) (sym same) (has_chosen_last p.chosen one)))
              (λ r. ⊎_elim inl (λ c. inr (has_chosen_left e p.chosen (one ∷ []) c)) r)
              (stood_in e q))) b)) inr a)) inr m);
          left = λ k l. l;
          packages = λ k a. ⊎_elim (λ w. sound.packages k (inl w)) (λ q. ⊎_elim (λ w. item_jsr k (inr w)) (λ c. ⊎_elim (chosen_jsr k) (λ same. item_jsr k (inl same)) (has_chosen_cases k p.chosen one c)) q) a;
          entering = λ q e t. absurd (not_entering (record p { items = others; chosen = p.chosen ++ one ∷ [] }) q before e t);
        }) sound
    sound_judged_by (Fails e) = sound_alone o early nothing nothing [] (record s { pass = Some (record p { items = others }) }) (specifier_text first.specifier)
        (failed_slot (LoadFails first.specifier first.context.range (Jsr e))) (failed_alone (LoadFails first.specifier first.context.range (Jsr e))) refl refl sound_left

    pub sound_judged : (newest : NewestDependencyDateOptions) → Sound o early nothing nothing [] (judged newest s)
    sound_judged newest =
        let how = how_judged newest s p first others goes items in
        subst (Sound o early nothing nothing []) (sym how.is) (sound_judged_by how.verdict)

  -- ---- all are judged

  pub sound_versions : (s : State) (p : Pass) → s.pass ≡ Some p → p.items ≡ [] → Sound o early nothing nothing [] s → Sound o early nothing nothing [] (versions_asked s)
  sound_versions s p goes judged_all sound = subst (Sound o early nothing nothing []) (sym (ap (versions_asked_in s) goes))
      (sound_carried o early nothing nothing nothing [] [] s (versions_asked_in s (Some p)) (record {
        beside = record { slots = refl; redirects = refl; starts_are = refl; flags = refl; loads = refl };
        keyed = sound.keyed;
        met = λ e m. inr (⊎_elim (λ a. inl (⊎_elim (λ b. inl (⊎_elim inl (λ q. inr (subst (λ (x : Option Pass). StandsIn x e) goes q)) b)) inr a)) inr m);
        left = λ k l. l;
        packages = λ k a. ⊎_elim (λ w. sound.packages k (inl w)) (λ q. sound.packages k (inr (subst (λ (x : Option Pass). StandsIn x k) (sym goes) q))) a;
        entering = λ q e t. ap (λ (x : Pass). x.items) (sym (same_pass (record p { is_entering = true }) q e)) ∙ judged_all;
      }) sound)

  -- ---- exports

  -- what the export of a version that was chosen leads to enters
  pub sound_export : (loose : List ℕ → Type 0) (s : State) (top : Bool) (one : Chosen) → names_jsr (specifier_text one.item.specifier) ≡ true → Sound o early nothing (λ e. (e ≡ specifier_text one.item.specifier) ⊎ loose e) [] s → Sound o early nothing loose [] (export_entered s top one)
  sound_export loose s top one jsr sound = by_entered (export_entered s top one) (how_export s top one)
    where
      a : Parts
      a = one.item.specifier

      sound_used : (e : Export) → Sound o early nothing (λ x. (x ≡ specifier_text one.item.specifier) ⊎ loose x) [] (used s top one e)
      sound_used e = sound_beside o early nothing (λ x. (x ≡ specifier_text one.item.specifier) ⊎ loose x) [] s (used s top one e) (record { slots = refl; redirects = refl; starts_are = refl; flags = refl; loads = refl }) refl refl refl refl sound

      others : HasLoad (specifier_text one.item.specifier) s.loads → ⊥
      others h = true≢false (sym jsr ∙ sound.plain (specifier_text one.item.specifier) h)

      by_entered : (u : State) → ExportEntered s top one u → Sound o early nothing loose [] u
      by_entered u (refused {e} is) = sound_alone o early nothing loose [] s (specifier_text a) (failed_slot (LoadFails a one.item.context.range (Jsr e))) (failed_alone (LoadFails a one.item.context.range (Jsr e))) refl refl sound
      by_entered u (unjoined {e} is to) =
          let kind = LoadFails a one.item.context.range (Jsr (unjoinable one.nv e)) in
          sound_alone o early nothing loose [] (used s top one e) (specifier_text a) (failed_slot kind) (failed_alone kind) refl refl (sound_used e)
      by_entered u (ended {e} {to} is leads back) =
          let error = redirects_error a one.item.context.range in
          sound_alone o early nothing loose [] (used s top one e) (specifier_text a) (Failed error) (error_alone error) refl refl (sound_used e)
      by_entered u (onward {e} {to} is leads back) =
          let v = moved (used s top one e).graph a to in
          let next : Load = record { specifier = to; context = in_package (Some one.nv) one.item.context; is_type = false } in
          sound_enter_beside o early nothing loose [] (record (used s top one e) { graph = v }) next
          (sound_as o early nothing (λ x. (x ≡ specifier_text (redirected_end v to)) ⊎ loose x) (λ x. (x ≡ specifier_text (redirected_end v to)) ⊎ loose x) [] (next ∷ []) (record (used s top one e) { graph = v }) (λ x l. inr l) (λ k h. absurd h)
          (sound_moved o early loose [] (used s top one e) a to (excuse o early (λ k. k ≡ specifier_text a) (λ x. (x ≡ specifier_text a) ⊎ loose x) [] (used s top one e) (sound_used e)) others v (is_moved (used s top one e).graph a to) back))

  -- those that are still to enter count too
  sound_all : (ones : List Chosen) (s : State) (top : Bool) → ((k : List ℕ) → HasChosen k ones → names_jsr k ≡ true) → Sound o early nothing (λ e. HasChosen e ones) [] s → Sound o early nothing nothing [] (all_entered s top ones)
  unfolding all_entered
  sound_all [] s top jsr sound = sound
  sound_all (one ∷ ones) s top jsr sound =
      sound_all ones (export_entered s top one) top (λ k h. jsr k (inr h)) (sound_export (λ e. HasChosen e ones) s top one (jsr (specifier_text one.item.specifier) (inl refl)) sound)

  -- the pass is gone, and its chosen ones are still to enter
  pub sound_opened_pass : (s : State) (p : Pass) → s.pass ≡ Some p → p.is_entering ≡ true → Sound o early nothing nothing [] s → Sound o early nothing (λ e. HasChosen e p.chosen) [] (record s { pass = None })
  sound_opened_pass s p goes entering_now sound = sound_carried o early nothing nothing (λ e. HasChosen e p.chosen) [] [] s (record s { pass = None }) (record {
    beside = record { slots = refl; redirects = refl; starts_are = refl; flags = refl; loads = refl };
    keyed = sound.keyed;
    met = λ e m. inr (⊎_elim
        (λ a. ⊎_elim
        (λ b. ⊎_elim (λ w. inl (inl (inl w))) (λ q. ⊎_elim (λ w. absurd (subst (HasItem e) (sound.entering p goes entering_now) w)) inr (subst (λ (x : Option Pass). StandsIn x e) goes q)) b)
        (λ n. inl (inr n))
        a)
        (λ b. absurd b) m);
    left = λ k l. l;
    packages = λ k a. ⊎_elim (λ w. sound.packages k (inl w)) (λ b. absurd b) a;
    entering = λ q e t. absurd (let wrong : None ≡ Some q = e in cc);
  }) sound

  pub sound_exports : (s : State) (p : Pass) → s.pass ≡ Some p → p.is_entering ≡ true → Sound o early nothing nothing [] s → Sound o early nothing nothing [] (exports_entered s)
  sound_exports s p goes entering_now sound = subst (Sound o early nothing nothing []) (sym (ap (exports_entered_in s) goes))
      (sound_all p.chosen (record s { pass = None }) p.is_top_level (λ k h. sound.packages k (inr (subst (λ (q : Option Pass). StandsIn q k) (sym goes) (inr h)))) (sound_opened_pass s p goes entering_now sound))

  -- ---- deferred loads

  pub before_deferred : (s : State) → Sound o early nothing nothing [] s → Sound o early nothing nothing (waited_loads s.deferred) (record s { deferred = [] })
  before_deferred s sound = due_as o early nothing [] (waited_loads s.deferred) (record s { deferred = [] }) (λ k a. absurd a)
      (sound_beside o early nothing nothing [] s (record s { deferred = [] }) (record { slots = refl; redirects = refl; starts_are = refl; flags = refl; loads = refl }) refl refl refl refl sound)

  pub sound_deferred : (s : State) → Sound o early nothing nothing [] s → Sound o early nothing nothing [] (deferred_entered s)
  unfolding deferred_entered
  sound_deferred s sound = sound_enter_all o early nothing (waited_loads s.deferred) (record s { deferred = [] }) (before_deferred s sound)

  -- ---- dynamic imports

  pub before_dynamic : (s : State) → Sound o early nothing nothing [] s → Sound o early nothing nothing (waited_imports s.root_names s.dynamic) (record s { dynamic = []; is_dynamic = true })
  before_dynamic s sound = sound_carried o early nothing nothing nothing [] (waited_imports s.root_names s.dynamic) s (record s { dynamic = []; is_dynamic = true }) (record {
    beside = record { slots = refl; redirects = refl; starts_are = refl; flags = refl; loads = refl };
    keyed = tt;
    met = λ e m. inr m;
    left = λ k l. ⊎_elim (λ b. absurd b) (λ d. inl (waited_due k s.root_names s.dynamic sound.keyed d)) l;
    packages = sound.packages;
    entering = sound.entering;
  }) sound

  pub sound_dynamic : (s : State) → Sound o early nothing nothing [] s → Sound o early nothing nothing [] (dynamic_entered s)
  unfolding dynamic_entered
  sound_dynamic s sound = sound_enter_all o early nothing (waited_imports s.root_names s.dynamic) (record s { dynamic = []; is_dynamic = true }) (before_dynamic s sound)

  -- ---- turns that put no question

  -- all but a restart
  pub sound_next : (registry : RegistryMeaning) (newest : NewestDependencyDateOptions) (s : State) (n : Next) → NextIs s n → (n ≡ Restart → ⊥) → Sound o early nothing nothing [] s → Sound o early nothing nothing [] (gone_on registry newest s n)
  sound_next registry newest s n (notes e) goes sound = sound_notes o early registry s sound
  sound_next registry newest s n (loads e f) goes sound = sound
  sound_next registry newest s n (wanted e f g) goes sound = sound
  sound_next registry newest s n (restart e f g d) goes sound = absurd (goes refl)
  sound_next registry newest s n (item {p} {first} {others} c goes_on before items) goes sound = sound_judged s p first others goes_on before items sound newest
  sound_next registry newest s n (versions {p} c goes_on before items) goes sound = sound_versions s p goes_on items sound
  sound_next registry newest s n (exports {p} c goes_on now) goes sound = sound_exports s p goes_on now sound
  sound_next registry newest s n (deferred c e) goes sound = sound_deferred s sound
  sound_next registry newest s n (waiting c d e) goes sound = sound_pass s c.no_pass sound
  sound_next registry newest s n (dynamic c d w e) goes sound = sound_dynamic s sound
  sound_next registry newest s n (content c e) goes sound = sound
  sound_next registry newest s n (ends e) goes sound = sound
