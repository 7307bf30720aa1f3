-- What stood when the dynamic phase began stays where passes over the registry go on.
use Rattle.std.proofs.Common.{◌≡◌, ℕ, List, [], ◌∷◌, Bool, true, false, Option, None, Some, refl, sym, ap, subst, inl, inr, ⊎_elim, ◌⊎◌}
use Rattle.std.specs.List.{All}
use Rattle.std.proofs.lemmas.List.Elements.{All-head, All-tail}
use Rattle.url.specs.Parts.{Parts}
use Rattle.spec_base.specs.Specifier.{specifier_text}
use Rattle.version_dates.specs.declared.newest_date.NewestDependencyDateOptions.{NewestDependencyDateOptions}
use Rattle.registry_files.specs.Answers.{FileAnswer}
use Rattle.registry_urls.specs.Meaning.{RegistryMeaning}
use Rattle.graph_errors.specs.Errors.{redirects_error}
use Rattle.graph_errors.specs.declared.errors.ModuleErrorKind.TheVariants.{Load as LoadFails}
use Rattle.graph_errors.specs.declared.errors.ModuleLoadError.TheVariants.{Jsr}
use Rattle.graph_core.specs.declared.graph.ModuleGraph.{ModuleGraph}
use Rattle.module_slots.specs.declared.load.Load.{Load}
use Rattle.module_slots.specs.declared.slot.ModuleSlot.TheVariants.{Err as Failed}
use Rattle.module_slots.specs.Slots.{failed_slot}
use Rattle.graph_turns.specs.declared.choosing.Verdict.{Verdict}
use Rattle.graph_turns.specs.declared.choosing.Verdict.TheVariants.{AsksAgain, Probes, Restarts, Gets, Fails}
use Rattle.graph_turns.specs.declared.exports.Export.{Export}
use Rattle.graph_turns.specs.declared.passes.Chosen.{Chosen}
use Rattle.graph_turns.specs.declared.passes.Pass.{Pass}
use Rattle.graph_turns.specs.declared.registry.RegistryFile.{RegistryFile}
use Rattle.graph_turns.specs.declared.registry.RegistryFile.TheVariants.{Package, PackageAgain, Version, Probe}
use Rattle.graph_turns.specs.declared.state.State.{State}
use Rattle.graph_turns.specs.declared.waiting.WaitingPackage.{WaitingPackage}
use Rattle.graph_turns.specs.Machine.Choosing.{judged, judged_by}
use Rattle.graph_turns.specs.Machine.Passes.{all_entered, export_entered, exports_entered, exports_entered_in, pass_begun, versions_asked, versions_asked_in}
use Rattle.graph_turns.specs.Machine.Redirects.{moved}
use Rattle.graph_turns.specs.Machine.RegistryFiles.{first_kept, wanted_kept}
use Rattle.graph_turns.specs.Machine.Waiting.{notes_added}
use Rattle.graph_turns.specs.Promise.Input.{EnteredGraph}
use Rattle.graph_turns.specs.Promise.Packages.{names_jsr, unjoinable}
use Rattle.graph_turns.specs.Promise.Reached.{in_package}
use Rattle.graph_turns.specs.Promise.Versions.{kept_of}
use Rattle.graph_turns.proofs.Entering.Exports.{ExportEntered, how_export, used}
use Rattle.graph_turns.proofs.Entering.Exports.ExportEntered.{refused, unjoined, ended, onward}
use Rattle.graph_turns.proofs.Entering.Judged.{how_judged}
use Rattle.turn_laws.proofs.Promise.Moving.{moved_ends}
use Rattle.turn_laws.proofs.Promise.Sound.{End, AwaitsPass, HasChosen, HasItem, Sound, StandsIn, end_as, ends_now, nothing}
use Rattle.turn_laws.proofs.Promise.SoundPasses.{has_chosen_cases, sound_export, sound_opened_pass}
use Rattle.turn_laws.proofs.Promise.SoundTurned.{all_noted}
use Rattle.turn_laws.proofs.Static.Past.{IsNew, Past, past_beside, past_enter, past_file, past_redirected, past_slot}

-- an item that is no asset's
abbrev pub IsModuleItem : WaitingPackage → Type 0
IsModuleItem item = item.context.asset ≡ false

module _ (old : ModuleGraph) where
  pub past_notes : (registry : RegistryMeaning) (s : State) → Past old s → Past old (notes_added registry s)
  past_notes registry s past =
      let is = all_noted registry s.notes s.graph in
      past_beside old s (notes_added registry s) (record { slots = is.slots; redirects = is.redirects; starts_are = is.starts_are; flags = refl; loads = refl }) (λ k a. a) past

  pub past_wanted : (registry : RegistryMeaning) (s : State) (answer : FileAnswer) → Past old s → Past old (wanted_kept registry s answer)
  past_wanted registry s answer past = by s.wanted
    where
      by : (files : List RegistryFile) → Past old (first_kept registry s answer files)
      by [] = past
      by (Package name ∷ files) = past_beside old s (first_kept registry s answer (Package name ∷ files)) (record { slots = refl; redirects = refl; starts_are = refl; flags = refl; loads = refl }) (λ k a. a) past
      by (PackageAgain name ∷ files) = past_beside old s (first_kept registry s answer (PackageAgain name ∷ files)) (record { slots = refl; redirects = refl; starts_are = refl; flags = refl; loads = refl }) (λ k a. a) past
      by (Probe nv ∷ files) = past_beside old s (first_kept registry s answer (Probe nv ∷ files)) (record { slots = refl; redirects = refl; starts_are = refl; flags = refl; loads = refl }) (λ k a. a) past
      by (Version nv ∷ files) = past_file old (record s { wanted = files }) nv (kept_of registry nv answer)
          (past_beside old s (record s { wanted = files }) (record { slots = refl; redirects = refl; starts_are = refl; flags = refl; loads = refl }) (λ k a. a) past)

  pub past_pass : (s : State) → Past old s → Past old (pass_begun s)
  past_pass s past = past_beside old s (pass_begun s) (record { slots = refl; redirects = refl; starts_are = refl; flags = refl; loads = refl })
      (λ k a. ⊎_elim (λ b. absurd b) (λ p. ⊎_elim inl (λ b. absurd b) p) a) past

  -- the first specifier of the pass is judged
  module _ (s : State) (p : Pass) (first : WaitingPackage) (others : List WaitingPackage) (goes : s.pass ≡ Some p) (items : p.items ≡ first ∷ others) (past : Past old s) where
    in_pass : (k : List ℕ) → HasItem k (first ∷ others) ⊎ HasChosen k p.chosen → AwaitsPass s k
    in_pass k a = inr (subst (λ (q : Option Pass). StandsIn q k) (sym goes) (⊎_elim (λ w. inl (subst (HasItem k) (sym items) w)) inr a))

    new_first : IsNew old (specifier_text first.specifier)
    new_first = past.awaited (specifier_text first.specifier) (in_pass (specifier_text first.specifier) (inl (inl refl)))

    past_judged_by : (verdict : Verdict) → Past old (judged_by s p first others verdict)
    past_judged_by (AsksAgain name) = past_beside old s (judged_by s p first others (AsksAgain name)) (record { slots = refl; redirects = refl; starts_are = refl; flags = refl; loads = refl }) (λ k a. a) past
    past_judged_by (Probes nvs) = past_beside old s (judged_by s p first others (Probes nvs)) (record { slots = refl; redirects = refl; starts_are = refl; flags = refl; loads = refl }) (λ k a. a) past
    past_judged_by Restarts = past_beside old s (judged_by s p first others Restarts) (record { slots = refl; redirects = refl; starts_are = refl; flags = refl; loads = refl }) (λ k a. a) past
    past_judged_by (Gets nv yanked) = past_beside old s (judged_by s p first others (Gets nv yanked)) (record { slots = refl; redirects = refl; starts_are = refl; flags = refl; loads = refl })
        (λ k a. ⊎_elim inl (λ q. in_pass k (⊎_elim (λ w. inl (inr w)) (λ c. ⊎_elim inr (λ same. inl (inl same)) (has_chosen_cases k p.chosen (record { item = first; nv = nv }) c)) q)) a) past
    past_judged_by (Fails e) =
        past_slot old (record s { pass = Some (record p { items = others }) }) (specifier_text first.specifier) (failed_slot (LoadFails first.specifier first.context.range (Jsr e))) new_first refl
        (past_beside old s (record s { pass = Some (record p { items = others }) }) (record { slots = refl; redirects = refl; starts_are = refl; flags = refl; loads = refl })
        (λ k a. ⊎_elim inl (λ q. in_pass k (⊎_elim (λ w. inl (inr w)) inr q)) a) past)

    pub past_judged : (newest : NewestDependencyDateOptions) → Past old (judged newest s)
    past_judged newest =
        let how = how_judged newest s p first others goes items in
        subst (Past old) (sym how.is) (past_judged_by how.verdict)

  pub past_versions : (s : State) → Past old s → Past old (versions_asked s)
  past_versions s past = by s.pass refl
    where
      by : (o : Option Pass) → s.pass ≡ o → Past old (versions_asked_in s o)
      by None e = past
      by (Some p) e = past_beside old s (versions_asked_in s (Some p)) (record { slots = refl; redirects = refl; starts_are = refl; flags = refl; loads = refl })
          (λ k a. ⊎_elim inl (λ q. inr (subst (λ (x : Option Pass). StandsIn x k) (sym e) q)) a) past

  -- ---- exports

  past_export : (s : State) (top : Bool) (one : Chosen) → IsNew old (specifier_text one.item.specifier) → IsModuleItem one.item → ((x : List ℕ) → End s.graph x) → Past old s → Past old (export_entered s top one)
  past_export s top one new plain ends past = by_entered (export_entered s top one) (how_export s top one)
    where
      a : Parts
      a = one.item.specifier

      past_used : (e : Export) → Past old (used s top one e)
      past_used e = past_beside old s (used s top one e) (record { slots = refl; redirects = refl; starts_are = refl; flags = refl; loads = refl }) (λ k b. b) past

      by_entered : (u : State) → ExportEntered s top one u → Past old u
      by_entered u (refused {e} is) = past_slot old s (specifier_text a) (failed_slot (LoadFails a one.item.context.range (Jsr e))) new refl past
      by_entered u (unjoined {e} is to) = past_slot old (used s top one e) (specifier_text a) (failed_slot (LoadFails a one.item.context.range (Jsr (unjoinable one.nv e)))) new refl (past_used e)
      by_entered u (ended {e} {to} is leads back) = past_slot old (used s top one e) (specifier_text a) (Failed (redirects_error a one.item.context.range)) new refl (past_used e)
      by_entered u (onward {e} {to} is leads back) =
          let g = (used s top one e).graph in
          let next : Load = record { specifier = to; context = in_package (Some one.nv) one.item.context; is_type = false } in
          past_enter old (record (used s top one e) { graph = moved g a to }) next (moved_ends g a to back (λ x. end_as s.graph g refl refl x (ends x)) (specifier_text to)) plain
          (past_redirected old (used s top one e) a to new (past_used e))

  module _ (o : EnteredGraph) where
    past_all : (ones : List Chosen) (s : State) (top : Bool) → ((k : List ℕ) → HasChosen k ones → IsNew old k × (names_jsr k ≡ true)) → All (λ (one : Chosen). IsModuleItem one.item) ones → Sound o ⊥ nothing (λ e. HasChosen e ones) [] s → Past old s → Past old (all_entered s top ones)
    unfolding all_entered
    past_all [] s top new plain sound past = past
    past_all (one ∷ ones) s top new plain sound past =
        let first = new (specifier_text one.item.specifier) (inl refl) in
        past_all ones (export_entered s top one) top (λ k h. new k (inr h)) (All-tail (λ (x : Chosen). IsModuleItem x.item) one ones plain)
        (sound_export o ⊥ (λ e. HasChosen e ones) s top one first.1 sound)
        (past_export s top one first.0 (All-head (λ (x : Chosen). IsModuleItem x.item) one ones plain) (ends_now o nothing (λ e. HasChosen e (one ∷ ones)) [] s sound) past)

    pub past_exports : (s : State) (p : Pass) → s.pass ≡ Some p → p.is_entering ≡ true → All (λ (one : Chosen). IsModuleItem one.item) p.chosen → Sound o ⊥ nothing nothing [] s → Past old s → Past old (exports_entered s)
    past_exports s p goes entering_now plain sound past = subst (Past old) (sym (ap (exports_entered_in s) goes))
        (past_all p.chosen (record s { pass = None }) p.is_top_level
        (λ k h. let a : AwaitsPass s k = inr (subst (λ (q : Option Pass). StandsIn q k) (sym goes) (inr h)) in (past.awaited k a, sound.packages k a))
        plain (sound_opened_pass o ⊥ s p goes entering_now sound)
        (past_beside old s (record s { pass = None }) (record { slots = refl; redirects = refl; starts_are = refl; flags = refl; loads = refl }) (λ k a. ⊎_elim inl (λ b. absurd b) a) past))
