-- What turns by which no load is answered keep of what is counted: notes, passes over the registry, and what their exports lead to.
use Rattle.std.proofs.Common.{◌≡◌, ℕ, List, [], ◌∷◌, ◌++◌, Bool, true, false, not, ◌&&◌, if◌then◌else◌, None, Some, is_some, refl, sym, ap, ◌∙◌, subst, inl, inr, ⊎_elim, ◌⊎◌}
use Rattle.std.proofs.lemmas.Bool.{true≢false}
use Rattle.std.specs.FinMap as finite
use Rattle.url.specs.Parts.{Parts}
use Rattle.seen_pending.specs.Once.{each_once}
use Rattle.spec_base.specs.Specifier.{specifier_text}
use Rattle.semver_npm.specs.declared.package.PackageNv.{PackageNv}
use Rattle.pkg_records.specs.Kept.{same_nv}
use Rattle.pkg_versions.specs.declared.package_info.JsrPackageInfo.{JsrPackageInfo}
use Rattle.version_dates.specs.declared.newest_date.NewestDependencyDateOptions.{NewestDependencyDateOptions}
use Rattle.registry_urls.specs.Meaning.{RegistryMeaning}
use Rattle.graph_errors.specs.Errors.{redirects_error}
use Rattle.graph_errors.specs.declared.errors.ModuleErrorKind.TheVariants.{Load as LoadFails}
use Rattle.graph_errors.specs.declared.errors.ModuleLoadError.TheVariants.{Jsr}
use Rattle.graph_errors.specs.declared.jsr_error.JsrLoadError.{JsrLoadError}
use Rattle.graph_errors.specs.declared.jsr_error.JsrLoadError.TheVariants.{PackageNotFound, PackageReqNotFound}
use Rattle.graph_core.specs.declared.graph.ModuleGraph.{ModuleGraph}
use Rattle.module_slots.specs.declared.load.Load.{Load}
use Rattle.module_slots.specs.declared.slot.ModuleSlot.{ModuleSlot}
use Rattle.module_slots.specs.declared.slot.ModuleSlot.TheVariants.{Err as Failed}
use Rattle.graph_core.specs.Graph.{redirect_at, slot_at, with_redirect, without_slot}
use Rattle.module_slots.specs.Slots.{failed_slot, is_asset_slot, is_pending_at}
use Rattle.graph_turns.specs.declared.choosing.Verdict.{Verdict}
use Rattle.graph_turns.specs.declared.choosing.Verdict.TheVariants.{AsksAgain, Probes, Restarts, Gets, Fails}
use Rattle.graph_turns.specs.declared.exports.Export.{Export}
use Rattle.graph_turns.specs.declared.passes.Chosen.{Chosen}
use Rattle.graph_turns.specs.declared.passes.Pass.{Pass}
use Rattle.graph_turns.specs.declared.registry.RegistryFile.{RegistryFile}
use Rattle.graph_turns.specs.declared.registry.RegistryFile.TheVariants.{Package, PackageAgain, Version, Probe}
use Rattle.graph_turns.specs.declared.run.Run.TheVariants.{Only}
use Rattle.graph_turns.specs.declared.state.State.{State}
use Rattle.graph_turns.specs.declared.waiting.WaitingPackage.{WaitingPackage}
use Rattle.turn_laws.specs.Budget.Asked.{HasPackage, IsChosen, NamesKnown}
use Rattle.graph_turns.specs.Promise.Packages.{unjoinable}
use Rattle.graph_turns.specs.Promise.Reached.{in_package}
use Rattle.graph_turns.specs.Machine.Choosing.{judged, judged_by, package_refused}
use Rattle.graph_turns.specs.Machine.Entering.{enter}
use Rattle.graph_turns.specs.Machine.Passes.{all_entered, export_entered, exports_entered, exports_entered_in, pass_begun, versions_asked, versions_asked_in}
use Rattle.graph_turns.specs.Machine.Probing.{is_met, probes, to_probe, unprobed}
use Rattle.graph_turns.specs.Machine.Redirects.{is_settled, moved}
use Rattle.graph_turns.specs.Machine.RegistryFiles.{packages_wanted, versions_wanted}
use Rattle.graph_turns.specs.Machine.Runs.{wanted_again}
use Rattle.graph_turns.specs.Machine.Waiting.{notes_added}
use Rattle.graph_core.proofs.At.{put_same}
use Rattle.turn_laws.proofs.Budget.Beside.{beside_enter, moved_packages}
use Rattle.turn_laws.proofs.Budget.Known.{Counted, IsKnown, counted_enter, counted_graph, counted_queued, counted_same, hand_moved, hand_put, known_moved, known_put}
use Rattle.turn_laws.proofs.Budget.Loops.{loop_moved, loop_put}
use Rattle.turn_laws.proofs.Budget.Named.{AllNamed, Names, NamesChosen, PassNames, chosen_left, chosen_last as names_last}
use Rattle.turn_laws.proofs.Budget.Packages.{Noted, choice_chosen, choice_has, choice_stays, noted_all, noted_known, same_chosen, same_packages, used_chosen, used_has}
use Rattle.turn_laws.proofs.Budget.Versions.{CountedVersions, IsFailing, versions_idle}
use Rattle.turn_laws.proofs.Budget.Wanted.{AreChosen, AreOnce, CountedFiles, OnceFile, once_probes, probe_of, IsKept, IsNameOf, IsNewPackage, IsNewVersion, IsOfFile, IsPassing, Keeps, chosen_as, chosen_last, files_new, files_over, kept_as, name_as, names_as, names_here, of_file, packages_are, passing_as, versions_are, was_chosen}
use Rattle.graph_turns.proofs.Entering.Exports.{ExportEntered, how_export, used}
use Rattle.graph_turns.proofs.Entering.Exports.ExportEntered.{refused, unjoined, ended, onward}
use Rattle.graph_turns.proofs.Entering.Judged.{Judged, Judges, how_judged}
use Rattle.graph_turns.proofs.Entering.Judged.Judges.{asks_again, looks, restarts, unmet, gets, unread, unasked}
use Rattle.graph_turns.proofs.Entering.Next.{IsCalm, IsOutside}
use Rattle.graph_turns.proofs.Entering.Probing.{IsToProbe, probes_are}
use Rattle.graph_turns.proofs.Entering.Rested.{still_exports}
use Rattle.graph_turns.proofs.Leading.Ways.{put_at, slot_put}
use Rattle.turn_laws.proofs.Promise.Storing.{how_moved}

-- where none is wanted, and what else files hang on stays
pub files_beside : (read : List PackageNv) (looked : List RegistryFile) (s u : State) → u.files ≡ s.files → u.packages ≡ s.packages → u.reloaded ≡ s.reloaded → u.probed ≡ s.probed → u.run ≡ s.run → u.pass ≡ s.pass → u.wanted ≡ s.wanted → s.wanted ≡ []
    → ((k : List ℕ) → IsKnown s.graph k → IsKnown u.graph k) → ((nv : PackageNv) → IsChosen s.graph nv → IsChosen u.graph nv) → (AllNamed s.waiting → AllNamed u.waiting) → CountedFiles read looked s → CountedFiles read looked u
files_beside read looked s u files packages reloaded probed run pass wanted none known chosen named now =
    files_over read looked s u (record {
      answers = kept_as s u files packages reloaded probed;
      run = λ e. run ∙ e;
      names = λ name h. name_as s u name known pass h;
      chosen = chosen;
    }) (wanted ∙ none) (named now.named) (subst (IsPassing u.graph) (sym pass) (passing_as s.graph u.graph s.pass chosen now.passing)) now

-- ---- notes

module _ (registry : RegistryMeaning) (s : State) where
  noted : Noted s.graph (notes_added registry s).graph
  noted = noted_all registry s.graph s.notes

  pub known_noted : (k : List ℕ) → IsKnown s.graph k → IsKnown (notes_added registry s).graph k
  known_noted k h = noted_known s.graph (notes_added registry s).graph noted k h

  pub counted_noted : (asked : List Load) → Counted asked s → Counted asked (notes_added registry s)
  counted_noted asked counted = counted_same asked s (notes_added registry s) noted.slots noted.redirects refl counted

  pub versions_noted : (by : RegistryMeaning) (read : List PackageNv) → CountedVersions by read s → CountedVersions by read (notes_added registry s)
  versions_noted by read now = record {
    kept = now.kept;
    once = now.once;
    known = λ nv h. ⊎_elim (λ p. inl (noted.has nv p))
        (λ r. inr (⊎_elim (λ k. inl (noted_known s.graph (notes_added registry s).graph noted (specifier_text (by.package_url nv)) k)) (λ f. inr (failing nv f)) r)) (now.known nv h);
  }
    where
      failing : (nv : PackageNv) → IsFailing by s nv → IsFailing by (notes_added registry s) nv
      failing nv f = record { load = f.load; loads = f.loads; error = f.error; first = f.first; fails = f.fails }

  pub files_noted : (read : List PackageNv) (looked : List RegistryFile) → CountedFiles read looked s → CountedFiles read looked (notes_added registry s)
  files_noted read looked now = record {
    kept = λ f h. keeps.answers f (now.kept f h);
    once = now.once;
    apart = now.apart;
    about = λ f h. of_file s (notes_added registry s) keeps f (now.about f h);
    wanted_once = now.wanted_once;
    wanted_new = λ f h k. now.wanted_new f h (back f k);
    wanted_about = λ f h. of_file s (notes_added registry s) keeps f (now.wanted_about f h);
    wanted_idle = now.wanted_idle;
    named = now.named;
    passing = passing_as s.graph (notes_added registry s).graph s.pass noted.chosen now.passing;
  }
    where
      keeps : Keeps s (notes_added registry s)
      keeps = record {
        answers = kept_as s (notes_added registry s) refl refl refl refl;
        run = λ e. e;
        names = λ name h. name_as s (notes_added registry s) name (noted_known s.graph (notes_added registry s).graph noted) refl h;
        chosen = noted.chosen;
      }

      back : (f : RegistryFile) → IsKept (notes_added registry s) f → IsKept s f
      back (Package name) k = k
      back (PackageAgain name) k = k
      back (Version nv) k = k
      back (Probe nv) k = k

-- ---- an error at a specifier that waited

counted_put : (asked : List Load) (s : State) (at : Parts) (v : ModuleSlot) → is_asset_slot v ≡ false → Counted asked s → Counted asked (record s { graph = put_at s.graph (specifier_text at) v })
counted_put asked s at v plain counted = counted_graph asked s (put_at s.graph (specifier_text at) v) s.root_names s.sums (known_put s.graph (specifier_text at) v)
    (λ k t. ⊎_elim (λ here. absurd (true≢false (sym here.1 ∙ plain))) inr (hand_put s.graph (specifier_text at) v k t)) (loop_put s.graph (specifier_text at) v) counted

counted_refused : (asked : List Load) (s : State) (item : WaitingPackage) (e : JsrLoadError) → Counted asked s → Counted asked (package_refused s item e)
counted_refused asked s item e counted = counted_put asked s item.specifier (failed_slot (LoadFails item.specifier item.context.range (Jsr e))) refl counted

-- ---- a specifier is judged

module _ (newest : NewestDependencyDateOptions) (s : State) (p : Pass) (first : WaitingPackage) (others : List WaitingPackage) where
  counted_verdict : (asked : List Load) (v : Verdict) → Counted asked s → Counted asked (judged_by s p first others v)
  counted_verdict asked (AsksAgain name) counted = counted_queued asked s _ refl refl counted
  counted_verdict asked (Probes nvs) counted = counted_queued asked s _ refl refl counted
  counted_verdict asked Restarts counted = counted_queued asked s _ refl refl counted
  counted_verdict asked (Gets nv yanked) counted = counted_same asked s (judged_by s p first others (Gets nv yanked)) refl refl refl counted
  counted_verdict asked (Fails e) counted = counted_refused asked (record s { pass = Some (record p { items = others }) }) first e (counted_queued asked s _ refl refl counted)

  known_verdict : (v : Verdict) (k : List ℕ) → IsKnown s.graph k → IsKnown (judged_by s p first others v).graph k
  known_verdict (AsksAgain name) k h = h
  known_verdict (Probes nvs) k h = h
  known_verdict Restarts k h = h
  known_verdict (Gets nv yanked) k h = h
  known_verdict (Fails e) k h = known_put s.graph (specifier_text first.specifier) (failed_slot (LoadFails first.specifier first.context.range (Jsr e))) k h

  versions_verdict : (registry : RegistryMeaning) (read : List PackageNv) (v : Verdict) → s.loads ≡ [] → CountedVersions registry read s → CountedVersions registry read (judged_by s p first others v)
  versions_verdict registry read (AsksAgain name) idle now = versions_idle registry read s _ idle refl (λ nv h. h) (λ k h. h) now
  versions_verdict registry read (Probes nvs) idle now = versions_idle registry read s _ idle refl (λ nv h. h) (λ k h. h) now
  versions_verdict registry read Restarts idle now = versions_idle registry read s _ idle refl (λ nv h. h) (λ k h. h) now
  versions_verdict registry read (Gets nv yanked) idle now = versions_idle registry read s (judged_by s p first others (Gets nv yanked)) idle refl (choice_has s.graph first.req nv yanked) (λ k h. h) now
  versions_verdict registry read (Fails e) idle now =
      versions_idle registry read s (judged_by s p first others (Fails e)) idle refl (λ nv h. h) (known_verdict (Fails e)) now

  module _ (calm : IsCalm s) (goes : s.pass ≡ Some p) (judging : p.is_entering ≡ false) (items : p.items ≡ first ∷ others) (read : List PackageNv) (looked : List RegistryFile) (now : CountedFiles read looked s) where
    passing : IsPassing s.graph (Some p)
    passing = subst (IsPassing s.graph) goes now.passing

    named : AllNamed (first ∷ others)
    named = subst AllNamed items passing.0

    -- no exports enter yet
    no_exports : {A : Type 0} → p.is_entering ≡ true → A
    no_exports e = absurd (true≢false (sym e ∙ judging))

    -- where a package is named in the pass
    in_pass : (name : List ℕ) → PassNames name s.pass → (name ≡ first.req.name) ⊎ (Names name others ⊎ NamesChosen name p.chosen)
    in_pass name h = ⊎_elim
        (λ i. ⊎_elim inl (λ r. inr (inl r)) (subst (Names name) items i))
        (λ c. inr (inr c))
        (subst (PassNames name) goes h)

    -- it gets a version
    module _ (nv : PackageNv) (yanked : Bool) where
      abbrev got : State
      got = judged_by s p first others (Gets nv yanked)

      files_got : CountedFiles read looked got
      files_got = files_over read looked s got (record {
        answers = kept_as s got refl refl refl refl;
        run = λ e. e;
        names = names;
        chosen = choice_stays s.graph first.req nv yanked;
      }) calm.no_file now.named (named.1, chosen_last got.graph p.chosen (record { item = first; nv = nv }) (chosen_as s.graph got.graph p.chosen (choice_stays s.graph first.req nv yanked) passing.1) named.0 (choice_chosen s.graph first.req nv yanked), no_exports) now
        where
          names : (name : List ℕ) → IsNameOf s name → IsNameOf got name
          names name (inl h) = inl h
          names name (inr h) = inr (⊎_elim (λ same. inr (names_last name p.chosen (record { item = first; nv = nv }) same)) (λ r. ⊎_elim inl (λ c. inr (chosen_left name p.chosen (record { item = first; nv = nv } ∷ []) c)) r) (in_pass name h))

    -- it gets an error
    module _ (e : JsrLoadError) where
      abbrev failed : State
      failed = judged_by s p first others (Fails e)

      there : IsKnown failed.graph (specifier_text first.specifier)
      there = inl (slot_put s.graph (specifier_text first.specifier) (failed_slot (LoadFails first.specifier first.context.range (Jsr e))))

      files_failed : CountedFiles read looked failed
      files_failed = files_over read looked s failed (record {
        answers = kept_as s failed refl refl refl refl;
        run = λ e. e;
        names = names;
        chosen = λ nv h. h;
      }) calm.no_file now.named (named.1, chosen_as s.graph failed.graph p.chosen (λ nv h. h) passing.1, no_exports) now
        where
          names : (name : List ℕ) → IsNameOf s name → IsNameOf failed name
          names name (inl h) = inl (names_as s.graph failed.graph name (known_put s.graph (specifier_text first.specifier) (failed_slot (LoadFails first.specifier first.context.range (Jsr e)))) h)
          names name (inr h) = ⊎_elim (λ same. inl (subst (NamesKnown failed.graph) (sym same) (names_here failed.graph first named.0 there))) inr (in_pass name h)

    -- the file of its package is asked about once more
    module _ (run : s.run ≡ Only) (unknown : finite.contains_key s.reloaded first.req.name ≡ false) where
      abbrev again : State
      again = judged_by s p first others (AsksAgain first.req.name)

      files_again : CountedFiles read looked again
      files_again = files_new read looked s again (record {
        answers = kept_as s again refl refl refl refl;
        run = λ e. e;
        names = λ name h. h;
        chosen = λ nv h. h;
      }) calm.no_load (subst (AreOnce (λ f. (IsKept again f → ⊥) × IsOfFile again f)) (sym (ap (λ l. l ++ PackageAgain first.req.name ∷ []) calm.no_file)) alone) now.named now.passing now
        where
          here : PassNames first.req.name s.pass
          here = subst (PassNames first.req.name) (sym goes) (inl (subst (Names first.req.name) (sym items) (inl refl)))

          is : (IsKept again (PackageAgain first.req.name) → ⊥) × IsOfFile again (PackageAgain first.req.name)
          is = (λ k. true≢false (sym k ∙ unknown), (inr here, run))

          alone : AreOnce (λ f. (IsKept again f → ⊥) × IsOfFile again f) (PackageAgain first.req.name ∷ [])
          alone = ((λ h. h, tt), λ f h. ⊎_elim (λ same. subst (λ x. (IsKept again x → ⊥) × IsOfFile again x) (sym same) is) (λ n. absurd n) h)

    -- versions are looked for in a cache
    module _ (info : JsrPackageInfo) where
      abbrev looks_for : State
      looks_for = judged_by s p first others (Probes (to_probe s first.req info))

      files_probed : CountedFiles read looked looks_for
      files_probed = files_new read looked s looks_for (record {
        answers = kept_as s looks_for refl refl refl refl;
        run = λ e. e;
        names = λ name h. h;
        chosen = λ nv h. h;
      }) calm.no_load (subst (AreOnce (λ f. (IsKept looks_for f → ⊥) × IsOfFile looks_for f)) (sym (ap (λ l. l ++ probes (to_probe s first.req info)) calm.no_file)) are) now.named now.passing now
        where
          here : PassNames first.req.name s.pass
          here = subst (PassNames first.req.name) (sym goes) (inl (subst (Names first.req.name) (sym items) (inl refl)))

          once : (b : Bool) → OnceFile (probes (if b then each_once same_nv (unprobed s.probed first.req info) else []))
          once true = once_probes [] (unprobed s.probed first.req info)
          once false = tt

          are : AreOnce (λ f. (IsKept looks_for f → ⊥) × IsOfFile looks_for f) (probes (to_probe s first.req info))
          are = (
            once (s.flags.prefers_cached_jsr && not (is_met s.graph.packages first.req info)),
            λ f h.
                let one = probe_of (IsToProbe s.probed first.req info) (to_probe s first.req info) f (probes_are s first.req info) h in
                subst (λ x. (IsKept looks_for x → ⊥) × IsOfFile looks_for x) (sym one.1)
                (λ k. true≢false (sym k ∙ one.2.new), inr (subst (λ (n : List ℕ). PassNames n s.pass) (sym one.2.named) here)),
          )

    -- the build is to begin once more
    abbrev due : State
    due = judged_by s p first others Restarts

    files_due : CountedFiles read looked due
    files_due = files_over read looked s due (record {
      answers = kept_as s due refl refl refl refl;
      run = λ e. ap wanted_again e;
      names = λ name h. h;
      chosen = λ nv h. h;
    }) calm.no_file now.named now.passing now

    files_verdict : (v : Verdict) → Judges newest s p first others v → CountedFiles read looked (judged_by s p first others v)
    files_verdict v (asks_again file over none run unknown) = files_again run unknown
    files_verdict v (looks {info = info} {nv = nv} {nvs = nvs} file are) = subst (λ (l : List PackageNv). CountedFiles read looked (judged_by s p first others (Probes l))) are (files_probed info)
    files_verdict v (restarts file over none run) = files_due
    files_verdict v (unmet {e = e} file over none so) = files_failed (PackageReqNotFound e)
    files_verdict v (gets {yanked = yanked} {version = version} file over picked) = files_got (record { name = first.req.name; version = version }) yanked
    files_verdict v (unread {e = e} file) = files_failed e
    files_verdict v (unasked file) = files_failed (PackageNotFound first.req.name)

module _ (newest : NewestDependencyDateOptions) (s : State) (p : Pass) (first : WaitingPackage) (others : List WaitingPackage) (goes : s.pass ≡ Some p) (items : p.items ≡ first ∷ others) where
  how : Judged newest s p first others (judged newest s)
  how = how_judged newest s p first others goes items

  pub known_judged : (k : List ℕ) → IsKnown s.graph k → IsKnown (judged newest s).graph k
  known_judged k h = subst (λ (u : State). IsKnown u.graph k) (sym how.is) (known_verdict newest s p first others how.verdict k h)

  pub counted_judged : (asked : List Load) → Counted asked s → Counted asked (judged newest s)
  counted_judged asked counted = subst (Counted asked) (sym how.is) (counted_verdict newest s p first others asked how.verdict counted)

  pub versions_judged : (registry : RegistryMeaning) (read : List PackageNv) → s.loads ≡ [] → CountedVersions registry read s → CountedVersions registry read (judged newest s)
  versions_judged registry read idle now = subst (CountedVersions registry read) (sym how.is) (versions_verdict newest s p first others registry read how.verdict idle now)

  pub files_judged : (read : List PackageNv) (looked : List RegistryFile) → IsCalm s → p.is_entering ≡ false → CountedFiles read looked s → CountedFiles read looked (judged newest s)
  files_judged read looked calm judging now = subst (CountedFiles read looked) (sym how.is) (files_verdict newest s p first others calm goes judging items read looked now how.verdict how.by)

-- ---- a pass begins

module _ (s : State) (outside : IsOutside s) where
  pub counted_begins : (asked : List Load) → Counted asked s → Counted asked (pass_begun s)
  counted_begins asked counted = counted_queued asked s _ refl refl counted

  pub versions_begins : (registry : RegistryMeaning) (read : List PackageNv) → CountedVersions registry read s → CountedVersions registry read (pass_begun s)
  versions_begins registry read now = versions_idle registry read s _ outside.calm.no_load refl (λ nv h. h) (λ k h. h) now

  pub files_begins : (read : List PackageNv) (looked : List RegistryFile) → CountedFiles read looked s → CountedFiles read looked (pass_begun s)
  files_begins read looked now =
      files_new read looked s (pass_begun s) (record {
        answers = kept_as s (pass_begun s) refl refl refl refl;
        run = λ e. e;
        names = names;
        chosen = λ nv h. h;
      }) outside.calm.no_load (subst (AreOnce (λ f. (IsKept (pass_begun s) f → ⊥) × IsOfFile (pass_begun s) f)) (sym (ap (λ l. l ++ packages_wanted s.packages [] s.waiting) outside.calm.no_file)) (are.0, λ f h. wants f (are.1 f h)))
      tt (now.named, tt, λ e. absurd (true≢false (sym e))) now
    where
      names : (name : List ℕ) → IsNameOf s name → IsNameOf (pass_begun s) name
      names name (inl h) = inl h
      names name (inr h) = absurd (subst (PassNames name) outside.no_pass h)

      are : AreOnce (IsNewPackage s.packages s.waiting) (packages_wanted s.packages [] s.waiting)
      are = packages_are s.packages s.waiting s.waiting [] (λ name h. h) (tt, λ f h. absurd h)

      wants : (f : RegistryFile) → IsNewPackage s.packages s.waiting f → (IsKept (pass_begun s) f → ⊥) × IsOfFile (pass_begun s) f
      wants (Package name) h = (λ k. true≢false (sym k ∙ h.0), inr (inl h.1))
      wants (PackageAgain name) h = absurd h
      wants (Probe nv) h = absurd h
      wants (Version nv) h = absurd h

-- ---- all are judged

module _ (s : State) (p : Pass) (calm : IsCalm s) (goes : s.pass ≡ Some p) (items : p.items ≡ []) where
  asks_is : versions_asked s ≡ versions_asked_in s (Some p)
  asks_is = ap (versions_asked_in s) goes

  pub known_asks : (k : List ℕ) → IsKnown s.graph k → IsKnown (versions_asked s).graph k
  known_asks k h = subst (λ (u : State). IsKnown u.graph k) (sym asks_is) h

  pub counted_asks : (asked : List Load) → Counted asked s → Counted asked (versions_asked s)
  counted_asks asked counted = subst (Counted asked) (sym asks_is) (counted_queued asked s _ refl refl counted)

  pub versions_asks : (registry : RegistryMeaning) (read : List PackageNv) → CountedVersions registry read s → CountedVersions registry read (versions_asked s)
  versions_asks registry read now = subst (CountedVersions registry read) (sym asks_is) (versions_idle registry read s _ calm.no_load refl (λ nv h. h) (λ k h. h) now)

  files_asks_in : (read : List PackageNv) (looked : List RegistryFile) → CountedFiles read looked s → CountedFiles read looked (versions_asked_in s (Some p))
  files_asks_in read looked now =
      files_new read looked s (versions_asked_in s (Some p)) (record {
        answers = kept_as s (versions_asked_in s (Some p)) refl refl refl refl;
        run = λ e. e;
        names = names;
        chosen = λ nv h. h;
      }) calm.no_load (subst (AreOnce (λ f. (IsKept (versions_asked_in s (Some p)) f → ⊥) × IsOfFile (versions_asked_in s (Some p)) f)) (sym (ap (λ l. l ++ versions_wanted s.files [] p.chosen) calm.no_file)) (are.0, λ f h. wants f (are.1 f h)))
      now.named (passing_now.0, passing_now.1, λ e. items) now
    where
      passing_now : IsPassing s.graph (Some p)
      passing_now = subst (IsPassing s.graph) goes now.passing

      names : (name : List ℕ) → IsNameOf s name → IsNameOf (versions_asked_in s (Some p)) name
      names name (inl h) = inl h
      names name (inr h) = inr (subst (PassNames name) goes h)

      are : AreOnce (IsNewVersion s.files p.chosen) (versions_wanted s.files [] p.chosen)
      are = versions_are s.files p.chosen p.chosen [] (λ nv h. h) (tt, λ f h. absurd h)

      wants : (f : RegistryFile) → IsNewVersion s.files p.chosen f → (IsKept (versions_asked_in s (Some p)) f → ⊥) × IsOfFile (versions_asked_in s (Some p)) f
      wants (Package name) h = absurd h
      wants (PackageAgain name) h = absurd h
      wants (Probe nv) h = absurd h
      wants (Version nv) h = (λ k. true≢false (sym k ∙ h.0), was_chosen s.graph p.chosen nv passing_now.1 h.1)

  pub files_asks : (read : List PackageNv) (looked : List RegistryFile) → CountedFiles read looked s → CountedFiles read looked (versions_asked s)
  files_asks read looked now = subst (CountedFiles read looked) (sym asks_is) (files_asks_in read looked now)

-- ---- what exports lead to enters

-- what was known is known, packages and chosen versions stay, and what waits is named
pub record Grown (s u : State) : Type 0 where
  pub known : (k : List ℕ) → IsKnown s.graph k → IsKnown u.graph k
  pub has : (nv : PackageNv) → HasPackage s.graph nv → HasPackage u.graph nv
  pub chosen : (nv : PackageNv) → IsChosen s.graph nv → IsChosen u.graph nv
  pub named : AllNamed s.waiting → AllNamed u.waiting

grown_same : (s : State) → Grown s s
grown_same s = record { known = λ k h. h; has = λ nv h. h; chosen = λ nv h. h; named = λ n. n }

grown_both : (s t u : State) → Grown s t → Grown t u → Grown s u
grown_both s t u a b = record {
  known = λ k h. b.known k (a.known k h);
  has = λ nv h. b.has nv (a.has nv h);
  chosen = λ nv h. b.chosen nv (a.chosen nv h);
  named = λ n. b.named (a.named n);
}

grown_put : (s : State) (at : Parts) (v : ModuleSlot) → Grown s (record s { graph = put_at s.graph (specifier_text at) v })
grown_put s at v = record { known = known_put s.graph (specifier_text at) v; has = λ nv h. h; chosen = λ nv h. h; named = λ n. n }

grown_used : (s : State) (top : Bool) (one : Chosen) (e : Export) → Grown s (used s top one e)
grown_used s top one e = record { known = λ k h. h; has = used_has s.graph one.nv e top; chosen = used_chosen s.graph one.nv e top; named = λ n. n }

and_right : (x y : Bool) → x && y ≡ true → y ≡ true
and_right true y t = t
and_right false y t = absurd (true≢false (sym t))

-- a specifier that is redirected is known
moved_here : (g : ModuleGraph) (a n : Parts) → IsKnown (moved g a n) (specifier_text a)
moved_here g a n = by (is_settled (slot_at g a) && is_some (redirect_at g a)) refl
  where
    put : (h : ModuleGraph) → IsKnown (with_redirect h a n) (specifier_text a)
    put h = inr (ap is_some (put_same h.redirects (specifier_text a) n))

    by : (b : Bool) → is_settled (slot_at g a) && is_some (redirect_at g a) ≡ b → IsKnown (if b then g else with_redirect (if is_pending_at (slot_at g a) then without_slot g a else g) a n) (specifier_text a)
    by true t = inr (and_right (is_settled (slot_at g a)) (is_some (redirect_at g a)) t)
    by false f = put (if is_pending_at (slot_at g a) then without_slot g a else g)

module _ (s : State) (top : Bool) (one : Chosen) where
  -- the load goes on
  module _ (e : Export) (to : Parts) where
    abbrev gone : State
    gone = record (used s top one e) { graph = moved (used s top one e).graph one.item.specifier to }

    abbrev goes_to : Load
    goes_to = record { specifier = to; context = in_package (Some one.nv) one.item.context; is_type = false }

    packages_stay : (moved (used s top one e).graph one.item.specifier to).packages ≡ (used s top one e).graph.packages
    packages_stay = moved_packages (used s top one e).graph one.item.specifier to (moved (used s top one e).graph one.item.specifier to) (how_moved (used s top one e).graph one.item.specifier to)

    grown_gone : Grown (used s top one e) (enter gone goes_to)
    grown_gone =
        let from = beside_enter gone goes_to in
        record {
          known = λ k h. from.known k (known_moved (used s top one e).graph one.item.specifier to k h);
          has = λ nv h. same_packages (used s top one e).graph (enter gone goes_to).graph (from.packages ∙ packages_stay) nv h;
          chosen = λ nv h. same_chosen (used s top one e).graph (enter gone goes_to).graph (from.packages ∙ packages_stay) nv h;
          named = from.named;
        }

  grown_export : (u : State) → ExportEntered s top one u → Grown s u
  grown_export u (refused {e} is) = grown_put s one.item.specifier (failed_slot (LoadFails one.item.specifier one.item.context.range (Jsr e)))
  grown_export u (unjoined {e} is none) = grown_both s (used s top one e) u (grown_used s top one e) (grown_put (used s top one e) one.item.specifier (failed_slot (LoadFails one.item.specifier one.item.context.range (Jsr (unjoinable one.nv e)))))
  grown_export u (ended {e} is leads back) = grown_both s (used s top one e) u (grown_used s top one e) (grown_put (used s top one e) one.item.specifier (Failed (redirects_error one.item.specifier one.item.context.range)))
  grown_export u (onward {e} {to} is leads back) = grown_both s (used s top one e) u (grown_used s top one e) (grown_gone e to)

  -- its specifier is known then
  known_export : (u : State) → ExportEntered s top one u → IsKnown u.graph (specifier_text one.item.specifier)
  known_export u (refused {e} is) = inl (slot_put s.graph (specifier_text one.item.specifier) (failed_slot (LoadFails one.item.specifier one.item.context.range (Jsr e))))
  known_export u (unjoined {e} is none) = inl (slot_put (used s top one e).graph (specifier_text one.item.specifier) (failed_slot (LoadFails one.item.specifier one.item.context.range (Jsr (unjoinable one.nv e)))))
  known_export u (ended {e} is leads back) = inl (slot_put (used s top one e).graph (specifier_text one.item.specifier) (Failed (redirects_error one.item.specifier one.item.context.range)))
  known_export u (onward {e} {to} is leads back) =
      (beside_enter (gone e to) (goes_to e to)).known (specifier_text one.item.specifier) (moved_here (used s top one e).graph one.item.specifier to)

  counted_used : (asked : List Load) (e : Export) → Counted asked s → Counted asked (used s top one e)
  counted_used asked e counted = counted_same asked s (used s top one e) refl refl refl counted

  counted_export : (asked : List Load) (u : State) → ExportEntered s top one u → Counted asked s → Counted asked u
  counted_export asked u (refused {e} is) counted = counted_refused asked s one.item e counted
  counted_export asked u (unjoined {e} is none) counted = counted_refused asked (used s top one e) one.item (unjoinable one.nv e) (counted_used asked e counted)
  counted_export asked u (ended {e} is leads back) counted = counted_put asked (used s top one e) one.item.specifier (Failed (redirects_error one.item.specifier one.item.context.range)) refl (counted_used asked e counted)
  counted_export asked u (onward {e} {to} is leads back) counted =
      counted_enter asked (gone e to) (goes_to e to)
      (counted_graph asked (used s top one e) (gone e to).graph s.root_names s.sums (known_moved (used s top one e).graph one.item.specifier to) (λ k t. inr (hand_moved (used s top one e).graph one.item.specifier to k t)) (loop_moved (used s top one e).graph one.item.specifier to back) (counted_used asked e counted))

grown_all : (all : List Chosen) (s : State) (top : Bool) → Grown s (all_entered s top all)
unfolding all_entered
grown_all [] s top = grown_same s
grown_all (one ∷ others) s top = grown_both s (export_entered s top one) (all_entered (export_entered s top one) top others) (grown_export s top one (export_entered s top one) (how_export s top one)) (grown_all others (export_entered s top one) top)

-- the packages of all of them are named by what is known
known_all : (g : ModuleGraph) (all : List Chosen) (s : State) (top : Bool) (name : List ℕ) → AreChosen g all → NamesChosen name all → NamesKnown (all_entered s top all).graph name
unfolding all_entered
known_all g [] s top name are h = absurd h
known_all g (one ∷ others) s top name are (inl same) =
    let t = export_entered s top one in
    let known = known_export s top one t (how_export s top one) in
    subst (NamesKnown (all_entered t top others).graph) (sym same)
    (names_as t.graph (all_entered t top others).graph one.item.req.name (grown_all others t top).known (names_here t.graph one.item are.0 known))
known_all g (one ∷ others) s top name are (inr h) = known_all g others (export_entered s top one) top name are.2 h

counted_all : (asked : List Load) (all : List Chosen) (s : State) (top : Bool) → Counted asked s → Counted asked (all_entered s top all)
unfolding all_entered
counted_all asked [] s top counted = counted
counted_all asked (one ∷ others) s top counted = counted_all asked others (export_entered s top one) top (counted_export s top one asked (export_entered s top one) (how_export s top one) counted)

module _ (s : State) (p : Pass) (calm : IsCalm s) (goes : s.pass ≡ Some p) (entering : p.is_entering ≡ true) where
  enters_is : exports_entered s ≡ all_entered (record s { pass = None }) p.is_top_level p.chosen
  enters_is = ap (exports_entered_in s) goes

  grown : Grown (record s { pass = None }) (exports_entered s)
  grown = subst (Grown (record s { pass = None })) (sym enters_is) (grown_all p.chosen (record s { pass = None }) p.is_top_level)

  pub known_exports : (k : List ℕ) → IsKnown s.graph k → IsKnown (exports_entered s).graph k
  known_exports = grown.known

  pub counted_exports : (asked : List Load) → Counted asked s → Counted asked (exports_entered s)
  counted_exports asked counted = subst (Counted asked) (sym enters_is) (counted_all asked p.chosen (record s { pass = None }) p.is_top_level (counted_queued asked s _ refl refl counted))

  pub versions_exports : (registry : RegistryMeaning) (read : List PackageNv) → CountedVersions registry read s → CountedVersions registry read (exports_entered s)
  versions_exports registry read now = versions_idle registry read s (exports_entered s) calm.no_load (still_exports s).files grown.has grown.known now

  pub files_exports : (read : List PackageNv) (looked : List RegistryFile) → CountedFiles read looked s → CountedFiles read looked (exports_entered s)
  files_exports read looked now =
      let still = still_exports s in
      files_over read looked s (exports_entered s) (record {
        answers = kept_as s (exports_entered s) still.files still.packages still.reloaded still.probed;
        run = λ e. still.run ∙ e;
        names = names;
        chosen = grown.chosen;
      }) (still.wanted ∙ calm.no_file) (grown.named now.named) (subst (IsPassing (exports_entered s).graph) (sym still.pass) tt) now
    where
      passing : IsPassing s.graph (Some p)
      passing = subst (IsPassing s.graph) goes now.passing

      none : p.items ≡ []
      none = passing.2 entering

      named : (name : List ℕ) → Names name p.items ⊎ NamesChosen name p.chosen → NamesKnown (exports_entered s).graph name
      named name (inl i) = absurd (subst (Names name) none i)
      named name (inr c) = subst (λ (u : State). NamesKnown u.graph name) (sym enters_is) (known_all s.graph p.chosen (record s { pass = None }) p.is_top_level name passing.1 c)

      names : (name : List ℕ) → IsNameOf s name → IsNameOf (exports_entered s) name
      names name (inl h) = inl (names_as s.graph (exports_entered s).graph name grown.known h)
      names name (inr h) = inl (named name (subst (PassNames name) goes h))
