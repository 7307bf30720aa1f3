-- What stays explained through passes over the registry.
use Rattle.std.proofs.Common.{◌≡◌, ℕ, List, [], ◌∷◌, ◌++◌, Bool, true, false, if◌then◌else◌, Option, None, Some, is_some, Result, Ok, Err, refl, sym, ap, ◌∙◌, subst, inl, inr, ⊎_elim, ◌⊎◌}
use Rattle.std.specs.Prelude.{IfSome, fold}
use Rattle.std.specs.FinMap as finite
use Rattle.std.specs.List.{All}
use Rattle.std.specs.Option.{option_or}
use Rattle.std.proofs.lemmas.Bool.{true≢false}
use Rattle.std.proofs.lemmas.List.Elements.{All-cons, All-head, All-map, All-nil, All-push, All-tail, All-weaker}
use Rattle.url.specs.Parts.{Parts}
use Rattle.spec_base.specs.Options.{by_option}
use Rattle.spec_base.specs.Specifier.{specifier_text}
use Rattle.semver_npm.specs.References.{export_name}
use Rattle.semver_npm.specs.Versions.{Ver}
use Rattle.semver_npm.specs.declared.package.PackageNv.{PackageNv}
use Rattle.semver_npm.specs.declared.reference.PackageReqReference.{PackageReqReference}
use Rattle.source_io.specs.declared.types.CacheSetting.TheVariants.{Reload}
use Rattle.registry_urls.specs.Meaning.{RegistryMeaning}
use Rattle.pkg_versions.specs.Choice.{choice_of}
use Rattle.version_dates.specs.Dates.{limit_of}
use Rattle.pkg_records.specs.Kept.{with_dependency, with_export, with_top_level_package}
use Rattle.version_dates.specs.declared.not_found.JsrPackageReqNotFoundError.{JsrPackageReqNotFoundError}
use Rattle.pkg_versions.specs.declared.package_info.JsrPackageInfo.{JsrPackageInfo}
use Rattle.pkg_records.specs.declared.package_specifiers.PackageSpecifiers.{PackageSpecifiers}
use Rattle.source_sums.specs.Sums.{KnownSums}
use Rattle.registry_files.specs.Kept.{Versions}
use Rattle.registry_files.specs.declared.kept_version.KeptVersion.{KeptVersion}
use Rattle.graph_errors.specs.Errors.{redirects_error}
use Rattle.graph_errors.specs.declared.jsr_error.JsrLoadError.{JsrLoadError}
use Rattle.graph_errors.specs.declared.jsr_error.JsrLoadError.TheVariants.{PackageReqNotFound, PackageVersionNotFound}
use Rattle.graph_core.specs.declared.graph.ModuleGraph.{ModuleGraph}
use Rattle.module_slots.specs.declared.load.Load.{Load}
use Rattle.module_slots.specs.declared.slot.ModuleSlot.TheVariants.{Err as Failed}
use Rattle.graph_turns.specs.declared.choosing.Verdict.{Verdict}
use Rattle.graph_turns.specs.declared.choosing.Verdict.TheVariants.{AsksAgain, Probes, Restarts, Gets, Fails}
use Rattle.graph_turns.specs.declared.dependencies.Note.{Note}
use Rattle.graph_turns.specs.declared.exports.Export.{Export}
use Rattle.graph_turns.specs.declared.flags.Flags.{Flags}
use Rattle.graph_turns.specs.declared.passes.Chosen.{Chosen}
use Rattle.graph_turns.specs.declared.passes.Pass.{Pass}
use Rattle.graph_turns.specs.declared.run.Run.{Run}
use Rattle.graph_turns.specs.declared.run.Run.TheVariants.{Only, First, Due, Second}
use Rattle.graph_turns.specs.declared.registry.RegistryFile.TheVariants.{PackageAgain, Probe}
use Rattle.graph_turns.specs.declared.starting.ResolvedStart.{ResolvedStart}
use Rattle.graph_turns.specs.declared.state.State.{State}
use Rattle.graph_turns.specs.declared.waiting.WaitingPackage.{WaitingPackage}
use Rattle.graph_turns.specs.Machine.Choosing.{choice_in, existing_in, judged, judged_by, package_file, with_choice}
use Rattle.graph_turns.specs.Machine.Passes.{all_entered, begins_top_level, export_at, export_by_file, export_entered, exports_entered, exports_entered_in, pass_begun, versions_asked, versions_asked_in, with_used}
use Rattle.graph_turns.specs.Machine.Redirects.{leads_back, moved}
use Rattle.graph_turns.specs.Machine.Runs.{asks_packages_again, earlier_sums, is_due, setting_for, wanted_again}
use Rattle.graph_turns.specs.Machine.Sums.{sum_in}
use Rattle.graph_turns.specs.Machine.Waiting.{load_of, notes_added, with_noted}
use Rattle.graph_turns.specs.Machine.Probing.{probes, to_probe}
use Rattle.graph_turns.specs.Promise.Cached.{told_cached}
use Rattle.graph_turns.specs.Promise.Choices.{Lacks}
use Rattle.graph_turns.specs.Promise.Explains.Explains.{package_unread, not_met, version_unread, no_export, unjoined as not_joined, led_back}
use Rattle.graph_turns.specs.Promise.Explains.{Explains, IsExplained}
use Rattle.graph_turns.specs.Promise.Input.{EnteredGraph}
use Rattle.turn_laws.specs.Promise.Keeps.{IsReachedChoice, IsReachedFile, IsReachedItem}
use Rattle.turn_laws.specs.Promise.Keeps.IsReachedFile.{for_package_again, for_probe}
use Rattle.graph_turns.specs.Promise.Packages.{Fits, IsExport, IsLastFile, IsLookedFor, IsPackageFile, export_of, unjoinable}
use Rattle.graph_turns.specs.Promise.Reached.{Reached, in_package}
use Rattle.graph_turns.specs.Promise.Reached.IsRedirected.{to_export}
use Rattle.graph_turns.specs.Promise.Reached.Reached.{exported}
use Rattle.graph_turns.specs.Promise.Slots.{jsr_slot}
use Rattle.graph_turns.specs.Promise.Told.{Told}
use Rattle.graph_turns.specs.Promise.Versions.{told_version}
use Rattle.graph_turns.proofs.Entering.Exports.{ExportEntered, how_export, used}
use Rattle.graph_turns.proofs.Entering.Exports.ExportEntered.{refused, unjoined, ended, onward}
use Rattle.graph_turns.proofs.Entering.Judged.{Judges, SaysSo, how_judged}
use Rattle.graph_turns.proofs.Entering.Judged.Judges.{asks_again, looks, restarts, unmet, gets, unread, unasked}
use Rattle.graph_turns.proofs.Entering.Judged.SaysSo.{only, due, second}
use Rattle.graph_turns.proofs.Entering.Next.{IsCalm}
use Rattle.graph_turns.proofs.Entering.Rested.{still_export_entered}
use Rattle.graph_turns.proofs.Entering.Probing.{probes_are, probes_preferred}
use Rattle.turn_laws.proofs.Promise.Cached.{choice_told}
use Rattle.turn_laws.proofs.Promise.Choosing.{choice_without}
use Rattle.turn_laws.proofs.Promise.GraphKept.{kept_moved, kept_packages, packages_moved}
use Rattle.turn_laws.proofs.Promise.Kept.{IsFoundSum, Kept, kept_beside, kept_enter, kept_over, kept_slot_at, names_back}
use Rattle.turn_laws.proofs.Promise.PackagesKept.{PackagesKept, chosen_fits, packages_as, packages_chosen}
use Rattle.turn_laws.proofs.Promise.Passing.{IsKnownChoice, IsStage, PassKept, RunBegins, RunKept, file_again, file_last, file_served, file_told, package_there_now, pass_asks, pass_begins, pass_gone, pass_judged, pass_wants, versions_there_now}
use Rattle.turn_laws.proofs.Promise.Passing.IsStage.{same as goes_on, due as due_again}
use Rattle.turn_laws.proofs.Promise.Places.{places_as, places_moved}
use Rattle.graph_turns.specs.Machine.Entering.{enter}

-- what a run that is to begin once more found before
earlier_wanted : (run : Run) → earlier_sums (wanted_again run) ≡ earlier_sums run
earlier_wanted Only = refl
earlier_wanted (First start) = refl
earlier_wanted (Due start) = refl
earlier_wanted (Second e) = refl

-- a first run is to begin once more
due_stage : (begun : Run) (start : ResolvedStart) (run : Run) → IsStage begun run → run ≡ First start → IsStage begun (Due start)
due_stage begun start run goes_on is = due_again is
due_stage begun start run (due_again {start = x} first_one) is = absurd (let wrong : Due x ≡ First start = is in cc)

-- an answer that is known isn't missing
none_known : {X : Type 0} (known found : Option X) → is_some found ≡ true → option_or known found ≡ None → ⊥
none_known None found there none = true≢false (sym there ∙ ap is_some none)
none_known (Some x) found there none = let wrong : Some x ≡ None = none in cc

module _ (w : Told) (given : EnteredGraph) (begins : RunBegins given) where
  abbrev IsKept : State → Type 0
  IsKept s = Kept w given begins s

  -- another graph with other packages
  kept_with : (s : State) (p : PackageSpecifiers) → PackagesKept w given p → IsKept s → IsKept (record s { graph = record s.graph { packages = p } })
  kept_with s p packages kept = kept_over w given begins s (record s.graph { packages = p }) (kept_packages w given s.contents s.graph p kept.graph) (places_as w given s.contents s.graph (record s.graph { packages = p }) refl kept.places) packages kept

  -- ---- notes

  noted_one : (registry : RegistryMeaning) (s : State) (note : Note) → IsKept s → IsKept (record s { graph = with_noted registry s.graph note })
  noted_one registry s note kept = by (registry.nv_of note.referrer)
    where
      by : (o : Option PackageNv) → IsKept (record s { graph = by_option o s.graph (λ nv. record s.graph { packages = with_dependency s.graph.packages nv note.dependency }) })
      by None = kept
      by (Some nv) = kept_with s (with_dependency s.graph.packages nv note.dependency) (packages_as w given s.graph.packages (with_dependency s.graph.packages nv note.dependency) refl refl kept.packages) kept

  noted_all : (registry : RegistryMeaning) (s : State) (notes : List Note) → IsKept s → IsKept (record s { graph = fold (with_noted registry) s.graph notes })
  noted_all registry s [] kept = kept
  noted_all registry s (note ∷ notes) kept = noted_all registry (record s { graph = with_noted registry s.graph note }) notes (noted_one registry s note kept)

  -- packages get the dependencies that were noted
  pub kept_notes : (registry : RegistryMeaning) (s : State) → IsKept s → IsKept (notes_added registry s)
  kept_notes registry s kept = kept_beside w given begins (record s { graph = fold (with_noted registry) s.graph s.notes }) [] (noted_all registry s s.notes kept)

  -- ---- a pass begins

  -- the pass, what it wants and what waits change
  kept_pass : (s : State) (pass : Option Pass) (u : State) → u ≡ record s { wanted = u.wanted; waiting = u.waiting; pass = pass } → PassKept w given s.packages s.files u.wanted pass → All (IsReachedItem w given) u.waiting → IsKept s → IsKept u
  kept_pass s pass u is new waiting kept = subst IsKept (sym is) record {
    flags = kept.flags;
    graph = kept.graph;
    loads = kept.loads;
    deferred = kept.deferred;
    dynamic = kept.dynamic;
    names = kept.names;
    sums = kept.sums;
    held = record { loads = kept.held.loads; deferred = kept.held.deferred; dynamic = kept.held.dynamic };
    files = kept.files;
    packages = kept.packages;
    answers = kept.answers;
    waiting = waiting;
    npm = kept.npm;
    pass = new;
    run = kept.run;
    contents = kept.contents;
    places = kept.places;
  }

  pub kept_waiting : (s : State) → IsKept s → IsKept (pass_begun s)
  kept_waiting s kept =
      let u = pass_begun s in
      kept_pass s u.pass u refl (pass_begins w given s.packages s.files s.wanted s.pass s.waiting (begins_top_level s.graph) kept.pass kept.waiting) (All-nil (IsReachedItem w given)) kept

  -- all are judged
  pub kept_versions : (s : State) (p : Pass) → s.pass ≡ Some p → IsKept s → IsKept (versions_asked s)
  kept_versions s p goes kept = subst (λ o. IsKept (versions_asked_in s o)) (sym goes)
      (let u = versions_asked_in s (Some p) in
      kept_pass s u.pass u refl (pass_asks w given s.packages s.files s.wanted p (subst (PassKept w given s.packages s.files s.wanted) goes kept.pass)) kept.waiting kept)

  -- ---- the first specifier is judged

  module _ (s : State) (p : Pass) (first : WaitingPackage) (others : List WaitingPackage) (calm : IsCalm s) (goes : s.pass ≡ Some p) (judging : p.is_entering ≡ false) (items : p.items ≡ first ∷ others) (kept : Kept w given begins s) where
    passing : PassKept w given s.packages s.files s.wanted (Some p)
    passing = subst (PassKept w given s.packages s.files s.wanted) goes kept.pass

    item : IsReachedItem w given first
    item = All-head (IsReachedItem w given) first others (subst (All (IsReachedItem w given)) items passing.of_pass.items)

    abbrev its_reference : PackageReqReference
    its_reference = record { req = first.req; sub_path = first.sub_path }

    -- it goes
    gone : IsKept (record s { pass = Some (record p { items = others }) })
    gone = kept_pass s (Some (record p { items = others })) (record s { pass = Some (record p { items = others }) }) refl
        (pass_judged w given s.packages s.files s.wanted p first others p.chosen items judging passing passing.of_pass.chosen) kept.waiting kept

    -- an error stands there
    fails : (e : JsrLoadError) → Explains w given first.specifier first.context (specifier_text first.specifier) (jsr_slot first.specifier first.context e) → IsKept (judged_by s p first others (Fails e))
    fails e is = kept_slot_at w given begins (record s { pass = Some (record p { items = others }) }) first.specifier (jsr_slot first.specifier first.context e) (first.specifier, first.context, item.reached, is) refl refl gone

    -- a choice is one among all versions that the cache holds
    choice_here : (info : JsrPackageInfo) → to_probe s first.req info ≡ [] → choice_in w.newest s first.req info ≡ choice_of first.req info (existing_in s.graph.packages first.req.name) (told_cached w first.req.name info) (limit_of w.newest first.req.name)
    choice_here info over = choice_told w s first.req info (limit_of w.newest first.req.name) kept.flags kept.answers.probes over

    none_without : (info : JsrPackageInfo) (e : JsrPackageReqNotFoundError) → to_probe s first.req info ≡ [] → choice_in w.newest s first.req info ≡ Err e → choice_of first.req info [] (told_cached w first.req.name info) (limit_of w.newest first.req.name) ≡ Err e
    none_without info e over none = choice_without first.req info (told_cached w first.req.name info) (limit_of w.newest first.req.name) (existing_in s.graph.packages first.req.name) e (sym (choice_here info over) ∙ none)

    -- a run begins once more
    begins_again : {info : JsrPackageInfo} {e : JsrPackageReqNotFoundError} {start : ResolvedStart} → package_file s first.req.name ≡ Some (Ok info) → to_probe s first.req info ≡ [] → choice_in w.newest s first.req info ≡ Err e → s.run ≡ First start → IsKept (judged_by s p first others Restarts)
    begins_again {info} {e} {start} file over none is = record {
      flags = kept.flags;
      graph = kept.graph;
      loads = kept.loads;
      deferred = kept.deferred;
      dynamic = kept.dynamic;
      names = kept.names;
      sums = λ k sum at. ⊎_elim (λ old. inl (ap (λ (o : Option KnownSums). sum_in o k) (earlier_wanted s.run) ∙ old)) inr (kept.sums k sum at);
      held = record { loads = kept.held.loads; deferred = kept.held.deferred; dynamic = kept.held.dynamic };
      files = kept.files;
      packages = kept.packages;
      answers = kept.answers;
      waiting = kept.waiting;
      npm = kept.npm;
      pass = kept.pass;
      run = subst (λ (r : Run). RunKept w given begins.run (wanted_again r)) (sym is) record {
        asks = kept.run.asks ∙ ap asks_packages_again is;
        serves = kept.run.serves ∙ ap setting_for is;
        stage = due_stage begins.run start s.run kept.run.stage is;
        lacks = λ d. lack;
      };
      contents = kept.contents;
      places = kept.places;
    }
      where
        lack : Lacks w given
        lack = record {
          specifier = first.specifier;
          context = first.context;
          reached = item.reached;
          reference = its_reference;
          looked_for = item.looked_for;
          info = info;
          file = file_served w given s.packages s.reloaded kept.answers first.req.name (Ok info) file (kept.run.asks ∙ ap asks_packages_again is);
          error = e;
          none = none_without info e over none;
        }

    -- where it is said that no version meets a requirement, the file is the last one
    last_file : {info : JsrPackageInfo} → package_file s first.req.name ≡ Some (Ok info) → (run : Run) → s.run ≡ run → SaysSo s first.req.name run → IsLastFile w first.req.name (Ok info)
    last_file {info} file run is (only known) = file_again w given s.packages s.reloaded kept.answers first.req.name (Ok info) file known
    last_file {info} file run is due = absurd (true≢false (sym (ap is_due is) ∙ calm.not_due))
    last_file {info} file run is second = file_last w given s.packages s.reloaded kept.answers first.req.name (Ok info) file (kept.run.asks ∙ ap asks_packages_again is) (kept.run.serves ∙ ap setting_for is)

    -- the error of a verdict
    abbrev IsExplainedHere : JsrLoadError → Type 0
    IsExplainedHere e = Explains w given first.specifier first.context (specifier_text first.specifier) (jsr_slot first.specifier first.context e)

    unmet_explained : {info : JsrPackageInfo} {e : JsrPackageReqNotFoundError} → package_file s first.req.name ≡ Some (Ok info) → to_probe s first.req info ≡ [] → choice_in w.newest s first.req info ≡ Err e → SaysSo s first.req.name s.run → IsExplainedHere (PackageReqNotFound e)
    unmet_explained {info} {e} file over none says = not_met item.looked_for item.allowed (last_file file s.run refl says) (none_without info e over none)

    unread_explained : {e : JsrLoadError} → package_file s first.req.name ≡ Some (Err e) → IsExplainedHere e
    unread_explained {e} file = package_unread item.looked_for item.allowed (file_told w given s.packages s.reloaded kept.answers first.req.name (Err e) file)

    never_unasked : package_file s first.req.name ≡ None → ⊥
    never_unasked file = none_known (finite.get s.reloaded first.req.name) (finite.get s.packages first.req.name) (package_there_now w given s.packages s.files s.wanted p first others items judging calm.no_file passing) file

    pub verdict_explained : (e : JsrLoadError) → Judges w.newest s p first others (Fails e) → Explains w given first.specifier first.context (specifier_text first.specifier) (jsr_slot first.specifier first.context e)
    verdict_explained e (unmet file over none says) = unmet_explained file over none says
    verdict_explained e (unread file) = unread_explained file
    verdict_explained e (unasked file) = absurd (never_unasked file)

    -- those that are looked for fit
    probes_reached : (info : JsrPackageInfo) → IsPackageFile w first.req.name (Ok info) → w.known.flags.prefers_cached_jsr ≡ true → All (IsReachedFile w given) (probes (to_probe s first.req info))
    probes_reached info file prefers = All-map (IsReachedFile w given) Probe (to_probe s first.req info) (λ k d below.
        let one = probes_are s first.req info k d below in
        for_probe item.reached item.looked_for prefers (record { named = one.named; info = info; file = file; among = one.among }))

    by_verdict : (v : Verdict) → Judges w.newest s p first others v → IsKept (judged_by s p first others v)
    by_verdict v (asks_again file over none is never) =
        let u = judged_by s p first others (AsksAgain first.req.name) in
        kept_pass s s.pass u refl (pass_wants w given s.packages s.files s.wanted s.pass (PackageAgain first.req.name ∷ []) kept.pass (All-cons (IsReachedFile w given) (PackageAgain first.req.name) [] (for_package_again item.reached item.looked_for (kept.run.asks ∙ ap asks_packages_again is)) (All-nil (IsReachedFile w given)))) kept.waiting kept
    by_verdict v (looks {info} {nv} {nvs} file are) =
        let u = judged_by s p first others (Probes (nv ∷ nvs)) in
        kept_pass s s.pass u refl (pass_wants w given s.packages s.files s.wanted s.pass (probes (nv ∷ nvs)) kept.pass (subst (λ (l : List PackageNv). All (IsReachedFile w given) (probes l)) are (probes_reached info (file_told w given s.packages s.reloaded kept.answers first.req.name (Ok info) file) (subst (λ (f : Flags). f.prefers_cached_jsr ≡ true) kept.flags (probes_preferred s first.req info nv nvs are))))) kept.waiting kept
    by_verdict v (restarts file over none is) = begins_again file over none is
    by_verdict v (unmet {info} {e} file over none says) =
        fails (PackageReqNotFound e) (unmet_explained file over none says)
    by_verdict v (gets {info} {yanked} {version} file over chosen) =
        let is = sym (choice_here info over) ∙ chosen in
        let told = file_told w given s.packages s.reloaded kept.answers first.req.name (Ok info) file in
        let nv : PackageNv = record { name = first.req.name; version = version } in
        let one : Chosen = record { item = first; nv = nv } in
        let choice : ModuleGraph = with_choice s.graph first.req nv yanked in
        let t : State = record s { graph = choice } in
        let next : Option Pass = Some (record p { items = others; chosen = p.chosen ++ one ∷ [] }) in
        kept_pass t next (record t { pass = next }) refl
        (pass_judged w given s.packages s.files s.wanted p first others (p.chosen ++ one ∷ []) items judging passing
        (All-push (IsReachedChoice w given) p.chosen one passing.of_pass.chosen (record { item = item; fits = chosen_fits w given s.graph.packages first.req info yanked version kept.packages told is })))
        kept.waiting
        (kept_with s choice.packages (packages_chosen w given s.graph.packages first.req info yanked version kept.packages told is) kept)
    by_verdict v (unread {e} file) = fails e (unread_explained file)
    by_verdict v (unasked file) = absurd (never_unasked file)

    pub kept_judged : IsKept (judged w.newest s)
    kept_judged = let j = how_judged w.newest s p first others goes items in subst IsKept (sym j.is) (by_verdict j.verdict j.by)

  -- ---- exports

  -- the file of a version, and an export of it
  pub record IsUsed (one : Chosen) (e : Export) : Type 0 where
    pub version : KeptVersion
    pub read : told_version w one.nv ≡ Ok version
    pub export_is : export_of version (export_name one.item.sub_path) ≡ Ok e

  module _ (s : State) (one : Chosen) (kept : Kept w given begins s) where
    pub export_used_is : (e : Export) → export_at s one ≡ Ok e → IsUsed one e × ((v : KeptVersion) × (finite.get s.files one.nv ≡ Some (Ok v)))
    export_used_is e is = by (finite.get s.files one.nv) refl is
      where
        by : (o : Option (Result KeptVersion JsrLoadError)) → finite.get s.files one.nv ≡ o → export_by_file one.nv one.item.sub_path o ≡ Ok e → IsUsed one e × ((v : KeptVersion) × (finite.get s.files one.nv ≡ Some (Ok v)))
        by None at is = absurd (let wrong : ◌≡◌ {A = Result Export JsrLoadError} (Err (PackageVersionNotFound one.nv)) (Ok e) = is in cc)
        by (Some (Err x)) at is = absurd (let wrong : ◌≡◌ {A = Result Export JsrLoadError} (Err x) (Ok e) = is in cc)
        by (Some (Ok v)) at is = (record { version = v; read = sym (kept.files one.nv (Ok v) at); export_is = is }, (v, at))

    module _ (reached : IsReachedChoice w given one) (known : finite.contains_key s.files one.nv ≡ true) where
      -- why it has none
      pub export_failed : (e : JsrLoadError) → export_at s one ≡ Err e → Explains w given one.item.specifier one.item.context (specifier_text one.item.specifier) (jsr_slot one.item.specifier one.item.context e)
      export_failed e is = by (finite.get s.files one.nv) refl known is
        where
          by : (o : Option (Result KeptVersion JsrLoadError)) → finite.get s.files one.nv ≡ o → is_some o ≡ true → export_by_file one.nv one.item.sub_path o ≡ Err e → Explains w given one.item.specifier one.item.context (specifier_text one.item.specifier) (jsr_slot one.item.specifier one.item.context e)
          by None at there is = absurd (true≢false (sym there))
          by (Some (Err x)) at there is =
              let same : x ≡ e = cc in
              version_unread reached.item.looked_for reached.item.allowed reached.fits (sym (kept.files one.nv (Err x) at) ∙ error_same x e same)
            where
              error_same : (x e : JsrLoadError) → x ≡ e → ◌≡◌ {A = Result KeptVersion JsrLoadError} (Err x) (Err e)
              error_same x e same = subst (λ z. ◌≡◌ {A = Result KeptVersion JsrLoadError} (Err x) (Err z)) same refl
          by (Some (Ok v)) at there is = no_export reached.item.looked_for reached.item.allowed reached.fits (sym (kept.files one.nv (Ok v) at)) is

      module _ (top : Bool) (e : Export) (is : export_at s one ≡ Ok e) where
        abbrev now_used : State
        now_used = used s top one e

        -- it is used
        pub kept_used : IsKept (used s top one e)
        kept_used = kept_with s (with_used s.graph one.nv e top).packages (by top) kept
          where
            by : (b : Bool) → PackagesKept w given (if b then with_top_level_package (with_export s.graph.packages one.nv e.name e.value) one.nv else with_export s.graph.packages one.nv e.name e.value)
            by true = packages_as w given s.graph.packages (with_top_level_package (with_export s.graph.packages one.nv e.name e.value) one.nv) refl refl kept.packages
            by false = packages_as w given s.graph.packages (with_export s.graph.packages one.nv e.name e.value) refl refl kept.packages

        its_use : IsUsed one e
        its_use = (export_used_is e is).0

        pub not_joined_here : e.to ≡ None → Explains w given one.item.specifier one.item.context (specifier_text one.item.specifier) (jsr_slot one.item.specifier one.item.context (unjoinable one.nv e))
        not_joined_here none = not_joined reached.item.looked_for reached.item.allowed reached.fits its_use.read its_use.export_is none

        module _ (to : Parts) (leads : e.to ≡ Some to) where
          pub is_export : IsExport w given one.item.specifier one.nv to
          is_export = record {
            reference = record { req = one.item.req; sub_path = one.item.sub_path };
            looked_for = reached.item.looked_for;
            fits = reached.fits;
            version = its_use.version;
            read = its_use.read;
            export = e;
            export_is = its_use.export_is;
            leads = leads;
          }

          pub reached_there : Reached w given to (in_package (Some one.nv) one.item.context)
          reached_there = exported reached.item.reached is_export

          -- it leads back
          pub leads_back_here : leads_back now_used.graph one.item.specifier to ≡ true → Explains w given one.item.specifier one.item.context (specifier_text one.item.specifier) (Failed (redirects_error one.item.specifier one.item.context.range))
          leads_back_here back = led_back reached.item.allowed is_export (names_back w given begins s.contents now_used.graph one.item.specifier to (in_package (Some one.nv) one.item.context) kept_used.graph reached_there back)

          -- it enters
          kept_onward : IsKept (enter (record now_used { graph = moved now_used.graph one.item.specifier to }) (record { specifier = to; context = in_package (Some one.nv) one.item.context; is_type = false }))
          kept_onward =
              let u = kept_used in
              kept_enter w given begins (record now_used { graph = moved now_used.graph one.item.specifier to }) (record { specifier = to; context = in_package (Some one.nv) one.item.context; is_type = false })
              (kept_over w given begins now_used (moved now_used.graph one.item.specifier to)
              (kept_moved w given s.contents now_used.graph one.item.specifier to u.graph (one.item.specifier, one.item.context, reached.item.reached, refl, to_export is_export))
              (places_moved w given s.contents now_used.graph one.item.specifier to u.places)
              (subst (PackagesKept w given) (sym (packages_moved now_used.graph one.item.specifier to)) u.packages)
              u)
              reached_there
              (export_used_is e is).1

  pub kept_export : (s : State) (top : Bool) (one : Chosen) (u : State) → ExportEntered s top one u → IsKept s → IsReachedChoice w given one → IsKnownChoice w given s.files one → IsKept u
  kept_export s top one u (refused {e} is) kept reached known =
      kept_slot_at w given begins s one.item.specifier (jsr_slot one.item.specifier one.item.context e) (one.item.specifier, one.item.context, reached.item.reached, export_failed s one kept reached known e is) refl refl kept
  kept_export s top one u (unjoined {e} is none) kept reached known =
      kept_slot_at w given begins (used s top one e) one.item.specifier (jsr_slot one.item.specifier one.item.context (unjoinable one.nv e))
      (one.item.specifier, one.item.context, reached.item.reached, not_joined_here s one kept reached known top e is none) refl refl (kept_used s one kept reached known top e is)
  kept_export s top one u (ended {e} {to} is leads back) kept reached known =
      kept_slot_at w given begins (used s top one e) one.item.specifier (Failed (redirects_error one.item.specifier one.item.context.range))
      (one.item.specifier, one.item.context, reached.item.reached, leads_back_here s one kept reached known top e is to leads back) refl refl (kept_used s one kept reached known top e is)
  kept_export s top one u (onward {e} {to} is leads back) kept reached known = kept_onward s one kept reached known top e is to leads

  kept_all : (s : State) (top : Bool) (all : List Chosen) → IsKept s → All (IsReachedChoice w given) all → All (IsKnownChoice w given s.files) all → IsKept (all_entered s top all)
  unfolding all_entered
  kept_all s top [] kept reached known = kept
  kept_all s top (one ∷ others) kept reached known =
      kept_all (export_entered s top one) top others
      (kept_export s top one (export_entered s top one) (how_export s top one) kept (All-head (IsReachedChoice w given) one others reached) (All-head (IsKnownChoice w given s.files) one others known))
      (All-tail (IsReachedChoice w given) one others reached)
      (subst (λ (f : Versions). All (IsKnownChoice w given f) others) (sym (still_export_entered s top one).files) (All-tail (IsKnownChoice w given s.files) one others known))

  -- the pass is gone
  pub kept_gone_pass : (s : State) → IsKept s → IsKept (record s { pass = None })
  kept_gone_pass s kept = kept_pass s None (record s { pass = None }) refl (pass_gone w given s.packages s.files s.wanted s.pass kept.pass) kept.waiting kept

  -- what all exports of a pass lead to enters
  pub kept_exports : (s : State) (p : Pass) → IsCalm s → s.pass ≡ Some p → p.is_entering ≡ true → IsKept s → IsKept (exports_entered s)
  kept_exports s p calm goes entering kept =
      let passing : PassKept w given s.packages s.files s.wanted (Some p) = subst (PassKept w given s.packages s.files s.wanted) goes kept.pass in
      subst (λ o. IsKept (exports_entered_in s o)) (sym goes)
      (kept_all (record s { pass = None }) p.is_top_level p.chosen
      (kept_gone_pass s kept)
      passing.of_pass.chosen
      (versions_there_now w given s.packages s.files s.wanted p entering calm.no_file passing))
