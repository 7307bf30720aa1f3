-- What stays explained where the file of a version is kept, and where a content that comes later is stored.
use Rattle.std.proofs.Common.{◌≡◌, ℕ, List, ◌∷◌, false, None, Some, Result, Ok, Err, refl, sym, ap, ◌∙◌, subst, inl, ⊎_elim, ◌⊎◌}
use Rattle.std.specs.List.{All, Contains}
use Rattle.std.proofs.lemmas.List.Elements.{All-contains_itself, All-head, All-tail}
use Rattle.url.specs.Parts.{Parts}
use Rattle.spec_base.specs.Specifier.{specifier_text}
use Rattle.semver_npm.specs.declared.package.PackageNv.{PackageNv}
use Rattle.pkg_records.specs.Kept.{with_package}
use Rattle.metadata_store.specs.Store.{with_answer}
use Rattle.semver_npm.specs.declared.reference.NpmPackageReqReference.{NpmPackageReqReference}
use Rattle.source_io.specs.Answers.{answer_of}
use Rattle.registry_files.specs.declared.kept_version.KeptVersion.{KeptVersion}
use Rattle.graph_errors.specs.declared.jsr_error.JsrLoadError.{JsrLoadError}
use Rattle.graph_errors.specs.declared.jsr_error.JsrLoadError.TheVariants.{UnsupportedManifestChecksum}
use Rattle.graph_core.specs.declared.graph.ModuleGraph.{ModuleGraph}
use Rattle.module_slots.specs.declared.load.Load.{Load}
use Rattle.module_slots.specs.declared.load.LoadContext.{LoadContext}
use Rattle.module_slots.specs.declared.slot.ModuleSlot.{ModuleSlot}
use Rattle.module_slots.specs.declared.slot.ModuleSlot.TheVariants.{Err as Failed}
use Rattle.slot_making.specs.Filled.{filled_slot}
use Rattle.slot_making.specs.Made.{made_slot}
use Rattle.module_slots.specs.Slots.{is_asset_slot, is_pending}
use Rattle.graph_turns.specs.declared.later_content.LaterContent.{LaterContent}
use Rattle.graph_turns.specs.declared.manner.Manner.{Manner}
use Rattle.graph_turns.specs.declared.manner.Manner.TheVariants.{Asks, Reads, Unread, Unsupported}
use Rattle.graph_turns.specs.declared.outcome.Outcome.{Outcome}
use Rattle.graph_turns.specs.declared.registry.RegistryFile.{RegistryFile}
use Rattle.graph_turns.specs.declared.registry.RegistryFile.TheVariants.{Package, PackageAgain, Version, Probe}
use Rattle.graph_turns.specs.declared.state.State.{State}
use Rattle.graph_turns.specs.Machine.Contents.{content_placed, content_stored, filled_at}
use Rattle.graph_turns.specs.Machine.Files.{file_kept, noted}
use Rattle.graph_turns.specs.Machine.Outcomes.{failure_outcome}
use Rattle.graph_turns.specs.Machine.RegistryFiles.{answer_kept, wanted_kept}
use Rattle.graph_turns.specs.Machine.Turns.{failing, first_load_turn, load_turn, manner_in}
use Rattle.graph_turns.specs.Promise.Contents.{content_error, content_of, content_question, content_told, told_content}
use Rattle.graph_turns.specs.Promise.Explains.{Awaits, Explains, IsExplained, ComesLater}
use Rattle.graph_turns.specs.Promise.Explains.Explains.{made, filled, unfilled, outside, at_hand, missing, refused, redirected, unread_version, unsupported_sum, ended, no_package, no_npm_package, npm_resolved, passed_through, package_unread, not_met, version_unread, no_export, unjoined, led_back, built_in, forbidden_asset}
use Rattle.graph_turns.specs.Promise.Input.{EnteredGraph}
use Rattle.graph_core.specs.Npm.{NpmResult, npm_result, npm_slot}
use Rattle.turn_laws.specs.Promise.Keeps.{IsReachedFile}
use Rattle.graph_turns.specs.Promise.Reached.{Reached}
use Rattle.graph_turns.specs.Promise.Told.{Told, making_of}
use Rattle.graph_turns.specs.Promise.Versions.{told_file, told_package, told_version}
use Rattle.graph_core.proofs.At.{put_same}
use Rattle.graph_turns.proofs.Entering.Contents.{ContentPlaced, SlotFilled, first_stored, how_content, how_filled}
use Rattle.graph_turns.proofs.Entering.Contents.ContentPlaced.{came, missed}
use Rattle.graph_turns.proofs.Entering.Contents.SlotFilled.{stands, gone}
use Rattle.graph_turns.proofs.Entering.Files.{answer_cases, wanted_first}
use Rattle.graph_turns.proofs.Entering.Held.{held_file}
use Rattle.graph_turns.proofs.Leading.Ways.{put_at}
use Rattle.turn_laws.proofs.Promise.Filling.{filled_final, filled_inside, put_back, refilled, how_filled as how_slot}
use Rattle.turn_laws.proofs.Promise.GraphKept.{IsAccounted, kept_less, kept_noted, kept_put}
use Rattle.turn_laws.proofs.Promise.Infos.{source_info}
use Rattle.turn_laws.proofs.Promise.Kept.{Kept, kept_stored}
use Rattle.turn_laws.proofs.Promise.KeptLoads.{asked_told, kept_rest, kept_unread, kept_unsupported, unread_told, unsupported_now}
use Rattle.turn_laws.proofs.Promise.PackagesKept.{PackagesKept, packages_as}
use Rattle.turn_laws.proofs.Promise.Passing.{PassKept, RunBegins, again_asked, answers_again, answers_first, answers_probed, pass_again, pass_package, pass_probed, pass_read, pass_version}
use Rattle.turn_laws.proofs.Promise.Places.{HasPlace, places_less, places_noted}
use Rattle.graph_turns.specs.Machine.Entering.{stored}

some_same : (x y : Outcome) → Some x ≡ Some y → x ≡ y
some_same x y e = cc

module _ (w : Told) (given : EnteredGraph) where
  -- ---- contents that come

  -- a module by its info is named as it was asked for
  later_named : (l : LaterContent) (later : ComesLater w given l) → later.source.name ≡ l.specifier
  later_named l later = ⊎_elim
      (λ none. absurd (let wrong : None ≡ Some l = sym (ap (content_of l.specifier l.context later.asked) none) ∙ later.comes in cc))
      (λ by. by.name)
      (source_info w.world w.known later.asked l.specifier l.context later.source later.takes.is)

  -- what an `npm:` specifier got takes no content
  npm_unfilled : (content : List ℕ) (s : Parts) (c : LoadContext) (r : NpmPackageReqReference) (said : NpmResult) → filled_slot content (npm_slot s c r said) ≡ npm_slot s c r said
  npm_unfilled content s c r (Ok v) = refl
  npm_unfilled content s c r (Err e) = refl

  -- an explained slot is so with a content that came
  filled_explained : (l : LaterContent) (content : List ℕ) (s : Parts) (c : LoadContext) (k : List ℕ) (v : ModuleSlot) → ComesLater w given l → specifier_text l.specifier ≡ k → content_told l (told_content w l) ≡ Some content → Reached w given s c → Explains w given s c k v → IsExplained w given k (filled_slot content v)
  filled_explained l content s c k v later at is r (made takes none) = (s, c, r, filled takes later at is)
  filled_explained l content s c k v later at is r (filled {source = source} {l = first} {content = before} takes sooner same was) = ⊎_elim
      (λ e. subst (IsExplained w given (specifier_text source.name)) (sym e) (s, c, r, filled takes later at is))
      (λ e. subst (IsExplained w given (specifier_text source.name)) (sym e) (s, c, r, filled takes sooner same was))
      (refilled before content (made_slot (making_of w given.graph.kind) source c))
  filled_explained l content s c k v later at is r (unfilled sooner same in_context none) = (s, c, r, unfilled sooner same in_context none)
  filled_explained l content s c k v later at is r (outside takes) = (s, c, r, outside takes)
  filled_explained l content s c k v later at is r (at_hand takes) = (s, c, r, at_hand takes)
  filled_explained l content s c k v later at is r (missing {asked = asked} takes) = (s, c, r, missing {asked = asked} takes)
  filled_explained l content s c k v later at is r (refused {asked = asked} takes) = (s, c, r, refused {asked = asked} takes)
  filled_explained l content s c k v later at is r (redirected takes held) = (s, c, r, redirected takes held)
  filled_explained l content s c k v later at is r (unread_version asked manner) = (s, c, r, unread_version asked manner)
  filled_explained l content s c k v later at is r (unsupported_sum free manner) = (s, c, r, unsupported_sum free manner)
  filled_explained l content s c k v later at is r (ended takes none ends) = (s, c, r, ended takes none ends)
  filled_explained l content s c k v later at is r (no_package jsr free named) = (s, c, r, no_package jsr free named)
  filled_explained l content s c k v later at is r (no_npm_package npm free named) = (s, c, r, no_npm_package npm free named)
  filled_explained l content s c k v later at is r (npm_resolved {r = reference} npm flag free named) =
      subst (IsExplained w given (specifier_text s)) (sym (npm_unfilled content s c reference (npm_result w.npm reference.inner.req c.is_dynamic)))
      (s, c, r, npm_resolved npm flag free named)
  filled_explained l content s c k v later at is r (passed_through jsr free named passes) = (s, c, r, passed_through jsr free named passes)
  filled_explained l content s c k v later at is r (package_unread looked free file) = (s, c, r, package_unread looked free file)
  filled_explained l content s c k v later at is r (not_met looked free file none) = (s, c, r, not_met looked free file none)
  filled_explained l content s c k v later at is r (version_unread looked free fits file) = (s, c, r, version_unread looked free fits file)
  filled_explained l content s c k v later at is r (no_export looked free fits file none) = (s, c, r, no_export looked free fits file none)
  filled_explained l content s c k v later at is r (unjoined looked free fits file export none) = (s, c, r, unjoined looked free fits file export none)
  filled_explained l content s c k v later at is r (led_back free exports leads) = (s, c, r, led_back free exports leads)
  filled_explained l content s c k v later at is r (built_in n) = (s, c, r, built_in n)
  filled_explained l content s c k v later at is r (forbidden_asset e) = (s, c, r, forbidden_asset e)

  -- and so is one whose content was to come
  filled_awaited : (l : LaterContent) (content : List ℕ) (ls : List LaterContent) (k : List ℕ) (v : ModuleSlot) → ComesLater w given l → specifier_text l.specifier ≡ k → content_told l (told_content w l) ≡ Some content → Awaits w given ls k v → IsExplained w given k (filled_slot content v)
  filled_awaited l content ls k v later at is x =
      let own = x.is_later in
      let here : specifier_text own.source.name ≡ k = ap specifier_text (later_named x.later own) ∙ x.named in
      subst (λ u. IsExplained w given k (filled_slot content u)) (sym x.slot_is)
      (subst (λ z. IsExplained w given z (filled_slot content (made_slot (making_of w given.graph.kind) own.source x.later.context))) here
      (x.later.specifier, x.later.context, own.reached, filled own.takes later (at ∙ sym here) is))

  filled_accounted : (l : LaterContent) (content : List ℕ) (ls : List LaterContent) (v : ModuleSlot) → ComesLater w given l → content_told l (told_content w l) ≡ Some content → IsAccounted w given ls (specifier_text l.specifier) v → IsExplained w given (specifier_text l.specifier) (filled_slot content v)
  filled_accounted l content ls v later is a = ⊎_elim
      (λ x. filled_explained l content x.0 x.1 (specifier_text l.specifier) v later refl is x.2 x.3)
      (λ x. filled_awaited l content ls (specifier_text l.specifier) v later refl is x)
      a

  module _ (begins : RunBegins given) where
    -- an explained slot stands where the first content was to come
    kept_come : (s : State) (l : LaterContent) (ls : List LaterContent) (v : ModuleSlot) → Kept w given begins (record s { contents = l ∷ ls }) → IsExplained w given (specifier_text l.specifier) v → is_pending v ≡ false → is_asset_slot v ≡ false → Kept w given begins (record s { graph = put_at s.graph (specifier_text l.specifier) v; contents = ls })
    kept_come s l ls v kept is final inside = record {
      flags = kept.flags;
      graph = kept_less w given l ls (put_at s.graph (specifier_text l.specifier) v)
          (λ slot e. let there = put_same s.graph.slots (specifier_text l.specifier) v in let one : v ≡ slot = cc in subst (IsExplained w given (specifier_text l.specifier)) one is)
          (kept_put w given (l ∷ ls) s.graph (specifier_text l.specifier) v kept.graph (inl is) final inside);
      loads = kept.loads;
      deferred = kept.deferred;
      dynamic = kept.dynamic;
      names = kept.names;
      sums = kept.sums;
      held = record { loads = kept.held.loads; deferred = kept.held.deferred; dynamic = kept.held.dynamic };
      files = kept.files;
      packages = kept.packages;
      answers = kept.answers;
      waiting = kept.waiting;
      npm = kept.npm;
      pass = kept.pass;
      run = kept.run;
      contents = All-tail (ComesLater w given) l ls kept.contents;
      places = places_less w given l ls s.graph v is final inside kept.places;
    }

    -- the first content comes
    kept_content : (s : State) (l : LaterContent) (ls : List LaterContent) → Kept w given begins (record s { contents = l ∷ ls }) → Kept w given begins (record s { graph = content_placed s.graph l (told_content w l); contents = ls })
    kept_content s l ls kept = by (content_placed s.graph l (told_content w l)) (how_content s.graph l (told_content w l))
      where
        later : ComesLater w given l
        later = All-head (ComesLater w given) l ls kept.contents

        place : HasPlace w given (l ∷ ls) s.graph (specifier_text l.specifier)
        place = kept.places l (All-head (Contains (l ∷ ls)) l ls (All-contains_itself (l ∷ ls)))

        by_filled : (content : List ℕ) → content_told l (told_content w l) ≡ Some content → (u : ModuleGraph) → SlotFilled s.graph l.specifier content u → Kept w given begins (record s { graph = u; contents = ls })
        by_filled content is u (stands {slot} e) =
            let one : place.slot ≡ slot = let here = place.here in cc in
            subst (λ (g : ModuleGraph). Kept w given begins (record s { graph = g; contents = ls })) (sym (put_back s.graph l.specifier (filled_slot content slot)))
            (subst (λ v. Kept w given begins (record s { graph = put_at s.graph (specifier_text l.specifier) (filled_slot content v); contents = ls })) one
            (kept_come s l ls (filled_slot content place.slot) kept (filled_accounted l content (l ∷ ls) place.slot later is place.accounted)
            (filled_final place.slot (filled_slot content place.slot) (how_slot content place.slot) place.final)
            (filled_inside place.slot (filled_slot content place.slot) (how_slot content place.slot) place.inside)))
        by_filled content is u (gone e) = absurd (let here = place.here in let wrong : None ≡ Some place.slot = sym e ∙ here in cc)

        by : (u : ModuleGraph) → ContentPlaced s.graph l (told_content w l) u → Kept w given begins (record s { graph = u; contents = ls })
        by u (came {content} is) = by_filled content is (filled_at s.graph l.specifier content) (how_filled s.graph l.specifier content)
        by u (missed none) = kept_come s l ls (Failed (content_error l (told_content w l))) kept (l.specifier, l.context, later.reached, unfilled later refl refl none) refl refl

    with_contents : (s : State) (ls : List LaterContent) → s.contents ≡ ls → s ≡ record s { contents = ls }
    with_contents s ls e = ap (λ (l : List LaterContent). record s { contents = l }) e

    -- so it is as an answer is stored
    pub kept_filled : (s : State) (l : LaterContent) (ls : List LaterContent) → s.contents ≡ l ∷ ls → Kept w given begins s → Kept w given begins (content_stored s (answer_of w.world (content_question w.known l)))
    kept_filled s l ls e kept =
        subst (Kept w given begins) (sym (first_stored s (answer_of w.world (content_question w.known l)) l ls e))
        (kept_content s l ls (subst (Kept w given begins) (with_contents s (l ∷ ls) e) kept))

    -- ---- files

    -- what the world answers about a version file is kept, whatever files are wanted then
    kept_read : (s : State) (nv : PackageNv) (wanted : List RegistryFile) → PassKept w given s.packages (with_answer s.files nv (told_version w nv)) wanted s.pass → Kept w given begins s → Kept w given begins (file_kept (record s { wanted = wanted }) nv (told_version w nv))
    kept_read s nv wanted pass kept = by (told_version w nv) refl pass
      where
        by : (read : Result KeptVersion JsrLoadError) → told_version w nv ≡ read → PassKept w given s.packages (with_answer s.files nv read) wanted s.pass → Kept w given begins (file_kept (record s { wanted = wanted }) nv read)
        by read is pass = record {
          flags = kept.flags;
          graph = kept_noted w given s.contents s.graph read kept.graph;
          loads = kept.loads;
          deferred = kept.deferred;
          dynamic = kept.dynamic;
          names = kept.names;
          sums = kept.sums;
          held = (let h = held_file s nv read kept.held in record { loads = h.loads; deferred = h.deferred; dynamic = h.dynamic });
          files = λ k x e. ⊎_elim (kept.files k x) (λ new. new.1 ∙ sym is ∙ ap (told_version w) (sym new.0)) (answer_cases s.files nv read k x e);
          packages = packages_noted read;
          answers = kept.answers;
          waiting = kept.waiting;
          npm = kept.npm;
          pass = pass;
          run = kept.run;
          contents = kept.contents;
          places = places_noted w given s.contents s.graph read kept.places;
        }
          where
            packages_noted : (read : Result KeptVersion JsrLoadError) → PackagesKept w given (noted s.graph read).packages
            packages_noted (Ok v) = packages_as w given s.graph.packages (with_package s.graph.packages v.nv) refl refl kept.packages
            packages_noted (Err e) = kept.packages

    pub kept_file : (s : State) (nv : PackageNv) → Kept w given begins s → Kept w given begins (file_kept s nv (told_version w nv))
    kept_file s nv kept = kept_read s nv s.wanted (pass_read w given s.packages s.files s.wanted s.pass nv (told_version w nv) kept.pass) kept

    -- so is what it answers about the first file that a pass wants
    kept_answer : (s : State) (file : RegistryFile) (files : List RegistryFile) → s.wanted ≡ file ∷ files → Kept w given begins s → Kept w given begins (answer_kept w.registry (record s { wanted = files }) file (told_file w file))
    kept_answer s (Package name) files e kept = record {
      flags = kept.flags;
      graph = kept.graph;
      loads = kept.loads;
      deferred = kept.deferred;
      dynamic = kept.dynamic;
      names = kept.names;
      sums = kept.sums;
      held = record { loads = kept.held.loads; deferred = kept.held.deferred; dynamic = kept.held.dynamic };
      files = kept.files;
      packages = kept.packages;
      answers = answers_first w given s.packages s.reloaded name kept.answers;
      waiting = kept.waiting;
      npm = kept.npm;
      pass = pass_package w given s.packages s.files name files s.pass (told_package w name) (subst (λ l. PassKept w given s.packages s.files l s.pass) e kept.pass);
      run = kept.run;
      contents = kept.contents;
      places = kept.places;
    }
    kept_answer s (PackageAgain name) files e kept = record {
      flags = kept.flags;
      graph = kept.graph;
      loads = kept.loads;
      deferred = kept.deferred;
      dynamic = kept.dynamic;
      names = kept.names;
      sums = kept.sums;
      held = record { loads = kept.held.loads; deferred = kept.held.deferred; dynamic = kept.held.dynamic };
      files = kept.files;
      packages = kept.packages;
      answers = answers_again w given s.packages s.reloaded name
          (again_asked w given name (PackageAgain name) refl (All-head (IsReachedFile w given) (PackageAgain name) files (subst (All (IsReachedFile w given)) e kept.pass.of_wanted)))
          kept.answers;
      waiting = kept.waiting;
      npm = kept.npm;
      pass = pass_again w given s.packages s.files name files s.pass (subst (λ l. PassKept w given s.packages s.files l s.pass) e kept.pass);
      run = kept.run;
      contents = kept.contents;
      places = kept.places;
    }
    kept_answer s (Probe nv) files e kept = record {
      flags = kept.flags;
      graph = kept.graph;
      loads = kept.loads;
      deferred = kept.deferred;
      dynamic = kept.dynamic;
      names = kept.names;
      sums = kept.sums;
      held = record { loads = kept.held.loads; deferred = kept.held.deferred; dynamic = kept.held.dynamic };
      files = kept.files;
      packages = kept.packages;
      answers = answers_probed w given s.packages s.reloaded nv kept.answers;
      waiting = kept.waiting;
      npm = kept.npm;
      pass = pass_probed w given s.packages s.files nv files s.pass (subst (λ l. PassKept w given s.packages s.files l s.pass) e kept.pass);
      run = kept.run;
      contents = kept.contents;
      places = kept.places;
    }
    kept_answer s (Version nv) files e kept = kept_read s nv files (pass_version w given s.packages s.files nv files s.pass (told_version w nv) (subst (λ l. PassKept w given s.packages s.files l s.pass) e kept.pass)) kept

    pub kept_wanted : (s : State) (file : RegistryFile) (files : List RegistryFile) → s.wanted ≡ file ∷ files → Kept w given begins s → Kept w given begins (wanted_kept w.registry s (told_file w file))
    kept_wanted s file files e kept = subst (Kept w given begins) (sym (wanted_first w.registry s (told_file w file) file files e)) (kept_answer s file files e kept)

    -- ---- turns

    -- the turn of the first open load
    pub kept_load_turn : (rest : State) (load : Load) (m : Manner) → Kept w given begins (record rest { loads = load ∷ rest.loads }) → manner_in w.known.sums w.registry (record rest { loads = load ∷ rest.loads }) load ≡ m → Kept w given begins (load_turn w given.graph.kind (record rest { loads = load ∷ rest.loads }) load rest.loads m)
    kept_load_turn rest load (Asks asked) kept at =
        let parts = kept_rest w given begins rest load kept in
        let told = asked_told w given begins rest load asked parts.0 parts.2 at in
        kept_stored w given begins w.world.max_redirects rest load asked _ refl refl parts.0 parts.1 parts.2 told.0 told.1
    kept_load_turn rest load (Reads nv) kept at = kept_file (record rest { loads = load ∷ rest.loads }) nv kept
    kept_load_turn rest load (Unread name e) kept at =
        let parts = kept_rest w given begins rest load kept in
        kept_unread w given begins w.world.max_redirects rest load name e parts.0 parts.1 parts.2 (unread_told w given begins rest load name e parts.0 parts.2 at)
    kept_load_turn rest load Unsupported kept at =
        let parts = kept_rest w given begins rest load kept in
        kept_unsupported w given begins w.world.max_redirects rest load parts.0 parts.1 parts.2 (unsupported_now w given begins rest load parts.0 parts.2 at)

    -- a load that fails without a question
    pub kept_failing : (most : ℕ) (rest : State) (load : Load) (m : Manner) (outcome : Outcome) → Kept w given begins (record rest { loads = load ∷ rest.loads }) → manner_in w.known.sums w.registry (record rest { loads = load ∷ rest.loads }) load ≡ m → failing load m ≡ Some outcome → Kept w given begins (stored most rest load outcome)
    kept_failing most rest load (Asks asked) outcome kept at e = absurd (let wrong : None ≡ Some outcome = e in cc)
    kept_failing most rest load (Reads nv) outcome kept at e = absurd (let wrong : None ≡ Some outcome = e in cc)
    kept_failing most rest load (Unread name err) outcome kept at e =
        let parts = kept_rest w given begins rest load kept in
        subst (λ x. Kept w given begins (stored most rest load x)) (some_same (failure_outcome load.context name err) outcome e)
        (kept_unread w given begins most rest load name err parts.0 parts.1 parts.2 (unread_told w given begins rest load name err parts.0 parts.2 at))
    kept_failing most rest load Unsupported outcome kept at e =
        let parts = kept_rest w given begins rest load kept in
        subst (λ x. Kept w given begins (stored most rest load x)) (some_same (failure_outcome load.context load.specifier UnsupportedManifestChecksum) outcome e)
        (kept_unsupported w given begins most rest load parts.0 parts.1 parts.2 (unsupported_now w given begins rest load parts.0 parts.2 at))

    -- so it is of the first open load of any state
    pub kept_load : (s : State) (load : Load) (others : List Load) → s.loads ≡ load ∷ others → Kept w given begins s → Kept w given begins (first_load_turn w given.graph.kind s s.loads)
    kept_load s load others e kept =
        let rest : State = record s { loads = others } in
        let is : s ≡ record rest { loads = load ∷ others } = ap (λ (l : List Load). record s { loads = l }) e in
        subst (λ (x : State). Kept w given begins (first_load_turn w given.graph.kind x x.loads)) (sym is)
        (kept_load_turn rest load (manner_in w.known.sums w.registry (record rest { loads = load ∷ others }) load) (subst (Kept w given begins) is kept) refl)
