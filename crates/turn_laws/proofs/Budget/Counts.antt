-- What holds of questions between two turns of a run, whoever answers, and what each kind of turn keeps of it.
use Rattle.std.proofs.Common.{◌≡◌, ℕ, List, [], ◌∷◌, Bool, true, false, Option, None, Some, is_some, refl, sym, ap, ◌∙◌, subst, inl, arith}
use Rattle.std.specs.FinMap as finite
use Rattle.std.specs.List.{Contains}
use Rattle.std.proofs.lemmas.Bool.{true≢false}
use Rattle.std.proofs.lemmas.List.Elements.{All-contains_itself, All-head}
use Rattle.spec_base.specs.Options.{by_option}
use Rattle.spec_base.specs.Specifier.{specifier_text}
use Rattle.semver_npm.specs.declared.package.PackageNv.{PackageNv}
use Rattle.version_dates.specs.declared.newest_date.NewestDependencyDateOptions.{NewestDependencyDateOptions}
use Rattle.source_sums.specs.Sums.{KnownSums}
use Rattle.source_io.specs.declared.types.Answer.{Answer}
use Rattle.registry_files.specs.Answers.{FileAnswer}
use Rattle.registry_urls.specs.Meaning.{RegistryMeaning}
use Rattle.graph_errors.specs.declared.jsr_error.JsrLoadError.TheVariants.{UnsupportedManifestChecksum}
use Rattle.graph_core.specs.declared.graph.ModuleGraph.{ModuleGraph}
use Rattle.module_slots.specs.declared.load.Load.{Load}
use Rattle.graph_turns.specs.declared.question_of.Asked.{Asked}
use Rattle.graph_turns.specs.declared.later_content.LaterContent.{LaterContent}
use Rattle.graph_turns.specs.declared.manner.Manner.{Manner}
use Rattle.graph_turns.specs.declared.manner.Manner.TheVariants.{Asks, Reads, Unread, Unsupported}
use Rattle.graph_turns.specs.declared.next.Next.{Next}
use Rattle.graph_turns.specs.declared.next.Next.TheVariants.{Restart}
use Rattle.graph_turns.specs.declared.outcome.Outcome.{Outcome}
use Rattle.graph_turns.specs.declared.registry.RegistryFile.{RegistryFile}
use Rattle.graph_turns.specs.declared.registry.RegistryFile.TheVariants.{Package, PackageAgain, Version, Probe}
use Rattle.graph_turns.specs.declared.state.State.{State}
use Rattle.graph_turns.specs.Machine.Choosing.{judged}
use Rattle.graph_turns.specs.Machine.Contents.{content_placed, content_stored}
use Rattle.graph_turns.specs.Machine.Files.{file_kept}
use Rattle.graph_turns.specs.Machine.Outcomes.{Suits, failure_outcome}
use Rattle.graph_turns.specs.Machine.Passes.{versions_asked}
use Rattle.graph_turns.specs.Machine.RegistryFiles.{answer_kept, wanted_kept}
use Rattle.graph_turns.specs.Machine.Waiting.{notes_added}
use Rattle.graph_turns.specs.Machine.Turns.{deferred_entered, dynamic_entered, failing, gone_on, manner_in, IsIdle}
use Rattle.graph_turns.specs.Promise.Input.{EnteredGraph}
use Rattle.graph_turns.specs.Promise.Versions.{kept_of, loaded}
use Rattle.turn_laws.proofs.Budget.Beside.{beside_deferred, beside_dynamic, beside_enter_all, beside_outcome, comes_with}
use Rattle.turn_laws.proofs.Budget.Contents.{CountedContents, contents_answered, contents_as, contents_failed, contents_filled, contents_none}
use Rattle.turn_laws.proofs.Budget.Deferred.{DeferredBy, deferred_entered_by, deferred_exports, deferred_rests, dynamic_entered_by}
use Rattle.turn_laws.proofs.Budget.Filled.{comes_known, comes_packages, counted_content}
use Rattle.turn_laws.proofs.Budget.Known.{Counted, IsKnown, counted_failed, counted_file, counted_first, counted_queued, counted_stored, counted_taken, fresh_asset, fresh_failed}
use Rattle.turn_laws.proofs.Budget.Named.{AllNamed}
use Rattle.turn_laws.proofs.Budget.Packages.{same_chosen, same_packages}
use Rattle.turn_laws.proofs.Budget.Pairs.{Apart, HasPair, pair_load}
use Rattle.turn_laws.proofs.Budget.Passes.{counted_asks, counted_begins, counted_exports, counted_judged, counted_noted, files_asks, files_begins, files_beside, files_exports, files_judged, files_noted, known_asks, known_exports, known_judged, known_noted, versions_asks, versions_begins, versions_exports, versions_judged, versions_noted}
use Rattle.turn_laws.proofs.Budget.Resting.{counted_deferred, counted_dynamic, sound_stored}
use Rattle.turn_laws.proofs.Budget.Versions.{CountedVersions, idle_free, reads_free, versions_answered, versions_failed, versions_filled, versions_idle, versions_kept, versions_none, versions_read}
use Rattle.turn_laws.proofs.Budget.Wanted.{CountedFiles, IsPassing, files_kept, files_looked, files_none, files_read, files_stored as files_looked_stored, none_wanted, popped}
use Rattle.graph_turns.proofs.Entering.Contents.{first_stored, how_content}
use Rattle.graph_turns.proofs.Entering.Files.{wanted_first}
use Rattle.graph_turns.proofs.Entering.Loads.{HasLoad}
use Rattle.turn_laws.proofs.Entering.Made.{failure_final}
use Rattle.graph_turns.proofs.Entering.Manners.{reads_is}
use Rattle.graph_turns.proofs.Entering.Next.{NextIs}
use Rattle.graph_turns.proofs.Entering.Next.NextIs.{notes as comes_notes, loads as comes_load, wanted as comes_file, restart as comes_restart, item as comes_item, versions as comes_versions, exports as comes_exports, deferred as comes_deferred, waiting as comes_waiting, dynamic as comes_dynamic, content as comes_content, ends as comes_end}
use Rattle.graph_turns.proofs.Entering.Rested.{rests_asked, rests_judged, rests_noted, still_deferred, still_dynamic, still_enter_all, still_exports, stores}
use Rattle.turn_laws.proofs.Promise.Afresh.{Afresh, IsFree, afresh_content, afresh_enter_all, afresh_failing, afresh_file, afresh_next, afresh_stored, afresh_wanted}
use Rattle.turn_laws.proofs.Promise.Sound.{Sound, nothing}
use Rattle.turn_laws.proofs.Promise.SoundBegun.{IsBare, IsMendedBy, sound_entered}
use Rattle.turn_laws.proofs.Promise.SoundPasses.{sound_next}
use Rattle.turn_laws.proofs.Promise.SoundTurned.{sound_content, sound_file, sound_wanted}
use Rattle.turn_laws.proofs.Promise.Storing.{taken}
use Rattle.graph_turns.specs.Machine.Entering.{IsFinal, enter_all, stored}

-- a load that fails without a question is given a final slot, and leaves no content to come
failed_so : (load : Load) (m : Manner) (o : Outcome) → failing load m ≡ Some o → IsFinal load o × (comes_with o ≡ None)
failed_so load (Asks asked) o e = absurd (let wrong : None ≡ Some o = e in true≢false (sym (ap is_some wrong)))
failed_so load (Reads nv) o e = absurd (let wrong : None ≡ Some o = e in true≢false (sym (ap is_some wrong)))
failed_so load (Unread name error) o e =
    let one : failure_outcome load.context name error ≡ o = ap (λ x. by_option x o (λ y. y)) e in
    subst (λ (x : Outcome). IsFinal load x × (comes_with x ≡ None)) one (failure_final load name error, refl)
failed_so load Unsupported o e =
    let one : failure_outcome load.context load.specifier UnsupportedManifestChecksum ≡ o = ap (λ x. by_option x o (λ y. y)) e in
    subst (λ (x : Outcome). IsFinal load x × (comes_with x ≡ None)) one (failure_final load load.specifier UnsupportedManifestChecksum, refl)

-- a state before anything is open, wanted, deferred or to come, and before a pass
pub record IsBlank (o : EnteredGraph) (b : State) : Type 0 where
  pub bare : IsBare o b
  pub deferred : b.deferred ≡ []
  pub contents : b.contents ≡ []
  pub wanted : b.wanted ≡ []

open_first : (s : State) (load : Load) (others : List Load) → s.loads ≡ load ∷ others → s.loads ≡ [] → ⊥
open_first s load others first e = let wrong : load ∷ others ≡ [] = sym first ∙ e in cc

-- what was answered about a file that a pass wants is kept
counted_kept : (asked : List Load) (registry : RegistryMeaning) (s : State) (others : List RegistryFile) (file : RegistryFile) (answer : FileAnswer) → Counted asked s → Counted asked (answer_kept registry (popped s others) file answer)
counted_kept asked registry s others (Package name) answer counted = counted_queued asked s _ refl refl counted
counted_kept asked registry s others (PackageAgain name) answer counted = counted_queued asked s _ refl refl counted
counted_kept asked registry s others (Probe nv) answer counted = counted_queued asked s _ refl refl counted
counted_kept asked registry s others (Version nv) answer counted = counted_file asked (popped s others) nv (kept_of registry nv answer) (counted_queued asked s _ refl refl counted)

versions_wanted_kept : (registry : RegistryMeaning) (read : List PackageNv) (s : State) (others : List RegistryFile) (file : RegistryFile) (answer : FileAnswer) → s.loads ≡ [] → CountedVersions registry read s → CountedVersions registry read (answer_kept registry (popped s others) file answer)
versions_wanted_kept registry read s others (Package name) answer idle now = versions_idle registry read s _ idle refl (λ nv h. h) (λ k h. h) now
versions_wanted_kept registry read s others (PackageAgain name) answer idle now = versions_idle registry read s _ idle refl (λ nv h. h) (λ k h. h) now
versions_wanted_kept registry read s others (Probe nv) answer idle now = versions_idle registry read s _ idle refl (λ nv h. h) (λ k h. h) now
versions_wanted_kept registry read s others (Version nv) answer idle now =
    versions_kept registry read (popped s others) nv answer (idle_free registry (popped s others) idle) (versions_idle registry read s (popped s others) idle refl (λ nv h. h) (λ k h. h) now)

contents_kept : (registry : RegistryMeaning) (s : State) (others : List RegistryFile) (file : RegistryFile) (answer : FileAnswer) → (answer_kept registry (popped s others) file answer).contents ≡ s.contents
contents_kept registry s others (Package name) answer = refl
contents_kept registry s others (PackageAgain name) answer = refl
contents_kept registry s others (Version nv) answer = refl
contents_kept registry s others (Probe nv) answer = refl

busy : (rest : State) (load : Load) → (load ∷ rest.loads) ≡ [] → ⊥
busy rest load e = let wrong : load ∷ rest.loads ≡ [] = e in cc

module _ (registry : RegistryMeaning) (o : EnteredGraph) (early : Type 0) where
  -- nothing is left out, and nothing is asked twice: about loads, about files of the registry, for loads and in passes, and about contents
  -- that come later
  pub record Counts (asked : List Load) (read : List PackageNv) (looked : List RegistryFile) (filled : List LaterContent) (s : State) : Type 0 where
    pub sound : Sound o early nothing nothing [] s
    pub afresh : Afresh o s
    pub counted : Counted asked s
    pub distinct : Apart asked
    pub versions : CountedVersions registry read s
    pub files : CountedFiles read looked s
    pub contents : CountedContents asked filled s

  -- where a run begins
  pub counts_begun : (b : State) → IsBlank o b → IsMendedBy early o → Counts [] [] [] [] (enter_all b o.loads)
  counts_begun b blank mended =
      let from = beside_enter_all b o.loads in
      let still = still_enter_all b o.loads in
      record {
        sound = sound_entered o early b blank.bare mended;
        afresh = afresh_enter_all o b o.loads record {
          firm = λ k v e f. record { slot = v; here = ap (λ (g : ModuleGraph). finite.get g.slots k) blank.bare.graph_is ∙ e; firm = f };
          loads = λ k a. absurd (subst (HasLoad k) blank.bare.no_load a);
          contents = λ l among. absurd (none_among l (subst (λ (ls : List LaterContent). Contains ls l) blank.contents among));
        };
        counted = counted_first o.loads b record { known = λ k a. absurd a; modules = λ k h a. a; assets = λ k h a. a; at_hand = λ k t a. a; no_loop = λ k a. absurd a };
        distinct = tt;
        versions = versions_none registry (enter_all b o.loads);
        files = files_none (enter_all b o.loads) (still.wanted ∙ blank.wanted) (from.named (subst AllNamed (sym blank.bare.no_item) tt)) (subst (IsPassing (enter_all b o.loads).graph) (sym (still.pass ∙ blank.bare.no_pass)) tt);
        contents = contents_none (enter_all b o.loads) (from.contents ∙ blank.contents);
      }
    where
      none_among : (l : LaterContent) → Contains {X = LaterContent} [] l → ⊥
      none_among l among = let below = among.1 in omega (arith, below)

  module _ (asked : List Load) (read : List PackageNv) (looked : List RegistryFile) (filled : List LaterContent) where
    -- what was answered is stored
    files_answered : (most : ℕ) (rest : State) (load : Load) (outcome : Outcome) → CountedFiles read looked (record rest { loads = load ∷ rest.loads }) → CountedFiles read looked (stored most rest load outcome)
    files_answered most rest load outcome now =
        let s : State = record rest { loads = load ∷ rest.loads } in
        let u = stored most rest load outcome in
        let from = beside_outcome most rest load outcome in
        let same = stores most rest load outcome in
        files_beside read looked s u same.files same.packages same.reloaded same.probed same.run same.pass same.wanted (none_wanted read looked s now (busy rest load))
        from.known (same_chosen s.graph u.graph from.packages) from.named now

    -- a load was asked about
    pub counts_answered : (sums : Option KnownSums) (most : ℕ) (rest : State) (load : Load) (by : Asked) (outcome : Outcome) → manner_in sums registry (record rest { loads = load ∷ rest.loads }) load ≡ Asks by → IsFinal load outcome → Suits load by outcome
        → Counts asked read looked filled (record rest { loads = load ∷ rest.loads }) → Counts (load ∷ asked) read looked filled (stored most rest load outcome)
    counts_answered sums most rest load by outcome manner final suits now =
        let took = taken o early rest load now.sound in
        let shut = now.sound.shut (specifier_text load.specifier) (inl refl) in
        record {
          sound = sound_stored o early most rest load outcome took final;
          afresh = afresh_stored o most rest load by outcome now.afresh suits final;
          counted = counted_stored o early (load ∷ asked) most rest load outcome took final (fresh_asset o early asked rest load now.counted) (counted_taken o early asked rest load took shut now.counted);
          distinct = (apart load.context.asset refl, now.distinct);
          versions = versions_answered registry sums read most rest load by outcome manner now.versions;
          files = files_answered most rest load outcome now.files;
          contents = contents_answered asked filled most rest load by outcome suits now.counted now.contents;
        }
      where
        apart : (b : Bool) → load.context.asset ≡ b → HasPair (specifier_text load.specifier) load.context.asset asked → ⊥
        apart true e h = now.counted.assets (specifier_text load.specifier) (inl (refl, e)) (pair_load (specifier_text load.specifier) load.context.asset asked h)
        apart false e h = now.counted.modules (specifier_text load.specifier) (inl (refl, e)) (subst (λ b. HasPair (specifier_text load.specifier) b asked) e h)

    -- a load failed without a question
    pub counts_failed : (sums : Option KnownSums) (most : ℕ) (rest : State) (load : Load) (outcome : Outcome) → failing load (manner_in sums registry (record rest { loads = load ∷ rest.loads }) load) ≡ Some outcome
        → Counts asked read looked filled (record rest { loads = load ∷ rest.loads }) → Counts asked read looked filled (stored most rest load outcome)
    counts_failed sums most rest load outcome fails now =
        let took = taken o early rest load now.sound in
        let so = failed_so load (manner_in sums registry (record rest { loads = load ∷ rest.loads }) load) outcome fails in
        record {
          sound = sound_stored o early most rest load outcome took so.0;
          afresh = afresh_failing o most rest load (manner_in sums registry (record rest { loads = load ∷ rest.loads }) load) outcome now.afresh fails;
          counted = counted_stored o early asked most rest load outcome took so.0 (fresh_failed o early asked rest load now.counted) (counted_failed o early asked rest load now.counted);
          distinct = now.distinct;
          versions = versions_failed registry sums read most rest load outcome fails now.versions;
          files = files_answered most rest load outcome now.files;
          contents = contents_failed asked filled most rest load outcome so.1 now.contents;
        }

    -- a version file was read
    pub counts_read : (sums : Option KnownSums) (s : State) (load : Load) (others : List Load) (nv : PackageNv) (answer : FileAnswer) → s.loads ≡ load ∷ others → manner_in sums registry s load ≡ Reads nv → Counts asked read looked filled s → Counts asked (nv ∷ read) looked filled (file_kept s nv (kept_of registry nv answer))
    counts_read sums s load others nv answer first manner now = record {
      sound = sound_file o early s nv (kept_of registry nv answer) now.sound;
      afresh = afresh_file o s nv (kept_of registry nv answer) now.afresh;
      counted = counted_file asked s nv (kept_of registry nv answer) now.counted;
      distinct = now.distinct;
      versions = versions_read registry sums read s load others nv answer first manner now.versions;
      files = files_read s nv (kept_of registry nv answer) read looked (open_first s load others first) unknown now.files;
      contents = contents_as asked filled s (file_kept s nv (kept_of registry nv answer)) refl now.contents;
    }
      where
        unknown : finite.contains_key s.files nv ≡ true → ⊥
        unknown t = true≢false (sym t ∙ ap is_some (reads_is sums registry (finite.get s.files) load.specifier load.context nv manner).unknown)

    -- or its answer stands in the given store
    pub counts_read_stored : (sums : Option KnownSums) (s : State) (load : Load) (others : List Load) (nv : PackageNv) (answer : FileAnswer) → s.loads ≡ load ∷ others → manner_in sums registry s load ≡ Reads nv → Counts asked read looked filled s → Counts asked read looked filled (file_kept s nv (kept_of registry nv answer))
    counts_read_stored sums s load others nv answer first manner now = record {
      sound = sound_file o early s nv (kept_of registry nv answer) now.sound;
      afresh = afresh_file o s nv (kept_of registry nv answer) now.afresh;
      counted = counted_file asked s nv (kept_of registry nv answer) now.counted;
      distinct = now.distinct;
      versions = versions_kept registry read s nv answer (reads_free registry sums s load others nv first manner) now.versions;
      files = files_kept s nv (kept_of registry nv answer) read looked (open_first s load others first) now.files;
      contents = contents_as asked filled s (file_kept s nv (kept_of registry nv answer)) refl now.contents;
    }

    -- a file that a pass wants was asked about
    pub counts_looked : (s : State) (file : RegistryFile) (others : List RegistryFile) (answer : FileAnswer) → s.loads ≡ [] → s.wanted ≡ file ∷ others → Counts asked read looked filled s → Counts asked read (file ∷ looked) filled (wanted_kept registry s answer)
    counts_looked s file others answer idle first now = record {
      sound = sound_wanted o early registry s answer now.sound;
      afresh = afresh_wanted o registry s answer now.afresh;
      counted = subst (Counted asked) (sym is) (counted_kept asked registry s others file answer now.counted);
      distinct = now.distinct;
      versions = subst (CountedVersions registry read) (sym is) (versions_wanted_kept registry read s others file answer idle now.versions);
      files = subst (CountedFiles read (file ∷ looked)) (sym is) (files_looked registry s others read looked file answer first now.versions.kept now.files);
      contents = subst (CountedContents asked filled) (sym is) (contents_as asked filled s (answer_kept registry (popped s others) file answer) (contents_kept registry s others file answer) now.contents);
    }
      where
        is : wanted_kept registry s answer ≡ answer_kept registry (popped s others) file answer
        is = wanted_first registry s answer file others first

    -- or its answer stands in the given store
    pub counts_looked_stored : (s : State) (file : RegistryFile) (others : List RegistryFile) (answer : FileAnswer) → s.loads ≡ [] → s.wanted ≡ file ∷ others → Counts asked read looked filled s → Counts asked read looked filled (wanted_kept registry s answer)
    counts_looked_stored s file others answer idle first now = record {
      sound = sound_wanted o early registry s answer now.sound;
      afresh = afresh_wanted o registry s answer now.afresh;
      counted = subst (Counted asked) (sym is) (counted_kept asked registry s others file answer now.counted);
      distinct = now.distinct;
      versions = subst (CountedVersions registry read) (sym is) (versions_wanted_kept registry read s others file answer idle now.versions);
      files = subst (CountedFiles read looked) (sym is) (files_looked_stored registry s others read looked file answer first now.files);
      contents = subst (CountedContents asked filled) (sym is) (contents_as asked filled s (answer_kept registry (popped s others) file answer) (contents_kept registry s others file answer) now.contents);
    }
      where
        is : wanted_kept registry s answer ≡ answer_kept registry (popped s others) file answer
        is = wanted_first registry s answer file others first

    -- a content came
    pub counts_filled : (s : State) (l : LaterContent) (ls : List LaterContent) (a : Answer) → IsIdle s → s.contents ≡ l ∷ ls → Counts asked read looked filled s → Counts asked read looked (l ∷ filled) (content_stored s a)
    counts_filled s l ls a idle first now =
        let is = first_stored s a l ls first in
        let u : State = record s { graph = content_placed s.graph l (loaded a); contents = ls } in
        let how = how_content s.graph l (loaded a) in
        let free : IsFree o (specifier_text l.specifier) = now.afresh.contents l (subst (λ (c : List LaterContent). Contains c l) (sym first) (All-head (Contains (l ∷ ls)) l ls (All-contains_itself (l ∷ ls)))) in
        record {
          sound = subst (Sound o early nothing nothing []) (sym is) (sound_content o early s l ls (loaded a) free now.sound);
          afresh = subst (Afresh o) (sym is) (afresh_content o s l ls (loaded a) first now.afresh);
          counted = counted_content asked s a now.counted;
          distinct = now.distinct;
          versions = versions_filled registry read s l ls a idle.none_open first now.versions;
          files = subst (CountedFiles read looked) (sym is) (files_beside read looked s u refl refl refl refl refl refl refl idle.none_wanted
              (comes_known s.graph l (loaded a) (content_placed s.graph l (loaded a)) how) (same_chosen s.graph u.graph (comes_packages s.graph l (loaded a) (content_placed s.graph l (loaded a)) how)) (λ n. n) now.files);
          contents = contents_filled asked filled s l ls a first now.contents;
        }

    -- ---- turns by which nothing is answered

    module _ (newest : NewestDependencyDateOptions) (s : State) (now : Counts asked read looked filled s) where
      counted_next : (n : Next) → NextIs s n → (n ≡ Restart → ⊥) → Counted asked (gone_on registry newest s n)
      counted_next n (comes_notes e) other = counted_noted registry s asked now.counted
      counted_next n (comes_load e l) other = now.counted
      counted_next n (comes_file e l w) other = now.counted
      counted_next n (comes_restart e l w d) other = absurd (other refl)
      counted_next n (comes_item {p} {first} {others} c goes judging items) other = counted_judged newest s p first others goes items asked now.counted
      counted_next n (comes_versions {p} c goes judging items) other = counted_asks s p c goes items asked now.counted
      counted_next n (comes_exports {p} c goes entering) other = counted_exports s p c goes entering asked now.counted
      counted_next n (comes_deferred outside e) other = counted_deferred asked s now.counted
      counted_next n (comes_waiting outside d e) other = counted_begins s outside asked now.counted
      counted_next n (comes_dynamic outside d w e) other = counted_dynamic asked s now.counted
      counted_next n (comes_content i e) other = now.counted
      counted_next n (comes_end end) other = now.counted

      versions_next : (n : Next) → NextIs s n → (n ≡ Restart → ⊥) → CountedVersions registry read (gone_on registry newest s n)
      versions_next n (comes_notes e) other = versions_noted registry s registry read now.versions
      versions_next n (comes_load e l) other = now.versions
      versions_next n (comes_file e l w) other = now.versions
      versions_next n (comes_restart e l w d) other = absurd (other refl)
      versions_next n (comes_item {p} {first} {others} c goes judging items) other = versions_judged newest s p first others goes items registry read c.no_load now.versions
      versions_next n (comes_versions {p} c goes judging items) other = versions_asks s p c goes items registry read now.versions
      versions_next n (comes_exports {p} c goes entering) other = versions_exports s p c goes entering registry read now.versions
      versions_next n (comes_deferred outside e) other =
          let from = beside_deferred s in
          versions_idle registry read s (deferred_entered s) outside.calm.no_load from.files (same_packages s.graph (deferred_entered s).graph from.packages) from.known now.versions
      versions_next n (comes_waiting outside d e) other = versions_begins s outside registry read now.versions
      versions_next n (comes_dynamic outside d w e) other =
          let from = beside_dynamic s in
          versions_idle registry read s (dynamic_entered s) outside.calm.no_load from.files (same_packages s.graph (dynamic_entered s).graph from.packages) from.known now.versions
      versions_next n (comes_content i e) other = now.versions
      versions_next n (comes_end end) other = now.versions

      files_next : (n : Next) → NextIs s n → (n ≡ Restart → ⊥) → CountedFiles read looked (gone_on registry newest s n)
      files_next n (comes_notes e) other = files_noted registry s read looked now.files
      files_next n (comes_load e l) other = now.files
      files_next n (comes_file e l w) other = now.files
      files_next n (comes_restart e l w d) other = absurd (other refl)
      files_next n (comes_item {p} {first} {others} c goes judging items) other = files_judged newest s p first others goes items read looked c judging now.files
      files_next n (comes_versions {p} c goes judging items) other = files_asks s p c goes items read looked now.files
      files_next n (comes_exports {p} c goes entering) other = files_exports s p c goes entering read looked now.files
      files_next n (comes_deferred outside e) other =
          let from = beside_deferred s in
          let still = still_deferred s in
          files_beside read looked s (deferred_entered s) still.files still.packages still.reloaded still.probed still.run still.pass still.wanted outside.calm.no_file
          from.known (same_chosen s.graph (deferred_entered s).graph from.packages) from.named now.files
      files_next n (comes_waiting outside d e) other = files_begins s outside read looked now.files
      files_next n (comes_dynamic outside d w e) other =
          let from = beside_dynamic s in
          let still = still_dynamic s in
          files_beside read looked s (dynamic_entered s) still.files still.packages still.reloaded still.probed still.run still.pass still.wanted outside.calm.no_file
          from.known (same_chosen s.graph (dynamic_entered s).graph from.packages) from.named now.files
      files_next n (comes_content i e) other = now.files
      files_next n (comes_end end) other = now.files

      contents_next : (n : Next) → NextIs s n → (n ≡ Restart → ⊥) → CountedContents asked filled (gone_on registry newest s n)
      contents_next n (comes_notes e) other = contents_as asked filled s _ refl now.contents
      contents_next n (comes_load e l) other = now.contents
      contents_next n (comes_file e l w) other = now.contents
      contents_next n (comes_restart e l w d) other = absurd (other refl)
      contents_next n (comes_item c goes judging items) other = contents_as asked filled s _ (rests_judged newest s).contents now.contents
      contents_next n (comes_versions c goes judging items) other = contents_as asked filled s _ (rests_asked s).contents now.contents
      contents_next n (comes_exports c goes entering) other = contents_as asked filled s _ (still_exports s).contents now.contents
      contents_next n (comes_deferred outside e) other = contents_as asked filled s _ (still_deferred s).contents now.contents
      contents_next n (comes_waiting outside d e) other = contents_as asked filled s _ refl now.contents
      contents_next n (comes_dynamic outside d w e) other = contents_as asked filled s _ (still_dynamic s).contents now.contents
      contents_next n (comes_content i e) other = now.contents
      contents_next n (comes_end end) other = now.contents

      -- what comes next is done, where that needs no answer, and the run goes on
      pub counts_next : (n : Next) → NextIs s n → (n ≡ Restart → ⊥) → Counts asked read looked filled (gone_on registry newest s n)
      counts_next n next other = record {
        sound = sound_next o early registry newest s n next other now.sound;
        afresh = afresh_next o registry newest s n next other now.afresh;
        counted = counted_next n next other;
        distinct = now.distinct;
        versions = versions_next n next other;
        files = files_next n next other;
        contents = contents_next n next other;
      }

-- ---- beside what is counted

module _ (registry : RegistryMeaning) (newest : NewestDependencyDateOptions) (s : State) where
  -- what is known stays so
  pub known_next : (n : Next) → NextIs s n → (n ≡ Restart → ⊥) → (k : List ℕ) → IsKnown s.graph k → IsKnown (gone_on registry newest s n).graph k
  known_next n (comes_notes e) other k h = known_noted registry s k h
  known_next n (comes_load e l) other k h = h
  known_next n (comes_file e l w) other k h = h
  known_next n (comes_restart e l w d) other k h = absurd (other refl)
  known_next n (comes_item {p} {first} {others} c goes judging items) other k h = known_judged newest s p first others goes items k h
  known_next n (comes_versions {p} c goes judging items) other k h = known_asks s p c goes items k h
  known_next n (comes_exports {p} c goes entering) other k h = known_exports s p c goes entering k h
  known_next n (comes_deferred outside e) other k h = (beside_deferred s).known k h
  known_next n (comes_waiting outside d e) other k h = h
  known_next n (comes_dynamic outside d w e) other k h = (beside_dynamic s).known k h
  known_next n (comes_content i e) other k h = h
  known_next n (comes_end end) other k h = h

  -- what is deferred was, or is, under way as an asset
  pub deferred_next : (P : List ℕ → Type 0) (n : Next) → NextIs s n → (n ≡ Restart → ⊥) → DeferredBy P s → DeferredBy P (gone_on registry newest s n)
  deferred_next P n (comes_notes e) other by = deferred_rests P s (notes_added registry s) (rests_noted registry s) by
  deferred_next P n (comes_load e l) other by = by
  deferred_next P n (comes_file e l w) other by = by
  deferred_next P n (comes_restart e l w d) other by = absurd (other refl)
  deferred_next P n (comes_item c goes judging items) other by = deferred_rests P s (judged newest s) (rests_judged newest s) by
  deferred_next P n (comes_versions c goes judging items) other by = deferred_rests P s (versions_asked s) (rests_asked s) by
  deferred_next P n (comes_exports {p} c goes entering) other by = deferred_exports P s p goes by
  deferred_next P n (comes_deferred outside e) other by = deferred_entered_by P s
  deferred_next P n (comes_waiting outside d e) other by = by
  deferred_next P n (comes_dynamic outside d w e) other by = dynamic_entered_by P s by
  deferred_next P n (comes_content i e) other by = by
  deferred_next P n (comes_end end) other by = by
