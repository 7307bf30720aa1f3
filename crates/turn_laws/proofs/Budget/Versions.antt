-- That the file of a version that URLs of loads name is read once, and what is known of it afterwards.
use Rattle.std.proofs.Common.{◌≡◌, ℕ, List, [], ◌∷◌, Bool, true, false, cond, if◌then◌else◌, Option, None, Some, Result, Ok, Err, is_some, refl, sym, ap, ◌∙◌, subst, inl, inr, ⊎_elim, ◌⊎◌}
use Rattle.std.proofs.lemmas.Bool.{true≢false}
use Rattle.std.specs.FinMap as finite
use Rattle.std.specs.FinMap.{get-insert}
use Rattle.std.specs.Ordering.{eq_by_cmp}
use Rattle.url.specs.Parts.{Parts}
use Rattle.spec_base.specs.Options.{by_option}
use Rattle.spec_base.specs.Specifier.{specifier_text}
use Rattle.semver_npm.specs.Orders.{nv_cmp}
use Rattle.semver_npm.specs.declared.package.PackageNv.{PackageNv}
use Rattle.source_sums.specs.Sums.{KnownSums}
use Rattle.source_sums.specs.VersionKeys.{nv_total}
use Rattle.source_io.specs.declared.types.Answer.{Answer}
use Rattle.metadata_store.specs.Store.{with_answer}
use Rattle.pkg_records.specs.Kept.{with_package}
use Rattle.version_dates.specs.Sets.{at_key}
use Rattle.registry_files.specs.Answers.{FileAnswer, version_answer}
use Rattle.registry_files.specs.Kept.{Versions, held_in, holding, read_of}
use Rattle.registry_files.specs.declared.kept_version.KeptVersion.{KeptVersion}
use Rattle.registry_files.specs.declared.version_file.VersionFile.{VersionFile}
use Rattle.registry_urls.specs.Meaning.{RegistryMeaning}
use Rattle.graph_errors.specs.Errors.{jsr_error}
use Rattle.graph_errors.specs.declared.jsr_error.JsrLoadError.{JsrLoadError}
use Rattle.module_slots.specs.declared.load.Load.{Load}
use Rattle.graph_turns.specs.declared.question_of.Asked.{Asked}
use Rattle.graph_turns.specs.declared.later_content.LaterContent.{LaterContent}
use Rattle.graph_turns.specs.declared.manner.Manner.{Manner}
use Rattle.graph_turns.specs.declared.manner.Manner.TheVariants.{Asks, Reads, Unread, Unsupported}
use Rattle.graph_turns.specs.declared.outcome.Outcome.{Outcome}
use Rattle.graph_turns.specs.declared.state.State.{State}
use Rattle.turn_laws.specs.Budget.Asked.{HasPackage}
use Rattle.graph_turns.specs.Machine.Contents.{content_by, content_placed, content_stored}
use Rattle.graph_turns.specs.Machine.Files.{file_kept}
use Rattle.graph_turns.specs.Machine.Outcomes.{failure_outcome}
use Rattle.graph_turns.specs.Machine.Turns.{failing, manner_in}
use Rattle.graph_turns.specs.Promise.Versions.{kept_at, kept_of, loaded}
use Rattle.turn_laws.proofs.Budget.Beside.{beside_outcome, known_error}
use Rattle.turn_laws.proofs.Budget.Filled.{comes_known, comes_packages}
use Rattle.turn_laws.proofs.Budget.Known.{IsKnown}
use Rattle.turn_laws.proofs.Budget.Packages.{package_here, package_stays, same_packages}
use Rattle.graph_turns.proofs.Entering.Contents.{how_content}
use Rattle.graph_turns.proofs.Entering.Files.{answer_stays, answer_there}
use Rattle.graph_turns.proofs.Entering.Manners.{IsToRead, manner_known, reads_is}
use Rattle.graph_turns.specs.Machine.Entering.{stored}

-- ---- answers about files

-- what is kept where nothing was
answer_put : (files : Versions) (nv : PackageNv) (kept : Result KeptVersion JsrLoadError) → finite.get files nv ≡ None → with_answer files nv kept ≡ finite.insert files nv kept
answer_put files nv kept none = ap (λ b. if b then files else finite.insert files nv kept) (ap is_some none)

-- an answer about any version that stood stands
pub answered_still : (files : Versions) (nv : PackageNv) (kept : Result KeptVersion JsrLoadError) (q : PackageNv) → finite.contains_key files q ≡ true → finite.contains_key (with_answer files nv kept) q ≡ true
answered_still files nv kept q h = by (finite.get files q) refl h
  where
    by : (o : Option (Result KeptVersion JsrLoadError)) → finite.get files q ≡ o → is_some o ≡ true → is_some (finite.get (with_answer files nv kept) q) ≡ true
    by None e t = absurd (true≢false (sym t))
    by (Some x) e t = ap is_some (answer_stays files nv kept q x e)

-- an error is no version in which a load is
alone_still : (files : Versions) (nv : PackageNv) (e : JsrLoadError) (s : Parts) (p : Option PackageNv) → finite.get files nv ≡ None → held_in (finite.get files) s p ≡ None → held_in (finite.get (with_answer files nv (Err e))) s p ≡ None
alone_still files nv e s None none alone = refl
alone_still files nv e s (Some q) none alone =
    ap (λ (m : Versions). holding s (read_of (finite.get m q))) (answer_put files nv (Err e) none)
    ∙ ap (λ o. holding s (read_of o)) (get-insert nv_total files nv (Err e) q)
    ∙ by (eq_by_cmp nv_cmp q nv)
  where
    by : (b : Bool) → holding s (read_of (cond b (Some (Err e)) (finite.get files q))) ≡ None
    by true = refl
    by false = alone

-- how the turn of a load goes that is asked about, or whose version's file is read first
abbrev is_asks : Manner → Bool
is_asks (Asks asked) = true
is_asks (Reads nv) = false
is_asks (Unread name e) = false
is_asks Unsupported = false

abbrev is_reads : Manner → Bool
is_reads (Asks asked) = false
is_reads (Reads nv) = true
is_reads (Unread name e) = false
is_reads Unsupported = false

-- ---- what was read

abbrev head_or : Load → List Load → Load
head_or other [] = other
head_or other (load ∷ loads) = load

abbrev pub WasRead : PackageNv → List PackageNv → Type 0
WasRead nv [] = ⊥
WasRead nv (v ∷ vs) = (nv ≡ v) ⊎ WasRead nv vs

abbrev pub OnceRead : List PackageNv → Type 0
OnceRead [] = Unit {0}
OnceRead (v ∷ vs) = (WasRead v vs → ⊥) × OnceRead vs

module _ (registry : RegistryMeaning) where
  -- the first open load fails, since the file of the version that its URL names can't be read, whatever sums are known
  pub record IsFailing (s : State) (nv : PackageNv) : Type 0 where
    pub load : Load
    pub loads : List Load
    pub error : JsrLoadError
    pub first : s.loads ≡ load ∷ loads
    pub fails : (sums : Option KnownSums) → manner_in sums registry s load ≡ Unread (registry.package_url nv) error

  -- of a version that was read, what was answered is kept, the graph knows it, or an error stands where it lies, or is to be stored there
  -- next; and none was read twice
  pub record CountedVersions (read : List PackageNv) (s : State) : Type 0 where
    pub kept : (nv : PackageNv) → WasRead nv read → finite.contains_key s.files nv ≡ true
    pub once : OnceRead read
    pub known : (nv : PackageNv) → WasRead nv read → HasPackage s.graph nv ⊎ (IsKnown s.graph (specifier_text (registry.package_url nv)) ⊎ IsFailing s nv)

  -- before the first turn
  pub versions_none : (s : State) → CountedVersions [] s
  versions_none s = record { kept = λ nv h. absurd h; once = tt; known = λ nv h. absurd h }

  -- where the first open load doesn't fail so, the graph knows the version, or an error stands where it lies
  pub known_version : (read : List PackageNv) (s : State) → ((nv : PackageNv) → IsFailing s nv → ⊥) → CountedVersions read s → (nv : PackageNv) → WasRead nv read → HasPackage s.graph nv ⊎ IsKnown s.graph (specifier_text (registry.package_url nv))
  known_version read s free now nv h = ⊎_elim inl (λ r. ⊎_elim inr (λ f. absurd (free nv f)) r) (now.known nv h)

  -- none is known to fail where no load is open, or the first one is asked about, or its version's file is read, or its sum is of no form
  -- that is known
  pub idle_free : (s : State) → s.loads ≡ [] → (nv : PackageNv) → IsFailing s nv → ⊥
  idle_free s none nv f = let wrong : f.load ∷ f.loads ≡ [] = sym f.first ∙ none in cc

  pub first_free : (sums : Option KnownSums) (s : State) (load : Load) (loads : List Load) → s.loads ≡ load ∷ loads → ((n : Parts) (e : JsrLoadError) → manner_in sums registry s load ≡ Unread n e → ⊥) → (nv : PackageNv) → IsFailing s nv → ⊥
  first_free sums s load loads first other nv f =
      let same : f.load ≡ load = ap (head_or load) (sym f.first ∙ first) in
      other (registry.package_url nv) f.error (subst (λ (l : Load). manner_in sums registry s l ≡ Unread (registry.package_url nv) f.error) same (f.fails sums))

  -- ---- turns

  -- where files stay, packages that are known stay, and no load fails any more
  pub versions_beside : (read : List PackageNv) (s u : State) → u.files ≡ s.files → ((nv : PackageNv) → HasPackage s.graph nv → HasPackage u.graph nv) → ((k : List ℕ) → IsKnown s.graph k → IsKnown u.graph k) → ((nv : PackageNv) → IsFailing s nv → IsKnown u.graph (specifier_text (registry.package_url nv))) → CountedVersions read s → CountedVersions read u
  versions_beside read s u files packages keeps failed now = record {
    kept = λ nv h. ap (λ (m : Versions). finite.contains_key m nv) files ∙ now.kept nv h;
    once = now.once;
    known = λ nv h. ⊎_elim
        (λ p. inl (packages nv p))
        (λ r. inr (inl (⊎_elim (keeps (specifier_text (registry.package_url nv))) (failed nv) r)))
        (now.known nv h);
  }

  -- where no load is open
  pub versions_idle : (read : List PackageNv) (s u : State) → s.loads ≡ [] → u.files ≡ s.files → ((nv : PackageNv) → HasPackage s.graph nv → HasPackage u.graph nv) → ((k : List ℕ) → IsKnown s.graph k → IsKnown u.graph k) → CountedVersions read s → CountedVersions read u
  versions_idle read s u idle files packages keeps now = versions_beside read s u files packages keeps (λ nv f. absurd (idle_free s idle nv f)) now

  -- an answered load
  pub versions_answered : (sums : Option KnownSums) (read : List PackageNv) (most : ℕ) (rest : State) (load : Load) (asked : Asked) (o : Outcome) → manner_in sums registry (record rest { loads = load ∷ rest.loads }) load ≡ Asks asked → CountedVersions read (record rest { loads = load ∷ rest.loads }) → CountedVersions read (stored most rest load o)
  versions_answered sums read most rest load asked o manner now =
      let from = beside_outcome most rest load o in
      versions_beside read (record rest { loads = load ∷ rest.loads }) (stored most rest load o) from.files (same_packages rest.graph (stored most rest load o).graph from.packages) from.known
      (λ nv f. absurd (first_free sums (record rest { loads = load ∷ rest.loads }) load rest.loads refl (λ n e h. true≢false (ap is_asks (sym manner ∙ h))) nv f))
      now

  -- a load that fails without a question
  pub versions_failed : (sums : Option KnownSums) (read : List PackageNv) (most : ℕ) (rest : State) (load : Load) (o : Outcome) → failing load (manner_in sums registry (record rest { loads = load ∷ rest.loads }) load) ≡ Some o → CountedVersions read (record rest { loads = load ∷ rest.loads }) → CountedVersions read (stored most rest load o)
  versions_failed sums read most rest load o fails now =
      let from = beside_outcome most rest load o in
      versions_beside read (record rest { loads = load ∷ rest.loads }) (stored most rest load o) from.files (same_packages rest.graph (stored most rest load o).graph from.packages) from.known failed now
    where
      stands_there : (nv : PackageNv) (e : JsrLoadError) → manner_in sums registry (record rest { loads = load ∷ rest.loads }) load ≡ Unread (registry.package_url nv) e → IsKnown (stored most rest load o).graph (specifier_text (registry.package_url nv))
      stands_there nv e manner =
          let is : Some (failure_outcome load.context (registry.package_url nv) e) ≡ Some o = sym (ap (failing load) manner) ∙ fails in
          let one : failure_outcome load.context (registry.package_url nv) e ≡ o = ap (λ x. by_option x o (λ y. y)) is in
          subst (λ (x : Outcome). IsKnown (stored most rest load x).graph (specifier_text (registry.package_url nv))) one
          (known_error most rest load load.context.«package» (registry.package_url nv) (jsr_error (registry.package_url nv) load.context.range e))

      failed : (nv : PackageNv) → IsFailing (record rest { loads = load ∷ rest.loads }) nv → IsKnown (stored most rest load o).graph (specifier_text (registry.package_url nv))
      failed nv f =
          let same : f.load ≡ load = ap (head_or load) (sym f.first) in
          stands_there nv f.error (subst (λ (l : Load). manner_in sums registry (record rest { loads = load ∷ rest.loads }) l ≡ Unread (registry.package_url nv) f.error) same (f.fails sums))

  -- a version file that is kept: those that were read stay known
  still_kept : (read : List PackageNv) (s : State) (nv : PackageNv) → ((q : PackageNv) → IsFailing s q → ⊥) → CountedVersions read s → (q : PackageNv) → WasRead q read → (r : Result VersionFile JsrLoadError) → HasPackage (file_kept s nv (kept_at (registry.package_url nv) nv r)).graph q ⊎ (IsKnown (file_kept s nv (kept_at (registry.package_url nv) nv r)).graph (specifier_text (registry.package_url q)) ⊎ IsFailing (file_kept s nv (kept_at (registry.package_url nv) nv r)) q)
  still_kept read s nv free now q old (Ok file) = ⊎_elim (λ p. inl (package_stays s.graph.packages nv q p)) (λ k. inr (inl k)) (known_version read s free now q old)
  still_kept read s nv free now q old (Err e) = ⊎_elim inl (λ k. inr (inl k)) (known_version read s free now q old)

  -- one that isn't counted here, as its answer stands in the given store, or a pass wants it
  pub versions_kept : (read : List PackageNv) (s : State) (nv : PackageNv) (answer : FileAnswer) → ((q : PackageNv) → IsFailing s q → ⊥) → CountedVersions read s → CountedVersions read (file_kept s nv (kept_of registry nv answer))
  versions_kept read s nv answer free now = record {
    kept = λ q old. answered_still s.files nv (kept_of registry nv answer) q (now.kept q old);
    once = now.once;
    known = λ q old. still_kept read s nv free now q old (version_answer nv answer);
  }

  -- no load fails where the first one's version is to be read first
  pub reads_free : (sums : Option KnownSums) (s : State) (load : Load) (loads : List Load) (nv : PackageNv) → s.loads ≡ load ∷ loads → manner_in sums registry s load ≡ Reads nv → (q : PackageNv) → IsFailing s q → ⊥
  reads_free sums s load loads nv first manner = first_free sums s load loads first (λ n e h. true≢false (ap is_reads (sym manner ∙ h)))

  -- a version file that was read
  pub versions_read : (sums : Option KnownSums) (read : List PackageNv) (s : State) (load : Load) (loads : List Load) (nv : PackageNv) (answer : FileAnswer) → s.loads ≡ load ∷ loads → manner_in sums registry s load ≡ Reads nv → CountedVersions read s
      → CountedVersions (nv ∷ read) (file_kept s nv (kept_of registry nv answer))
  versions_read sums read s load loads nv answer first manner now = record {
    kept = λ q h. ⊎_elim
        (λ same. subst (λ x. finite.contains_key (with_answer s.files nv answered) x ≡ true) (sym same) (ap is_some (answer_there s.files nv answered is.unknown)))
        (λ old. answered_still s.files nv answered q (now.kept q old))
        h;
    once = (λ h. let there = now.kept nv h in true≢false (sym there ∙ ap is_some is.unknown), now.once);
    known = λ q h. ⊎_elim (λ same. here q same (version_answer nv answer)) (λ old. still_kept read s nv (reads_free sums s load loads nv first manner) now q old (version_answer nv answer)) h;
  }
    where
      answered : Result KeptVersion JsrLoadError
      answered = kept_of registry nv answer

      is : IsToRead sums registry (finite.get s.files) load.specifier load.context nv
      is = reads_is sums registry (finite.get s.files) load.specifier load.context nv manner

      here : (q : PackageNv) → q ≡ nv → (r : Result VersionFile JsrLoadError) → HasPackage (file_kept s nv (kept_at (registry.package_url nv) nv r)).graph q ⊎ (IsKnown (file_kept s nv (kept_at (registry.package_url nv) nv r)).graph (specifier_text (registry.package_url q)) ⊎ IsFailing (file_kept s nv (kept_at (registry.package_url nv) nv r)) q)
      here q same (Ok file) = inl (subst (λ x. is_some (at_key nv_cmp (with_package s.graph.packages nv).packages x) ≡ true) (sym same) (package_here s.graph.packages nv))
      here q same (Err x) = inr (inr (subst (IsFailing (file_kept s nv (Err x))) (sym same) record {
        load = load;
        loads = loads;
        error = x;
        first = first;
        fails = λ any. manner_known any registry (finite.get (with_answer s.files nv (Err x))) load.specifier load.context nv (Some (Err x))
            (alone_still s.files nv x load.specifier load.context.«package» is.unknown is.alone) is.names (answer_there s.files nv (Err x) is.unknown);
      }))

  -- a version whose file is to be read wasn't read
  pub version_unread : (sums : Option KnownSums) (read : List PackageNv) (s : State) (load : Load) (nv : PackageNv) → manner_in sums registry s load ≡ Reads nv → CountedVersions read s → WasRead nv read → ⊥
  version_unread sums read s load nv manner now h =
      let is = reads_is sums registry (finite.get s.files) load.specifier load.context nv manner in
      true≢false (sym (now.kept nv h) ∙ ap is_some is.unknown)

  -- a content that came
  pub versions_filled : (read : List PackageNv) (s : State) (l : LaterContent) (ls : List LaterContent) (a : Answer) → s.loads ≡ [] → s.contents ≡ l ∷ ls → CountedVersions read s → CountedVersions read (content_stored s a)
  versions_filled read s l ls a none first now = subst (λ (x : List LaterContent). CountedVersions read (content_by s x a)) (sym first)
      (versions_idle read s (record s { graph = content_placed s.graph l (loaded a); contents = ls }) none refl
      (same_packages s.graph (content_placed s.graph l (loaded a)) (comes_packages s.graph l (loaded a) (content_placed s.graph l (loaded a)) (how_content s.graph l (loaded a))))
      (comes_known s.graph l (loaded a) (content_placed s.graph l (loaded a)) (how_content s.graph l (loaded a)))
      now)
