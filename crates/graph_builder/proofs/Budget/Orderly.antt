-- What a run of turns keeps, and that a graph is complete at its end.
use Rattle.std.proofs.Common.{◌≡◌, ℕ, zero, suc, ◌<◌, List, [], ◌∷◌, map, length, get_or, Bool, true, false, if◌then◌else◌, Option, Some, refl, sym, ap, ◌∙◌, subst, inl, inr, ⊎_elim, ◌⊎◌, arith}
use Rattle.std.specs.Prelude.{Result, Ok, Err}
use Rattle.std.specs.List.{All}
use Rattle.std.proofs.lemmas.Bool.{true≢false}
use Rattle.std.specs.FinMap as finite
use Rattle.url.specs.Parts.{Parts}
use Rattle.spec_base.specs.Specifier.{specifier_text}
use Rattle.semver_npm.specs.declared.package.PackageNv.{PackageNv}
use Rattle.source_io.specs.declared.types.Answer.{Answer}
use Rattle.source_io.specs.declared.types.World.{World}
use Rattle.import_records.specs.Target.{Resolving}
use Rattle.version_dates.specs.declared.newest_date.NewestDependencyDateOptions.{NewestDependencyDateOptions}
use Rattle.source_sums.specs.Sums.{KnownSums}
use Rattle.registry_urls.specs.Meaning.{RegistryMeaning}
use Rattle.registry_files.specs.Answers.{FileAnswer}
use Rattle.registry_files.specs.declared.kept_version.KeptVersion.{KeptVersion}
use Rattle.graph_errors.specs.declared.jsr_error.JsrLoadError.{JsrLoadError}
use Rattle.graph_core.specs.declared.graph.ModuleGraph.{ModuleGraph}
use Rattle.graph_dependencies.specs.declared.graph_kind.GraphKind.{GraphKind}
use Rattle.module_slots.specs.declared.load.Load.{Load}
use Rattle.module_slots.specs.declared.load.LoadContext.{LoadContext}
use Rattle.module_slots.specs.declared.slot.Module.{Module}
use Rattle.module_slots.specs.declared.slot.ModuleSlot.TheVariants.{Module as Stands, Pending}
use Rattle.graph_core.specs.Edges.{loads_of, import_loads}
use Rattle.graph_core.specs.Graph.{HasLead, new_graph}
use Rattle.graph_turns.specs.declared.question_of.Asked.{Asked}
use Rattle.graph_turns.specs.declared.flags.Flags.{Flags}
use Rattle.graph_turns.specs.declared.later_content.LaterContent.{LaterContent}
use Rattle.graph_turns.specs.declared.manner.Manner.TheVariants.{Asks, Reads}
use Rattle.graph_turns.specs.declared.next.Next.{Next}
use Rattle.graph_turns.specs.declared.next.Next.TheVariants.{Wanted, Restart, Content}
use Rattle.graph_turns.specs.declared.outcome.Outcome.{Outcome}
use Rattle.graph_turns.specs.declared.registry.RegistryFile.{RegistryFile}
use Rattle.graph_turns.specs.declared.run.Earlier.{Earlier}
use Rattle.graph_turns.specs.declared.run.Run.{Run}
use Rattle.graph_turns.specs.declared.run.Run.TheVariants.{Only, First, Due, Second}
use Rattle.graph_turns.specs.declared.starting.ResolvedStart.{ResolvedStart}
use Rattle.graph_turns.specs.declared.state.State.{State}
use Rattle.graph_turns.specs.Machine.Contents.{content_by, content_placed, content_stored}
use Rattle.graph_turns.specs.Machine.Entering.{IsFinal, enter_all, resting_state, stored}
use Rattle.graph_turns.specs.Machine.Files.{file_kept, noted}
use Rattle.graph_turns.specs.Machine.Known.{Known}
use Rattle.graph_turns.specs.Machine.Next.{next_of}
use Rattle.graph_turns.specs.Machine.Outcomes.{Suits}
use Rattle.graph_turns.specs.Machine.Redirects.{HasNoCircle}
use Rattle.graph_turns.specs.Machine.RegistryFiles.{wanted_kept}
use Rattle.graph_turns.specs.Machine.Runs.{begins_anew, begun_again, begun_over, cleared, found_by, is_due, known_for, restarted}
use Rattle.graph_turns.specs.Machine.Starting.{IsResolved, added_imports, added_loads, added_roots, start_entered, start_entry, with_start}
use Rattle.graph_turns.specs.Machine.Turns.{IsIdle, failing, gone_on, manner_in}
use Rattle.turn_laws.specs.Promise.Complete.{IsComplete, IsCompleteFrom, NonePending}
use Rattle.graph_turns.specs.Promise.Input.{EnteredGraph, root_load, Given, Start, Begins, starts}
use Rattle.graph_turns.specs.Promise.Runs.{left_of}
use Rattle.graph_turns.specs.Promise.Versions.{kept_of, loaded}
use Rattle.open_loads.specs.Budget.Runs.{Answered, BeganAgain, Filled, LookedUp, Passed, Read, Runs, goes_on}
use Rattle.open_loads.specs.Budget.Runs.Runs.{none, answered, failed, read, read_stored, looked_up, looked_up_stored, filled, went_on, began_again}
use Rattle.open_loads.specs.Order.Means.{Means}
use Rattle.graph_core.proofs.At.{nothing_in_empty}
use Rattle.graph_builder.proofs.Promise.Begun.{begins_of}
use Rattle.turn_laws.proofs.Budget.Beside.{beside_outcome}
use Rattle.turn_laws.proofs.Budget.Counts.{Counts, IsBlank, counts_answered, counts_begun, counts_failed, counts_filled, counts_looked, counts_looked_stored, counts_next, counts_read, counts_read_stored, deferred_next, known_next}
use Rattle.turn_laws.proofs.Budget.Deferred.{DeferredBy, deferred_as, deferred_enter_all, deferred_stored, deferred_taken, none_deferred_by}
use Rattle.turn_laws.proofs.Budget.Filled.{comes_known}
use Rattle.turn_laws.proofs.Budget.Goes.{RunGoes, run_next}
use Rattle.turn_laws.proofs.Budget.Goes.RunGoes.{same, falls_due}
use Rattle.turn_laws.proofs.Budget.Known.{IsKnown}
use Rattle.turn_laws.proofs.Budget.Pairs.{HasDeferred, HasPair}
use Rattle.turn_laws.proofs.Budget.Wanted.{deferred_wanted, known_wanted, loads_wanted, run_wanted}
use Rattle.graph_turns.proofs.Entering.Contents.{how_content}
use Rattle.graph_turns.proofs.Entering.Loads.{HasLoad, HasText, roots_due, has_load_left, has_load_right, same_imports}
use Rattle.graph_turns.proofs.Entering.Next.{NextIs, how_next}
use Rattle.graph_turns.proofs.Entering.Next.NextIs.{notes as comes_notes, loads as comes_load, wanted as comes_file, restart as comes_restart, item as comes_item, versions as comes_versions, exports as comes_exports, deferred as comes_deferred, waiting as comes_waiting, dynamic as comes_dynamic, content as comes_content, ends as comes_end}
use Rattle.graph_turns.proofs.Entering.Rested.{goes_next, goes_stored, goes_wanted, still_enter_all, still_started, stores}
use Rattle.turn_laws.proofs.Leading.Circles.{new_no_circle}
use Rattle.graph_turns.proofs.Leading.Ends.{stands}
use Rattle.turn_laws.proofs.Promise.Ended.{EndsAs, npm_alone, npm_final}
use Rattle.turn_laws.proofs.Promise.Sound.{IsWanted, Lead, nothing}
use Rattle.turn_laws.proofs.Promise.SoundBegun.{IsMendedBy, mended_with}
use Rattle.turn_laws.proofs.Promise.SoundEnds.{has_lead, has_load_at, pending_end, wanted_end}

-- ---- what turns asked about since the build began, or began once more

-- the loads that were answered, the last one first
abbrev pub answered_in : List Passed → List Load
answered_in [] = []
answered_in (Answered load asked ∷ past) = load ∷ answered_in past
answered_in (Read nv ∷ past) = answered_in past
answered_in (LookedUp file ∷ past) = answered_in past
answered_in (Filled l ∷ past) = answered_in past
answered_in (BeganAgain g put ∷ past) = []

-- the versions whose files were read for loads
abbrev pub read_in : List Passed → List PackageNv
read_in [] = []
read_in (Answered load asked ∷ past) = read_in past
read_in (Read nv ∷ past) = nv ∷ read_in past
read_in (LookedUp file ∷ past) = read_in past
read_in (Filled l ∷ past) = read_in past
read_in (BeganAgain g put ∷ past) = []

-- the files that passes wanted
abbrev pub looked_in : List Passed → List RegistryFile
looked_in [] = []
looked_in (Answered load asked ∷ past) = looked_in past
looked_in (Read nv ∷ past) = looked_in past
looked_in (LookedUp file ∷ past) = file ∷ looked_in past
looked_in (Filled l ∷ past) = looked_in past
looked_in (BeganAgain g put ∷ past) = []

-- the contents that came
abbrev pub filled_in : List Passed → List LaterContent
filled_in [] = []
filled_in (Answered load asked ∷ past) = filled_in past
filled_in (Read nv ∷ past) = filled_in past
filled_in (LookedUp file ∷ past) = filled_in past
filled_in (Filled l ∷ past) = l ∷ filled_in past
filled_in (BeganAgain g put ∷ past) = []

-- an asset of a text was asked about, or a slot or a redirect stands there
abbrev pub IsAssetBy : List Passed → ModuleGraph → List ℕ → Type 0
IsAssetBy past g k = HasPair k true (answered_in past) ⊎ IsKnown g k

-- between two turns of a run nothing is left out and nothing is asked twice; the flags stay those of the build
pub record Orderly (early : Type 0) (known : Known) (registry : RegistryMeaning) (o : EnteredGraph) (past : List Passed) (s : State) : Type 0 where
  pub flags_are : s.flags ≡ known.flags
  pub counts : Counts registry o early (answered_in past) (read_in past) (looked_in past) (filled_in past) s
  -- what is deferred was asked about as an asset, or something stands there
  pub deferred : DeferredBy (IsAssetBy past s.graph) s

-- ---- where a run begins

module _ (early : Type 0) (known : Known) (registry : RegistryMeaning) (o : EnteredGraph) where
  orderly_begun : (b : State) → b.flags ≡ known.flags → IsBlank o b → IsMendedBy early o → Orderly early known registry o [] (enter_all b o.loads)
  orderly_begun b flags blank mended = record {
    flags_are = (still_enter_all b o.loads).flags ∙ flags;
    counts = counts_begun registry o early b blank mended;
    deferred = deferred_enter_all (IsAssetBy [] (enter_all b o.loads).graph) o.loads b (none_deferred_by (IsAssetBy [] (enter_all b o.loads).graph) b blank.deferred);
  }

-- ---- turns

-- a graph that knows a version more has the same slots and redirects
known_noted : (g : ModuleGraph) (kept : Result KeptVersion JsrLoadError) (k : List ℕ) → IsKnown g k → IsKnown (noted g kept) k
known_noted g (Ok v) k h = h
known_noted g (Err e) k h = h

module _ (early : Type 0) (known : Known) (registry : RegistryMeaning) (o : EnteredGraph) (past : List Passed) where
  -- one more load whose turn went through, which is known since
  deferred_more : (more : List Passed) (rest : State) (load : Load) (most : ℕ) (outcome : Outcome) → ((k : List ℕ) → HasPair k true (answered_in past) → HasPair k true (answered_in more)) → stands rest.graph (specifier_text load.specifier) ≡ true → DeferredBy (IsAssetBy past rest.graph) (record rest { loads = load ∷ rest.loads }) → DeferredBy (IsAssetBy more (stored most rest load outcome).graph) (stored most rest load outcome)
  deferred_more more rest load most outcome keeps there by =
      let next = stored most rest load outcome in
      let known_still = (beside_outcome most rest load outcome).known in
      deferred_stored (IsAssetBy more next.graph) most rest load outcome
      (deferred_as (λ k. IsAssetBy past rest.graph k ⊎ ((k ≡ specifier_text load.specifier) × (load.context.asset ≡ true))) (IsAssetBy more next.graph) rest
      (λ k h. ⊎_elim (λ p. ⊎_elim (λ a. inl (keeps k a)) (λ stood. inr (known_still k stood)) p) (λ own. inr (known_still k (inl (ap (stands rest.graph) own.0 ∙ there)))) h)
      (deferred_taken (IsAssetBy past rest.graph) rest load by))

  -- whatever else was asked about
  deferred_known : (more : List Passed) (s u : State) → answered_in more ≡ answered_in past → ((k : List ℕ) → IsKnown s.graph k → IsKnown u.graph k) → u.loads ≡ s.loads → u.deferred ≡ s.deferred → DeferredBy (IsAssetBy past s.graph) s → DeferredBy (IsAssetBy more u.graph) u
  deferred_known more s u same_loads keeps loads deferred by = λ k a. ⊎_elim
      (λ h. inl (subst (HasPair k true) (sym loads) h))
      (λ p. inr (⊎_elim (λ h. inl (subst (HasPair k true) (sym same_loads) h)) (λ h. inr (keeps k h)) p))
      (by k (subst (HasDeferred k) deferred a))

  orderly_answered : (sums : Option KnownSums) (most : ℕ) (rest : State) (load : Load) (asked : Asked) (outcome : Outcome) → Orderly early known registry o past (record rest { loads = load ∷ rest.loads }) → manner_in sums registry (record rest { loads = load ∷ rest.loads }) load ≡ Asks asked → IsFinal load outcome → Suits load asked outcome → Orderly early known registry o (Answered load asked ∷ past) (stored most rest load outcome)
  orderly_answered sums most rest load asked outcome now how final suits = record {
    flags_are = (goes_stored most rest load outcome).flags ∙ now.flags_are;
    counts = counts_answered registry o early (answered_in past) (read_in past) (looked_in past) (filled_in past) sums most rest load asked outcome how final suits now.counts;
    deferred = deferred_more (Answered load asked ∷ past) rest load most outcome (λ k h. inr h) (now.counts.sound.held (specifier_text load.specifier) (inl refl)) now.deferred;
  }

  -- a load that failed without a question
  orderly_failed : (sums : Option KnownSums) (most : ℕ) (rest : State) (load : Load) (outcome : Outcome) → Orderly early known registry o past (record rest { loads = load ∷ rest.loads }) → failing load (manner_in sums registry (record rest { loads = load ∷ rest.loads }) load) ≡ Some outcome → Orderly early known registry o past (stored most rest load outcome)
  orderly_failed sums most rest load outcome now fails = record {
    flags_are = (goes_stored most rest load outcome).flags ∙ now.flags_are;
    counts = counts_failed registry o early (answered_in past) (read_in past) (looked_in past) (filled_in past) sums most rest load outcome fails now.counts;
    deferred = deferred_more past rest load most outcome (λ k h. h) (now.counts.sound.held (specifier_text load.specifier) (inl refl)) now.deferred;
  }

  -- the file of a version was read
  orderly_read : (sums : Option KnownSums) (s : State) (load : Load) (loads : List Load) (nv : PackageNv) (answer : FileAnswer) → Orderly early known registry o past s → s.loads ≡ load ∷ loads → manner_in sums registry s load ≡ Reads nv → Orderly early known registry o (Read nv ∷ past) (file_kept s nv (kept_of registry nv answer))
  orderly_read sums s load loads nv answer now first how = record {
    flags_are = now.flags_are;
    counts = counts_read registry o early (answered_in past) (read_in past) (looked_in past) (filled_in past) sums s load loads nv answer first how now.counts;
    deferred = deferred_known (Read nv ∷ past) s (file_kept s nv (kept_of registry nv answer)) refl (known_noted s.graph (kept_of registry nv answer)) refl refl now.deferred;
  }

  -- or its answer stands in the given store
  orderly_read_stored : (sums : Option KnownSums) (s : State) (load : Load) (loads : List Load) (nv : PackageNv) (answer : FileAnswer) → Orderly early known registry o past s → s.loads ≡ load ∷ loads → manner_in sums registry s load ≡ Reads nv → Orderly early known registry o past (file_kept s nv (kept_of registry nv answer))
  orderly_read_stored sums s load loads nv answer now first how = record {
    flags_are = now.flags_are;
    counts = counts_read_stored registry o early (answered_in past) (read_in past) (looked_in past) (filled_in past) sums s load loads nv answer first how now.counts;
    deferred = deferred_known past s (file_kept s nv (kept_of registry nv answer)) refl (known_noted s.graph (kept_of registry nv answer)) refl refl now.deferred;
  }

  -- a file that a pass wants was asked about, or its answer stands in the given store
  orderly_looked : (s : State) (file : RegistryFile) (files : List RegistryFile) (answer : FileAnswer) → Orderly early known registry o past s → s.loads ≡ [] → s.wanted ≡ file ∷ files → Orderly early known registry o (LookedUp file ∷ past) (wanted_kept registry s answer)
  orderly_looked s file files answer now idle first = record {
    flags_are = (goes_wanted registry s answer).flags ∙ now.flags_are;
    counts = counts_looked registry o early (answered_in past) (read_in past) (looked_in past) (filled_in past) s file files answer idle first now.counts;
    deferred = deferred_known (LookedUp file ∷ past) s (wanted_kept registry s answer) refl (known_wanted registry s answer) (loads_wanted registry s answer) (deferred_wanted registry s answer) now.deferred;
  }

  orderly_looked_stored : (s : State) (file : RegistryFile) (files : List RegistryFile) (answer : FileAnswer) → Orderly early known registry o past s → s.loads ≡ [] → s.wanted ≡ file ∷ files → Orderly early known registry o past (wanted_kept registry s answer)
  orderly_looked_stored s file files answer now idle first = record {
    flags_are = (goes_wanted registry s answer).flags ∙ now.flags_are;
    counts = counts_looked_stored registry o early (answered_in past) (read_in past) (looked_in past) (filled_in past) s file files answer idle first now.counts;
    deferred = deferred_known past s (wanted_kept registry s answer) refl (known_wanted registry s answer) (loads_wanted registry s answer) (deferred_wanted registry s answer) now.deferred;
  }

  -- the first content that comes later came
  orderly_filled : (s : State) (l : LaterContent) (ls : List LaterContent) (a : Answer) → Orderly early known registry o past s → IsIdle s → s.contents ≡ l ∷ ls → Orderly early known registry o (Filled l ∷ past) (content_stored s a)
  orderly_filled s l ls a now idle first = record {
    flags_are = ap (λ (x : State). x.flags) is ∙ now.flags_are;
    counts = counts_filled registry o early (answered_in past) (read_in past) (looked_in past) (filled_in past) s l ls a idle first now.counts;
    deferred = subst (λ (u : State). DeferredBy (IsAssetBy (Filled l ∷ past) u.graph) u) (sym is)
        (deferred_known (Filled l ∷ past) s (record s { graph = content_placed s.graph l (loaded a); contents = ls }) refl (comes_known s.graph l (loaded a) (content_placed s.graph l (loaded a)) (how_content s.graph l (loaded a))) refl refl now.deferred);
  }
    where
      is : content_stored s a ≡ record s { graph = content_placed s.graph l (loaded a); contents = ls }
      is = ap (λ x. content_by s x a) first

  -- what comes next was done, where it needs no answer
  orderly_next : (newest : NewestDependencyDateOptions) (s : State) (n : Next) → NextIs s n → (n ≡ Restart → ⊥) → Orderly early known registry o past s → Orderly early known registry o past (gone_on registry newest s n)
  orderly_next newest s n next other now = record {
    flags_are = (goes_next registry newest s n next).flags ∙ now.flags_are;
    counts = counts_next registry o early (answered_in past) (read_in past) (looked_in past) (filled_in past) newest s now.counts n next other;
    deferred = deferred_next registry newest s (IsAssetBy past (gone_on registry newest s n).graph) n next other
        (deferred_as (IsAssetBy past s.graph) (IsAssetBy past (gone_on registry newest s n).graph) s (λ k h. ⊎_elim inl (λ stood. inr (known_next registry newest s n next other k stood)) h) now.deferred);
  }

-- ---- runs

-- the run that goes on, and where it began, in a build whose first run began over an entry
pub data IsRunFrom (known : Known) (o : EnteredGraph) (first : Run) : Run → EnteredGraph → Type 0 where
  in_first : IsRunFrom known o first first o
  due : {start : ResolvedStart} → first ≡ First start → IsRunFrom known o first (Due start) o
  second : {start : ResolvedStart} {e : Earlier} → first ≡ First start → IsRunFrom known o first (Second e) (start_entry known.flags.is_dynamic (new_graph o.graph.kind) start)

-- a first run
abbrev pub IsFirst : Run → Type 0
IsFirst Only = Unit {0}
IsFirst (First start) = Unit {0}
IsFirst (Due start) = ⊥
IsFirst (Second e) = ⊥

-- what holds of the run that goes on
pub record Ordered (early : Type 0) (known : Known) (registry : RegistryMeaning) (o : EnteredGraph) (first : Run) (past : List Passed) (s : State) : Type 0 where
  pub entry : EnteredGraph
  pub run : IsRunFrom known o first s.run entry
  pub orderly : Orderly early known registry entry past s

first_same : (a b : ResolvedStart) → ◌≡◌ {A = Run} (Due a) (Due b) → a ≡ b
first_same a b e = cc

module _ (early : Type 0) (known : Known) (registry : RegistryMeaning) (o : EnteredGraph) (first : Run) where
  -- a step within a run
  ordered_step : (past more : List Passed) (s u : State) → u.run ≡ s.run → ((e : EnteredGraph) → Orderly early known registry e past s → Orderly early known registry e more u) → Ordered early known registry o first past s → Ordered early known registry o first more u
  ordered_step past more s u run step now = record { entry = now.entry; run = subst (λ r. IsRunFrom known o first r now.entry) (sym run) now.run; orderly = step now.entry now.orderly }

  fall : (run : Run) (start : ResolvedStart) (e : EnteredGraph) → IsRunFrom known o first run e → run ≡ First start → IsRunFrom known o first (Due start) e
  fall run start e in_first is = due is
  fall run start e (due {start = st} f) is = absurd (let wrong : Due st ≡ First start = is in cc)
  fall run start e (second {e = earlier} f) is = absurd (let wrong : Second earlier ≡ First start = is in cc)

  ordered_next : (past : List Passed) (newest : NewestDependencyDateOptions) (s : State) (n : Next) → NextIs s n → (n ≡ Restart → ⊥) → Ordered early known registry o first past s → Ordered early known registry o first past (gone_on registry newest s n)
  ordered_next past newest s n next other now = by (run_next registry newest s n next other)
    where
      by : RunGoes s (gone_on registry newest s n) → Ordered early known registry o first past (gone_on registry newest s n)
      by (same run) = ordered_step past past s (gone_on registry newest s n) run (λ e. orderly_next early known registry e past newest s n next other) now
      by (falls_due {start} was is) = record {
        entry = now.entry;
        run = subst (λ r. IsRunFrom known o first r now.entry) (sym is) (fall s.run start now.entry now.run was);
        orderly = orderly_next early known registry now.entry past newest s n next other now.orderly;
      }

  -- the run that is due began where the build did
  first_due : (run : Run) (start : ResolvedStart) (e : EnteredGraph) → IsFirst first → IsRunFrom known o first run e → run ≡ Due start → (e ≡ o) × (first ≡ First start)
  first_due run start e begins in_first is = absurd (subst IsFirst is begins)
  first_due run start e begins (due {start = st} f) is = (refl, f ∙ ap First (first_same st start is))
  first_due run start e begins (second {e = earlier} f) is = absurd (let wrong : Second earlier ≡ Due start = is in cc)

  -- it begins once more
  module _ (past : List Passed) (s : State) (start : ResolvedStart) (is_run : s.run ≡ Due start) (begins : IsFirst first) (put : ℕ) (now : Ordered early known registry o first past s) where
    was : (now.entry ≡ o) × (first ≡ First start)
    was = first_due s.run start now.entry begins now.run is_run

    blank : State
    blank = record (cleared s) { graph = with_start (new_graph s.graph.kind) start }

    again_at : Bool → GraphKind → EnteredGraph
    again_at dynamic kind = start_entry dynamic (new_graph kind) start

    is_kind : s.graph.kind ≡ o.graph.kind
    is_kind = ap (λ (b : Start). b.kind) now.orderly.counts.sound.given ∙ ap (λ (e : EnteredGraph). e.graph.kind) was.0

    orderly_blank : Orderly early known registry (again_at s.flags.is_dynamic s.graph.kind) (BeganAgain s.graph put ∷ past) (enter_all blank (again_at s.flags.is_dynamic s.graph.kind).loads)
    unfolding blank again_at
    orderly_blank =
        let b = orderly_begun early known registry (again_at s.flags.is_dynamic s.graph.kind) blank now.orderly.flags_are (record {
          bare = record { graph_is = refl; no_load = refl; no_import = refl; no_item = refl; no_pass = refl };
          deferred = refl;
          contents = refl;
          wanted = refl;
        }) (mended_with early s.flags.is_dynamic (new_graph s.graph.kind) start (new_no_circle s.graph.kind)) in
        record { flags_are = b.flags_are; counts = b.counts; deferred = b.deferred }

    ordered_blank : Ordered early known registry o first (BeganAgain s.graph put ∷ past) (enter_all blank (again_at s.flags.is_dynamic s.graph.kind).loads)
    unfolding blank again_at
    ordered_blank = record {
      entry = again_at known.flags.is_dynamic o.graph.kind;
      run = subst (λ r. IsRunFrom known o first r (again_at known.flags.is_dynamic o.graph.kind)) (sym (still_enter_all blank (again_at s.flags.is_dynamic s.graph.kind).loads).run) (second was.1);
      orderly = subst (λ (f : Flags). Orderly early known registry (again_at f.is_dynamic o.graph.kind) (BeganAgain s.graph put ∷ past) (enter_all blank (again_at s.flags.is_dynamic s.graph.kind).loads)) now.orderly.flags_are
          (subst (λ (k : GraphKind). Orderly early known registry (again_at s.flags.is_dynamic k) (BeganAgain s.graph put ∷ past) (enter_all blank (again_at s.flags.is_dynamic s.graph.kind).loads)) is_kind orderly_blank);
    }

    again_is : restarted s ≡ enter_all blank (again_at s.flags.is_dynamic s.graph.kind).loads
    unfolding start_entered enter_all blank again_at
    again_is = ap (begun_again s) is_run

    ordered_again : Ordered early known registry o first (BeganAgain s.graph put ∷ past) (restarted s)
    ordered_again = subst (Ordered early known registry o first (BeganAgain s.graph put ∷ past)) (sym again_is) ordered_blank

-- a turn that needs no answer isn't a beginning
pub not_restart : (n : Next) → goes_on n ≡ true → n ≡ Restart → ⊥
not_restart n goes is = let wrong : true ≡ false = sym goes ∙ ap goes_on is in cc

-- where a run is due
pub due_start : (run : Run) → is_due run ≡ true → (start : ResolvedStart) × (run ≡ Due start)
due_start Only t = absurd (let wrong : false ≡ true = t in cc)
due_start (First start) t = absurd (let wrong : false ≡ true = t in cc)
due_start (Due start) t = (start, refl)
due_start (Second e) t = absurd (let wrong : false ≡ true = t in cc)

-- what stands where a load, a file or a content comes next, or a beginning
pub idle_next : (s : State) (n : Next) → NextIs s n → n ≡ Content → IsIdle s
idle_next s n (comes_notes e) is = absurd cc
idle_next s n (comes_load e l) is = absurd cc
idle_next s n (comes_file e l w) is = absurd cc
idle_next s n (comes_restart e l w d) is = absurd cc
idle_next s n (comes_item c goes judging items) is = absurd cc
idle_next s n (comes_versions c goes judging items) is = absurd cc
idle_next s n (comes_exports c goes entering) is = absurd cc
idle_next s n (comes_deferred outside e) is = absurd cc
idle_next s n (comes_waiting outside d e) is = absurd cc
idle_next s n (comes_dynamic outside d w e) is = absurd cc
idle_next s n (comes_content i e) is = i
idle_next s n (comes_end end) is = absurd cc

pub open_next : (s : State) (n : Next) → NextIs s n → n ≡ Wanted → s.loads ≡ []
open_next s n (comes_notes e) is = absurd cc
open_next s n (comes_load e l) is = absurd cc
open_next s n (comes_file e l w) is = l
open_next s n (comes_restart e l w d) is = absurd cc
open_next s n (comes_item c goes judging items) is = absurd cc
open_next s n (comes_versions c goes judging items) is = absurd cc
open_next s n (comes_exports c goes entering) is = absurd cc
open_next s n (comes_deferred outside e) is = absurd cc
open_next s n (comes_waiting outside d e) is = absurd cc
open_next s n (comes_dynamic outside d w e) is = absurd cc
open_next s n (comes_content i e) is = absurd cc
open_next s n (comes_end end) is = absurd cc

pub due_next : (s : State) (n : Next) → NextIs s n → n ≡ Restart → is_due s.run ≡ true
due_next s n (comes_notes e) is = absurd cc
due_next s n (comes_load e l) is = absurd cc
due_next s n (comes_file e l w) is = absurd cc
due_next s n (comes_restart e l w d) is = d
due_next s n (comes_item c goes judging items) is = absurd cc
due_next s n (comes_versions c goes judging items) is = absurd cc
due_next s n (comes_exports c goes entering) is = absurd cc
due_next s n (comes_deferred outside e) is = absurd cc
due_next s n (comes_waiting outside d e) is = absurd cc
due_next s n (comes_dynamic outside d w e) is = absurd cc
due_next s n (comes_content i e) is = absurd cc
due_next s n (comes_end end) is = absurd cc

-- the state in which turns over an entry begin, in a run
abbrev pub begun_in : Known → Run → EnteredGraph → State
begun_in known run o = enter_all (record (resting_state known o.graph) { run = run }) o.loads

-- the run in which a state begins, goes on and begins once more
pub begun_run : (known : Known) (run : Run) (o : EnteredGraph) → (begun_in known run o).run ≡ run
begun_run known run o = (still_enter_all (record (resting_state known o.graph) { run = run }) o.loads).run

pub stays_run : (most : ℕ) (s : State) (load : Load) (outcome : Outcome) → (stored most s load outcome).run ≡ s.run
stays_run most s load outcome = (stores most s load outcome).run

pub second_run : (s : State) (start : ResolvedStart) → s.run ≡ Due start → (restarted s).run ≡ Second (found_by s)
second_run s start is = ap (λ (r : Run). (begun_again s r).run) is ∙ (still_started (cleared s) start).run

module _ (early : Type 0) (most : ℕ) (known : Known) (loader : Option World) (means : Means) (o : EnteredGraph) (first : Run) (begins : IsFirst first) (mended : IsMendedBy early o) where
  ordered_begun : Ordered early known means.registry o first [] (begun_in known first o)
  ordered_begun = record {
    entry = o;
    run = subst (λ r. IsRunFrom known o first r o) (sym (begun_run known first o)) in_first;
    orderly = orderly_begun early known means.registry o (record (resting_state known o.graph) { run = first }) refl (record {
      bare = record { graph_is = refl; no_load = refl; no_import = refl; no_item = refl; no_pass = refl };
      deferred = refl;
      contents = refl;
      wanted = refl;
    }) mended;
  }

  -- turns over a graph in which each circle of redirects has a slot or a load of the call on it
  pub ordered_from : {past : List Passed} {put : ℕ} {s : State} → Runs most known loader means (begun_in known first o) past put s → Ordered early known means.registry o first past s
  ordered_from none = ordered_begun
  ordered_from (answered {past} {put} {cost} {s} {rest} {next} {load} {asked} {outcome} run comes left how may costs is) =
      subst (Ordered early known means.registry o first (Answered load asked ∷ past)) (sym is)
      (ordered_step early known means.registry o first past (Answered load asked ∷ past) (record rest { loads = load ∷ rest.loads }) (stored most rest load outcome) (stays_run most rest load outcome)
      (λ e now. orderly_answered early known means.registry e past (known_for known rest.run).sums most rest load asked outcome now (subst (λ (x : State). manner_in (known_for known x.run).sums means.registry x load ≡ Asks asked) left how) may.final may.suits)
      (subst (Ordered early known means.registry o first past) left (ordered_from run)))
  ordered_from (failed {past} {put} {s} {rest} {next} {load} {outcome} run comes left fails is) =
      subst (Ordered early known means.registry o first past) (sym is)
      (ordered_step early known means.registry o first past past (record rest { loads = load ∷ rest.loads }) (stored most rest load outcome) (stays_run most rest load outcome)
      (λ e now. orderly_failed early known means.registry e past (known_for known rest.run).sums most rest load outcome now (subst (λ (x : State). failing load (manner_in (known_for known x.run).sums means.registry x load) ≡ Some outcome) left fails))
      (subst (Ordered early known means.registry o first past) left (ordered_from run)))
  ordered_from (read {past} {put} {s} {rest} {next} {load} {nv} a run comes left how right fresh is) =
      subst (Ordered early known means.registry o first (Read nv ∷ past)) (sym is)
      (ordered_step early known means.registry o first past (Read nv ∷ past) s (file_kept s nv (kept_of means.registry nv (loaded a))) refl
      (λ e now. orderly_read early known means.registry e past (known_for known s.run).sums s load rest.loads nv (loaded a) now (ap (λ (x : State). x.loads) left) how)
      (ordered_from run))
  ordered_from (read_stored {past} {put} {s} {rest} {next} {load} {nv} {answer} run comes left how stands_there is) =
      subst (Ordered early known means.registry o first past) (sym is)
      (ordered_step early known means.registry o first past past s (file_kept s nv (kept_of means.registry nv answer)) refl
      (λ e now. orderly_read_stored early known means.registry e past (known_for known s.run).sums s load rest.loads nv answer now (ap (λ (x : State). x.loads) left) how)
      (ordered_from run))
  ordered_from (looked_up {past} {put} {s} {next} {file} {files} a run comes wants right fresh is) =
      subst (Ordered early known means.registry o first (LookedUp file ∷ past)) (sym is)
      (ordered_step early known means.registry o first past (LookedUp file ∷ past) s (wanted_kept means.registry s (loaded a)) (run_wanted means.registry s (loaded a))
      (λ e now. orderly_looked early known means.registry e past s file files (loaded a) now (open_next s (next_of s) (how_next s) comes) wants)
      (ordered_from run))
  ordered_from (looked_up_stored {past} {put} {s} {next} {file} {files} {answer} run comes wants stands_there is) =
      subst (Ordered early known means.registry o first past) (sym is)
      (ordered_step early known means.registry o first past past s (wanted_kept means.registry s answer) (run_wanted means.registry s answer)
      (λ e now. orderly_looked_stored early known means.registry e past s file files answer now (open_next s (next_of s) (how_next s) comes) wants)
      (ordered_from run))
  ordered_from (filled {past} {put} {s} {next} {l} {ls} a run comes wants right is) =
      subst (Ordered early known means.registry o first (Filled l ∷ past)) (sym is)
      (ordered_step early known means.registry o first past (Filled l ∷ past) s (content_stored s a) (ap (λ x. (content_by s x a).run) wants)
      (λ e now. orderly_filled early known means.registry e past s l ls a now (idle_next s (next_of s) (how_next s) comes) wants)
      (ordered_from run))
  ordered_from (went_on {past} {put} {s} {next} run goes is) =
      subst (Ordered early known means.registry o first past) (sym is)
      (ordered_next early known means.registry o first past means.newest s (next_of s) (how_next s) (not_restart (next_of s) goes) (ordered_from run))
  ordered_from (began_again {past} {put} {s} {next} run comes is) =
      let due_now = due_start s.run (due_next s (next_of s) (how_next s) comes) in
      subst (Ordered early known means.registry o first (BeganAgain s.graph put ∷ past)) (sym is)
      (ordered_again early known means.registry o first past s due_now.0 due_now.1 begins put (ordered_from run))

-- ---- builds over a graph

-- the run in which a build of a start begins
abbrev pub first_run : ModuleGraph → ResolvedStart → Run
first_run g start = if begins_anew g start.roots start.imports then First start else Only

pub is_first : (g : ModuleGraph) (start : ResolvedStart) → IsFirst (first_run g start)
is_first g start = by (begins_anew g start.roots start.imports)
  where
    by : (b : Bool) → IsFirst (if b then First start else Only)
    by true = tt
    by false = tt

-- what enters first in a build is the entry's
pub over_in : (known : Known) (g : ModuleGraph) (start : ResolvedStart) → begun_over known g start ≡ begun_in known (first_run g start) (start_entry known.flags.is_dynamic g start)
unfolding start_entered
over_in known g start = by (begins_anew g start.roots start.imports)
  where
    by : (b : Bool) → enter_all (record (if b then record (resting_state known g) { run = First start } else resting_state known g) { graph = with_start (if b then record (resting_state known g) { run = First start } else resting_state known g).graph start }) (added_loads (if b then record (resting_state known g) { run = First start } else resting_state known g).flags.is_dynamic (if b then record (resting_state known g) { run = First start } else resting_state known g).graph start) ≡ begun_in known (if b then First start else Only) (start_entry known.flags.is_dynamic g start)
    by true = refl
    by false = refl

pub run_in : (most : ℕ) (known : Known) (loader : Option World) (means : Means) (g : ModuleGraph) (start : ResolvedStart) {past : List Passed} {put : ℕ} {s : State} → Runs most known loader means (begun_over known g start) past put s → Runs most known loader means (begun_in known (first_run g start) (start_entry known.flags.is_dynamic g start)) past put s
run_in most known loader means g start {past} {put} {s} run = subst (λ (b : State). Runs most known loader means b past put s) (over_in known g start) run

-- turns of a build over a graph in which each circle of redirects has a slot on it
pub ordered : (most : ℕ) (known : Known) (loader : Option World) (means : Means) (g : ModuleGraph) (start : ResolvedStart) → HasNoCircle g → {past : List Passed} {put : ℕ} {s : State} → Runs most known loader means (begun_over known g start) past put s → Ordered ⊥ known means.registry (start_entry known.flags.is_dynamic g start) (first_run g start) past s
ordered most known loader means g start no_circle run =
    ordered_from ⊥ most known loader means (start_entry known.flags.is_dynamic g start) (first_run g start) (is_first g start) (mended_with ⊥ known.flags.is_dynamic g start no_circle) (run_in most known loader means g start run)

-- the entry of the run that goes on: over that graph, or where the build may begin once more, over the empty one
pub entry_is : (known : Known) (g : ModuleGraph) (start : ResolvedStart) (run : Run) (e : EnteredGraph) → IsRunFrom known (start_entry known.flags.is_dynamic g start) (first_run g start) run e → (e ≡ start_entry known.flags.is_dynamic g start) ⊎ ((begins_anew g start.roots start.imports ≡ true) × (e ≡ start_entry known.flags.is_dynamic (new_graph g.kind) start))
entry_is known g start run e in_first = inl refl
entry_is known g start run e (due f) = inl refl
entry_is known g start run e (second {start = st} f) = inr (by (begins_anew g start.roots start.imports) refl f)
  where
    starts_same : (a b : ResolvedStart) → ◌≡◌ {A = Run} (First a) (First b) → b ≡ a
    starts_same a b e = cc

    by : (b : Bool) → begins_anew g start.roots start.imports ≡ b → (if b then First start else Only) ≡ First st → (begins_anew g start.roots start.imports ≡ true) × (start_entry known.flags.is_dynamic (new_graph g.kind) st ≡ start_entry known.flags.is_dynamic (new_graph g.kind) start)
    by true t f = (t, ap (start_entry known.flags.is_dynamic (new_graph g.kind)) (starts_same start st f))
    by false t f = absurd (let wrong : Only ≡ First st = f in cc)

-- a run that can't begin once more goes on where it began
pub only_entry : (known : Known) (o : EnteredGraph) (run : Run) (e : EnteredGraph) → IsRunFrom known o Only run e → e ≡ o
only_entry known o run e in_first = refl
only_entry known o run e (due f) = refl
only_entry known o run e (second {start = st} f) = absurd (let wrong : Only ≡ First st = f in cc)

-- ---- a graph that is complete

module _ {early : Type 0} {known : Known} {registry : RegistryMeaning} (o : EnteredGraph) (past : List Passed) (s : State) (now : Orderly early known registry o past s) (end : IsIdle s) (u : ModuleGraph) (adds : EndsAs s u) where
  -- where nothing waits for a pass, what has to lead somewhere leads to a slot at the end
  leads_end : (k : List ℕ) → IsWanted o s k → Lead u nothing k
  leads_end k w = adds.lead k (wanted_end o early s now.counts.sound end k w)

  -- where no load is open, a slot that is pending was at entry
  opens_end : (k : List ℕ) (asset : Bool) → finite.get u.slots k ≡ Some (Pending asset) → finite.get o.graph.slots k ≡ Some (Pending asset)
  opens_end k asset p = ⊎_elim (pending_end o early s now.counts.sound end k asset) (λ npm. absurd (true≢false (npm_final (Pending asset) npm))) (adds.from k (Pending asset) p)

  -- it begins as its entry
  begins_end : starts u ≡ starts o.graph
  begins_end = adds.starts_are ∙ now.counts.sound.given

  -- an edge of a module that was stored since, by the flags of the build
  edge_wanted : (q : List ℕ) (m : Module) (c : LoadContext) → finite.get s.graph.slots q ≡ Some (Stands m) → (finite.get o.graph.slots q ≡ Some (Stands m) → ⊥) → (k : List ℕ) → HasLoad k (loads_of s.graph.kind known.flags.skip_dynamic_deps m c) → IsWanted o s k
  edge_wanted q m c e new k h = inr (q, m, c, e, new, subst (λ (f : Flags). HasLoad k (loads_of s.graph.kind f.skip_dynamic_deps m c)) (sym now.flags_are) h)

  edges_end : (q : List ℕ) (m : Module) (c : LoadContext) → finite.get u.slots q ≡ Some (Stands m) → (finite.get o.graph.slots q ≡ Some (Stands m) → ⊥) → All (λ load. HasLead u load.specifier) (loads_of u.kind known.flags.skip_dynamic_deps m c)
  edges_end q m c e new = ⊎_elim
      (λ stood. subst (λ (kind : GraphKind). All (λ load. HasLead u load.specifier) (loads_of kind known.flags.skip_dynamic_deps m c)) (sym (ap (λ (b : Start). b.kind) adds.starts_are))
      (λ k d below.
      let edges = loads_of s.graph.kind known.flags.skip_dynamic_deps m c in
      has_lead u (get_or edges k d).specifier (leads_end (specifier_text (get_or edges k d).specifier) (edge_wanted q m c stood new (specifier_text (get_or edges k d).specifier) (has_load_at edges k d below)))))
      (λ npm k d below.
      let edges = loads_of u.kind known.flags.skip_dynamic_deps m c in
      absurd (npm_alone (Stands m) npm m u.kind known.flags.skip_dynamic_deps c (specifier_text (get_or edges k d).specifier) refl (has_load_at edges k d below)))
      (adds.from q (Stands m) e)

pub has_text_at : (ss : List Parts) (k : ℕ) (d : Parts) → k < length ss → HasText (specifier_text (get_or ss k d)) ss
has_text_at [] k d below = absurd (omega arith)
has_text_at (s ∷ ss) zero d below = inl refl
has_text_at (s ∷ ss) (suc k) d below = inr (has_text_at ss k d (omega arith))

-- a run over the empty graph that leaves nothing open ends with a complete graph
pub complete_end : (resolver : Option Resolving) {known : Known} {registry : RegistryMeaning} (given : Given) (start : ResolvedStart) → IsResolved resolver (left_of given) start → (past : List Passed) (s : State) → Orderly ⊥ known registry (start_entry known.flags.is_dynamic (new_graph given.kind) start) past s → IsIdle s → (u : ModuleGraph) → EndsAs s u → IsComplete resolver known.flags given u
complete_end resolver {known} {registry} given start resolved past s now end u adds = record {
  begins = subst (Begins resolver given) (sym (begins_end o past s now end u adds)) (begins_of resolver given start resolved);
  none_pending = λ k asset p. nothing_in_empty k (Pending asset) (opens_end o past s now end u adds k asset p);
  roots_lead = λ k d below. has_lead u _ (leads_end o past s now end u adds _ (inl (root_due _ (subst (HasText _) (ap (λ (b : Start). b.roots) (begins_end o past s now end u adds)) (has_text_at u.roots k d below)))));
  imports_lead = λ dynamic k d below. has_lead u (get_or (import_loads dynamic u.imports) k d).specifier (import_end dynamic (specifier_text (get_or (import_loads dynamic u.imports) k d).specifier) (has_load_at (import_loads dynamic u.imports) k d below));
  edges_lead = λ q m c e. edges_end o past s now end u adds q m c e (λ there. nothing_in_empty q (Stands m) there);
}
  where
    o : EnteredGraph
    o = start_entry known.flags.is_dynamic (new_graph given.kind) start

    -- the empty graph has no roots and no imports, so all of them are added
    root_due : (k : List ℕ) → HasText k o.graph.roots → HasLoad k o.loads
    root_due k h = has_load_left k (map (root_load known.flags.is_dynamic) (added_roots [] start.roots)) (import_loads known.flags.is_dynamic (added_imports [] start.imports)) (roots_due (root_load known.flags.is_dynamic) (λ s. refl) k (added_roots [] start.roots) h)

    import_due : (k : List ℕ) (dynamic : Bool) → HasLoad k (import_loads dynamic o.graph.imports) → HasLoad k o.loads
    import_due k dynamic h = has_load_right k (map (root_load known.flags.is_dynamic) (added_roots [] start.roots)) (import_loads known.flags.is_dynamic (added_imports [] start.imports)) (same_imports k dynamic known.flags.is_dynamic (added_imports [] start.imports) h)

    import_end : (dynamic : Bool) (k : List ℕ) → HasLoad k (import_loads dynamic u.imports) → Lead u nothing k
    import_end dynamic k h = leads_end o past s now end u adds k (inl (import_due k dynamic (subst (λ (b : Start). HasLoad k (import_loads dynamic b.imports)) (begins_end o past s now end u adds) h)))

-- a run that leaves nothing open ends with a graph in which all that was loaded since leads to a slot
pub complete_from : {early : Type 0} {known : Known} {registry : RegistryMeaning} (o : EnteredGraph) (past : List Passed) (s : State) → NonePending o.graph → Orderly early known registry o past s → IsIdle s → (u : ModuleGraph) → EndsAs s u → IsCompleteFrom known.flags o u
complete_from o past s settled now end u adds = record {
  begins = begins_end o past s now end u adds;
  none_pending = λ k asset p. settled k asset (opens_end o past s now end u adds k asset p);
  loads_lead = λ k d below. has_lead u _ (leads_end o past s now end u adds _ (inl (has_load_at o.loads k d below)));
  edges_lead = edges_end o past s now end u adds;
}
