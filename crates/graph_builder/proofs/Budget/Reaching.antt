-- What runs of a build keep where a world is told, and what is explained at their end.
use Rattle.std.proofs.Common.{◌≡◌, ℕ, List, [], ◌∷◌, Bool, true, false, Option, None, Some, is_some, refl, sym, ap, ◌∙◌, subst, inl, inr, ⊎_elim, arith}
use Rattle.std.specs.Prelude.{IfSome, Result}
use Rattle.std.specs.List.{All}
use Rattle.std.specs.FinMap as finite
use Rattle.std.proofs.lemmas.Bool.{true≢false}
use Rattle.std.proofs.lemmas.List.Elements.{All-cons, All-head, All-nil}
use Rattle.semver_npm.specs.declared.package.PackageNv.{PackageNv}
use Rattle.source_io.specs.Answers.{answer_of}
use Rattle.source_io.specs.declared.types.Answer.{Answer}
use Rattle.source_io.specs.declared.types.CacheSetting.{CacheSetting}
use Rattle.source_io.specs.declared.types.Question.{Question}
use Rattle.source_io.specs.declared.types.World.{World}
use Rattle.registry_urls.specs.Meaning.{RegistryMeaning}
use Rattle.registry_files.specs.Answers.{FileAnswer}
use Rattle.registry_files.specs.declared.kept_version.KeptVersion.{KeptVersion}
use Rattle.graph_errors.specs.declared.jsr_error.JsrLoadError.{JsrLoadError}
use Rattle.version_dates.specs.declared.newest_date.NewestDependencyDateOptions.{NewestDependencyDateOptions}
use Rattle.spec_base.specs.Options.{by_option}
use Rattle.url.specs.Parts.{Parts}
use Rattle.graph_core.specs.declared.graph.ModuleGraph.{ModuleGraph}
use Rattle.module_slots.specs.declared.load.Load.{Load}
use Rattle.module_slots.specs.declared.load.LoadContext.{LoadContext}
use Rattle.module_slots.specs.declared.slot.ModuleSlot.{ModuleSlot}
use Rattle.module_slots.specs.declared.slot.ModuleSlot.TheVariants.{Module as Stands, Err as Failed, Pending}
use Rattle.module_slots.specs.Slots.{is_pending}
use Rattle.graph_dependencies.specs.declared.graph_kind.GraphKind.{GraphKind}
use Rattle.graph_turns.specs.declared.question_of.Asked.{Asked}
use Rattle.graph_turns.specs.declared.later_content.LaterContent.{LaterContent}
use Rattle.graph_turns.specs.declared.manner.Manner.{Manner}
use Rattle.graph_turns.specs.declared.manner.Manner.TheVariants.{Asks, Reads}
use Rattle.graph_turns.specs.declared.next.Next.{Next}
use Rattle.graph_turns.specs.declared.next.Next.TheVariants.{Notes, Load as ALoad, Wanted, Restart, Item, Versions, Exports, Deferred, Waiting, Dynamic, Content, End}
use Rattle.graph_turns.specs.declared.outcome.Outcome.{Outcome}
use Rattle.graph_turns.specs.declared.registry.RegistryFile.{RegistryFile}
use Rattle.graph_turns.specs.declared.registry.RegistryFile.TheVariants.{Version}
use Rattle.graph_turns.specs.declared.run.Run.{Run}
use Rattle.graph_turns.specs.declared.run.Run.TheVariants.{Only, First, Due, Second}
use Rattle.graph_turns.specs.declared.starting.ResolvedStart.{ResolvedStart}
use Rattle.graph_turns.specs.declared.state.State.{State}
use Rattle.graph_turns.specs.Machine.Contents.{content_stored}
use Rattle.graph_turns.specs.Machine.Files.{file_kept}
use Rattle.graph_turns.specs.Machine.Known.{Known}
use Rattle.graph_turns.specs.Machine.Next.{next_of}
use Rattle.graph_turns.specs.Machine.Outcomes.{outcome_of}
use Rattle.graph_turns.specs.Machine.RegistryFiles.{wanted_kept}
use Rattle.graph_turns.specs.Machine.Entering.{begun_at, resting_state, stored}
use Rattle.graph_turns.specs.Machine.Runs.{begun_over, is_due, known_for, restarted, setting_for, told_for}
use Rattle.graph_turns.specs.Machine.Turns.{IsAtEnd, failing, gone_on, manner_in, told_outcome, turn_by}
use Rattle.turn_laws.specs.Promise.Complete.{NonePending}
use Rattle.graph_turns.specs.Promise.Contents.{content_question}
use Rattle.graph_turns.specs.Promise.Explains.{Awaits, IsExplained, IsGrown, ComesLater, IsReplaced}
use Rattle.graph_turns.specs.Promise.Input.{EnteredGraph}
use Rattle.turn_laws.specs.Promise.Keeps.{IsReachedFile}
use Rattle.graph_turns.specs.Promise.Reached.{Reached}
use Rattle.graph_turns.specs.Promise.Taken.{IsAsked, NamesVersion, is_asked, taken_answer}
use Rattle.graph_turns.specs.Promise.Told.{Told}
use Rattle.graph_turns.specs.Promise.Versions.{answer_in, file_question, is_stored, kept_of, loaded, served_file, told_file, told_version, version_question}
use Rattle.open_loads.specs.Budget.Runs.{Answered, BeganAgain, Filled, LookedUp, MayGive, Passed, Read, Runs, goes_on, since}
use Rattle.open_loads.specs.Budget.Runs.Runs.{none, answered, failed, read, read_stored, looked_up, looked_up_stored, filled, went_on, began_again}
use Rattle.open_loads.specs.Order.Asking.{AnswersAs}
use Rattle.open_loads.specs.Order.Means.{IsTold, Means}
use Rattle.graph_turns.proofs.Entering.Manners.{names_told}
use Rattle.graph_turns.proofs.Entering.Next.{NextIs, how_next}
use Rattle.turn_laws.proofs.Promise.GraphKept.{GraphKept, IsAccounted, IsGone}
use Rattle.turn_laws.proofs.Promise.Hops.{IsOutset}
use Rattle.turn_laws.proofs.Promise.Infos.{agree}
use Rattle.turn_laws.proofs.Promise.Kept.{Kept, kept_enter_all, kept_stored, no_sums}
use Rattle.turn_laws.proofs.Promise.KeptLoads.{asked_told, kept_blank, kept_rest, loads_reached, loads_read}
use Rattle.turn_laws.proofs.Promise.KeptTurns.{IsRunFrom, KeptInRun, begins_by, entry_by, kept_again, kept_begun, kept_next}
use Rattle.turn_laws.proofs.Promise.Passing.{IsStage, RunBegins}
use Rattle.turn_laws.proofs.Promise.Passing.IsStage.{same as goes_as_begun, due as is_due_again}
use Rattle.turn_laws.proofs.Promise.Turned.{kept_failing, kept_file, kept_filled, kept_wanted}
use Rattle.graph_builder.proofs.Budget.Orderly.{due_next, not_restart}

-- the file of a version that a reached pair names
abbrev pub IsReachedRead : Told → EnteredGraph → PackageNv → Type 0
IsReachedRead w given nv = (s : Parts) × (c : LoadContext) × Reached w given s c × (is_asked w.known.flags s c ≡ true) × NamesVersion w s c nv

-- what a turn asked about is a reached pair that is asked for, the file of a version that one names or a file of a reached `jsr:` specifier,
-- which the given store hasn't, or a content of a reached pair
abbrev pub IsReachedPassed : Told → EnteredGraph → Passed → Type 0
IsReachedPassed w given (Answered load asked) = Reached w given load.specifier load.context × (is_asked w.known.flags load.specifier load.context ≡ true) × IsAsked w load.specifier load.context asked
IsReachedPassed w given (Read nv) = IsReachedRead w given nv × (is_stored w.known.store (Version nv) ≡ false)
IsReachedPassed w given (LookedUp file) = IsReachedFile w given file × (is_stored w.known.store file ≡ false)
IsReachedPassed w given (Filled l) = ComesLater w given l
IsReachedPassed w given (BeganAgain g put) = Unit {0}

-- all that is stored in a run is explained, and all that its turns asked about was reached
pub record Reaching (w : Told) (given : EnteredGraph) (begins : RunBegins given) (past : List Passed) (s : State) : Type 0 where
  pub kept : Kept w given begins s
  pub reached : All (IsReachedPassed w given) (since past)

-- what a load may be given is the world's
as_told : (loader : Option World) (means : Means) (w : Told) (kind : GraphKind) (load : Load) (asked : Asked) (o : Outcome) → IsTold loader means w kind → MayGive w.known loader means load asked o → o ≡ told_outcome w kind load asked
as_told loader means w kind load asked o tells may =
    let by_loader : IfSome (Some w.world) (λ v. IfSome means.making (λ made. o ≡ outcome_of made load.specifier load.context asked (taken_answer v w.known asked load.specifier load.context))) = subst (λ x. IfSome x (λ v. IfSome means.making (λ made. o ≡ outcome_of made load.specifier load.context asked (taken_answer v w.known asked load.specifier load.context)))) tells.answers may.told in
    subst (λ x. IfSome x (λ made. o ≡ outcome_of made load.specifier load.context asked (taken_answer w.world w.known asked load.specifier load.context))) tells.meant.making_is by_loader

-- an answer is the world's
pub answer_told : (loader : Option World) (w : Told) (q : Question) (a : Answer) → loader ≡ Some w.world → AnswersAs loader q a → a ≡ answer_of w.world q
answer_told loader w q a told right = subst (λ l. AnswersAs l q a) told right

-- a file whose answer doesn't stand in the given store is served
served_told : (w : Told) (file : RegistryFile) → answer_in w.known.store file ≡ None → told_file w file ≡ served_file w file
served_told w file unstored = ap (λ o. by_option o (served_file w file) (λ answer. answer)) unstored

stored_told : (w : Told) (file : RegistryFile) (answer : FileAnswer) → answer_in w.known.store file ≡ Some answer → told_file w file ≡ answer
stored_told w file answer is = ap (λ o. by_option o (served_file w file) (λ x. x)) is

-- a slot of no load isn't pending
not_open : (slot : ModuleSlot) → ((asset : Bool) → slot ≡ Pending asset → ⊥) → is_pending slot ≡ false
not_open (Stands m) closed = refl
not_open (Failed e) closed = refl
not_open (Pending asset) closed = absurd (closed asset refl)

-- where no content is to come, none is awaited
none_awaits : (w : Told) (given : EnteredGraph) (k : List ℕ) (slot : ModuleSlot) → Awaits w given [] k slot → ⊥
none_awaits w given k slot awaits = let empty = awaits.among.1 in omega (arith, empty)

explained_end : (w : Told) (given : EnteredGraph) (k : List ℕ) (slot : ModuleSlot) → IsAccounted w given [] k slot → IsExplained w given k slot
explained_end w given k slot accounted = ⊎_elim (λ x. x) (λ awaits. absurd (none_awaits w given k slot awaits)) accounted

-- once no load is under way, what is gone was replaced
gone_end : (w : Told) (given : EnteredGraph) (g : ModuleGraph) (k : List ℕ) (old : ModuleSlot) → NonePending g → IsGone w given [] g k old → IsReplaced w given g k old
gone_end w given g k old closed gone = ⊎_elim
    (λ f. inl (f.slot, f.here, explained_end w given k f.slot f.accounted))
    (λ a. inr (a.0, ⊎_elim (λ p. absurd (closed k p.0 p.1)) (λ r. r) a.1))
    gone

-- ---- in one run

module _ (loader : Option World) (means : Means) (w : Told) (given : EnteredGraph) (begins : RunBegins given) (tells : IsTold loader means w given.graph.kind) where
  -- the first open load, by what is told of packages
  at_registry : (s : State) (load : Load) (m : Manner) → manner_in w.known.sums means.registry s load ≡ m → manner_in w.known.sums w.registry s load ≡ m
  at_registry s load m how = subst (λ (r : RegistryMeaning). manner_in w.known.sums r s load ≡ m) tells.meant.registry_is how

  reaching_answered : (most : ℕ) (past : List Passed) (rest : State) (load : Load) (asked : Asked) (o : Outcome) → most ≡ w.world.max_redirects → Reaching w given begins past (record rest { loads = load ∷ rest.loads }) → manner_in w.known.sums means.registry (record rest { loads = load ∷ rest.loads }) load ≡ Asks asked → MayGive w.known loader means load asked o → Reaching w given begins (Answered load asked ∷ past) (stored most rest load o)
  reaching_answered most past rest load asked o m now how may =
      let s : State = record rest { loads = load ∷ rest.loads } in
      let parts = kept_rest w given begins rest load now.kept in
      let under = asked_told w given begins rest load asked parts.0 parts.2 (at_registry s load (Asks asked) how) in
      record {
        kept = kept_stored w given begins most rest load asked o m (as_told loader means w given.graph.kind load asked o tells may) parts.0 parts.1 parts.2 under.0 under.1;
        reached = All-cons (IsReachedPassed w given) (Answered load asked) (since past) (parts.1.0, parts.1.1, under.0) now.reached;
      }

  reaching_failed : (most : ℕ) (past : List Passed) (rest : State) (load : Load) (o : Outcome) → Reaching w given begins past (record rest { loads = load ∷ rest.loads }) → failing load (manner_in w.known.sums means.registry (record rest { loads = load ∷ rest.loads }) load) ≡ Some o → Reaching w given begins past (stored most rest load o)
  reaching_failed most past rest load o now fails =
      let s : State = record rest { loads = load ∷ rest.loads } in
      let m = manner_in w.known.sums means.registry s load in
      record { kept = kept_failing w given begins most rest load m o now.kept (at_registry s load m refl) fails; reached = now.reached }

  -- what is kept of a version's file is what is told of it
  version_is : (nv : PackageNv) (answer : FileAnswer) → told_file w (Version nv) ≡ answer → kept_of means.registry nv answer ≡ told_version w nv
  version_is nv answer is = ap (λ (r : RegistryMeaning). kept_of r nv answer) tells.meant.registry_is ∙ ap (kept_of w.registry nv) (sym is)

  -- the loader's answer about a file that isn't stored
  file_is : (file : RegistryFile) (a : Answer) → AnswersAs loader (file_question w.metadata means.registry w.known.manifests file) a → is_stored w.known.store file ≡ false → told_file w file ≡ loaded a
  file_is file a right fresh =
      served_told w file (unstored (answer_in w.known.store file) fresh)
      ∙ sym (ap loaded (answer_told loader w (file_question w.metadata means.registry w.known.manifests file) a tells.answers right
      ∙ ap (λ (r : RegistryMeaning). answer_of w.world (file_question w.metadata r w.known.manifests file)) tells.meant.registry_is))
    where
      unstored : (o : Option FileAnswer) → is_some o ≡ false → o ≡ None
      unstored None f = refl
      unstored (Some answer) f = absurd (true≢false f)

  reaching_file : (past more : List Passed) (rest : State) (load : Load) (nv : PackageNv) (answer : FileAnswer) → Reaching w given begins past (record rest { loads = load ∷ rest.loads }) → told_file w (Version nv) ≡ answer → (IsReachedRead w given nv → All (IsReachedPassed w given) (since more)) → manner_in w.known.sums means.registry (record rest { loads = load ∷ rest.loads }) load ≡ Reads nv → Reaching w given begins more (file_kept (record rest { loads = load ∷ rest.loads }) nv (kept_of means.registry nv answer))
  reaching_file past more rest load nv answer now is reached how =
      let s : State = record rest { loads = load ∷ rest.loads } in
      let parts = kept_rest w given begins rest load now.kept in
      record {
        kept = subst (λ (x : Result KeptVersion JsrLoadError). Kept w given begins (file_kept s nv x)) (sym (version_is nv answer is)) (kept_file w given begins s nv now.kept);
        reached = reached (load.specifier, load.context, parts.1.0, parts.1.1, names_told w s load nv (agree w (finite.get s.files) now.kept.files) parts.2 (at_registry s load (Reads nv) how));
      }

  reaching_looked : (past more : List Passed) (s : State) (file : RegistryFile) (files : List RegistryFile) (answer : FileAnswer) → Reaching w given begins past s → s.wanted ≡ file ∷ files → told_file w file ≡ answer → (IsReachedFile w given file → All (IsReachedPassed w given) (since more)) → Reaching w given begins more (wanted_kept means.registry s answer)
  reaching_looked past more s file files answer now first is reached = record {
    kept = subst (λ (x : FileAnswer). Kept w given begins (wanted_kept means.registry s x)) is (subst (λ (r : RegistryMeaning). Kept w given begins (wanted_kept r s (told_file w file))) (sym tells.meant.registry_is) (kept_wanted w given begins s file files first now.kept));
    reached = reached (All-head (IsReachedFile w given) file files (subst (All (IsReachedFile w given)) first now.kept.pass.of_wanted));
  }

  reaching_filled : (past : List Passed) (s : State) (l : LaterContent) (ls : List LaterContent) (a : Answer) → Reaching w given begins past s → s.contents ≡ l ∷ ls → AnswersAs loader (content_question w.known l) a → Reaching w given begins (Filled l ∷ past) (content_stored s a)
  reaching_filled past s l ls a now first right = record {
    kept = subst (λ (x : Answer). Kept w given begins (content_stored s x)) (sym (answer_told loader w (content_question w.known l) a tells.answers right)) (kept_filled w given begins s l ls first now.kept);
    reached = All-cons (IsReachedPassed w given) (Filled l) (since past) (All-head (ComesLater w given) l ls (subst (All (ComesLater w given)) first now.kept.contents)) now.reached;
  }

  -- a turn that needs no answer
  turn_goes : (s : State) (n : Next) → goes_on n ≡ true → turn_by w given.graph.kind s n ≡ gone_on w.registry w.newest s n
  turn_goes s Notes goes = refl
  turn_goes s ALoad goes = absurd (true≢false (sym goes))
  turn_goes s Wanted goes = absurd (true≢false (sym goes))
  turn_goes s Restart goes = absurd (true≢false (sym goes))
  turn_goes s Item goes = refl
  turn_goes s Versions goes = refl
  turn_goes s Exports goes = refl
  turn_goes s Deferred goes = refl
  turn_goes s Waiting goes = refl
  turn_goes s Dynamic goes = refl
  turn_goes s Content goes = absurd (true≢false (sym goes))
  turn_goes s End goes = absurd (true≢false (sym goes))

  reaching_next : (past : List Passed) (s : State) (n : Next) → NextIs s n → goes_on n ≡ true → Reaching w given begins past s → Reaching w given begins past (gone_on means.registry means.newest s n)
  reaching_next past s n next goes now = record {
    kept = subst (λ (r : RegistryMeaning). Kept w given begins (gone_on r means.newest s n)) (sym tells.meant.registry_is)
        (subst (λ (d : NewestDependencyDateOptions). Kept w given begins (gone_on w.registry d s n)) (sym tells.meant.newest_is)
        (subst (Kept w given begins) (turn_goes s n goes) (kept_next w given begins s n next (not_restart n goes) now.kept)));
    reached = now.reached;
  }

  -- a run that leaves nothing open ends with a graph whose slots and redirects stood at entry or are explained
  pub grown_by : (s : State) → NonePending given.graph → NonePending s.graph → IsAtEnd s → Kept w given begins s → IsGrown w given s.graph
  grown_by s settled closed end kept_now =
      let kept = subst (λ (ls : List LaterContent). GraphKept w given ls s.graph) end.none_comes kept_now.graph in
      record {
        slots = λ k slot e. ⊎_elim (λ pending. absurd (closed k pending.0 (e ∙ ap Some pending.1))) (λ x. ⊎_elim inl (λ y. inr (explained_end w given k slot y)) x) (kept.slots k slot e);
        redirects = kept.redirects;
        slots_stay = λ k slot e. ⊎_elim inl (λ gone. inr (gone_end w given s.graph k slot closed gone)) (kept.slots_stay k slot e (not_open slot (λ asset p. settled k asset (e ∙ ap Some p))));
        redirects_stay = kept.redirects_stay;
      }

-- ---- all runs

-- what is told to a run that is due is what was told to it before
pub known_stage : (told : Told) (begun run : Run) → IsStage begun run → known_for told.known run ≡ (told_for told begun).known
known_stage told begun run goes_as_begun = refl
known_stage told begun run (is_due_again {start = x} was) = sym (ap (known_for told.known) was)

-- what is told is told to each run
pub tells_for : (loader : Option World) (means : Means) (told : Told) (kind : GraphKind) → IsTold loader means told kind → (run : Run) → IsTold loader means (told_for told run) kind
tells_for loader means told kind tells run = record { answers = tells.answers; meant = record { registry_is = tells.meant.registry_is; newest_is = tells.meant.newest_is; making_is = tells.meant.making_is } }

-- the run that goes on, what it keeps, and what its turns asked about
pub record ReachingIn (told : Told) (IsBegun : Run → Type 0) (entry_of : Run → EnteredGraph) (begins_of : (run : Run) → RunBegins (entry_of run)) (past : List Passed) (s : State) : Type 0 where
  pub begun : Run
  pub is_run : IsBegun begun
  pub reach : Reaching (told_for told begun) (entry_of begun) (begins_of begun) past s

module _ (loader : Option World) (means : Means) (told : Told) (kind : GraphKind) (tells : IsTold loader means told kind) (most : ℕ) (m : most ≡ told.world.max_redirects) (IsBegun : Run → Type 0) (entry_of : Run → EnteredGraph) (begins_of : (run : Run) → RunBegins (entry_of run)) (kinds : (run : Run) → (entry_of run).graph.kind ≡ kind) (runs : (run : Run) → IsBegun run → (begins_of run).run ≡ run) where
  -- so it is told to each run
  tells_run : (run : Run) → IsTold loader means (told_for told run) (entry_of run).graph.kind
  tells_run run = subst (IsTold loader means (told_for told run)) (sym (kinds run)) (tells_for loader means told kind tells run)

  -- a step within a run
  step : (past more : List Passed) (s u : State) → ((begun : Run) → known_for told.known s.run ≡ (told_for told begun).known → setting_for s.run ≡ (told_for told begun).metadata → Reaching (told_for told begun) (entry_of begun) (begins_of begun) past s → Reaching (told_for told begun) (entry_of begun) (begins_of begun) more u) → ReachingIn told IsBegun entry_of begins_of past s → ReachingIn told IsBegun entry_of begins_of more u
  step past more s u by now = record {
    begun = now.begun;
    is_run = now.is_run;
    reach = by now.begun (known_stage told now.begun s.run (subst (λ (r : Run). IsStage r s.run) (runs now.begun now.is_run) now.reach.kept.run.stage)) (sym now.reach.kept.run.serves) now.reach;
  }

  module _ (again : (past : List Passed) (put : ℕ) (s : State) → is_due s.run ≡ true → ReachingIn told IsBegun entry_of begins_of past s → ReachingIn told IsBegun entry_of begins_of (BeganAgain s.graph put ∷ past) (restarted s)) (start : State) (first : ReachingIn told IsBegun entry_of begins_of [] start) where
    pub reaching_in : {past : List Passed} {put : ℕ} {s : State} → Runs most told.known loader means start past put s → ReachingIn told IsBegun entry_of begins_of past s
    reaching_in none = first
    reaching_in (answered {past} {put} {cost} {s} {rest} {next} {load} {asked} {outcome} run comes left how may costs is) =
        subst (ReachingIn told IsBegun entry_of begins_of (Answered load asked ∷ past)) (sym is)
        (step past (Answered load asked ∷ past) (record rest { loads = load ∷ rest.loads }) (stored most rest load outcome)
        (λ begun knows serves now. reaching_answered loader means (told_for told begun) (entry_of begun) (begins_of begun) (tells_run begun) most past rest load asked outcome m now
        (subst (λ (k : Known). manner_in k.sums means.registry (record rest { loads = load ∷ rest.loads }) load ≡ Asks asked) knows (subst (λ (x : State). manner_in (known_for told.known x.run).sums means.registry x load ≡ Asks asked) left how))
        (subst (λ (k : Known). MayGive k loader means load asked outcome) knows (subst (λ (x : State). MayGive (known_for told.known x.run) loader means load asked outcome) left may)))
        (subst (ReachingIn told IsBegun entry_of begins_of past) left (reaching_in run)))
    reaching_in (failed {past} {put} {s} {rest} {next} {load} {outcome} run comes left fails is) =
        subst (ReachingIn told IsBegun entry_of begins_of past) (sym is)
        (step past past (record rest { loads = load ∷ rest.loads }) (stored most rest load outcome)
        (λ begun knows serves now. reaching_failed loader means (told_for told begun) (entry_of begun) (begins_of begun) (tells_run begun) most past rest load outcome now
        (subst (λ (k : Known). failing load (manner_in k.sums means.registry (record rest { loads = load ∷ rest.loads }) load) ≡ Some outcome) knows (subst (λ (x : State). failing load (manner_in (known_for told.known x.run).sums means.registry x load) ≡ Some outcome) left fails)))
        (subst (ReachingIn told IsBegun entry_of begins_of past) left (reaching_in run)))
    reaching_in (read {past} {put} {s} {rest} {next} {load} {nv} a run comes left how right fresh is) =
        subst (ReachingIn told IsBegun entry_of begins_of (Read nv ∷ past)) (sym (is ∙ ap (λ (x : State). file_kept x nv (kept_of means.registry nv (loaded a))) left))
        (step past (Read nv ∷ past) (record rest { loads = load ∷ rest.loads }) (file_kept (record rest { loads = load ∷ rest.loads }) nv (kept_of means.registry nv (loaded a)))
        (λ begun knows serves now.
        let w = told_for told begun in
        let right_now = subst (λ (c : CacheSetting). AnswersAs loader (version_question c means.registry w.known.manifests nv) a) serves
        (subst (λ (k : Known). AnswersAs loader (version_question (setting_for rest.run) means.registry k.manifests nv) a) knows (subst (λ (x : State). AnswersAs loader (version_question (setting_for x.run) means.registry (known_for told.known x.run).manifests nv) a) left right)) in
        let fresh_now = subst (λ (k : Known). is_stored k.store (Version nv) ≡ false) knows (subst (λ (x : State). is_stored (known_for told.known x.run).store (Version nv) ≡ false) left fresh) in
        reaching_file loader means w (entry_of begun) (begins_of begun) (tells_run begun) past (Read nv ∷ past) rest load nv (loaded a) now (file_is loader means w (entry_of begun) (begins_of begun) (tells_run begun) (Version nv) a right_now fresh_now)
        (λ of. All-cons (IsReachedPassed w (entry_of begun)) (Read nv) (since past) (of, fresh_now) now.reached)
        (subst (λ (k : Known). manner_in k.sums means.registry (record rest { loads = load ∷ rest.loads }) load ≡ Reads nv) knows (subst (λ (x : State). manner_in (known_for told.known x.run).sums means.registry x load ≡ Reads nv) left how)))
        (subst (ReachingIn told IsBegun entry_of begins_of past) left (reaching_in run)))
    reaching_in (read_stored {past} {put} {s} {rest} {next} {load} {nv} {answer} run comes left how stands_there is) =
        subst (ReachingIn told IsBegun entry_of begins_of past) (sym (is ∙ ap (λ (x : State). file_kept x nv (kept_of means.registry nv answer)) left))
        (step past past (record rest { loads = load ∷ rest.loads }) (file_kept (record rest { loads = load ∷ rest.loads }) nv (kept_of means.registry nv answer))
        (λ begun knows serves now.
        let w = told_for told begun in
        let there = subst (λ (k : Known). answer_in k.store (Version nv) ≡ Some answer) knows (subst (λ (x : State). answer_in (known_for told.known x.run).store (Version nv) ≡ Some answer) left stands_there) in
        reaching_file loader means w (entry_of begun) (begins_of begun) (tells_run begun) past past rest load nv answer now (stored_told w (Version nv) answer there) (λ of. now.reached)
        (subst (λ (k : Known). manner_in k.sums means.registry (record rest { loads = load ∷ rest.loads }) load ≡ Reads nv) knows (subst (λ (x : State). manner_in (known_for told.known x.run).sums means.registry x load ≡ Reads nv) left how)))
        (subst (ReachingIn told IsBegun entry_of begins_of past) left (reaching_in run)))
    reaching_in (looked_up {past} {put} {s} {next} {file} {files} a run comes wants right fresh is) =
        subst (ReachingIn told IsBegun entry_of begins_of (LookedUp file ∷ past)) (sym is)
        (step past (LookedUp file ∷ past) s (wanted_kept means.registry s (loaded a))
        (λ begun knows serves now.
        let w = told_for told begun in
        let right_now = subst (λ (c : CacheSetting). AnswersAs loader (file_question c means.registry w.known.manifests file) a) serves (subst (λ (k : Known). AnswersAs loader (file_question (setting_for s.run) means.registry k.manifests file) a) knows right) in
        let fresh_now = subst (λ (k : Known). is_stored k.store file ≡ false) knows fresh in
        reaching_looked loader means w (entry_of begun) (begins_of begun) (tells_run begun) past (LookedUp file ∷ past) s file files (loaded a) now wants
        (file_is loader means w (entry_of begun) (begins_of begun) (tells_run begun) file a right_now fresh_now)
        (λ of. All-cons (IsReachedPassed w (entry_of begun)) (LookedUp file) (since past) (of, fresh_now) now.reached))
        (reaching_in run))
    reaching_in (looked_up_stored {past} {put} {s} {next} {file} {files} {answer} run comes wants stands_there is) =
        subst (ReachingIn told IsBegun entry_of begins_of past) (sym is)
        (step past past s (wanted_kept means.registry s answer)
        (λ begun knows serves now.
        let w = told_for told begun in
        reaching_looked loader means w (entry_of begun) (begins_of begun) (tells_run begun) past past s file files answer now wants
        (stored_told w file answer (subst (λ (k : Known). answer_in k.store file ≡ Some answer) knows stands_there)) (λ of. now.reached))
        (reaching_in run))
    reaching_in (filled {past} {put} {s} {next} {l} {ls} a run comes wants right is) =
        subst (ReachingIn told IsBegun entry_of begins_of (Filled l ∷ past)) (sym is)
        (step past (Filled l ∷ past) s (content_stored s a)
        (λ begun knows serves now. reaching_filled loader means (told_for told begun) (entry_of begun) (begins_of begun) (tells_run begun) past s l ls a now wants (subst (λ (k : Known). AnswersAs loader (content_question k l) a) knows right))
        (reaching_in run))
    reaching_in (went_on {past} {put} {s} {next} run goes is) =
        subst (ReachingIn told IsBegun entry_of begins_of past) (sym is)
        (step past past s (gone_on means.registry means.newest s (next_of s))
        (λ begun knows serves now. reaching_next loader means (told_for told begun) (entry_of begun) (begins_of begun) (tells_run begun) past s (next_of s) (how_next s) goes now)
        (reaching_in run))
    reaching_in (began_again {past} {put} {s} {next} run comes is) =
        subst (ReachingIn told IsBegun entry_of begins_of (BeganAgain s.graph put ∷ past)) (sym is) (again past put s (due_next s (next_of s) (how_next s) comes) (reaching_in run))

-- ---- builds over a graph

-- a build of a start over a graph, in the run that goes on
abbrev pub ReachingBuild : Told → ModuleGraph → ResolvedStart → List Passed → State → Type 0
ReachingBuild told g start past s = ReachingIn told (IsRunFrom told g start) (entry_by told.known.flags.is_dynamic g start) (begins_by told.known.flags.is_dynamic g start) past s

module _ (told : Told) (g : ModuleGraph) (start : ResolvedStart) where
  -- what is kept by its turns
  kept_in : (past : List Passed) (s : State) → ReachingBuild told g start past s → KeptInRun told g start s
  kept_in past s now = record { begun = now.begun; is_run = now.is_run; kept = now.reach.kept }

  from_kept : (past : List Passed) (s : State) (k : KeptInRun told g start s) → All (IsReachedPassed (told_for told k.begun) (entry_by told.known.flags.is_dynamic g start k.begun)) (since past) → ReachingBuild told g start past s
  from_kept past s k reached = record { begun = k.begun; is_run = k.is_run; reach = record { kept = k.kept; reached = reached } }

  pub kinds_by : (run : Run) → (entry_by told.known.flags.is_dynamic g start run).graph.kind ≡ g.kind
  kinds_by Only = refl
  kinds_by (First x) = refl
  kinds_by (Due x) = refl
  kinds_by (Second e) = refl

  runs_by : (run : Run) → (begins_by told.known.flags.is_dynamic g start run).run ≡ run
  runs_by Only = refl
  runs_by (First x) = refl
  runs_by (Due x) = refl
  runs_by (Second e) = refl

  build_again : (past : List Passed) (put : ℕ) (s : State) → is_due s.run ≡ true → ReachingBuild told g start past s → ReachingBuild told g start (BeganAgain s.graph put ∷ past) (restarted s)
  build_again past put s d now =
      let k = kept_again told g start s d (kept_in past s now) in
      from_kept (BeganAgain s.graph put ∷ past) (restarted s) k (All-nil (IsReachedPassed (told_for told k.begun) (entry_by told.known.flags.is_dynamic g start k.begun)))

  build_begins : ReachingBuild told g start [] (begun_over told.known g start)
  build_begins =
      let k = kept_begun told g start in
      from_kept [] (begun_over told.known g start) k (All-nil (IsReachedPassed (told_for told k.begun) (entry_by told.known.flags.is_dynamic g start k.begun)))

  pub reaching : (loader : Option World) (means : Means) → IsTold loader means told g.kind → (most : ℕ) → most ≡ told.world.max_redirects → {past : List Passed} {put : ℕ} {s : State} → Runs most told.known loader means (begun_over told.known g start) past put s → ReachingBuild told g start past s
  reaching loader means tells most m run =
      reaching_in loader means told g.kind tells most m (IsRunFrom told g start) (entry_by told.known.flags.is_dynamic g start) (begins_by told.known.flags.is_dynamic g start) kinds_by (λ r begun. runs_by r) build_again (begun_over told.known g start) build_begins run

-- ---- runs that can't begin once more

-- a call that begins over an entry
abbrev pub ReachingOnce : (told : Told) (o : EnteredGraph) → All IsOutset o.loads → List Passed → State → Type 0
ReachingOnce told o outset past s = ReachingIn told (λ run. run ≡ Only) (λ run. o) (λ run. record { outset = outset; run = run }) past s

module _ (told : Told) (o : EnteredGraph) (outset : All IsOutset o.loads) where
  abbrev begins_once : (run : Run) → RunBegins o
  begins_once run = record { outset = outset; run = run }

  -- it is never due
  pub once_due : (past : List Passed) (s : State) → ReachingOnce told o outset past s → is_due s.run ≡ true → ⊥
  once_due past s now d = by s.run now.reach.kept.run.stage d
    where
      by : (run : Run) → IsStage now.begun run → is_due run ≡ true → ⊥
      by run goes_as_begun t = true≢false (sym t ∙ ap is_due now.is_run)
      by run (is_due_again {start = x} was) t = let wrong : Only ≡ First x = sym now.is_run ∙ was in cc

  once_again : (past : List Passed) (put : ℕ) (s : State) → is_due s.run ≡ true → ReachingOnce told o outset past s → ReachingOnce told o outset (BeganAgain s.graph put ∷ past) (restarted s)
  once_again past put s d now = absurd (once_due past s now d)

  once_begins : ReachingOnce told o outset [] (begun_at told.known o)
  once_begins =
      let w = told_for told Only in
      let s = resting_state told.known o.graph in
      record {
        begun = Only;
        is_run = refl;
        reach = record {
          kept = kept_enter_all w o (begins_once Only) s o.loads (kept_blank w o (begins_once Only) Only s.sums
              (record { asks = refl; serves = refl; stage = goes_as_begun; lacks = λ d. absurd (true≢false (sym d)) }) (λ k sum e. absurd (no_sums (is_some told.known.sums) k sum e)))
              (loads_reached w o (begins_once Only)) (loads_read w o (begins_once Only) s.files);
          reached = All-nil (IsReachedPassed w o);
        };
      }

  pub reaching_once : (loader : Option World) (means : Means) → IsTold loader means told o.graph.kind → (most : ℕ) → most ≡ told.world.max_redirects → {past : List Passed} {put : ℕ} {s : State} → Runs most told.known loader means (begun_at told.known o) past put s → ReachingOnce told o outset past s
  reaching_once loader means tells most m run =
      reaching_in loader means told o.graph.kind tells most m (λ r. r ≡ Only) (λ r. o) begins_once (λ r. refl) (λ r only. refl) once_again (begun_at told.known o) once_begins run
