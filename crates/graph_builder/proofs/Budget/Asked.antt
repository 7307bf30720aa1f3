-- What turns asked about, each once in a run.
use Rattle.std.proofs.Common.{◌≡◌, ℕ, zero, suc, ◌+◌, List, [], ◌∷◌, false, Option, None, refl, sym, ap, ◌∙◌, subst, arith}
use Rattle.std.proofs.lemmas.Bool.{true≢false}
use Rattle.source_io.specs.declared.types.CacheSetting.TheVariants.{Use}
use Rattle.source_io.specs.declared.types.World.{World}
use Rattle.semver_npm.specs.declared.package.PackageNv.{PackageNv}
use Rattle.registry_urls.specs.Meaning.{RegistryMeaning}
use Rattle.graph_turns.specs.declared.registry.RegistryFile.TheVariants.{PackageAgain}
use Rattle.graph_turns.specs.declared.next.Next.TheVariants.{Restart}
use Rattle.graph_turns.specs.declared.run.Run.{Run}
use Rattle.graph_turns.specs.declared.run.Run.TheVariants.{First, Due}
use Rattle.graph_turns.specs.declared.starting.ResolvedStart.{ResolvedStart}
use Rattle.graph_turns.specs.declared.state.State.{State}
use Rattle.turn_laws.specs.Budget.Asked.{AsksApart, AsksInRuns}
use Rattle.graph_turns.specs.Machine.Contents.{content_by}
use Rattle.graph_turns.specs.Machine.Known.{Known}
use Rattle.graph_turns.specs.Machine.Next.{next_of}
use Rattle.graph_turns.specs.Machine.Runs.{is_second, known_for, setting_for}
use Rattle.graph_turns.specs.Machine.Turns.{gone_on}
use Rattle.graph_turns.specs.Promise.Input.{EnteredGraph}
use Rattle.graph_turns.specs.Promise.Versions.{loaded}
use Rattle.open_loads.specs.Budget.Runs.{Answered, Filled, LookedUp, Passed, Read, Runs}
use Rattle.open_loads.specs.Budget.Runs.Runs.{none as none_run, answered as answered_run, failed as failed_run, read as read_run, read_stored as read_stored_run, looked_up as looked_up_run, looked_up_stored as looked_up_stored_run, filled as filled_run, went_on as went_on_run, began_again as began_again_run}
use Rattle.open_loads.specs.Order.Means.{Means}
use Rattle.turn_laws.proofs.Budget.Versions.{IsFailing}
use Rattle.turn_laws.proofs.Budget.Wanted.{HasFile, run_wanted}
use Rattle.graph_turns.proofs.Entering.Next.{how_next}
use Rattle.turn_laws.proofs.Promise.SoundBegun.{IsMendedBy}
use Rattle.graph_builder.proofs.Budget.Files.{seen_free}
use Rattle.graph_builder.proofs.Budget.Orderly.{IsFirst, Ordered, Orderly, begun_in, begun_run, due_next, due_start, looked_in, not_restart, ordered_from, second_run, stays_run}
use Rattle.turn_laws.proofs.Budget.Goes.{RunGoes, run_next}
use Rattle.turn_laws.proofs.Budget.Goes.RunGoes.{same, falls_due}
use Rattle.graph_builder.proofs.Budget.Put.{AreApart, HasPut, all_known, once_counted, put_as, put_began, put_content, put_looked, put_more, put_none, put_version}

-- a run's setting, where it asks for the file of a package once more
again_use : {early : Type 0} {known : Known} (registry : RegistryMeaning) (o : EnteredGraph) (past : List Passed) (s : State) → Orderly early known registry o past s → (name : List ℕ) → HasFile (PackageAgain name) (looked_in past) → setting_for s.run ≡ Use
again_use registry o past s now name h = ap setting_for (now.counts.files.about (PackageAgain name) h).1

-- nothing was asked about twice in the run
pub apart_in : {early : Type 0} {known : Known} (registry : RegistryMeaning) (o : EnteredGraph) (past : List Passed) (s : State) → Orderly early known registry o past s → AreApart (setting_for s.run) past
apart_in registry o past s now = record {
  loads = now.counts.distinct;
  read = now.counts.versions.once;
  files = now.counts.files.once;
  apart = now.counts.files.apart;
  again = again_use registry o past s now;
  contents = now.counts.contents.came_once;
}

-- ---- the questions of the runs so far

-- those of the run before, no two of them counted alike, and within a bound, and those of the one that goes on
pub record PutIn (Within : ℕ → Type 0) (known : Known) (registry : RegistryMeaning) (loader : Option World) (past : List Passed) (put : ℕ) (run : Run) : Type 0 where
  pub put_before : ℕ
  pub within : Within put_before
  pub before : AsksApart put_before
  pub none_before : is_second run ≡ false → put_before ≡ 0
  pub put_since : ℕ
  pub since_has : HasPut (known_for known run) registry (setting_for run) loader past put_since
  pub count : put ≡ put_before + put_since

no_question : AsksApart 0
no_question = record { questions = []; once = tt; count = refl }

module _ (Within : ℕ → Type 0) (known : Known) (registry : RegistryMeaning) (loader : Option World) where
  -- a run that falls due goes on as before
  put_due : (past : List Passed) (put : ℕ) (start : ResolvedStart) → PutIn Within known registry loader past put (First start) → PutIn Within known registry loader past put (Due start)
  put_due past put start has = record {
    put_before = has.put_before;
    within = has.within;
    before = has.before;
    none_before = has.none_before;
    put_since = has.put_since;
    since_has = has.since_has;
    count = has.count;
  }

  put_goes : (past : List Passed) (put : ℕ) (s u : State) → RunGoes s u → PutIn Within known registry loader past put s.run → PutIn Within known registry loader past put u.run
  put_goes past put s u (same is) has = subst (PutIn Within known registry loader past put) (sym is) has
  put_goes past put s u (falls_due {start} was is) has = subst (PutIn Within known registry loader past put) (sym is) (put_due past put start (subst (PutIn Within known registry loader past put) was has))

  -- one more question in a run
  put_one : (past more : List Passed) (put : ℕ) (run : Run) → ((n : ℕ) → HasPut (known_for known run) registry (setting_for run) loader past n → HasPut (known_for known run) registry (setting_for run) loader more (1 + n)) → PutIn Within known registry loader past put run → PutIn Within known registry loader more (suc put) run
  put_one past more put run step has = record {
    put_before = has.put_before;
    within = has.within;
    before = has.before;
    none_before = has.none_before;
    put_since = 1 + has.put_since;
    since_has = step has.put_since has.since_has;
    count = omega (arith, has.count);
  }

  -- more questions in a run
  put_step : (past more : List Passed) (put cost : ℕ) (run : Run) → ((n : ℕ) → HasPut (known_for known run) registry (setting_for run) loader past n → HasPut (known_for known run) registry (setting_for run) loader more (cost + n)) → PutIn Within known registry loader past put run → PutIn Within known registry loader more (cost + put) run
  put_step past more put cost run step has = record {
    put_before = has.put_before;
    within = has.within;
    before = has.before;
    none_before = has.none_before;
    put_since = cost + has.put_since;
    since_has = step has.put_since has.since_has;
    count = omega (arith, has.count);
  }

module _ (Within : ℕ → Type 0) (none_within : Within 0) (early : Type 0) (most : ℕ) (known : Known) (loader : Option World) (means : Means) (o : EnteredGraph) (first : Run) (begins : IsFirst first) (mended : IsMendedBy early o) (again_within : (past : List Passed) (put : ℕ) (s : State) → Runs most known loader means (begun_in known first o) past put s → next_of s ≡ Restart → HasPut (known_for known s.run) means.registry (setting_for s.run) loader past put → Within put) where
  at_run : {past : List Passed} {put : ℕ} (now run : Run) → now ≡ run → PutIn Within known means.registry loader past put run → PutIn Within known means.registry loader past put now
  at_run {past} {put} now run is has = subst (PutIn Within known means.registry loader past put) (sym is) has

  first_in : (run : Run) → IsFirst run → PutIn Within known means.registry loader [] zero run
  first_in run is = record { put_before = 0; within = none_within; before = no_question; none_before = λ f. refl; put_since = 0; since_has = put_none; count = refl }

  -- the questions that turns put
  pub put_in : {past : List Passed} {put : ℕ} {s : State} → Runs most known loader means (begun_in known first o) past put s → PutIn Within known means.registry loader past put s.run
  put_in none_run = at_run _ first (begun_run known first o) (first_in first begins)
  put_in (answered_run {past} {put} {cost} {s} {rest} {next} {load} {asked} {outcome} run comes left how may costs is) =
      at_run _ s.run (ap (λ (x : State). x.run) is ∙ stays_run most rest load outcome ∙ sym (ap (λ (x : State). x.run) left)) (put_step Within known means.registry loader past (Answered load asked ∷ past) put cost s.run (λ n has. put_more load asked costs has) (put_in run))
  put_in (failed_run {past} {put} {s} {rest} {next} {load} {outcome} run comes left fails is) =
      at_run _ s.run (ap (λ (x : State). x.run) is ∙ stays_run most rest load outcome ∙ sym (ap (λ (x : State). x.run) left)) (put_in run)
  put_in (read_run {past} {put} {s} {nv = nv} a run comes left how right fresh is) =
      at_run _ s.run (ap (λ (x : State). x.run) is) (put_one Within known means.registry loader past (Read nv ∷ past) put s.run (λ n has. put_version nv has) (put_in run))
  put_in (read_stored_run {s = s} run comes left how there is) = at_run _ s.run (ap (λ (x : State). x.run) is) (put_in run)
  put_in (looked_up_run {past} {put} {s} {file = file} a run comes wants right fresh is) =
      at_run _ s.run (ap (λ (x : State). x.run) is ∙ run_wanted means.registry s (loaded a)) (put_one Within known means.registry loader past (LookedUp file ∷ past) put s.run (λ n has. put_looked file has) (put_in run))
  put_in (looked_up_stored_run {s = s} {answer = answer} run comes wants there is) = at_run _ s.run (ap (λ (x : State). x.run) is ∙ run_wanted means.registry s answer) (put_in run)
  put_in (filled_run {past} {put} {s} {l = l} a run comes wants right is) =
      at_run _ s.run (ap (λ (x : State). x.run) is ∙ ap (λ x. (content_by s x a).run) wants) (put_one Within known means.registry loader past (Filled l ∷ past) put s.run (λ n has. put_content l has) (put_in run))
  put_in (went_on_run {past} {put} {s} {next} run goes is) =
      subst (λ (x : State). PutIn Within known means.registry loader past put x.run) (sym is)
      (put_goes Within known means.registry loader past put s (gone_on means.registry means.newest s (next_of s)) (run_next means.registry means.newest s (next_of s) (how_next s) (not_restart (next_of s) goes)) (put_in run))
  put_in (began_again_run {past} {put} {s} {next} run comes is) =
      let due = due_start s.run (due_next s (next_of s) (how_next s) comes) in
      let has = put_in run in
      let now = ordered_from early most known loader means o first begins mended run in
      let all : HasPut (known_for known s.run) means.registry (setting_for s.run) loader past put = put_as has.since_has (omega (arith, has.count, has.none_before (ap is_second due.1))) in
      record {
        put_before = put;
        within = again_within _ _ _ run comes all;
        before = record { questions = all.questions; once = once_counted all.are_of (apart_in means.registry now.entry past s now.orderly); count = all.count };
        none_before = λ f. absurd (true≢false (sym (ap is_second (ap (λ (x : State). x.run) is ∙ second_run s due.0 due.1)) ∙ f));
        put_since = 0;
        since_has = put_began s.graph put past;
        count = omega arith;
      }

-- what a build asked about in its runs, where so many questions were put
pub asks_in_runs : {Within : ℕ → Type 0} {early : Type 0} {known : Known} {registry : RegistryMeaning} {loader : Option World} (o : EnteredGraph) (first : Run) (past : List Passed) (s : State) (put : ℕ) → Ordered early known registry o first past s → s.pass ≡ None → ((nv : PackageNv) → IsFailing registry s nv → ⊥) → {count : ℕ} → put ≡ count → PutIn Within known registry loader past count s.run → AsksInRuns registry s.graph put
asks_in_runs {registry = registry} o first past s put now none free equal has = record {
  put_before = has.put_before;
  before = has.before;
  put_since = has.put_since;
  since = record {
    questions = has.since_has.questions;
    once = once_counted has.since_has.are_of (apart_in registry now.entry past s now.orderly);
    known = all_known registry s.graph has.since_has.are_of (seen_free registry s none now.entry past now.orderly free);
    count = has.since_has.count;
  };
  count = equal ∙ has.count;
}
