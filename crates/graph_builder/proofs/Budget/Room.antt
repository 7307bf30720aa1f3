-- That a list which covers all that is reached has room for each question.
use Rattle.std.proofs.Common.{◌≡◌, ◌≢◌, ℕ, zero, suc, ◌+◌, ◌≤◌, ◌<◌, List, [], ◌∷◌, ◌++◌, length, get_or, Bool, true, false, if◌then◌else◌, Option, Some, refl, sym, ap, ◌∙◌, subst, inl, inr, ◌⊎◌, arith, ⊎_elim}
use Rattle.std.specs.List.{All, Contains}
use Rattle.std.proofs.lemmas.List.Elements.{All-append, All-contains, All-head, All-tail}
use Rattle.url.specs.Parts.{Parts}
use Rattle.spec_base.specs.Specifier.{specifier_text}
use Rattle.semver_npm.specs.declared.package.PackageNv.{PackageNv}
use Rattle.source_io.specs.declared.types.World.{World}
use Rattle.registry_urls.specs.Meaning.{RegistryMeaning}
use Rattle.graph_core.specs.declared.graph.ModuleGraph.{ModuleGraph}
use Rattle.module_slots.specs.declared.load.Load.{Load}
use Rattle.module_slots.specs.declared.load.LoadContext.{LoadContext}
use Rattle.graph_turns.specs.declared.question_of.Asked.{Asked}
use Rattle.graph_turns.specs.declared.later_content.LaterContent.{LaterContent}
use Rattle.graph_turns.specs.declared.manner.Manner.TheVariants.{Asks, Reads}
use Rattle.graph_turns.specs.declared.starting.ResolvedStart.{ResolvedStart}
use Rattle.graph_turns.specs.declared.state.State.{State}
use Rattle.turn_laws.specs.Budget.Asked.{HasCounted, OnceCounted}
use Rattle.turn_laws.specs.Budget.Covers.{IsClosed, CoversFrom, Counted as CountedQuestion, HasQuestionsOf, counted, CoversRuns, enough}
use Rattle.graph_turns.specs.Machine.Known.{Known}
use Rattle.graph_turns.specs.Machine.Redirects.{HasNoCircle}
use Rattle.graph_turns.specs.Machine.Starting.{start_entry, told_start}
use Rattle.graph_turns.specs.Machine.Entering.{begun_at}
use Rattle.graph_turns.specs.Machine.Turns.{manner_in}
use Rattle.graph_turns.specs.Promise.Explains.{ComesLater}
use Rattle.graph_turns.specs.Promise.Input.{EnteredGraph}
use Rattle.graph_turns.specs.Promise.Reached.{Reached}
use Rattle.graph_turns.specs.Promise.Reached.Reached.{first as at_first, known as at_known, named as at_named, exported as at_export, hopped as at_hop, edge as at_edge, marked as at_mark}
use Rattle.graph_turns.specs.Promise.Taken.{PutQuestion, asks_again, content_question_of, first_to, is_asked, version_question_of, package_question_of, probe_question_of}
use Rattle.graph_turns.specs.Promise.Told.{Told}
use Rattle.open_loads.specs.Budget.Open.{open_by}
use Rattle.open_loads.specs.Budget.Runs.{Answered, Filled, IsOver, Passed, Read, Runs, BeganAgain, LookedUp, since}
use Rattle.open_loads.specs.declared.turn_stage.Stage.{Stage}
use Rattle.open_loads.specs.Order.Asking.{IsNext, asked_question, through}
use Rattle.open_loads.specs.Order.Means.{IsTold, Means}
use Rattle.turn_laws.proofs.Budget.Contents.{HasContent, OnceContent}
use Rattle.turn_laws.proofs.Budget.Known.{Counted}
use Rattle.turn_laws.proofs.Budget.Pairs.{Apart, HasPair, apart_both, pair_load}
use Rattle.turn_laws.proofs.Budget.Versions.{OnceRead, WasRead}
use Rattle.turn_laws.proofs.Promise.Hops.{IsOutset}
use Rattle.turn_laws.proofs.Promise.Kept.{IsAskedFor}
use Rattle.graph_builder.proofs.Budget.Files.{asked_told, names_told}
use Rattle.graph_builder.proofs.Budget.Opens.{opens, Opens}
use Rattle.graph_builder.proofs.Budget.Orderly.{Orderly, answered_in, filled_in, read_in, begun_in, due_next, first_run, is_first, looked_in, ordered_from, over_in, run_in, Ordered, ordered}
use Rattle.graph_builder.proofs.Budget.Put.{HasPut, IsRefused, QuestionsOf, about, again_about, once_counted, put_both, looked_question, AreApart, IsPlain}
use Rattle.graph_builder.proofs.Budget.Put.QuestionsOf.{none as no_questions, single as one_question, double as two_questions, version as of_version, content as of_content_question, looked as of_looked, began as at_beginning}
use Rattle.graph_builder.proofs.Budget.Reaching.{IsReachedPassed, Reaching, answer_told, reaching, reaching_once, IsReachedRead, ReachingBuild, known_stage, once_due}
use Rattle.source_io.specs.declared.types.CacheSetting.{CacheSetting}
use Rattle.turn_laws.specs.Promise.Keeps.{IsReachedFile}
use Rattle.graph_turns.specs.Promise.Runs.{IsRunOf, may_begin_again}
use Rattle.graph_turns.specs.declared.unresolved_input.LeftOver.{LeftOver}
use Rattle.graph_turns.specs.declared.registry.RegistryFile.TheVariants.{PackageAgain, Version}
use Rattle.graph_turns.specs.declared.registry.RegistryFile.{RegistryFile}
use Rattle.graph_turns.specs.declared.next.Next.TheVariants.{Restart}
use Rattle.graph_turns.specs.declared.run.Run.{Run}
use Rattle.graph_builder.proofs.Budget.Asked.{apart_in, put_in, PutIn}
use Rattle.turn_laws.specs.Promise.Keeps.IsReachedFile.{for_package, for_package_again, for_probe, for_version}
use Rattle.graph_turns.specs.Machine.Runs.{begun_over, is_second, known_for, setting_for, told_for}
use Rattle.graph_turns.specs.Promise.Versions.{is_stored}
use Rattle.graph_turns.specs.Machine.Next.{next_of}
use Rattle.std.proofs.lemmas.Bool.{true≢false}
use Rattle.source_io.specs.declared.types.CacheSetting.TheVariants.{Reload}
use Rattle.graph_turns.specs.declared.run.Run.TheVariants.{Only}
use Rattle.graph_turns.specs.Promise.Runs.IsRunOf.{only as once_run, first as first_of, due as due_of, second as last_of}
use Rattle.turn_laws.proofs.Budget.Counts.{Counts}
use Rattle.turn_laws.proofs.Budget.Wanted.{HasFile, OnceFile}
use Rattle.graph_turns.proofs.Entering.Next.{how_next}
use Rattle.turn_laws.proofs.Promise.KeptTurns.{IsRunFrom, begins_by, entry_by, entry_same, run_begun_of}
use Rattle.turn_laws.proofs.Promise.Passing.{IsStage, RunBegins}
use Rattle.turn_laws.proofs.Promise.Passing.IsStage.{same as goes_as_begun, due as is_due_again}
use Rattle.turn_laws.proofs.Promise.SoundBegun.{IsMendedBy, mended_with}

in_closed : (w : Told) (given : EnteredGraph) (pairs : List (Parts × LoadContext)) → IsClosed w given pairs → {s : Parts} {c : LoadContext} → Reached w given s c → Contains pairs (s, c)
in_closed w given pairs closed (at_first h) = closed.first _ h
in_closed w given pairs closed (at_known r e) = closed.known _ _ _ (in_closed w given pairs closed r) e
in_closed w given pairs closed (at_named r e same h) = closed.named _ _ _ _ _ (in_closed w given pairs closed r) (in_closed w given pairs closed e) same h
in_closed w given pairs closed (at_export r is) = closed.exported _ _ _ _ (in_closed w given pairs closed r) is
in_closed w given pairs closed (at_hop {asked = by} r e same h free) = closed.hopped _ _ _ _ _ (in_closed w given pairs closed r) (in_closed w given pairs closed e) same by h free
in_closed w given pairs closed (at_edge r is) = closed.edge _ _ _ (in_closed w given pairs closed r) is
in_closed w given pairs closed (at_mark r q e h same) = closed.marked _ _ _ _ _ (in_closed w given pairs closed r) (in_closed w given pairs closed q) e h same

-- ---- questions in a list

-- a question that is counted so is in a list
abbrev HasQuestion : CountedQuestion → List CountedQuestion → Type 0
HasQuestion k [] = ⊥
HasQuestion k (q ∷ qs) = (k ≡ q) ⊎ HasQuestion k qs

question_at : (qs : List CountedQuestion) (k : ℕ) (d : CountedQuestion) → k < length qs → HasQuestion (get_or qs k d) qs
question_at [] k d below = absurd (omega arith)
question_at (q ∷ qs) zero d below = inl refl
question_at (q ∷ qs) (suc k) d below = inr (question_at qs k d (omega arith))

has_question : (q : CountedQuestion) (qs : List CountedQuestion) → Contains qs q → HasQuestion q qs
has_question q qs among = subst (λ (p : CountedQuestion). HasQuestion p qs) among.2 (question_at qs among.0 q among.1)

record Cut (x : CountedQuestion) (ys : List CountedQuestion) : Type 0 where
  rest : List CountedQuestion
  shorter : suc (length rest) ≡ length ys
  others : (y : CountedQuestion) → y ≢ x → HasQuestion y ys → HasQuestion y rest

cut : (x : CountedQuestion) (ys : List CountedQuestion) → HasQuestion x ys → Cut x ys
cut x [] a = absurd a
cut x (y ∷ ys) (inl same) = record { rest = ys; shorter = refl; others = λ z ne a. ⊎_elim (λ e. absurd (ne (e ∙ sym same))) (λ t. t) a }
cut x (y ∷ ys) (inr a) = let c = cut x ys a in record { rest = y ∷ c.rest; shorter = ap suc c.shorter; others = λ z ne b. ⊎_elim inl (λ t. inr (c.others z ne t)) b }

pigeons : (xs : List PutQuestion) (ys : List CountedQuestion) → OnceCounted xs → ((k : CountedQuestion) → HasCounted k xs → HasQuestion k ys) → length xs ≤ length ys
pigeons [] ys d in_ys = omega arith
pigeons (x ∷ xs) ys d in_ys =
    let c = cut (counted x) ys (in_ys (counted x) (inl refl)) in
    let fewer = pigeons xs c.rest d.1 (λ y a. c.others y (λ same. d.0 (subst (λ z. HasCounted z xs) same a)) (in_ys y (inr a))) in
    let one = c.shorter in
    omega arith

-- ---- all that is asked

-- what is so of a list and of another one
read_both : (xs ys : List Passed) → IsPlain xs → read_in (xs ++ ys) ≡ read_in xs ++ read_in ys
read_both [] ys plain = refl
read_both (Answered load asked ∷ xs) ys plain = read_both xs ys plain
read_both (Read nv ∷ xs) ys plain = ap (λ l. nv ∷ l) (read_both xs ys plain)
read_both (LookedUp file ∷ xs) ys plain = read_both xs ys plain
read_both (Filled l ∷ xs) ys plain = read_both xs ys plain
read_both (BeganAgain g put ∷ xs) ys plain = absurd plain

answered_both : (xs ys : List Passed) → IsPlain xs → answered_in (xs ++ ys) ≡ answered_in xs ++ answered_in ys
answered_both [] ys plain = refl
answered_both (Answered load asked ∷ xs) ys plain = ap (λ l. load ∷ l) (answered_both xs ys plain)
answered_both (Read nv ∷ xs) ys plain = answered_both xs ys plain
answered_both (LookedUp file ∷ xs) ys plain = answered_both xs ys plain
answered_both (Filled l ∷ xs) ys plain = answered_both xs ys plain
answered_both (BeganAgain g put ∷ xs) ys plain = absurd plain

looked_both : (xs ys : List Passed) → IsPlain xs → looked_in (xs ++ ys) ≡ looked_in xs ++ looked_in ys
looked_both [] ys plain = refl
looked_both (Answered load asked ∷ xs) ys plain = looked_both xs ys plain
looked_both (Read nv ∷ xs) ys plain = looked_both xs ys plain
looked_both (LookedUp file ∷ xs) ys plain = ap (λ l. file ∷ l) (looked_both xs ys plain)
looked_both (Filled l ∷ xs) ys plain = looked_both xs ys plain
looked_both (BeganAgain g put ∷ xs) ys plain = absurd plain

filled_both : (xs ys : List Passed) → IsPlain xs → filled_in (xs ++ ys) ≡ filled_in xs ++ filled_in ys
filled_both [] ys plain = refl
filled_both (Answered load asked ∷ xs) ys plain = filled_both xs ys plain
filled_both (Read nv ∷ xs) ys plain = filled_both xs ys plain
filled_both (LookedUp file ∷ xs) ys plain = filled_both xs ys plain
filled_both (Filled l ∷ xs) ys plain = ap (λ k. l ∷ k) (filled_both xs ys plain)
filled_both (BeganAgain g put ∷ xs) ys plain = absurd plain

since_both : (xs ys : List Passed) → IsPlain xs → since (xs ++ ys) ≡ xs ++ since ys
since_both [] ys plain = refl
since_both (Answered load asked ∷ xs) ys plain = ap (λ l. Answered load asked ∷ l) (since_both xs ys plain)
since_both (Read nv ∷ xs) ys plain = ap (λ l. Read nv ∷ l) (since_both xs ys plain)
since_both (LookedUp file ∷ xs) ys plain = ap (λ l. LookedUp file ∷ l) (since_both xs ys plain)
since_both (Filled l ∷ xs) ys plain = ap (λ k. Filled l ∷ k) (since_both xs ys plain)
since_both (BeganAgain g put ∷ xs) ys plain = absurd plain

file_both : (f : RegistryFile) (xs ys : List RegistryFile) → HasFile f (xs ++ ys) → HasFile f xs ⊎ HasFile f ys
file_both f [] ys h = inr h
file_both f (x ∷ xs) ys h = ⊎_elim (λ e. inl (inl e)) (λ r. ⊎_elim (λ l. inl (inr l)) inr (file_both f xs ys r)) h

once_file_both : (xs ys : List RegistryFile) → OnceFile xs → ((f : RegistryFile) → HasFile f xs → HasFile f ys → ⊥) → OnceFile ys → OnceFile (xs ++ ys)
once_file_both [] ys once new others = others
once_file_both (x ∷ xs) ys once new others = (
  λ h. ⊎_elim once.0 (new x (inl refl)) (file_both x xs ys h),
  once_file_both xs ys once.1 (λ f h. new f (inr h)) others,
)

was_both : (nv : PackageNv) (xs ys : List PackageNv) → WasRead nv (xs ++ ys) → WasRead nv xs ⊎ WasRead nv ys
was_both nv [] ys h = inr h
was_both nv (x ∷ xs) ys h = ⊎_elim (λ e. inl (inl e)) (λ r. ⊎_elim (λ l. inl (inr l)) inr (was_both nv xs ys r)) h

once_read_both : (xs ys : List PackageNv) → OnceRead xs → ((nv : PackageNv) → WasRead nv xs → WasRead nv ys → ⊥) → OnceRead ys → OnceRead (xs ++ ys)
once_read_both [] ys once new others = others
once_read_both (x ∷ xs) ys once new others = (
  λ h. ⊎_elim once.0 (new x (inl refl)) (was_both x xs ys h),
  once_read_both xs ys once.1 (λ nv h. new nv (inr h)) others,
)

content_both : (k : List ℕ) (xs ys : List LaterContent) → HasContent k (xs ++ ys) → HasContent k xs ⊎ HasContent k ys
content_both k [] ys h = inr h
content_both k (x ∷ xs) ys h = ⊎_elim (λ e. inl (inl e)) (λ r. ⊎_elim (λ l. inl (inr l)) inr (content_both k xs ys r)) h

once_content_both : (xs ys : List LaterContent) → OnceContent xs → ((k : List ℕ) → HasContent k xs → HasContent k ys → ⊥) → OnceContent ys → OnceContent (xs ++ ys)
once_content_both [] ys once new others = others
once_content_both (x ∷ xs) ys once new others = (
  λ h. ⊎_elim once.0 (new (specifier_text x.specifier) (inl refl)) (content_both (specifier_text x.specifier) xs ys h),
  once_content_both xs ys once.1 (λ k h. new k (inr h)) others,
)

-- no open load is of what was asked for the same purpose
unasked : (asked : List Load) (s : State) → Counted asked s → (k : List ℕ) (b : Bool) → HasPair k b s.loads → HasPair k b asked → ⊥
unasked asked s now k true h a = now.assets k h (pair_load k true asked a)
unasked asked s now k false h a = now.modules k h a

-- what is still to be asked about and what was asked about: no two of it are alike
apart_both_in : {early : Type 0} {by : Known} (loader : Option World) (known : Known) (registry : RegistryMeaning) (o : EnteredGraph) (past : List Passed) (s : State) (stage : Stage) → Orderly early by registry o past s → (opens : Opens loader known registry (setting_for s.run) s stage) → AreApart (setting_for s.run) (opens.still ++ past)
apart_both_in {early = early} loader known registry o past s stage now opens = record {
  loads = subst Apart (sym (answered_both opens.still past opens.plain))
      (apart_both (answered_in opens.still) (answered_in past) opens.once_loads (λ k b h a. unasked (answered_in past) s counts.counted k b (opens.pairs k b h) a) counts.distinct);
  read = subst OnceRead (sym reads_are) (once_read_both (read_in opens.still) (read_in past) opens.once_read (λ nv h was. opens.fresh_read nv h (counts.versions.kept nv was)) counts.versions.once);
  files = subst OnceFile (sym files_are) (once_file_both (looked_in opens.still) (looked_in past) opens.once_looked (λ f h was. counts.files.wanted_new f (opens.looked f h) (counts.files.kept f was)) counts.files.once);
  apart = λ nv h f. apart_files nv (was_both nv (read_in opens.still) (read_in past) (subst (WasRead nv) reads_are h)) (file_both (Version nv) (looked_in opens.still) (looked_in past) (subst (HasFile (Version nv)) files_are f));
  again = λ name h. ap setting_for (⊎_elim (λ f. (counts.files.wanted_about (PackageAgain name) (opens.looked (PackageAgain name) f)).1) (λ f. (counts.files.about (PackageAgain name) f).1) (file_both (PackageAgain name) (looked_in opens.still) (looked_in past) (subst (HasFile (PackageAgain name)) files_are h)));
  contents = subst OnceContent (sym (filled_both opens.still past opens.plain))
      (once_content_both (filled_in opens.still) (filled_in past) opens.once_contents (λ k h a. counts.contents.apart k (opens.contents k h) a) counts.contents.came_once);
}
  where
    counts : Counts registry o early (answered_in past) (read_in past) (looked_in past) (filled_in past) s
    counts = now.counts

    reads_are : read_in (opens.still ++ past) ≡ read_in opens.still ++ read_in past
    reads_are = read_both opens.still past opens.plain

    files_are : looked_in (opens.still ++ past) ≡ looked_in opens.still ++ looked_in past
    files_are = looked_both opens.still past opens.plain

    apart_files : (nv : PackageNv) → WasRead nv (read_in opens.still) ⊎ WasRead nv (read_in past) → HasFile (Version nv) (looked_in opens.still) ⊎ HasFile (Version nv) (looked_in past) → ⊥
    apart_files nv (inl h) (inl f) = opens.apart nv h f
    apart_files nv (inl h) (inr f) = opens.fresh_read nv h (counts.files.kept (Version nv) f)
    apart_files nv (inr h) (inl f) = counts.files.wanted_new (Version nv) (opens.looked (Version nv) f) (counts.versions.kept nv h)
    apart_files nv (inr h) (inr f) = counts.files.apart nv h f

-- ---- in one run

module _ (w : Told) (given : EnteredGraph) (loader : Option World) (tells : loader ≡ Some w.world) (questions : List CountedQuestion) (covers : CoversFrom w given questions) where
  -- the questions about a pair that is asked for
  covered : (s : Parts) (c : LoadContext) → Reached w given s c → is_asked w.known.flags s c ≡ true → HasQuestionsOf w questions s c
  covered s c reached asked = covers.2.modules s c (in_closed w given covers.0 covers.1 reached) asked

  question_as : (k q : CountedQuestion) → k ≡ q → Contains questions q → HasQuestion k questions
  question_as k q e among = subst (λ z. HasQuestion z questions) (sym e) (has_question q questions among)

  covered_first : (load : Load) (asked : Asked) → IsReachedPassed w given (Answered load asked) → (k : CountedQuestion) → k ≡ counted (about load asked) → HasQuestion k questions
  covered_first load asked reached k e = question_as k (counted (about load asked)) e ((covered load.specifier load.context reached.0 reached.1).first asked reached.2)

  covered_again : (load : Load) (asked : Asked) → IsReachedPassed w given (Answered load asked) → IsRefused w.known loader load asked → (k : CountedQuestion) → k ≡ counted (again_about load) → HasQuestion k questions
  covered_again load asked reached refused k e =
      let right : refused.0 ≡ first_to w.world w.known asked load.specifier load.context = answer_told loader w (asked_question w.known load asked) refused.0 tells refused.1 in
      question_as k (counted (again_about load)) e ((covered load.specifier load.context reached.0 reached.1).again asked reached.2 (ap (asks_again asked) (sym right) ∙ refused.2))

  covered_version : (nv : PackageNv) → IsReachedRead w given nv → is_stored w.known.store (Version nv) ≡ false → (k : CountedQuestion) → k ≡ counted (version_question_of w.metadata w.registry nv) → HasQuestion k questions
  covered_version nv reached fresh k e = question_as k (counted (version_question_of w.metadata w.registry nv)) e ((covered reached.0 reached.1 reached.2 reached.3).version nv reached.4 fresh)

  covered_looked : (file : RegistryFile) → IsReachedFile w given file → is_stored w.known.store file ≡ false → (k : CountedQuestion) → k ≡ counted (looked_question w.metadata w.registry file) → HasQuestion k questions
  covered_looked file (for_package {s} {c} {r} reached is) fresh k e =
      question_as k (counted (package_question_of w.metadata w.registry r.req.name)) e ((covers.2.packages s c r (in_closed w given covers.0 covers.1 reached) is).file fresh)
  covered_looked file (for_package_again {s} {c} {r} reached is again) fresh k e =
      question_as k (counted (package_question_of Reload w.registry r.req.name)) e ((covers.2.packages s c r (in_closed w given covers.0 covers.1 reached) is).again again)
  covered_looked file (for_probe {s} {c} {r} {nv} reached is prefers fits) fresh k e =
      question_as k (counted (probe_question_of w.registry nv)) e ((covers.2.packages s c r (in_closed w given covers.0 covers.1 reached) is).probe prefers nv fits)
  covered_looked file (for_version {s} {c} {r} {nv} reached is fits) fresh k e =
      question_as k (counted (version_question_of w.metadata w.registry nv)) e ((covers.2.packages s c r (in_closed w given covers.0 covers.1 reached) is).version nv fits fresh)

  covered_content : (l : LaterContent) → ComesLater w given l → (k : CountedQuestion) → k ≡ counted (content_question_of l.specifier) → HasQuestion k questions
  covered_content l later k e = question_as k (counted (content_question_of l.specifier)) e ((covered l.specifier l.context later.reached later.takes.asked_for).content later.asked later.source l later.takes later.comes)

  all_covered : {past : List Passed} {qs : List PutQuestion} → QuestionsOf w.known w.registry w.metadata loader past qs → All (IsReachedPassed w given) (since past) → (k : CountedQuestion) → HasCounted k qs → HasQuestion k questions
  all_covered no_questions reached k h = absurd h
  all_covered (one_question {load} {asked} {past} rest) reached k (inl e) = covered_first load asked (All-head (IsReachedPassed w given) (Answered load asked) (since past) reached) k e
  all_covered (one_question {load} {asked} {past} rest) reached k (inr h) = all_covered rest (All-tail (IsReachedPassed w given) (Answered load asked) (since past) reached) k h
  all_covered (two_questions {load} {asked} {past} refused rest) reached k (inl e) = covered_again load asked (All-head (IsReachedPassed w given) (Answered load asked) (since past) reached) refused k e
  all_covered (two_questions {load} {asked} {past} refused rest) reached k (inr (inl e)) = covered_first load asked (All-head (IsReachedPassed w given) (Answered load asked) (since past) reached) k e
  all_covered (two_questions {load} {asked} {past} refused rest) reached k (inr (inr h)) = all_covered rest (All-tail (IsReachedPassed w given) (Answered load asked) (since past) reached) k h
  all_covered (of_version {nv} {past} rest) reached k (inl e) = let at = All-head (IsReachedPassed w given) (Read nv) (since past) reached in covered_version nv at.0 at.1 k e
  all_covered (of_version {nv} {past} rest) reached k (inr h) = all_covered rest (All-tail (IsReachedPassed w given) (Read nv) (since past) reached) k h
  all_covered (of_looked {file} {past} rest) reached k (inl e) = let at = All-head (IsReachedPassed w given) (LookedUp file) (since past) reached in covered_looked file at.0 at.1 k e
  all_covered (of_looked {file} {past} rest) reached k (inr h) = all_covered rest (All-tail (IsReachedPassed w given) (LookedUp file) (since past) reached) k h
  all_covered (of_content_question {l} {past} rest) reached k (inl e) = covered_content l (All-head (IsReachedPassed w given) (Filled l) (since past) reached) k e
  all_covered (of_content_question {l} {past} rest) reached k (inr h) = all_covered rest (All-tail (IsReachedPassed w given) (Filled l) (since past) reached) k h
  all_covered at_beginning reached k h = absurd h

  -- a covering list has room for all questions of a run
  room_of : {past : List Passed} {put : ℕ} → HasPut w.known w.registry w.metadata loader past put → AreApart (w.metadata) past → All (IsReachedPassed w given) (since past) → put ≤ length questions
  room_of has apart reached =
      let room = pigeons has.questions questions (once_counted has.are_of apart) (all_covered has.are_of reached) in
      let count = has.count in
      omega (arith, room, count)

  -- what is open was reached
  module _ (begins : RunBegins given) {past : List Passed} {s : State} (reach : Reaching w given begins past s) where
    of_asked : (load : Load) (asked : Asked) → Contains s.loads load → manner_in w.known.sums w.registry s load ≡ Asks asked → IsReachedPassed w given (Answered load asked)
    of_asked load asked among how =
        let at = All-contains (IsAskedFor w given begins) s.loads load reach.kept.loads among in
        (at.0, at.1, asked_told w s load reach.kept.held reach.kept.files among asked how)

    of_read : (load : Load) (nv : PackageNv) → Contains s.loads load → manner_in w.known.sums w.registry s load ≡ Reads nv → is_stored w.known.store (Version nv) ≡ false → IsReachedPassed w given (Read nv)
    of_read load nv among how fresh =
        let at = All-contains (IsAskedFor w given begins) s.loads load reach.kept.loads among in
        ((load.specifier, load.context, at.0, at.1, names_told w s load reach.kept.held reach.kept.files among nv how), fresh)

    all_wanted : (files : List RegistryFile) → All (IsReachedFile w given) files → (f : RegistryFile) → HasFile f files → IsReachedFile w given f
    all_wanted [] all f h = absurd h
    all_wanted (file ∷ files) all f h = ⊎_elim
        (λ same. subst (IsReachedFile w given) (sym same) (All-head (IsReachedFile w given) file files all))
        (all_wanted files (All-tail (IsReachedFile w given) file files all) f)
        h

    of_wanted : (f : RegistryFile) → HasFile f s.wanted → is_stored w.known.store f ≡ false → IsReachedPassed w given (LookedUp f)
    of_wanted f among fresh = (all_wanted s.wanted reach.kept.pass.of_wanted f among, fresh)

    of_content : (l : LaterContent) → Contains s.contents l → IsReachedPassed w given (Filled l)
    of_content l among = All-contains (ComesLater w given) s.contents l reach.kept.contents among

    -- a covering list has room for all questions about what was asked and what is open
    room_all : {early : Type 0} {by : Known} {put : ℕ} (o : EnteredGraph) (stage : Stage) → setting_for s.run ≡ w.metadata → Orderly early by w.registry o past s → IsNext loader w.known w.registry s stage → HasPut w.known w.registry w.metadata loader past put → put + through stage + open_by w.known w.registry s (next_of s) ≤ length questions
    room_all {put = put} o stage serves order next for_past =
        let o_set = opens loader w.known w.registry (setting_for s.run) o past s order stage next in
        let all = put_both o_set.plain (subst (λ (c : CacheSetting). HasPut w.known w.registry c loader o_set.still (through stage + open_by w.known w.registry s (next_of s))) serves o_set.has) for_past in
        let apart = subst (λ (c : CacheSetting). AreApart c (o_set.still ++ past)) serves (apart_both_in loader w.known w.registry o past s stage order o_set) in
        let for_each = subst (All (IsReachedPassed w given)) (sym (since_both o_set.still past o_set.plain)) (All-append (IsReachedPassed w given) o_set.still (since past) (o_set.each (IsReachedPassed w given) of_asked of_read of_wanted of_content) reach.reached) in
        let room = room_of all apart for_each in
        omega (arith, room)

-- ---- all runs of a build

-- a run of one that may begin once more, and isn't the second, began as its first one
not_second : (begun run : Run) → IsStage begun run → is_second begun ≡ false → is_second run ≡ false
not_second begun run goes_as_begun f = f
not_second begun run (is_due_again was) f = refl

module _ (loader : Option World) (means : Means) (told : Told) (g : ModuleGraph) (given : LeftOver) (tells : IsTold loader means told g.kind) (most : ℕ) (m : most ≡ told.world.max_redirects) (no_circle : HasNoCircle g) (questions : List CountedQuestion) (covers : CoversRuns told g given questions) where
  abbrev from : ResolvedStart
  from = told_start told given

  abbrev over : EnteredGraph
  over = start_entry told.known.flags.is_dynamic g (told_start told given)

  -- the list covers each run
  covers_run : (begun : Run) → IsRunFrom told g (told_start told given) begun → CoversFrom (told_for told begun) (entry_by told.known.flags.is_dynamic g (told_start told given) begun) questions
  covers_run begun is = subst (λ (e : EnteredGraph). CoversFrom (told_for told begun) e questions) (sym (entry_same told g given begun)) (covers begun (run_begun_of told g given begun is))

  at_told : {past : List Passed} {s : State} → Ordered ⊥ told.known means.registry over (first_run g from) past s → Ordered ⊥ told.known told.registry over (first_run g from) past s
  at_told {past} {s} now = subst (λ (r : RegistryMeaning). Ordered ⊥ told.known r over (first_run g from) past s) tells.meant.registry_is now

  -- what the run that goes on put
  has_told : {past : List Passed} {put : ℕ} {s : State} (reach : ReachingBuild told g from past s) → HasPut (known_for told.known s.run) means.registry (setting_for s.run) loader past put → HasPut (told_for told reach.begun).known told.registry (told_for told reach.begun).metadata loader past put
  has_told {past} {put} {s} reach has =
      subst (λ (r : RegistryMeaning). HasPut (told_for told reach.begun).known r (told_for told reach.begun).metadata loader past put) tells.meant.registry_is
      (subst (λ (c : CacheSetting). HasPut (told_for told reach.begun).known means.registry c loader past put) (sym reach.reach.kept.run.serves)
      (subst (λ (k : Known). HasPut k means.registry (setting_for s.run) loader past put) (known_stage told reach.begun s.run reach.reach.kept.run.stage) has))

  within_run : {past : List Passed} {put : ℕ} {s : State} → Runs most told.known loader means (begun_over told.known g from) past put s → (has : ℕ) → HasPut (known_for told.known s.run) means.registry (setting_for s.run) loader past has → has ≤ length questions
  within_run {past} {put} {s} run n has =
      let reach = reaching told g from loader means tells most m run in
      let now = at_told (ordered most told.known loader means g from no_circle run) in
      let w = told_for told reach.begun in
      room_of w (entry_by told.known.flags.is_dynamic g from reach.begun) loader tells.answers questions (covers_run reach.begun reach.is_run) (has_told reach has)
      (subst (λ (c : CacheSetting). AreApart c past) (sym reach.reach.kept.run.serves) (apart_in told.registry now.entry past s now.orderly)) reach.reach.reached

  -- the questions that turns put, those of a first run within the list
  put_within : {past : List Passed} {put : ℕ} {s : State} → Runs most told.known loader means (begun_over told.known g from) past put s → PutIn (λ n. n ≤ length questions) told.known means.registry loader past put s.run
  put_within run =
      put_in (λ n. n ≤ length questions) (omega arith) ⊥ most told.known loader means over (first_run g from) (is_first g from) (mended_with ⊥ told.known.flags.is_dynamic g from no_circle)
      (λ past put s before comes has. within_run (subst (λ (b : State). Runs most told.known loader means b past put s) (sym (over_in told.known g from)) before) put has)
      (run_in most told.known loader means g from run)

  -- so many questions are enough
  enough_for : (put_before put_since still_open : ℕ) (begun : Run) → IsRunOf told g given begun → (is_second begun ≡ false → put_before ≡ 0) → put_before ≤ length questions → put_since + still_open ≤ length questions → put_before + put_since + still_open ≤ enough g given questions
  enough_for before after still_open begun is none within room = by (may_begin_again g given) refl begun is none
    where
      by : (b : Bool) → may_begin_again g given ≡ b → (run : Run) → IsRunOf told g given run → (is_second run ≡ false → before ≡ 0) → before + after + still_open ≤ (if b then length questions + length questions else length questions)
      by true t run is none = omega (arith, within, room)
      by false f run (once_run g) none = omega (arith, none refl, room)
      by false f run (first_of t) none = absurd (true≢false (sym t ∙ f))
      by false f run (due_of t lacks) none = absurd (true≢false (sym t ∙ f))
      by false f run (last_of t lacks found) none = absurd (true≢false (sym t ∙ f))

  -- a build that goes past its budget has more questions before it than that
  pub no_room : (budget : ℕ) → IsOver most told.known loader means (begun_over told.known g from) budget → enough g given questions ≤ budget → ⊥
  no_room budget over_it enough_is =
      let run = over_it.run in
      let s = over_it.state in
      let reach = reaching told g from loader means tells most m run in
      let now = at_told (ordered most told.known loader means g from no_circle run) in
      let w = told_for told reach.begun in
      let entry = entry_by told.known.flags.is_dynamic g from reach.begun in
      let has = put_within run in
      let knows = known_stage told reach.begun s.run reach.reach.kept.run.stage in
      let next = subst (λ (r : RegistryMeaning). IsNext loader w.known r s over_it.stage) tells.meant.registry_is (subst (λ (k : Known). IsNext loader k means.registry s over_it.stage) knows over_it.next) in
      let room = room_all w entry loader tells.answers questions (covers_run reach.begun reach.is_run) (begins_by told.known.flags.is_dynamic g from reach.begun) reach.reach now.entry over_it.stage (sym reach.reach.kept.run.serves) now.orderly next (has_told reach has.since_has) in
      let more_open = subst (λ (r : RegistryMeaning). budget < over_it.put + through over_it.stage + open_by w.known r s (next_of s)) tells.meant.registry_is
      (subst (λ (k : Known). budget < over_it.put + through over_it.stage + open_by k means.registry s (next_of s)) knows over_it.more_open) in
      let within = enough_for has.put_before has.put_since (through over_it.stage + open_by w.known w.registry s (next_of s)) reach.begun (run_begun_of told g given reach.begun reach.is_run)
      (λ f. has.none_before (not_second reach.begun s.run reach.reach.kept.run.stage f)) has.within (omega (arith, room)) in
      omega (arith, within, has.count, enough_is, more_open)

-- ---- a call that can't begin once more

-- so it is where loads of an entry are loaded again
pub no_room_once : (early : Type 0) (loader : Option World) (means : Means) (told : Told) (o : EnteredGraph) (outset : All IsOutset o.loads) (tells : IsTold loader means told o.graph.kind) (most : ℕ) → most ≡ told.world.max_redirects → IsMendedBy early o → (questions : List CountedQuestion) (budget : ℕ) → IsOver most told.known loader means (begun_at told.known o) budget → CoversFrom (told_for told Only) o questions → length questions ≤ budget → ⊥
no_room_once early loader means told o outset tells most m mended questions budget over_it covers enough_is =
    let run = over_it.run in
    let s = over_it.state in
    let w = told_for told Only in
    let reach = reaching_once told o outset loader means tells most m run in
    let now = subst (λ (r : RegistryMeaning). Ordered early told.known r o Only over_it.past s) tells.meant.registry_is (ordered_from early most told.known loader means o Only tt mended run) in
    let only : reach.begun ≡ Only = reach.is_run in
    let at_only = subst (λ r. Reaching (told_for told r) o (record { outset = outset; run = r }) over_it.past s) only reach.reach in
    let knows = known_stage told Only s.run at_only.kept.run.stage in
    let serves = sym at_only.kept.run.serves in
    let has = put_in (λ n. n ≤ 0) (omega arith) early most told.known loader means o Only tt mended (λ past put x before comes all. absurd (never_again before comes)) run in
    let none : has.put_before ≡ 0 = omega (arith, has.within) in
    let has_told = subst (λ (r : RegistryMeaning). HasPut w.known r w.metadata loader over_it.past has.put_since) tells.meant.registry_is (subst (λ (c : CacheSetting). HasPut w.known means.registry c loader over_it.past has.put_since) serves (subst (λ (k : Known). HasPut k means.registry (setting_for s.run) loader over_it.past has.put_since) knows has.since_has)) in
    let next = subst (λ (r : RegistryMeaning). IsNext loader w.known r s over_it.stage) tells.meant.registry_is (subst (λ (k : Known). IsNext loader k means.registry s over_it.stage) knows over_it.next) in
    let room = room_all w o loader tells.answers questions covers (record { outset = outset; run = Only }) at_only now.entry over_it.stage serves now.orderly next has_told in
    let more_open = subst (λ (r : RegistryMeaning). budget < over_it.put + through over_it.stage + open_by w.known r s (next_of s)) tells.meant.registry_is
    (subst (λ (k : Known). budget < over_it.put + through over_it.stage + open_by k means.registry s (next_of s)) knows over_it.more_open) in
    omega (arith, room, has.count, none, enough_is, more_open)
  where
    never_again : {past : List Passed} {put : ℕ} {x : State} → Runs most told.known loader means (begun_in told.known Only o) past put x → next_of x ≡ Restart → ⊥
    never_again {past} {put} {x} before comes =
        let reach = reaching_once told o outset loader means tells most m before in
        once_due told o outset past x reach (due_next x (next_of x) (how_next x) comes)
