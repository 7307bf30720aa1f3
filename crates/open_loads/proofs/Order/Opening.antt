-- Questions that are put ahead, one by one.
use Rattle.std.proofs.Common.{◌≡◌, ℕ, zero, suc, ◌-◌, ◌≤◌, ◌<◌, List, [], ◌∷◌, ◌++◌, length, drop, Bool, true, false, if◌then◌else◌, Option, None, Some, Result, slice_get, refl, sym, ap, ◌∙◌, subst, arith}
use Rattle.std.proofs.lemmas.Bool.{true≢false}
use Rattle.std.specs.Prelude.{is_some, option_map, IfOk}
use Rattle.std.specs.FinMap as finite
use Rattle.url.specs.Parts.{Parts}
use Rattle.spec_base.specs.Options.{by_option}
use Rattle.semver_npm.specs.declared.package.PackageNv.{PackageNv}
use Rattle.version_dates.specs.declared.newest_date.NewestDependencyDateOptions.{NewestDependencyDateOptions}
use Rattle.pkg_versions.specs.declared.resolver.JsrVersionResolver.{JsrVersionResolver}
use Rattle.source_io.specs.declared.types.Answer.{Answer}
use Rattle.source_io.specs.declared.types.CacheSetting.{CacheSetting}
use Rattle.source_io.specs.declared.types.Question.{Question}
use Rattle.registry_urls.specs.Meaning.{RegistryMeaning}
use Rattle.source_sums.specs.Manifests.{KnownManifests}
use Rattle.source_sums.specs.Sums.{KnownSums}
use Rattle.graph_errors.specs.declared.jsr_error.JsrLoadError.{JsrLoadError}
use Rattle.registry_files.specs.Answers.{FileAnswer}
use Rattle.module_slots.specs.declared.load.Load.{Load}
use Rattle.graph_turns.specs.declared.question_of.Asked.{Asked}
use Rattle.graph_turns.specs.declared.later_content.LaterContent.{LaterContent}
use Rattle.graph_turns.specs.declared.manner.Manner.{Manner}
use Rattle.graph_turns.specs.declared.manner.Manner.TheVariants.{Asks as IsAskedAs, Reads as ReadsFirst, Unread, Unsupported}
use Rattle.graph_turns.specs.declared.next.Next.{Next}
use Rattle.graph_turns.specs.declared.next.Next.TheVariants.{Notes, Load as ALoad, Wanted, Restart, Item, Versions, Exports, Deferred, Waiting, Dynamic, Content, End}
use Rattle.graph_turns.specs.declared.outcome.Outcome.{Outcome}
use Rattle.graph_turns.specs.declared.registry.RegistryFile.{RegistryFile}
use Rattle.graph_turns.specs.declared.registry.RegistryFile.TheVariants.{Package, PackageAgain, Version, Probe}
use Rattle.graph_turns.specs.declared.run.Run.{Run}
use Rattle.graph_turns.specs.declared.state.State.{State}
use Rattle.graph_turns.specs.Machine.Contents.{content_stored}
use Rattle.graph_turns.specs.Machine.Entering.{stored}
use Rattle.graph_turns.specs.Machine.Files.{file_kept}
use Rattle.graph_turns.specs.Machine.Known.{Known}
use Rattle.graph_turns.specs.Machine.Manners.{manner_of}
use Rattle.graph_turns.specs.Machine.Next.{next_of, stands}
use Rattle.graph_turns.specs.Machine.Outcomes.{failure_outcome}
use Rattle.graph_turns.specs.Machine.RegistryFiles.{wanted_kept}
use Rattle.graph_turns.specs.Machine.Runs.{manifests_for, setting_for, sums_for}
use Rattle.graph_turns.specs.Machine.Turns.{gone_on}
use Rattle.graph_turns.specs.Promise.Versions.{is_stored, kept_of, loaded, version_question}
use Rattle.open_loads.specs.declared.turn_stage.Stage.{Stage}
use Rattle.open_loads.specs.declared.turn_stage.Stage.TheVariants.{Idle, Asks, AsksAgain, Fills, Looks, Reads}
use Rattle.open_loads.specs.Order.Asking.{again_question, asked_question, file_url, wanted_question}
use Rattle.open_loads.specs.Order.OpenLoads.{OpenLoads, known_now}
use Rattle.open_loads.specs.Order.Numbered.{Arranged, GoesOn, again_by, ahead_all, ahead_by, asked_again, asked_first, asked_first_of, asked_now, begun_known, begun_so, content_begun, content_next, failed_first, failed_first_of, file_asked, file_begun, file_next, first_added, late, late_by, later_all, load_begun, load_next, manner_at, one_ahead, one_later, one_wanted, put, read_so, stored_begun, stored_read, turn_begun, turn_begun_by, wanted_all, wanted_by, with_added}

some_same : {X : Type 0} (x y : X) → Some x ≡ Some y → x ≡ y
some_same x y e = cc

-- what stands at a place and behind it
pub drop_at : {X : Type 0} (xs : List X) (i : ℕ) (x : X) → slice_get xs i ≡ Some x → drop i xs ≡ x ∷ drop (suc i) xs
drop_at [] i x e = cc
drop_at (y ∷ xs) zero x e = let same : y ≡ x = cc in ap (λ z. z ∷ xs) same
drop_at (y ∷ xs) (suc i) x e = drop_at xs i x e

pub drop_past : {X : Type 0} (xs : List X) (i : ℕ) → slice_get xs i ≡ None → drop i xs ≡ []
drop_past [] zero e = refl
drop_past [] (suc i) e = refl
drop_past (y ∷ xs) zero e = cc
drop_past (y ∷ xs) (suc i) e = drop_past xs i e

pub place_within : {X : Type 0} (xs : List X) (i : ℕ) (x : X) → slice_get xs i ≡ Some x → i < length xs
place_within [] i x e = cc
place_within (y ∷ xs) zero x e = omega arith
place_within (y ∷ xs) (suc i) x e = omega (arith, place_within xs i x e)

-- within a list something stands at each place, and past it nothing
pub place_at : {X : Type 0} (xs : List X) (i : ℕ) → i < length xs → (x : X) × (slice_get xs i ≡ Some x)
place_at [] i below = absurd (omega arith)
place_at (y ∷ xs) zero below = (y, refl)
place_at (y ∷ xs) (suc i) below = place_at xs i (omega arith)

pub past_places : {X : Type 0} (xs : List X) (i : ℕ) → length xs ≤ i → slice_get xs i ≡ None
past_places [] zero past = refl
past_places [] (suc i) past = refl
past_places (y ∷ xs) zero past = absurd (omega arith)
past_places (y ∷ xs) (suc i) past = past_places xs i (omega arith)

-- what stands where something was made of it
pub mapped_some : {X Y : Type 0} (f : X → Y) (o : Option X) (y : Y) → Some y ≡ option_map f o → (x : X) × (o ≡ Some x) × (y ≡ f x)
mapped_some f None y e = cc
mapped_some f (Some x) y e = (x, refl, some_same y (f x) e)

pub mapped_none : {X Y : Type 0} (f : X → Y) (o : Option X) → None ≡ option_map f o → o ≡ None
mapped_none f None e = refl
mapped_none f (Some x) e = cc

pub length_more : {X : Type 0} (xs : List X) (x : X) → length (xs ++ x ∷ []) ≡ suc (length xs)
length_more [] x = refl
length_more (y ∷ xs) x = ap suc (length_more xs x)

pub fewer_left : {X Y : Type 0} (xs : List X) (ys : List Y) (y : Y) (x : X) → slice_get xs (length ys) ≡ Some x → length xs - length (ys ++ y ∷ []) < length xs - length ys
fewer_left xs ys y x e = let below = place_within xs (length ys) x e in let more = length_more ys y in omega (arith, below, more)

-- ---- loads

-- the loads that have no place yet, by how the turn of the first one goes
next_by : (registry : RegistryMeaning) (b : OpenLoads) (load : Load) (m : Manner) → ahead_all registry (drop (suc (length b.behind)) b.state.loads) (ahead_by b load m) ≡ ahead_all registry (drop (length (ahead_by b load m).behind) (ahead_by b load m).state.loads) (ahead_by b load m)
next_by registry b load (IsAskedAs asked) = ap (λ n. ahead_all registry (drop n b.state.loads) (ahead_by b load (IsAskedAs asked))) (sym (length_more b.behind (Some (b.queued, asked))))
next_by registry b load (ReadsFirst nv) = ap (λ n. ahead_all registry (drop n b.state.loads) (ahead_by b load (ReadsFirst nv))) (sym (length_more b.behind None))
next_by registry b load (Unread name error) = ap (λ n. ahead_all registry (drop n b.state.loads) (ahead_by b load (Unread name error))) (sym (length_more b.behind None))
next_by registry b load Unsupported = ap (λ n. ahead_all registry (drop n b.state.loads) (ahead_by b load Unsupported)) (sym (length_more b.behind None))

-- the next load that has no place yet is put ahead
pub ahead_next : (registry : RegistryMeaning) (b : OpenLoads) (load : Load) → slice_get b.state.loads (length b.behind) ≡ Some load → ahead_all registry (drop (length b.behind) b.state.loads) b ≡ ahead_all registry (drop (length (one_ahead registry b load).behind) (one_ahead registry b load).state.loads) (one_ahead registry b load)
unfolding ahead_all
ahead_next registry b load e =
    ap (λ (ls : List Load). ahead_all registry ls b) (drop_at b.state.loads (length b.behind) load e)
    ∙ next_by registry b load (manner_at registry b load)

-- fewer are left then
fewer_by : (b : OpenLoads) (load : Load) (m : Manner) → slice_get b.state.loads (length b.behind) ≡ Some load → length (ahead_by b load m).state.loads - length (ahead_by b load m).behind < length b.state.loads - length b.behind
fewer_by b load (IsAskedAs asked) e = fewer_left b.state.loads b.behind (Some (b.queued, asked)) load e
fewer_by b load (ReadsFirst nv) e = fewer_left b.state.loads b.behind None load e
fewer_by b load (Unread name error) e = fewer_left b.state.loads b.behind None load e
fewer_by b load Unsupported e = fewer_left b.state.loads b.behind None load e

pub one_fewer : (registry : RegistryMeaning) (b : OpenLoads) (load : Load) → slice_get b.state.loads (length b.behind) ≡ Some load → length (one_ahead registry b load).state.loads - length (one_ahead registry b load).behind < length b.state.loads - length b.behind
one_fewer registry b load e = fewer_by b load (manner_at registry b load) e

pub ahead_none : (registry : RegistryMeaning) (b : OpenLoads) → slice_get b.state.loads (length b.behind) ≡ None → ahead_all registry (drop (length b.behind) b.state.loads) b ≡ b
unfolding ahead_all
ahead_none registry b e = ap (λ (ls : List Load). ahead_all registry ls b) (drop_past b.state.loads (length b.behind) e)

-- ---- contents

-- the question about the next content is put
pub later_next : (b : OpenLoads) (l : LaterContent) → slice_get b.state.contents (length b.later) ≡ Some l → later_all (drop (length b.later) b.state.contents) b ≡ later_all (drop (length (one_later b l).later) (one_later b l).state.contents) (one_later b l)
unfolding later_all
later_next b l e =
    ap (λ (ls : List LaterContent). later_all ls b) (drop_at b.state.contents (length b.later) l e)
    ∙ ap (λ n. later_all (drop n b.state.contents) (one_later b l)) (sym (length_more b.later b.queued))

pub later_none : (b : OpenLoads) → slice_get b.state.contents (length b.later) ≡ None → later_all (drop (length b.later) b.state.contents) b ≡ b
unfolding later_all
later_none b e = ap (λ (ls : List LaterContent). later_all ls b) (drop_past b.state.contents (length b.later) e)

-- ---- files

-- the question about the next file that a pass wants is put, unless the given store has its answer
file_places : (registry : RegistryMeaning) (b : OpenLoads) (file : RegistryFile) (z : Bool) → wanted_all registry (drop (suc (length b.wanted)) b.state.wanted) (wanted_by registry b file z) ≡ wanted_all registry (drop (length (wanted_by registry b file z).wanted) (wanted_by registry b file z).state.wanted) (wanted_by registry b file z)
file_places registry b file true = ap (λ n. wanted_all registry (drop n b.state.wanted) (wanted_by registry b file true)) (sym (length_more b.wanted None))
file_places registry b file false = ap (λ n. wanted_all registry (drop n b.state.wanted) (wanted_by registry b file false)) (sym (length_more b.wanted (Some (b.queued, file_url registry file))))

pub wanted_next : (registry : RegistryMeaning) (b : OpenLoads) (file : RegistryFile) → slice_get b.state.wanted (length b.wanted) ≡ Some file → wanted_all registry (drop (length b.wanted) b.state.wanted) b ≡ wanted_all registry (drop (length (one_wanted registry b file).wanted) (one_wanted registry b file).state.wanted) (one_wanted registry b file)
unfolding wanted_all
wanted_next registry b file e =
    ap (λ (fs : List RegistryFile). wanted_all registry fs b) (drop_at b.state.wanted (length b.wanted) file e)
    ∙ file_places registry b file (is_stored (known_now b).store file)

file_fewer : (registry : RegistryMeaning) (b : OpenLoads) (file : RegistryFile) (z : Bool) → slice_get b.state.wanted (length b.wanted) ≡ Some file → length (wanted_by registry b file z).state.wanted - length (wanted_by registry b file z).wanted < length b.state.wanted - length b.wanted
file_fewer registry b file true e = fewer_left b.state.wanted b.wanted None file e
file_fewer registry b file false e = fewer_left b.state.wanted b.wanted (Some (b.queued, file_url registry file)) file e

pub fewer_wanted : (registry : RegistryMeaning) (b : OpenLoads) (file : RegistryFile) → slice_get b.state.wanted (length b.wanted) ≡ Some file → length (one_wanted registry b file).state.wanted - length (one_wanted registry b file).wanted < length b.state.wanted - length b.wanted
fewer_wanted registry b file e = file_fewer registry b file (is_stored (known_now b).store file) e

pub wanted_none : (registry : RegistryMeaning) (b : OpenLoads) → slice_get b.state.wanted (length b.wanted) ≡ None → wanted_all registry (drop (length b.wanted) b.state.wanted) b ≡ b
unfolding wanted_all
wanted_none registry b e = ap (λ (fs : List RegistryFile). wanted_all registry fs b) (drop_past b.state.wanted (length b.wanted) e)

-- ---- the first question of a load, and that about a content

-- the first question of a load, and under what it is put
abbrev pub first_of : OpenLoads → Load → Asked → Question × Asked
first_of b load asked = (asked_question (known_now b) load asked, asked)

pub first_found : (b : OpenLoads) (load : Load) (o : Option Asked) (question : Question) (asked : Asked) → question ≡ asked_question (known_now b) load asked → Some asked ≡ o → ◌≡◌ {A = Option (Question × Asked)} (Some (question, asked)) (option_map (first_of b load) o)
first_found b load o question asked about is =
    ap (λ (q : Question). let p : Question × Asked = (q, asked) in Some p) about
    ∙ ap (λ (x : Option Asked). option_map (first_of b load) x) is

-- a content that is asked about under a ticket
pub later_put : (b now : OpenLoads) (l : LaterContent) (question : Question) (ticket : ℕ) (later : List ℕ) → record (put b question) { later = b.later ++ b.queued ∷ [] } ≡ one_later b l → now ≡ put b question → ticket ≡ b.queued → later ≡ now.later ++ ticket ∷ [] → record now { later = later } ≡ one_later b l
later_put b now l question ticket later about is number longer =
    ap (λ (x : List ℕ). record now { later = x }) longer
    ∙ ap (λ (s : OpenLoads). record s { later = s.later ++ ticket ∷ [] }) is
    ∙ ap (λ (t : ℕ). record (put b question) { later = b.later ++ t ∷ [] }) number
    ∙ about

-- ---- a turn that stands

abbrev pub flagged : Bool → OpenLoads → Bool × OpenLoads
flagged z b = (z, b)

-- at a place with the next ticket
pub stood : (b now : OpenLoads) (question : Question) (ticket : ℕ) (stage : ℕ → Stage) → now ≡ put b question → ticket ≡ b.queued → record now { stage = stage ticket } ≡ record (put b question) { stage = stage b.queued }
stood b now question ticket stage is number =
    ap (λ (s : OpenLoads). record s { stage = stage ticket }) is
    ∙ ap (λ (t : ℕ). record (put b question) { stage = stage t }) number

-- the first open load, and the others
pub first_open : (loads : List Load) (load : Load) → slice_get loads 0 ≡ Some load → (left : List Load) × (loads ≡ load ∷ left)
first_open [] load e = absurd (let wrong : None ≡ Some load = e in cc)
first_open (x ∷ xs) load e = (xs, ap (λ (l : Load). l ∷ xs) (some_same x load e))

pub none_open : (loads : List Load) → slice_get loads 0 ≡ None → loads ≡ []
none_open [] e = refl
none_open (x ∷ xs) e = absurd (let wrong : Some x ≡ None = e in cc)

module _ (b : OpenLoads) (load : Load) (e : slice_get b.state.loads 0 ≡ Some load) where
  -- it is asked about now
  pub asked_first_is : (asked : Asked) → asked_now b load asked ≡ asked_first b asked
  asked_first_is asked = sym (ap (asked_first_of b asked) (first_open b.state.loads load e).1)

  pub asked_stood : (now : OpenLoads) (asked : Asked) (question : Question) (ticket : ℕ) → question ≡ asked_question (known_now b) load asked → now ≡ put b question → ticket ≡ b.queued → record now { stage = Asks ticket asked } ≡ asked_first b asked
  asked_stood now asked question ticket about is number =
      stood b now question ticket (λ t. Asks t asked) is number
      ∙ ap (λ (q : Question). record (put b q) { stage = Asks b.queued asked }) about
      ∙ asked_first_is asked

  -- or once more
  pub again_stood : (now : OpenLoads) (asked : Asked) (first : Answer) (question : Question) (ticket : ℕ) → question ≡ again_question (known_now b) load asked → now ≡ put b question → ticket ≡ b.queued → record now { stage = AsksAgain ticket asked first } ≡ asked_again b asked first
  again_stood now asked first question ticket about is number =
      stood b now question ticket (λ t. AsksAgain t asked first) is number
      ∙ ap (λ (q : Question). record (put b q) { stage = AsksAgain b.queued asked first }) about
      ∙ sym (ap (again_by b asked first) (first_open b.state.loads load e).1)

  -- how its turn begins that wasn't put ahead
  pub late_so : (registry : RegistryMeaning) (m : Manner) → manner_at registry b load ≡ m → late registry b ≡ begun_so registry b load (first_open b.state.loads load e).0 m
  late_so registry m is = ap (late_by registry b) (first_open b.state.loads load e).1 ∙ ap (begun_so registry b load (first_open b.state.loads load e).0) is

-- what began under the same flag
pub flag_of : (z : Bool) (b new : OpenLoads) → b ≡ new → flagged z b ≡ flagged z new
flag_of z b new e = ap (flagged z) e

-- a step that began stands, or passes
pub begun_as : (registry : RegistryMeaning) (newest : NewestDependencyDateOptions) (b next : OpenLoads) (due stands : Bool) → turn_begun registry newest b ≡ (due, next) → due ≡ stands → turn_begun registry newest b ≡ (stands, next)
begun_as registry newest b next due stands begun is = begun ∙ ap (λ z. flagged z next) is

-- ---- the file of a version that the first load's URL names

-- it stands in the given store, or is asked about
pub read_none : (registry : RegistryMeaning) (b now : OpenLoads) (load : Load) (loads : List Load) (nv : PackageNv) (o : Option FileAnswer) → is_some o ≡ false → now ≡ by_option o b (stored_read registry b nv) → read_so registry b load loads nv o ≡ (true, file_asked registry now nv)
read_none registry b now load loads nv None e is = ap (λ (x : OpenLoads). flagged true (file_asked registry x nv)) (sym is)
read_none registry b now load loads nv (Some answer) e is = absurd (true≢false e)

-- it was read there, and the turn begins in the manner that it gives
pub read_some : (registry : RegistryMeaning) (b now : OpenLoads) (load : Load) (loads : List Load) (nv : PackageNv) (o : Option FileAnswer) → is_some o ≡ true → now ≡ by_option o b (stored_read registry b nv) → read_so registry b load loads nv o ≡ begun_known registry now load loads (manner_at registry now load)
read_some registry b now load loads nv None e is = absurd (true≢false (sym e))
read_some registry b now load loads nv (Some answer) e is = ap (λ (x : OpenLoads). begun_known registry x load loads (manner_at registry x load)) (sym is)

-- the open loads stay then
pub read_loads : (registry : RegistryMeaning) (b now : OpenLoads) (nv : PackageNv) (o : Option FileAnswer) → now ≡ by_option o b (stored_read registry b nv) → now.state.loads ≡ b.state.loads
read_loads registry b now nv o is = ap (λ (x : OpenLoads). x.state.loads) is ∙ by o
  where
    by : (o : Option FileAnswer) → (by_option o b (stored_read registry b nv)).state.loads ≡ b.state.loads
    by None = refl
    by (Some answer) = refl

-- ---- a turn that goes on

-- it stands
pub goes_stands : (registry : RegistryMeaning) (newest : NewestDependencyDateOptions) (b old new : OpenLoads) (z : Bool) → b ≡ old → late registry b ≡ (z, new) → z ≡ true → GoesOn registry newest (late registry old) new
goes_stands registry newest b old new z same begun is =
    subst (λ (x : OpenLoads). GoesOn registry newest (late registry x) new) same
    (subst (λ (p : Bool × OpenLoads). GoesOn registry newest p new) (sym (begun ∙ ap (λ y. flagged y new) is)) refl)

-- or the next ones begin
pub goes_passes : (registry : RegistryMeaning) (newest : NewestDependencyDateOptions) (b old next new : OpenLoads) (z : Bool) → b ≡ old → late registry b ≡ (z, next) → z ≡ false → Arranged registry newest next new → GoesOn registry newest (late registry old) new
goes_passes registry newest b old next new z same begun is more =
    subst (λ (x : OpenLoads). GoesOn registry newest (late registry x) new) same
    (subst (λ (p : Bool × OpenLoads). GoesOn registry newest p new) (sym (begun ∙ ap (λ y. flagged y next) is)) more)

-- over the file that was kept
pub file_over : (registry : RegistryMeaning) (old now : OpenLoads) (nv : PackageNv) (a : Answer) → old.stage ≡ Idle → now ≡ with_added (record old { state = file_kept old.state nv (kept_of registry nv (loaded a)) }) (Version nv) (loaded a) → now ≡ with_added (record old { state = file_kept old.state nv (kept_of registry nv (loaded a)); stage = Idle }) (Version nv) (loaded a)
file_over registry old now nv a idle is =
    is ∙ ap (λ (s : Stage). with_added (record old { state = file_kept old.state nv (kept_of registry nv (loaded a)); stage = s }) (Version nv) (loaded a)) idle

-- or the answer about the first file that a pass wants
pub wanted_over : (registry : RegistryMeaning) (old now : OpenLoads) (a : Answer) → old.stage ≡ Idle → now ≡ first_added (record old { state = wanted_kept registry old.state (loaded a) }) (loaded a) old.state.wanted → now ≡ first_added (record old { state = wanted_kept registry old.state (loaded a); stage = Idle }) (loaded a) old.state.wanted
wanted_over registry old now a idle is =
    is ∙ ap (λ (s : Stage). first_added (record old { state = wanted_kept registry old.state (loaded a); stage = s }) (loaded a) old.state.wanted) idle

-- over what a load gave that was taken
pub stored_over : (registry : RegistryMeaning) (newest : NewestDependencyDateOptions) (b old new : OpenLoads) (state : State) (load : Load) (outcome : Outcome) → b ≡ old → state ≡ stored b.redirects b.state load outcome → Arranged registry newest (record b { state = state; stage = Idle }) new → Arranged registry newest (record old { state = stored old.redirects old.state load outcome; stage = Idle }) new
stored_over registry newest b old new state load outcome same kept is =
    subst (λ (x : OpenLoads). Arranged registry newest (record x { state = stored x.redirects x.state load outcome; stage = Idle }) new) same
    (subst (λ (s : State). Arranged registry newest (record b { state = s; stage = Idle }) new) kept is)

-- over a state that went on
pub gone_over : (b old : OpenLoads) (state : State) (goes : State → State) → b ≡ old → state ≡ goes b.state → record b { state = state } ≡ record old { state = goes old.state }
gone_over b old state goes same is = ap (λ (s : State). record b { state = s }) is ∙ ap (λ (x : OpenLoads). record x { state = goes x.state }) same

-- over the content that was stored
pub content_over : (b old : OpenLoads) (a : Answer) (state : State) → b ≡ old → old.stage ≡ Idle → state ≡ content_stored b.state a → record b { state = state } ≡ record old { state = content_stored old.state a; stage = Idle }
content_over b old a state same idle is =
    ap (λ (s : State). record b { state = s }) is
    ∙ ap (λ (x : OpenLoads). record x { state = content_stored x.state a }) same
    ∙ ap (λ (s : Stage). record old { state = content_stored old.state a; stage = s }) idle

-- ---- how the next turn begins

-- the question of the first load was put ahead
pub load_some : (registry : RegistryMeaning) (b now new : OpenLoads) (p : ℕ × Asked) (ps : List (Option (ℕ × Asked))) → b ≡ now → b.behind ≡ Some p ∷ ps → new ≡ record b { behind = ps; stage = Asks p.0 p.1 } → load_next registry now ≡ (true, new)
load_some registry b now new p ps same e is =
    subst (λ (x : OpenLoads). load_next registry x ≡ (true, new)) same
    (ap (load_begun registry b) e ∙ ap (flagged true) (sym is))

-- it wasn't, and the turn begins late
pub load_gap : {E : Type 0} (r : Result Bool E) (registry : RegistryMeaning) (b now new : OpenLoads) (ps : List (Option (ℕ × Asked))) → b ≡ now → b.behind ≡ None ∷ ps → IfOk r (λ due. late registry (record b { behind = ps }) ≡ (due, new)) → IfOk r (λ due. load_next registry now ≡ (due, new))
load_gap r registry b now new ps same e is =
    subst (λ (x : Bool × OpenLoads). IfOk r (λ due. x ≡ (due, new))) (sym (ap (load_begun registry b) e) ∙ ap (load_next registry) same) is

-- none has a place
pub load_none : (registry : RegistryMeaning) (b now new : OpenLoads) (ps : List (Option (ℕ × Asked))) → b ≡ now → b.behind ≡ [] → ps ≡ b.behind → new ≡ record b { behind = ps } → load_next registry now ≡ (true, new)
load_none registry b now new ps same e is new_is =
    subst (λ (x : OpenLoads). load_next registry x ≡ (true, new)) same
    (ap (load_begun registry b) e ∙ ap (flagged true) (sym (new_is ∙ ap (λ (l : List (Option (ℕ × Asked))). record b { behind = l }) is)))

-- the question about the first file was put
pub file_some : (registry : RegistryMeaning) (b now new : OpenLoads) (p : ℕ × Parts) (ps : List (Option (ℕ × Parts))) → b ≡ now → b.wanted ≡ Some p ∷ ps → new ≡ record b { wanted = ps; stage = Looks p.0 p.1 } → file_next registry now ≡ (true, new)
file_some registry b now new p ps same e is =
    subst (λ (x : OpenLoads). file_next registry x ≡ (true, new)) same
    (ap (file_begun registry b) e ∙ ap (flagged true) (sym is))

-- it wasn't, as the given store has its answer
pub file_gap : {E : Type 0} (r : Result Bool E) (registry : RegistryMeaning) (b now new : OpenLoads) (ps : List (Option (ℕ × Parts))) → b ≡ now → b.wanted ≡ None ∷ ps → IfOk r (λ due. stored_begun registry (record b { wanted = ps }) b.state.wanted ≡ (due, new)) → IfOk r (λ due. file_next registry now ≡ (due, new))
file_gap r registry b now new ps same e is =
    subst (λ (x : Bool × OpenLoads). IfOk r (λ due. x ≡ (due, new))) (sym (ap (file_begun registry b) e) ∙ ap (file_next registry) same) is

pub file_none : (registry : RegistryMeaning) (b now new : OpenLoads) (ps : List (Option (ℕ × Parts))) → b ≡ now → b.wanted ≡ [] → ps ≡ b.wanted → new ≡ record b { wanted = ps } → file_next registry now ≡ (true, new)
file_none registry b now new ps same e is new_is =
    subst (λ (x : OpenLoads). file_next registry x ≡ (true, new)) same
    (ap (file_begun registry b) e ∙ ap (flagged true) (sym (new_is ∙ ap (λ (l : List (Option (ℕ × Parts))). record b { wanted = l }) is)))

-- the question about the first content
pub content_some : (b now new : OpenLoads) (t : ℕ) (ts : List ℕ) → b ≡ now → b.later ≡ t ∷ ts → new ≡ record b { later = ts; stage = Fills t } → new ≡ content_next now
content_some b now new t ts same e is = is ∙ sym (ap (content_begun b) e) ∙ ap content_next same

pub content_none : (b now new : OpenLoads) (ts : List ℕ) → b ≡ now → b.later ≡ [] → ts ≡ b.later → new ≡ record b { later = ts } → new ≡ content_next now
content_none b now new ts same e is new_is = new_is ∙ ap (λ (l : List ℕ). record b { later = l }) is ∙ sym (ap (content_begun b) e) ∙ ap content_next same

-- ---- the first load's manner, where one is open

-- no load is open where none has a manner
pub late_none : (registry : RegistryMeaning) (b : OpenLoads) → None ≡ option_map (λ load. manner_at registry b load) (slice_get b.state.loads 0) → late registry b ≡ (true, b)
late_none registry b e = ap (late_by registry b) (none_open b.state.loads (mapped_none (manner_at registry b) (slice_get b.state.loads 0) e))

-- else it begins in that
pub late_known : {E : Type 0} (r : Result Bool E) (registry : RegistryMeaning) (b new : OpenLoads) (m : Manner) → Some m ≡ option_map (λ load. manner_at registry b load) (slice_get b.state.loads 0) → ((load : Load) (loads : List Load) → b.state.loads ≡ load ∷ loads → IfOk r (λ due. begun_so registry b load loads m ≡ (due, new))) → IfOk r (λ due. late registry b ≡ (due, new))
late_known r registry b new m is all =
    let at = mapped_some (manner_at registry b) (slice_get b.state.loads 0) m is in
    let open_first = first_open b.state.loads at.0 at.1 in
    subst (λ (x : Bool × OpenLoads). IfOk r (λ due. x ≡ (due, new))) (sym (late_so b at.0 at.1 registry m (sym at.2))) (all at.0 open_first.0 open_first.1)

-- the same once a file was read in the given store
pub read_known : {E : Type 0} (r : Result Bool E) (registry : RegistryMeaning) (b now new : OpenLoads) (load : Load) (loads : List Load) (nv : PackageNv) (o : Option FileAnswer) (m : Manner) → is_some o ≡ true → now ≡ by_option o b (stored_read registry b nv) → b.state.loads ≡ load ∷ loads → Some m ≡ option_map (λ x. manner_at registry now x) (slice_get now.state.loads 0) → ((x : Load) (xs : List Load) → now.state.loads ≡ x ∷ xs → IfOk r (λ due. begun_known registry now x xs m ≡ (due, new))) → IfOk r (λ due. read_so registry b load loads nv o ≡ (due, new))
read_known r registry b now new load loads nv o m here is first manner all =
    let open_first : now.state.loads ≡ load ∷ loads = read_loads registry b now nv o is ∙ first in
    let same : m ≡ manner_at registry now load = some_same m (manner_at registry now load) (manner ∙ ap (λ (l : List Load). option_map (λ x. manner_at registry now x) (slice_get l 0)) open_first) in
    subst (λ (x : Bool × OpenLoads). IfOk r (λ due. x ≡ (due, new))) (ap (begun_known registry now load loads) same ∙ sym (read_some registry b now load loads nv o here is)) (all load loads open_first)

pub read_stands : (registry : RegistryMeaning) (b now : OpenLoads) (load : Load) (loads : List Load) (nv : PackageNv) (o : Option FileAnswer) → now ≡ by_option o b (stored_read registry b nv) → b.state.loads ≡ load ∷ loads → None ≡ option_map (λ x. manner_at registry now x) (slice_get now.state.loads 0) → ⊥
read_stands registry b now load loads nv o is first none =
    let gone : now.state.loads ≡ [] = none_open now.state.loads (mapped_none (manner_at registry now) (slice_get now.state.loads 0) none) in
    let wrong : load ∷ loads ≡ [] = sym first ∙ sym (read_loads registry b now nv o is) ∙ gone in
    cc

-- ---- the place of a file

-- the answer about it stands in the given store
pub file_stored : (registry : RegistryMeaning) (b : OpenLoads) (file : RegistryFile) (question : Question) → None ≡ (if is_stored (known_now b).store file then None else Some question) → record b { wanted = b.wanted ++ None ∷ [] } ≡ one_wanted registry b file
file_stored registry b file question e = by (is_stored (known_now b).store file) e
  where
    by : (z : Bool) → None ≡ (if z then None else Some question) → record b { wanted = b.wanted ++ None ∷ [] } ≡ wanted_by registry b file z
    by true e = refl
    by false e = absurd (let wrong : None ≡ Some question = e in cc)

-- or it is asked about
wanted_at : (setting : CacheSetting) (known : Known) (file : RegistryFile) (at : Parts) → (wanted_question setting known file at).specifier ≡ at
wanted_at setting known (Package name) at = refl
wanted_at setting known (PackageAgain name) at = refl
wanted_at setting known (Version nv) at = refl
wanted_at setting known (Probe nv) at = refl

pub file_placed : (registry : RegistryMeaning) (b : OpenLoads) (file : RegistryFile) (question : Question) → Some question ≡ (if is_stored (known_now b).store file then None else Some (wanted_question (setting_for b.state.run) (known_now b) file (file_url registry file))) → record (put b question) { wanted = b.wanted ++ Some (b.queued, question.specifier) ∷ [] } ≡ one_wanted registry b file
file_placed registry b file question e = by (is_stored (known_now b).store file) e
  where
    about : Question
    about = wanted_question (setting_for b.state.run) (known_now b) file (file_url registry file)

    placed : question ≡ about → record (put b question) { wanted = b.wanted ++ Some (b.queued, question.specifier) ∷ [] } ≡ wanted_by registry b file false
    placed same =
        ap (λ (q : Question). record (put b q) { wanted = b.wanted ++ Some (b.queued, q.specifier) ∷ [] }) same
        ∙ ap (λ (a : Parts). record (put b about) { wanted = b.wanted ++ Some (b.queued, a) ∷ [] }) (wanted_at (setting_for b.state.run) (known_now b) file (file_url registry file))

    by : (z : Bool) → Some question ≡ (if z then None else Some about) → record (put b question) { wanted = b.wanted ++ Some (b.queued, question.specifier) ∷ [] } ≡ wanted_by registry b file z
    by true e = absurd (let wrong : Some question ≡ None = e in cc)
    by false e = placed (some_same question about e)

-- ---- the registry of a maker

-- turns that begin by a maker's registry begin by what the maker has
pub arranged_by : {U : Type 0} (meaning : U → RegistryMeaning) (urls of_maker : U) (versions of_maker_too : JsrVersionResolver) (b new : OpenLoads) → urls ≡ of_maker → versions ≡ of_maker_too → Arranged (meaning urls) versions.newest_dependency_date_options b new → Arranged (meaning of_maker) of_maker_too.newest_dependency_date_options b new
arranged_by meaning urls of_maker versions of_maker_too b new same as_well is =
    subst (λ u. Arranged (meaning u) of_maker_too.newest_dependency_date_options b new) same
    (subst (λ (v : JsrVersionResolver). Arranged (meaning urls) v.newest_dependency_date_options b new) as_well is)

-- ---- a turn by what is known now

-- the manner of a load
pub manner_by : {E : Type 0} (r : Result Manner E) (registry : RegistryMeaning) (b old : OpenLoads) (load : Load) (sums : Option KnownSums) (run : Run) → b ≡ old → sums ≡ old.known.sums → run ≡ old.state.run → IfOk r (λ m. m ≡ manner_of (sums_for sums run) registry (finite.get b.state.files) load.specifier load.context) → IfOk r (λ m. m ≡ manner_at registry old load)
manner_by r registry b old load sums run same known goes is =
    subst (λ (x : OpenLoads). IfOk r (λ m. m ≡ manner_of (sums_for old.known.sums old.state.run) registry (finite.get x.state.files) load.specifier load.context)) same
    (subst (λ (k : Option KnownSums). IfOk r (λ m. m ≡ manner_of (sums_for k old.state.run) registry (finite.get b.state.files) load.specifier load.context)) known
    (subst (λ (x : Run). IfOk r (λ m. m ≡ manner_of (sums_for sums x) registry (finite.get b.state.files) load.specifier load.context)) goes is))

-- the file of a version is asked about
pub file_stood : (registry : RegistryMeaning) (b now : OpenLoads) (nv : PackageNv) (setting : CacheSetting) (manifests : Option KnownManifests) (run : Run) (question : Question) (ticket : ℕ) (at : Parts) → setting ≡ setting_for b.state.run → manifests ≡ b.known.manifests → run ≡ b.state.run → question ≡ version_question setting registry (manifests_for manifests run) nv → at ≡ question.specifier → now ≡ put b question → ticket ≡ b.queued → record now { stage = Reads ticket nv at } ≡ file_asked registry b nv
file_stood registry b now nv setting manifests run question ticket at under known goes about lies is number =
    stood b now question ticket (λ t. Reads t nv at) is number
    ∙ ap (λ (a : Parts). record (put b question) { stage = Reads b.queued nv a }) lies
    ∙ ap (λ (q : Question). record (put b q) { stage = Reads b.queued nv q.specifier }) asked
  where
    asked : question ≡ version_question (setting_for b.state.run) registry (manifests_for b.known.manifests b.state.run) nv
    asked =
        about
        ∙ ap (λ (s : CacheSetting). version_question s registry (manifests_for manifests run) nv) under
        ∙ ap (λ (k : Option KnownManifests). version_question (setting_for b.state.run) registry (manifests_for k run) nv) known
        ∙ ap (λ (x : Run). version_question (setting_for b.state.run) registry (manifests_for b.known.manifests x) nv) goes

-- the first open load failed without a question, at a name or where it leads
pub failed_over : (b old : OpenLoads) (name : Option Parts) (at : Parts) (e : JsrLoadError) (rest : State) (load : Load) (outcome : Outcome) (state : State) → b ≡ old → b.state ≡ record rest { loads = load ∷ rest.loads } → at ≡ by_option name load.specifier (λ x. x) → outcome ≡ failure_outcome load.context at e → state ≡ stored b.redirects rest load outcome → record b { state = state } ≡ failed_first old name e
failed_over b old name at e rest load outcome state same was named fails kept =
    ap (λ (s : State). record b { state = s }) kept
    ∙ ap (λ (x : OpenLoads). record x { state = stored x.redirects rest load outcome }) same
    ∙ ap (λ (o : Outcome). record old { state = stored old.redirects rest load o }) (fails ∙ ap (λ (n : Parts). failure_outcome load.context n e) named)
    ∙ sym (ap (λ (s : State). failed_first_of (record old { state = s }) name e s.loads) (ap (λ (x : OpenLoads). x.state) (sym same) ∙ was))

-- ---- a step

silent_gone : (registry : RegistryMeaning) (newest : NewestDependencyDateOptions) (b : OpenLoads) (n : Next) → stands n ≡ false → turn_begun_by registry newest b n ≡ flagged false (record b { state = gone_on registry newest b.state n })
silent_gone registry newest b Notes t = refl
silent_gone registry newest b ALoad t = absurd (true≢false t)
silent_gone registry newest b Wanted t = absurd (true≢false t)
silent_gone registry newest b Restart t = refl
silent_gone registry newest b Item t = refl
silent_gone registry newest b Versions t = refl
silent_gone registry newest b Exports t = refl
silent_gone registry newest b Deferred t = refl
silent_gone registry newest b Waiting t = refl
silent_gone registry newest b Dynamic t = refl
silent_gone registry newest b Content t = absurd (true≢false t)
silent_gone registry newest b End t = absurd (true≢false t)

-- it begins by what comes next
pub step_as : {E : Type 0} (r : Result Bool E) (registry : RegistryMeaning) (newest : NewestDependencyDateOptions) (b new : OpenLoads) (n : Next) → next_of b.state ≡ n → IfOk r (λ due. turn_begun_by registry newest b n ≡ (due, new)) → IfOk r (λ due. turn_begun registry newest b ≡ (due, new))
step_as r registry newest b new n e is = subst (λ (x : Bool × OpenLoads). IfOk r (λ due. x ≡ (due, new))) (sym (ap (turn_begun_by registry newest b) e)) is

-- what needs no answer is done
pub step_gone : (registry : RegistryMeaning) (newest : NewestDependencyDateOptions) (b old new : OpenLoads) (n : Next) (state : State) → b ≡ old → next_of old.state ≡ n → stands n ≡ false → state ≡ gone_on registry newest b.state n → new ≡ record b { state = state } → turn_begun registry newest old ≡ (false, new)
step_gone registry newest b old new n state same e silent is now =
    ap (turn_begun_by registry newest old) e ∙ silent_gone registry newest old n silent
    ∙ ap (flagged false) (sym (now ∙ ap (λ (s : State). record b { state = s }) is ∙ ap (λ (x : OpenLoads). record x { state = gone_on registry newest x.state n }) same))
