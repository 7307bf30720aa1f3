-- Kept answers are used in turn.
use Rattle.std.proofs.Common.{◌≡◌, ◌≢◌, ℕ, suc, ◌+◌, ◌≤◌, List, [], ◌∷◌, ◌++◌, length, Bool, true, false, if◌then◌else◌, Option, None, Some, refl, sym, ap, ◌∙◌, subst, inl, inr, ◌⊎◌, ⊎_elim, arith}
use Rattle.std.specs.Prelude.{OnOk, Result, Ok, Err, option_map}
use Rattle.std.specs.List.{All}
use Rattle.std.specs.FinMap as finite
use Rattle.std.proofs.lemmas.List.Elements.{All-cons, All-tail}
use Rattle.semver_npm.specs.declared.package.PackageNv.{PackageNv}
use Rattle.url.specs.Parts.{Parts}
use Rattle.source_io.specs.declared.types.Answer.{Answer}
use Rattle.source_io.specs.declared.types.CacheSetting.{CacheSetting}
use Rattle.source_io.specs.declared.types.Question.{Question}
use Rattle.source_io.specs.declared.types.World.{World}
use Rattle.registry_urls.specs.Meaning.{RegistryMeaning}
use Rattle.registry_files.specs.Answers.{FileAnswer}
use Rattle.registry_files.specs.Kept.{Versions}
use Rattle.module_slots.specs.declared.load.Load.{Load}
use Rattle.graph_turns.specs.declared.question_of.Asked.{Asked}
use Rattle.graph_turns.specs.declared.later_content.LaterContent.{LaterContent}
use Rattle.graph_turns.specs.declared.manner.Manner.TheVariants.{Asks as IsAskedAs}
use Rattle.graph_turns.specs.declared.next.Next.TheVariants.{Load as ALoad, Wanted, Content}
use Rattle.graph_turns.specs.declared.outcome.Outcome.{Outcome}
use Rattle.graph_turns.specs.declared.registry.RegistryFile.{RegistryFile}
use Rattle.graph_turns.specs.declared.registry.RegistryFile.TheVariants.{Package, PackageAgain, Version, Probe}
use Rattle.graph_turns.specs.declared.run.Run.{Run}
use Rattle.graph_turns.specs.declared.state.State.{State}
use Rattle.graph_turns.specs.Machine.Contents.{content_by, content_placed, content_stored}
use Rattle.graph_turns.specs.Machine.Entering.{stored}
use Rattle.graph_turns.specs.Machine.Files.{file_kept}
use Rattle.graph_turns.specs.Machine.Held.{AreNamed, IsHeld, IsReadAt}
use Rattle.graph_turns.specs.Machine.Known.{Known}
use Rattle.graph_turns.specs.Machine.Next.{next_of}
use Rattle.graph_turns.specs.Machine.Outcomes.{Suits}
use Rattle.graph_turns.specs.Machine.RegistryFiles.{wanted_kept}
use Rattle.graph_turns.specs.Machine.Runs.{is_second, known_for, setting_for}
use Rattle.graph_turns.specs.Machine.Turns.{IsIdle, manner_in}
use Rattle.graph_turns.specs.Promise.Contents.{content_question}
use Rattle.graph_turns.specs.Promise.Taken.{asks_again, counted_of}
use Rattle.graph_turns.specs.Promise.Versions.{file_question, kept_of, loaded, manifest_at, metadata_question, store_with, version_question}
use Rattle.graph_turns.proofs.Entering.Files.{files_kept, files_wanted, named_file, named_kept, named_wanted}
use Rattle.graph_turns.proofs.Entering.Held.{IsReadFor, held_file, held_stored, held_taken, held_wanted}
use Rattle.graph_turns.proofs.Entering.Next.NextIs.{content as comes_content}
use Rattle.graph_turns.proofs.Entering.Rested.{Stores, stores}
use Rattle.graph_turns.proofs.Entering.Resting.{next_as}
use Rattle.open_loads.specs.declared.turn_stage.Stage.{Stage}
use Rattle.open_loads.specs.declared.turn_stage.Stage.TheVariants.{Idle, Asks, AsksAgain, Reads, Looks, Fills}
use Rattle.open_loads.specs.Budget.Runs.{Answered, Filled, LookedUp as PassedFile, MayCost, MayGive, Read, store_of}
use Rattle.open_loads.specs.Budget.Runs.MayCost.{once as cost_once, twice as cost_twice}
use Rattle.open_loads.specs.Budget.Runs.Runs.{answered as run_answered, read as run_read, looked_up as run_looked_up, filled as run_filled}
use Rattle.open_loads.specs.Order.Asking.{AnswersAs, AreAhead, AreStored, AreWanted, IsNext, again_question, asked_question, awaited, file_url, through, wanted_question}
use Rattle.open_loads.specs.Order.Asking.IsNext.{asks_again_by}
use Rattle.open_loads.specs.Order.Unused.{Due, IsDue, behind_first, content_dues, dues_of, file_dues, files_behind, loads_behind}
use Rattle.open_loads.specs.Order.Means.{Means}
use Rattle.open_loads.specs.Order.OpenLoads.{OpenLoads, known_now}
use Rattle.open_loads.specs.Order.Numbered.{Arranged, GoesOn, again_by, asked_again, filled_store, first_added, late}
use Rattle.open_loads.specs.Order.Ordered.{FitsContent, FitsFile, FitsLoad, FitsTurn, IsAheadRead, EndsWithAnswer, IsBuilding, IsCaughtUp, IsFilled, IsInFlight, IsInOrder, IsLookedUp, IsRead, IsResting, IsStageRead, IsUsed, IsUsedAt, IsUsedFirst, TakesOut, TakesAnswer, all_due, asked_at, IsToldAnswer}
use Rattle.open_loads.proofs.Order.Counts.{gives_first, gives_second, next_again, next_asks, next_looks, next_reads}
use Rattle.open_loads.proofs.Order.Dues.{adds_as, adds_put, append_none, dues_short, length_both, numbered_came, right_came}
use Rattle.open_loads.proofs.Order.Coming.{IsReady, LookedUp, asked_due, content_next_is, file_next_is, files_come, fits_over, load_comes, load_next_is, looked_up, whole}
use Rattle.open_loads.proofs.Order.InOrder.{AreRead, Builds, Follows, ahead_more, ahead_over, arranged_of, due_idle, late_of, read_more}
use Rattle.open_loads.proofs.Order.Tickets.{put_same, put_other}
use Rattle.open_loads.proofs.Order.Used.{one_waits, none_waits, Built, Uses, caught_by, dues_by, head_dues, head_ahead, added_by, with_added_is, added_store, left_by, led_put, uses_follows}

-- ---- the turn of a load ends

module _ (means : Means) (before new : OpenLoads) (ticket : ℕ) (a : Answer) (asked : Asked) (question : Question) (load : Load) (rest : State) (outcome : Outcome) (was : before.state ≡ record rest { loads = load ∷ rest.loads }) (comes : next_of before.state ≡ ALoad) (fits : FitsLoad before) (head_is : all_due before ≡ record { ticket = ticket; question = question } ∷ dues_of (known_now before) before.behind rest.loads) (suits : Suits load asked outcome) (order : IsInOrder before) (counts : IsReadAt (finite.get before.state.files) asked.held) where
  -- what it leaves once what the answer gives is stored
  abbrev after : State
  after = stored before.redirects rest load outcome

  after_stores : Stores rest after
  after_stores = stores before.redirects rest load outcome

  grown : (added : List Load) × (after.loads ≡ rest.loads ++ added)
  grown = after_stores.grows

  long : length rest.loads ≡ length before.behind
  long = let l : length before.state.loads ≡ suc (length rest.loads) = ap (λ (x : State). length x.loads) was in let m = fits.places in omega (arith, l, m)

  rest_files : rest.files ≡ before.state.files
  rest_files = ap (λ (x : State). x.files) (sym was)

  same_files : after.files ≡ before.state.files
  same_files = after_stores.files ∙ rest_files

  same_run : after.run ≡ before.state.run
  same_run = after_stores.run ∙ ap (λ (x : State). x.run) (sym was)

  same_known : known_for before.known after.run ≡ known_now before
  same_known = ap (known_for before.known) same_run

  abbrev over : OpenLoads
  over = left_by before ticket after before.behind before.added

  over_ready : IsReady over
  over_ready = record {
    idle = refl;
    loads_fit = let l = long in let g : length after.loads ≡ length (rest.loads ++ grown.0) = ap length grown.1 in let m = length_both rest.loads grown.0 in omega (arith, l, g, m);
    files_fit = inl fits.no_file;
    contents_fit = inl fits.no_content;
    stored = subst (λ (ws : List (Option (ℕ × Parts))). AreStored (known_for before.known after.run).store ws after.wanted) (sym fits.no_file) tt;
  }

  over_dues : due_idle over ≡ dues_of (known_now before) before.behind rest.loads
  over_dues =
      ap (λ (ws : List (Option (ℕ × Parts))). dues_of (known_for before.known after.run) before.behind after.loads ++ (file_dues (setting_for after.run) (known_for before.known after.run) ws after.wanted ++ content_dues (known_for before.known after.run) before.later after.contents)) fits.no_file
      ∙ ap (λ (ts : List ℕ). dues_of (known_for before.known after.run) before.behind after.loads ++ content_dues (known_for before.known after.run) ts after.contents) fits.no_content
      ∙ append_none (dues_of (known_for before.known after.run) before.behind after.loads)
      ∙ ap (λ (k : Known). dues_of k before.behind after.loads) same_known
      ∙ ap (dues_of (known_now before) before.behind) grown.1
      ∙ dues_short (known_now before) before.behind rest.loads grown.0 (let l = long in omega (arith, l))

  over_held : IsHeld after
  over_held =
      let h : IsHeld rest × IsReadFor rest load = held_taken before.state rest load was order.held in
      held_stored before.redirects rest load asked outcome h.0 h.1 (subst (λ (v : Versions). IsReadAt (finite.get v) asked.held) (sym rest_files) counts) suits

  over_read : AreRead over
  over_read = record {
    held = over_held;
    named = subst (λ (v : Versions). AreNamed (finite.get v)) (sym same_files) order.named;
    ahead_read = subst (λ (v : Versions). All (IsAheadRead (finite.get v)) before.behind) (sym same_files) order.ahead_read;
  }

  over_ahead : AreAhead (known_now before) means.registry before.state before.behind rest.loads → AreAhead (known_for before.known after.run) means.registry after before.behind after.loads
  over_ahead ahead =
      subst (λ (k : Known). AreAhead k means.registry after before.behind after.loads) (sym same_known)
      (subst (AreAhead (known_now before) means.registry after before.behind) (sym grown.1) (ahead_over (known_now before) means.registry before.state after before.behind rest.loads grown.0 same_files ahead))

  -- the next one began
  module _ (is_now : Arranged means.registry means.newest over new) where
    over_ran : (told : Option World) (start : State) (i : IsBuilding told means start before) (n : ℕ) → manner_in (known_now before).sums means.registry before.state load ≡ IsAskedAs asked → AreAhead (known_now before) means.registry before.state before.behind rest.loads → MayGive (known_now before) told means load asked outcome → MayCost (known_now before) told load asked n → n ≡ suc (through before.stage) → Builds told means start (suc (through before.stage) + i.put) over
    over_ran told start i n manner ahead may cost same = record {
      led = record {
        past = Answered load asked ∷ i.past;
        run = run_answered {cost = suc (through before.stage)} i.run comes was manner may (subst (MayCost (known_now before) told load asked) same cost) refl;
        store_is = i.store;
      };
      ahead = over_ahead ahead;
      wanted = subst (λ (ws : List (Option (ℕ × Parts))). AreWanted (known_for before.known after.run) means.registry ws after.wanted) (sym fits.no_file) tt;
    }

    uses_over : ((told : Option World) (start : State) (i : IsBuilding told means start before) → AnswersAs told question a → Builds told means start (suc (through before.stage) + i.put) over) → Uses means before new ticket a
    uses_over ran =
        uses_follows means before new ticket a question after before.behind before.added
        (head_is ∙ ap (λ (d : List Due). record { ticket = ticket; question = question } ∷ d) (sym over_dues))
        (arranged_of means over new over_ready is_now) over_read ran

-- ---- by the place in the turn

-- the question about a file at its place
wanted_is : (setting : CacheSetting) (known : Known) (registry : RegistryMeaning) (file : RegistryFile) → wanted_question setting known file (file_url registry file) ≡ file_question setting registry known.manifests file
wanted_is setting known registry (Package name) = refl
wanted_is setting known registry (PackageAgain name) = refl
wanted_is setting known registry (Version nv) = refl
wanted_is setting known registry (Probe nv) = refl

module _ (means : Means) (before new : OpenLoads) (ticket : ℕ) (a : Answer) (order : IsInOrder before) where
  -- the loads, where the turn of the first one stands
  first_is : (load : Load) (rest : State) → before.state ≡ record rest { loads = load ∷ rest.loads } → before.state.loads ≡ load ∷ rest.loads
  first_is load rest was = ap (λ (x : State). x.loads) was

  -- the first answer counts
  used_first : (asked : Asked) → before.stage ≡ Asks ticket asked → asks_again asked a ≡ false → EndsWithAnswer means (record before { kept = finite.remove before.kept ticket }) asked a new → Uses means before new ticket a
  used_first asked stage_is counts step =
      let load = step.load in
      let rest = step.rest in
      let loads_are : before.state.loads ≡ load ∷ rest.loads = first_is load rest step.was in
      let fits : (next_of before.state ≡ ALoad) × FitsLoad before = subst (FitsTurn before) stage_is order.fits in
      let head_is = head_dues before (Asks ticket asked) load rest.loads (record { ticket = ticket; question = asked_question (known_now before) load asked }) stage_is loads_are fits.1.no_file fits.1.no_content refl in
      uses_over means before new ticket a asked (asked_question (known_now before) load asked) load rest step.outcome step.was fits.0 fits.1 head_is step.suits order (subst (IsStageRead (finite.get before.state.files)) stage_is order.stage_read) step.is_now
      (λ told start i right.
      let manner = next_asks told (known_now before) means.registry before.state load rest.loads loads_are ticket asked (subst (IsNext told (known_now before) means.registry before.state) stage_is i.next) in
      over_ran means before new ticket a asked (asked_question (known_now before) load asked) load rest step.outcome step.was fits.0 fits.1 head_is step.suits order (subst (IsStageRead (finite.get before.state.files)) stage_is order.stage_read) step.is_now told start i 1 manner
      (head_ahead means.registry before (Asks ticket asked) load rest.loads stage_is loads_are (λ ls. refl) i.ahead)
      (gives_first (known_now before) means load asked step.outcome step.final step.suits told a right counts step.given)
      (cost_once a right counts)
      (ap (λ (s : Stage). suc (through s)) (sym stage_is)))

  -- a later one does
  used_again : (asked : Asked) (first : Answer) → before.stage ≡ AsksAgain ticket asked first → EndsWithAnswer means (record before { kept = finite.remove before.kept ticket }) asked (counted_of first a) new → Uses means before new ticket a
  used_again asked first stage_is step =
      let load = step.load in
      let rest = step.rest in
      let loads_are : before.state.loads ≡ load ∷ rest.loads = first_is load rest step.was in
      let fits : (next_of before.state ≡ ALoad) × FitsLoad before = subst (FitsTurn before) stage_is order.fits in
      let head_is = head_dues before (AsksAgain ticket asked first) load rest.loads (record { ticket = ticket; question = again_question (known_now before) load asked }) stage_is loads_are fits.1.no_file fits.1.no_content refl in
      uses_over means before new ticket a asked (again_question (known_now before) load asked) load rest step.outcome step.was fits.0 fits.1 head_is step.suits order (subst (IsStageRead (finite.get before.state.files)) stage_is order.stage_read) step.is_now
      (λ told start i right.
      let now = next_again told (known_now before) means.registry before.state load rest.loads loads_are ticket asked first (subst (IsNext told (known_now before) means.registry before.state) stage_is i.next) in
      over_ran means before new ticket a asked (again_question (known_now before) load asked) load rest step.outcome step.was fits.0 fits.1 head_is step.suits order (subst (IsStageRead (finite.get before.state.files)) stage_is order.stage_read) step.is_now told start i 2 now.manner
      (head_ahead means.registry before (AsksAgain ticket asked first) load rest.loads stage_is loads_are (λ ls. refl) i.ahead)
      (gives_second (known_now before) means load asked step.outcome step.final step.suits told first a now.right now.again right step.given)
      (cost_twice first now.right now.again)
      (ap (λ (s : Stage). suc (through s)) (sym stage_is)))

  -- the load is asked about once more
  module _ (asked : Asked) (load : Load) (left : List Load) (loads_are : before.state.loads ≡ load ∷ left) (stage_is : before.stage ≡ Asks ticket asked) (again : asks_again asked a ≡ true) where
    again_fits : (next_of before.state ≡ ALoad) × FitsLoad before
    again_fits = subst (FitsTurn before) stage_is order.fits

    abbrev again_at : OpenLoads
    again_at = record before { kept = finite.remove before.kept ticket; stage = AsksAgain before.queued asked a; queue = before.queue ++ again_question (known_now before) load asked ∷ []; queued = before.queued + 1 }

    dues_before : all_due before ≡ record { ticket = ticket; question = asked_question (known_now before) load asked } ∷ dues_of (known_now before) before.behind left
    dues_before = head_dues before (Asks ticket asked) load left (record { ticket = ticket; question = asked_question (known_now before) load asked }) stage_is loads_are again_fits.1.no_file again_fits.1.no_content refl

    dues_next : all_due again_at ≡ record { ticket = before.queued; question = again_question (known_now before) load asked } ∷ dues_of (known_now before) before.behind left
    dues_next = head_dues again_at (AsksAgain before.queued asked a) load left (record { ticket = before.queued; question = again_question (known_now before) load asked }) refl loads_are again_fits.1.no_file again_fits.1.no_content refl

    again_built : (told : Option World) (start : State) (i : IsBuilding told means start before) → AnswersAs told (asked_question (known_now before) load asked) a → Built told means start again_at (suc (through before.stage) + i.put)
    again_built told start i right = record {
      put = i.put;
      on = record {
        led = record { past = i.past; run = i.run; store_is = i.store };
        next = asks_again_by again_fits.0 loads_are (next_asks told (known_now before) means.registry before.state load left loads_are ticket asked (subst (IsNext told (known_now before) means.registry before.state) stage_is i.next)) right again;
        ahead = subst (λ (s : Stage). AreAhead (known_now before) means.registry before.state before.behind (loads_behind s before.state.loads)) stage_is i.ahead;
        wanted = subst (λ (s : Stage). AreWanted (known_now before) means.registry before.wanted (files_behind s before.state.wanted)) stage_is i.wanted;
      };
      all_put = let t : through before.stage ≡ 0 = ap through stage_is in omega (arith, t);
    }

    again_uses : Uses means before again_at ticket a
    again_uses = record {
      question = asked_question (known_now before) load asked;
      xs = dues_of (known_now before) before.behind left;
      dues_are = dues_before;
      known = refl;
      taken = refl;
      redirects = refl;
      budget = refl;
      kept = refl;
      fits = (again_fits.0, record { places = again_fits.1.places; no_file = again_fits.1.no_file; no_content = again_fits.1.no_content });
      stored = subst (λ (s : Stage). AreStored (known_now before).store before.wanted (files_behind s before.state.wanted)) stage_is order.stored;
      held = order.held;
      named = order.named;
      stage_read = subst (IsStageRead (finite.get before.state.files)) stage_is order.stage_read;
      ahead_read = order.ahead_read;
      adds = adds_as (finite.remove before.kept ticket) before.taken before.max_loads refl (sym dues_next) (adds_put (finite.remove before.kept ticket) before.taken before.max_loads before.queue before.queued [] (dues_of (known_now before) before.behind left) (again_question (known_now before) load asked));
      building = again_built;
    }

  asked_once_more : (asked : Asked) → before.stage ≡ Asks ticket asked → asks_again asked a ≡ true → new ≡ asked_again (record before { kept = finite.remove before.kept ticket; stage = Idle }) asked a → Uses means before new ticket a
  asked_once_more asked stage_is again is =
      let fits : (next_of before.state ≡ ALoad) × FitsLoad before = subst (FitsTurn before) stage_is order.fits in
      let l = load_next_is before.state fits.0 in
      subst (λ (x : OpenLoads). Uses means before x ticket a) (sym (is ∙ ap (again_by (record before { kept = finite.remove before.kept ticket; stage = Idle }) asked a) l.are)) (again_uses asked l.load l.left l.are stage_is again)

  by_refusal : (asked : Asked) (b : Bool) → asks_again asked a ≡ b → before.stage ≡ Asks ticket asked → IsUsedFirst means (record before { kept = finite.remove before.kept ticket }) asked a new b → Uses means before new ticket a
  by_refusal asked true e stage_is used = asked_once_more asked stage_is e used
  by_refusal asked false e stage_is used = used_first asked stage_is e used

  -- the file of a version was read
  module _ (nv : PackageNv) (at : Parts) (load : Load) (left : List Load) (loads_are : before.state.loads ≡ load ∷ left) (stage_is : before.stage ≡ Reads ticket nv at) where
    read_fits : (next_of before.state ≡ ALoad) × FitsLoad before
    read_fits = subst (FitsTurn before) stage_is order.fits

    abbrev read_question : Question
    read_question = metadata_question (setting_for before.state.run) at (manifest_at (known_now before).manifests nv)

    abbrev read_state : State
    read_state = file_kept before.state nv (kept_of means.registry nv (loaded a))

    abbrev read_added : List (RegistryFile × FileAnswer)
    read_added = added_by (is_second before.state.run) before.known.store before.added (Version nv) (loaded a)

    abbrev read_left : OpenLoads
    read_left = left_by before ticket read_state (None ∷ before.behind) read_added

    read_head : all_due before ≡ record { ticket = ticket; question = read_question } ∷ dues_of (known_now before) before.behind left
    read_head = head_dues before (Reads ticket nv at) load left (record { ticket = ticket; question = read_question }) stage_is loads_are read_fits.1.no_file read_fits.1.no_content refl

    read_behind : due_idle read_left ≡ dues_of (known_now before) before.behind left
    read_behind =
        ap (λ (ls : List Load). dues_of (known_now before) (None ∷ before.behind) ls ++ (file_dues (setting_for before.state.run) (known_now before) before.wanted before.state.wanted ++ content_dues (known_now before) before.later before.state.contents)) loads_are
        ∙ ap (λ (ws : List (Option (ℕ × Parts))). dues_of (known_now before) before.behind left ++ (file_dues (setting_for before.state.run) (known_now before) ws before.state.wanted ++ content_dues (known_now before) before.later before.state.contents)) read_fits.1.no_file
        ∙ ap (λ (ts : List ℕ). dues_of (known_now before) before.behind left ++ content_dues (known_now before) ts before.state.contents) read_fits.1.no_content
        ∙ append_none (dues_of (known_now before) before.behind left)

    read_goes : IsRead means (record before { kept = finite.remove before.kept ticket }) nv a new → GoesOn means.registry means.newest (late means.registry (record read_left { behind = before.behind })) new
    read_goes used = subst (λ (x : OpenLoads). GoesOn means.registry means.newest (late means.registry x) new) (with_added_is (record before { kept = finite.remove before.kept ticket; state = read_state; stage = Idle }) (Version nv) (loaded a)) used

    read_follows : IsRead means (record before { kept = finite.remove before.kept ticket }) nv a new → Follows means read_left new
    read_follows used = late_of means read_left new load left before.behind (load_comes before.state read_state refl refl read_fits.0) loads_are read_fits.1.no_file read_fits.1.no_content refl refl
        (let some = read_fits.1.places in let n : length before.state.loads ≡ suc (length left) = ap length loads_are in omega (arith, some, n))
        (read_goes used)

    read_ran : (told : Option World) (start : State) (i : IsBuilding told means start before) → AnswersAs told read_question a → Builds told means start (suc (through before.stage) + i.put) read_left
    read_ran told start i right =
        let now = next_reads told (known_now before) means.registry before.state load left loads_are ticket nv at (subst (IsNext told (known_now before) means.registry before.state) stage_is i.next) in
        let right_now : AnswersAs told (version_question (setting_for before.state.run) means.registry (known_now before).manifests nv) a = subst (λ (p : Parts). AnswersAs told (metadata_question (setting_for before.state.run) p (manifest_at (known_now before).manifests nv)) a) now.place right in
        let all : All (IsReadFor before.state) (load ∷ left) = subst (λ (ls : List Load). All (IsReadFor before.state) ls) loads_are order.held.loads in
        let one : suc i.put ≡ suc (through before.stage) + i.put = (let t : through before.stage ≡ 0 = ap through stage_is in omega (arith, t)) in
        record {
          led = led_put told means start before.redirects before.known (filled_store before.known.store read_added) read_state (suc i.put) (suc (through before.stage) + i.put) one (record {
            past = Read nv ∷ i.past;
            run = run_read {rest = record before.state { loads = left }} a i.run read_fits.0 (whole before.state load left loads_are) now.manner right_now now.unknown refl;
            store_is = added_store (is_second before.state.run) before.known.store before.added (Version nv) (loaded a) (store_of before.redirects before.known told means start i.run) i.store;
          });
          ahead = subst (AreAhead (known_now before) means.registry read_state (None ∷ before.behind)) (sym loads_are)
              (ahead_more (known_now before) means.registry before.state read_state before.behind left (files_kept before.state nv (kept_of means.registry nv (loaded a))) (All-tail (IsReadFor before.state) load left all)
              (head_ahead means.registry before (Reads ticket nv at) load left stage_is loads_are (λ ls. refl) i.ahead));
          wanted = subst (λ (ws : List (Option (ℕ × Parts))). AreWanted (known_now before) means.registry ws before.state.wanted) (sym read_fits.1.no_file) tt;
        }

    read_all : AreRead read_left
    read_all = record {
      held = held_file before.state nv (kept_of means.registry nv (loaded a)) order.held;
      named = named_file before.state nv (kept_of means.registry nv (loaded a)) order.named (named_kept means.registry nv (loaded a));
      ahead_read = none_first (read_more before.state read_state before.behind (files_kept before.state nv (kept_of means.registry nv (loaded a))) order.ahead_read);
    }
      where
        none_first : All (IsAheadRead (finite.get read_state.files)) before.behind → All (IsAheadRead (finite.get read_state.files)) (None ∷ before.behind)
        none_first all = All-cons (IsAheadRead (finite.get read_state.files)) None before.behind tt all

    read_uses : IsRead means (record before { kept = finite.remove before.kept ticket }) nv a new → Uses means before new ticket a
    read_uses used = uses_follows means before new ticket a read_question read_state (None ∷ before.behind) read_added (read_head ∙ ap (λ (d : List Due). record { ticket = ticket; question = read_question } ∷ d) (sym read_behind)) (read_follows used) read_all read_ran

  used_file : (nv : PackageNv) (at : Parts) → before.stage ≡ Reads ticket nv at → IsRead means (record before { kept = finite.remove before.kept ticket }) nv a new → Uses means before new ticket a
  used_file nv at stage_is used =
      let fits : (next_of before.state ≡ ALoad) × FitsLoad before = subst (FitsTurn before) stage_is order.fits in
      let l = load_next_is before.state fits.0 in
      read_uses nv at l.load l.left l.are stage_is used

  -- a file that a pass wants was looked up
  module _ (at : Parts) (file : RegistryFile) (files : List RegistryFile) (files_are : before.state.wanted ≡ file ∷ files) (no_note : before.state.notes ≡ []) (no_load : before.state.loads ≡ []) (stage_is : before.stage ≡ Looks ticket at) where
    looked_fits : (next_of before.state ≡ Wanted) × FitsFile before
    looked_fits = subst (FitsTurn before) stage_is order.fits

    abbrev looked_question : Question
    looked_question = wanted_question (setting_for before.state.run) (known_now before) file at

    abbrev found : State
    found = wanted_kept means.registry before.state (loaded a)

    found_is : LookedUp before.state files found
    found_is = looked_up means.registry before.state (loaded a) file files files_are

    found_known : known_for before.known found.run ≡ known_now before
    found_known = ap (known_for before.known) found_is.run

    abbrev looked_added : List (RegistryFile × FileAnswer)
    looked_added = added_by (is_second found.run) before.known.store before.added file (loaded a)

    abbrev looked_left : OpenLoads
    looked_left = left_by before ticket found before.behind looked_added

    looked_long : length files ≡ length before.wanted
    looked_long = let m = looked_fits.1.places in let n : length before.state.wanted ≡ suc (length files) = ap length files_are in omega (arith, m, n)

    looked_head : all_due before ≡ record { ticket = ticket; question = looked_question } ∷ (file_dues (setting_for before.state.run) (known_now before) before.wanted files ++ [])
    looked_head = dues_by before (Looks ticket at) [] before.state.loads before.wanted (file ∷ files) [] before.state.contents stage_is looked_fits.1.no_load refl refl files_are looked_fits.1.no_content refl

    looked_behind : due_idle looked_left ≡ file_dues (setting_for before.state.run) (known_now before) before.wanted files ++ []
    looked_behind =
        ap (λ (qs : List (Option (ℕ × Asked))). dues_of (known_for before.known found.run) qs found.loads ++ (file_dues (setting_for found.run) (known_for before.known found.run) before.wanted found.wanted ++ content_dues (known_for before.known found.run) before.later found.contents)) looked_fits.1.no_load
        ∙ ap (λ (ts : List ℕ). file_dues (setting_for found.run) (known_for before.known found.run) before.wanted found.wanted ++ content_dues (known_for before.known found.run) ts found.contents) looked_fits.1.no_content
        ∙ ap (λ (r : Run). file_dues (setting_for r) (known_for before.known r) before.wanted found.wanted ++ []) found_is.run
        ∙ ap (λ (fs : List RegistryFile). file_dues (setting_for before.state.run) (known_now before) before.wanted fs ++ []) found_is.wanted

    looked_arranged : IsLookedUp means (record before { kept = finite.remove before.kept ticket }) a new → Arranged means.registry means.newest looked_left new
    looked_arranged used =
        subst (λ (x : OpenLoads). Arranged means.registry means.newest x new) (with_added_is (record before { kept = finite.remove before.kept ticket; state = found; stage = Idle }) file (loaded a))
        (subst (λ (fs : List RegistryFile). Arranged means.registry means.newest (first_added (record before { kept = finite.remove before.kept ticket; state = found; stage = Idle }) (loaded a) fs) new) files_are used)

    looked_ready : IsReady looked_left
    looked_ready = record {
      idle = refl;
      loads_fit = subst (λ (qs : List (Option (ℕ × Asked))). length qs ≤ length found.loads) (sym looked_fits.1.no_load) (omega arith);
      files_fit = ⊎_elim inl (λ f. inr (record { comes = f.0; fit = f.1 })) (files_come before.state found before.wanted files found_is no_note no_load looked_long);
      contents_fit = inl looked_fits.1.no_content;
      stored = subst (λ (k : Known). AreStored k.store before.wanted found.wanted) (sym found_known)
          (subst (AreStored (known_now before).store before.wanted) (sym found_is.wanted)
          (subst (λ (fs : List RegistryFile). AreStored (known_now before).store before.wanted (behind_first fs)) files_are
          (subst (λ (s : Stage). AreStored (known_now before).store before.wanted (files_behind s before.state.wanted)) stage_is order.stored)));
    }

    looked_ran : (told : Option World) (start : State) (i : IsBuilding told means start before) → AnswersAs told looked_question a → Builds told means start (suc (through before.stage) + i.put) looked_left
    looked_ran told start i right =
        let now = next_looks told (known_now before) means.registry before.state file files files_are ticket at (subst (IsNext told (known_now before) means.registry before.state) stage_is i.next) in
        let question_is : looked_question ≡ file_question (setting_for before.state.run) means.registry (known_now before).manifests file =
        ap (wanted_question (setting_for before.state.run) (known_now before) file) now.place ∙ wanted_is (setting_for before.state.run) (known_now before) means.registry file in
        let one : suc i.put ≡ suc (through before.stage) + i.put = (let t : through before.stage ≡ 0 = ap through stage_is in omega (arith, t)) in
        let store_now : filled_store before.known.store looked_added ≡ (if is_second before.state.run then store_of before.redirects before.known told means start i.run else option_map (λ own. store_with own file (loaded a)) (store_of before.redirects before.known told means start i.run)) =
        ap (λ (r : Run). filled_store before.known.store (added_by (is_second r) before.known.store before.added file (loaded a))) found_is.run
        ∙ added_store (is_second before.state.run) before.known.store before.added file (loaded a) (store_of before.redirects before.known told means start i.run) i.store in
        record {
          led = led_put told means start before.redirects before.known (filled_store before.known.store looked_added) found (suc i.put) (suc (through before.stage) + i.put) one (record {
            past = PassedFile file ∷ i.past;
            run = run_looked_up a i.run looked_fits.0 files_are (subst (λ (q : Question). AnswersAs told q a) question_is right) now.unknown refl;
            store_is = store_now;
          });
          ahead = subst (λ (qs : List (Option (ℕ × Asked))). AreAhead (known_for before.known found.run) means.registry found qs found.loads) (sym looked_fits.1.no_load) tt;
          wanted = subst (λ (k : Known). AreWanted k means.registry before.wanted found.wanted) (sym found_known)
              (subst (AreWanted (known_now before) means.registry before.wanted) (sym found_is.wanted)
              (subst (λ (fs : List RegistryFile). AreWanted (known_now before) means.registry before.wanted (behind_first fs)) files_are
              (subst (λ (s : Stage). AreWanted (known_now before) means.registry before.wanted (files_behind s before.state.wanted)) stage_is i.wanted)));
        }

    looked_all : AreRead looked_left
    looked_all = record {
      held = held_wanted means.registry before.state (loaded a) order.held;
      named = named_wanted means.registry before.state (loaded a) order.named;
      ahead_read = read_more before.state found before.behind (files_wanted means.registry before.state (loaded a)) order.ahead_read;
    }

    looked_uses : IsLookedUp means (record before { kept = finite.remove before.kept ticket }) a new → Uses means before new ticket a
    looked_uses used = uses_follows means before new ticket a looked_question found before.behind looked_added (looked_head ∙ ap (λ (d : List Due). record { ticket = ticket; question = looked_question } ∷ d) (sym looked_behind)) (arranged_of means looked_left new looked_ready (looked_arranged used)) looked_all looked_ran

  used_looked : (at : Parts) → before.stage ≡ Looks ticket at → IsLookedUp means (record before { kept = finite.remove before.kept ticket }) a new → Uses means before new ticket a
  used_looked at stage_is used =
      let fits : (next_of before.state ≡ Wanted) × FitsFile before = subst (FitsTurn before) stage_is order.fits in
      let f = file_next_is before.state fits.0 in
      looked_uses at f.file f.files f.are f.no_note f.no_load stage_is used

  -- a content came
  module _ (l : LaterContent) (ls : List LaterContent) (contents_are : before.state.contents ≡ l ∷ ls) (idle : IsIdle before.state) (stage_is : before.stage ≡ Fills ticket) where
    filled_fits : (next_of before.state ≡ Content) × FitsContent before
    filled_fits = subst (FitsTurn before) stage_is order.fits

    abbrev filled : State
    filled = record before.state { graph = content_placed before.state.graph l (loaded a); contents = ls }

    filled_is : content_stored before.state a ≡ filled
    filled_is = ap (λ (cs : List LaterContent). content_by before.state cs a) contents_are

    abbrev filled_left : OpenLoads
    filled_left = left_by before ticket filled before.behind before.added

    filled_long : length ls ≡ length before.later
    filled_long = let m = filled_fits.1.places in let n : length before.state.contents ≡ suc (length ls) = ap length contents_are in omega (arith, m, n)

    filled_idle : IsIdle filled
    filled_idle = record {
      none_open = idle.none_open;
      none_deferred = idle.none_deferred;
      none_waits = idle.none_waits;
      none_noted = idle.none_noted;
      none_wanted = idle.none_wanted;
      none_waiting = idle.none_waiting;
      none_passing = idle.none_passing;
      none_due = idle.none_due;
    }

    -- the other ones come next
    contents_come : (ts : List ℕ) (cs : List LaterContent) → ls ≡ cs → length cs ≡ length ts → (ts ≡ []) ⊎ ((next_of filled ≡ Content) × (length ts ≤ length ls))
    contents_come [] cs e same = inl refl
    contents_come (t ∷ ts) [] e same = absurd (omega arith)
    contents_come (t ∷ ts) (c ∷ cs) e same = inr (next_as filled Content (comes_content filled_idle e), (let n : length ls ≡ suc (length cs) = ap length e in omega (arith, n, same)))

    filled_ready : IsReady filled_left
    filled_ready = record {
      idle = refl;
      loads_fit = subst (λ (qs : List (Option (ℕ × Asked))). length qs ≤ length before.state.loads) (sym filled_fits.1.no_load) (omega arith);
      files_fit = inl filled_fits.1.no_file;
      contents_fit = ⊎_elim inl (λ c. inr (record { comes = c.0; fit = c.1 })) (contents_come before.later ls refl filled_long);
      stored = subst (λ (ws : List (Option (ℕ × Parts))). AreStored (known_now before).store ws before.state.wanted) (sym filled_fits.1.no_file) tt;
    }

    filled_head : all_due before ≡ record { ticket = ticket; question = content_question (known_now before) l } ∷ content_dues (known_now before) before.later ls
    filled_head = dues_by before (Fills ticket) [] before.state.loads [] before.state.wanted before.later (l ∷ ls) stage_is filled_fits.1.no_load refl filled_fits.1.no_file refl refl contents_are

    filled_behind : due_idle filled_left ≡ content_dues (known_now before) before.later ls
    filled_behind =
        ap (λ (qs : List (Option (ℕ × Asked))). dues_of (known_now before) qs before.state.loads ++ (file_dues (setting_for before.state.run) (known_now before) before.wanted before.state.wanted ++ content_dues (known_now before) before.later ls)) filled_fits.1.no_load
        ∙ ap (λ (ws : List (Option (ℕ × Parts))). file_dues (setting_for before.state.run) (known_now before) ws before.state.wanted ++ content_dues (known_now before) before.later ls) filled_fits.1.no_file

    filled_follows : IsFilled means (record before { kept = finite.remove before.kept ticket }) a new → Follows means filled_left new
    filled_follows used = arranged_of means filled_left new filled_ready
        (subst (λ (s : State). Arranged means.registry means.newest (record before { kept = finite.remove before.kept ticket; state = s; stage = Idle }) new) filled_is used)

    filled_ran : (told : Option World) (start : State) (i : IsBuilding told means start before) → AnswersAs told (content_question (known_now before) l) a → Builds told means start (suc (through before.stage) + i.put) filled_left
    filled_ran told start i right =
        let one : suc i.put ≡ suc (through before.stage) + i.put = (let t : through before.stage ≡ 0 = ap through stage_is in omega (arith, t)) in
        record {
          led = led_put told means start before.redirects before.known (filled_store before.known.store before.added) filled (suc i.put) (suc (through before.stage) + i.put) one (record {
            past = Filled l ∷ i.past;
            run = run_filled a i.run filled_fits.0 contents_are right (sym filled_is);
            store_is = i.store;
          });
          ahead = subst (λ (qs : List (Option (ℕ × Asked))). AreAhead (known_now before) means.registry filled qs before.state.loads) (sym filled_fits.1.no_load) tt;
          wanted = subst (λ (ws : List (Option (ℕ × Parts))). AreWanted (known_now before) means.registry ws before.state.wanted) (sym filled_fits.1.no_file) tt;
        }

    filled_all : AreRead filled_left
    filled_all = record {
      held = record { loads = order.held.loads; deferred = order.held.deferred; dynamic = order.held.dynamic };
      named = order.named;
      ahead_read = order.ahead_read;
    }

    filled_uses : IsFilled means (record before { kept = finite.remove before.kept ticket }) a new → Uses means before new ticket a
    filled_uses used = uses_follows means before new ticket a (content_question (known_now before) l) filled before.behind before.added (filled_head ∙ ap (λ (d : List Due). record { ticket = ticket; question = content_question (known_now before) l } ∷ d) (sym filled_behind)) (filled_follows used) filled_all filled_ran

  used_content : before.stage ≡ Fills ticket → IsFilled means (record before { kept = finite.remove before.kept ticket }) a new → Uses means before new ticket a
  used_content stage_is used =
      let fits : (next_of before.state ≡ Content) × FitsContent before = subst (FitsTurn before) stage_is order.fits in
      let c = content_next_is before.state fits.0 in
      filled_uses c.content c.contents c.are c.idle stage_is used

  by_stage : (s : Stage) → before.stage ≡ s → awaited s ≡ Some ticket → IsUsedAt means (record before { kept = finite.remove before.kept ticket }) a new s → Uses means before new ticket a
  by_stage Idle e waits used = absurd (none_waits ticket waits)
  by_stage (Asks t asked) e waits used = let same : t ≡ ticket = one_waits t ticket waits in by_refusal asked (asks_again asked a) refl (e ∙ ap (λ (n : ℕ). Asks n asked) same) used
  by_stage (AsksAgain t asked first) e waits used = let same : t ≡ ticket = one_waits t ticket waits in used_again asked first (e ∙ ap (λ (n : ℕ). AsksAgain n asked first) same) used
  by_stage (Reads t nv at) e waits used = let same : t ≡ ticket = one_waits t ticket waits in used_file nv at (e ∙ ap (λ (n : ℕ). Reads n nv at) same) used
  by_stage (Looks t at) e waits used = let same : t ≡ ticket = one_waits t ticket waits in used_looked at (e ∙ ap (λ (n : ℕ). Looks n at) same) used
  by_stage (Fills t) e waits used = let same : t ≡ ticket = one_waits t ticket waits in used_content (e ∙ ap Fills same) used

  -- the answer that the turn waits for is used
  pub how_used : awaited before.stage ≡ Some ticket → IsUsed means (record before { kept = finite.remove before.kept ticket }) a new → Uses means before new ticket a
  how_used waits used = by_stage before.stage refl waits used

  pub caught_step : finite.get before.kept ticket ≡ Some a → awaited before.stage ≡ Some ticket → IsUsed means (record before { kept = finite.remove before.kept ticket }) a new → IsCaughtUp means before new
  caught_step here waits used = caught_by means before new ticket a here order (how_used waits used)

-- ---- one answer after the other

pub caught_up_none : (means : Means) (b : OpenLoads) → IsCaughtUp means b b
caught_up_none means b = record {
  same_taken = refl;
  same_known = refl;
  same_redirects = refl;
  same_budget = refl;
  in_order = λ o. o;
  building = λ o told start i. i;
  flight_from = λ o t f. f;
  flight_to = λ o t f. f;
  same_questions = λ o t f. refl;
}

module _ (means : Means) (start before mid new : OpenLoads) (a : Answer) (so_far : IsCaughtUp means start before) (order : IsInOrder start) (takes : TakesOut before a mid) (used : IsUsed means mid a new) where
  now_uses : Uses means before new takes.ticket a
  now_uses = how_used means before new takes.ticket a (so_far.in_order order) takes.waits (subst (λ (x : OpenLoads). IsUsed means x a new) takes.left used)

  pub caught_up_more : IsCaughtUp means start new
  caught_up_more =
      let now = so_far.in_order order in
      let one : IsCaughtUp means before new = caught_by means before new takes.ticket a takes.here now now_uses in
      record {
        same_taken = one.same_taken ∙ so_far.same_taken;
        same_known = one.same_known ∙ so_far.same_known;
        same_redirects = one.same_redirects ∙ so_far.same_redirects;
        same_budget = one.same_budget ∙ so_far.same_budget;
        in_order = λ o. one.in_order now;
        building = λ o told begin b. one.building now told begin (so_far.building o told begin b);
        flight_from = λ o t f. so_far.flight_from o t (one.flight_from now t f);
        flight_to = λ o t f. one.flight_to now t (so_far.flight_to o t f);
        same_questions = λ o t f. one.same_questions now t f ∙ so_far.same_questions o t (one.flight_from now t f);
      }

  -- one kept answer less
  pub used_kept : new.kept ≡ finite.remove before.kept takes.ticket
  used_kept = now_uses.kept

-- where the answer that is waited for was taken out, the turn fits still
pub takes_fits : (b new : OpenLoads) (a : Answer) → IsInOrder b → TakesOut b a new → FitsTurn new new.stage
takes_fits b new a order takes = subst (λ (x : OpenLoads). FitsTurn x x.stage) (sym takes.left) (fits_over b (finite.remove b.kept takes.ticket) b.taken b.queue b.stage order.fits)

-- ---- the answer is kept first

module _ (means : Means) (old : OpenLoads) (ticket : ℕ) (answer : Answer) (order : IsInOrder old) (flight : IsInFlight old ticket) where
  pub inserted_order : IsInOrder (record old { kept = finite.insert old.kept ticket answer })
  inserted_order = record {
    fits = fits_over old (finite.insert old.kept ticket answer) old.taken old.queue old.stage order.fits;
    numbered = numbered_came old.queue old.kept old.taken old.queued old.max_loads (all_due old) ticket answer flight.was_taken flight.is_due order.numbered;
    held = order.held;
    named = order.named;
    stage_read = order.stage_read;
    ahead_read = order.ahead_read;
    stored = order.stored;
  }

  inserted_building : (told : Option World) (start : State) → IsBuilding told means start old → IsToldAnswer told (asked_at old ticket) answer → IsBuilding told means start (record old { kept = finite.insert old.kept ticket answer })
  inserted_building told start b right =
      let x = flight.is_due.due in
      let at : x.ticket ≡ ticket = flight.is_due.is in
      let here : asked_at old ticket ≡ Some x.question = ap (asked_at old) (sym at) ∙ asked_due old x order flight.is_due.among in
      let right_now : AnswersAs told x.question answer = subst (λ q. IsToldAnswer told q answer) here right in
      record {
        past = b.past;
        put = b.put;
        run = b.run;
        store = b.store;
        next = b.next;
        ahead = b.ahead;
        wanted = b.wanted;
        count = b.count;
        kept_right = subst (λ (k : ℕ). (y : Due) (c : Answer) → IsDue y (all_due old) → finite.get (finite.insert old.kept k answer) y.ticket ≡ Some c → AnswersAs told y.question c) at (right_came told old.kept (all_due old) x answer order.numbered.once flight.is_due.among right_now b.kept_right);
      }

  pub takes_answer : (new : OpenLoads) → IsCaughtUp means (record old { kept = finite.insert old.kept ticket answer }) new → IsResting new → TakesAnswer means old new ticket answer
  takes_answer new caught rests = record {
    same_taken = caught.same_taken;
    same_known = caught.same_known;
    same_redirects = caught.same_redirects;
    same_budget = caught.same_budget;
    in_order = caught.in_order inserted_order;
    resting = rests;
    building = λ told start b right. caught.building inserted_order told start (inserted_building told start b right);
    flight_from = λ t f. from t (caught.flight_from inserted_order t f);
    flight_to = λ t f ne. caught.flight_to inserted_order t record { was_taken = f.was_taken; is_due = f.is_due; not_kept = put_other old.kept ticket answer t ne ∙ f.not_kept };
    same_questions = λ t f. caught.same_questions inserted_order t f;
  }
    where
      from : (t : ℕ) → IsInFlight (record old { kept = finite.insert old.kept ticket answer }) t → IsInFlight old t × (t ≢ ticket)
      from t f =
          let ne : t ≢ ticket = λ same. (let at = subst (λ z. finite.get (finite.insert old.kept ticket answer) z ≡ None) same f.not_kept in let there = put_same old.kept ticket answer in cc) in
          (record { was_taken = f.was_taken; is_due = f.is_due; not_kept = sym (put_other old.kept ticket answer t ne) ∙ f.not_kept }, ne)

-- what is answered doesn't hang on the place in the turn
pub answered_as : (means : Means) (old new : OpenLoads) (s : Stage) (asked : Asked) (a : Answer) → EndsWithAnswer means (record old { stage = s }) asked a new → EndsWithAnswer means old asked a new
answered_as means old new s asked a step = record { load = step.load; rest = step.rest; outcome = step.outcome; was = step.was; final = step.final; suits = step.suits; given = step.given; is_now = step.is_now }

pub first_as : (means : Means) (old new : OpenLoads) (s : Stage) (asked : Asked) (a : Answer) (b : Bool) → IsUsedFirst means (record old { stage = s }) asked a new b → IsUsedFirst means old asked a new b
first_as means old new s asked a true used = used
first_as means old new s asked a false step = answered_as means old new s asked a step

pub ok_answered : {T E : Type 0} (r : Result T E) (means : Means) (old new : OpenLoads) (s : Stage) (asked : Asked) (a : Answer) → OnOk r (EndsWithAnswer means (record old { stage = s }) asked a new) → OnOk r (EndsWithAnswer means old asked a new)
ok_answered (Ok x) means old new s asked a step = answered_as means old new s asked a step
ok_answered (Err e) means old new s asked a step = tt

pub ok_first : {T E : Type 0} (r : Result T E) (means : Means) (old new : OpenLoads) (s : Stage) (asked : Asked) (a : Answer) (b : Bool) → OnOk r (IsUsedFirst means (record old { stage = s }) asked a new b) → OnOk r (IsUsedFirst means old asked a new b)
ok_first (Ok x) means old new s asked a b used = first_as means old new s asked a b used
ok_first (Err e) means old new s asked a b used = tt
