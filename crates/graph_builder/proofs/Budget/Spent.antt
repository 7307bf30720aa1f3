-- Turns put at least as many questions as a state has open: a budget that a build has spent is one that turns go over, and one within which
-- it ended is one that no turns go over.
use Rattle.std.proofs.Common.{◌≡◌, ◌≤◌, ◌<◌, ◌⊎◌, inl, inr, ⊎_elim, ℕ, zero, suc, ◌+◌, Bool, true, false, List, [], ◌∷◌, ◌++◌, length, Option, None, Some, Result, Ok, Err, if◌then◌else◌, refl, sym, ap, ◌∙◌, subst, append_assoc, append-nil, arith}
use Rattle.std.specs.List.{All}
use Rattle.std.specs.FinMap as finite
use Rattle.std.proofs.lemmas.Bool.{true≢false}
use Rattle.std.proofs.lemmas.List.Elements.{All-cons, All-head, All-nil, All-tail}
use Rattle.spec_base.specs.Options.{by_option}
use Rattle.semver_npm.specs.declared.package.PackageNv.{PackageNv}
use Rattle.source_io.specs.declared.types.Answer.{Answer}
use Rattle.source_io.specs.declared.types.World.{World}
use Rattle.source_io.specs.Answers.{answer_of}
use Rattle.source_sums.specs.Sums.{KnownSums}
use Rattle.registry_files.specs.Answers.{FileAnswer}
use Rattle.registry_files.specs.Kept.{Versions}
use Rattle.registry_files.specs.declared.kept_version.KeptVersion.{KeptVersion}
use Rattle.registry_urls.specs.Meaning.{RegistryMeaning}
use Rattle.graph_errors.specs.declared.jsr_error.JsrLoadError.{JsrLoadError}
use Rattle.module_slots.specs.declared.load.Load.{Load}
use Rattle.graph_dependencies.specs.declared.graph_kind.GraphKind.{GraphKind}
use Rattle.graph_turns.specs.declared.later_content.LaterContent.{LaterContent}
use Rattle.graph_turns.specs.declared.manner.Manner.{Manner}
use Rattle.graph_turns.specs.declared.manner.Manner.TheVariants.{Asks as IsAskedAs, Reads as ReadsFirst, Unread, Unsupported}
use Rattle.graph_turns.specs.declared.next.Next.TheVariants.{Notes, Restart}
use Rattle.graph_turns.specs.declared.dependencies.Note.{Note}
use Rattle.graph_turns.specs.declared.outcome.Outcome.{Outcome}
use Rattle.graph_turns.specs.declared.question_of.Asked.{Asked}
use Rattle.graph_turns.specs.declared.registry.RegistryFile.{RegistryFile}
use Rattle.graph_turns.specs.declared.registry.RegistryFile.TheVariants.{Version}
use Rattle.graph_turns.specs.declared.state.State.{State}
use Rattle.graph_turns.specs.Machine.Contents.{content_by, content_placed, content_stored}
use Rattle.graph_turns.specs.Machine.Entering.{stored}
use Rattle.graph_turns.specs.Machine.Files.{file_kept}
use Rattle.graph_turns.specs.Machine.Held.{AreNamed, IsHeld, IsReadAt}
use Rattle.graph_turns.specs.Machine.Known.{Known}
use Rattle.graph_turns.specs.Machine.Manners.{asked_by_url, known_manner, sum_in_version}
use Rattle.graph_turns.specs.Machine.Next.{next_of}
use Rattle.graph_turns.specs.Machine.RegistryFiles.{wanted_kept}
use Rattle.graph_turns.specs.Machine.Runs.{known_for, told_for}
use Rattle.graph_turns.specs.Machine.Turns.{IsAtEnd, IsIdle, PutsOver, PutsWithin, failing, file_cost, manner_in, next_cost, put_by, told_outcome, turn, turn_cost, turns}
use Rattle.graph_turns.specs.Machine.Waiting.{notes_added}
use Rattle.graph_turns.specs.Machine.Outcomes.{Suits, failure_outcome}
use Rattle.graph_turns.specs.Promise.Contents.{content_question}
use Rattle.graph_turns.specs.Promise.Taken.{asks_again, first_to, taken_answer}
use Rattle.graph_turns.specs.Promise.Told.{Told, making_of}
use Rattle.graph_turns.specs.Promise.Versions.{is_stored, kept_of, loaded, told_file, told_version}
use Rattle.graph_turns.proofs.Entering.Contents.{first_stored}
use Rattle.graph_turns.proofs.Entering.Files.{FilesStay, WantedKept, answer_there, files_kept, how_wanted, named_file, named_kept, named_wanted}
use Rattle.graph_turns.proofs.Entering.Files.WantedKept.{no_file, of_package, of_package_again, of_probe, of_version}
use Rattle.graph_turns.proofs.Entering.Held.{IsReadFor, held_content, held_file, held_next, held_stored, held_taken, held_wanted}
use Rattle.turn_laws.proofs.Entering.Made.{outcome_suits}
use Rattle.graph_turns.proofs.Entering.Manners.{IsToRead, asked_read, asked_stays, held_stays, manner_known, reads_is}
use Rattle.graph_turns.proofs.Entering.Next.{how_next}
use Rattle.graph_turns.proofs.Entering.Rested.{files_stored, stores}
use Rattle.graph_turns.proofs.Entering.Resting.{cost_asks, cost_content, cost_end, cost_reads, cost_wanted, put_more, turn_asks, turn_content, turn_end, turn_fails, turn_notes, turn_reads, turn_wanted, turns_more}
use Rattle.open_loads.specs.Budget.Open.{ahead_count, asked_count, file_count, load_count, open_by}
use Rattle.open_loads.specs.Budget.Runs.{IsOver, Passed, Runs}
use Rattle.open_loads.specs.Budget.Runs.Runs.{none, answered, failed, read, read_stored, looked_up, looked_up_stored, filled, went_on, began_again}
use Rattle.open_loads.specs.Order.Asking.{IsNext, asked_question, through}
use Rattle.open_loads.specs.Order.Asking.IsNext.{rests, asks, asks_again_by, reads, looks, fills}
use Rattle.open_loads.specs.Order.Means.{Means}
use Rattle.open_loads.specs.declared.turn_stage.Stage.{Stage}
use Rattle.open_loads.specs.declared.turn_stage.Stage.TheVariants.{Idle, Asks, AsksAgain, Reads, Looks, Fills}
use Rattle.graph_builder.proofs.Budget.Orderly.{idle_next}
use Rattle.graph_builder.proofs.Order.Drives.{no_loads, no_notes, run_turned, told_means}
use Rattle.open_loads.proofs.Order.Coming.{failed_held, named_next}

-- ---- what was read

-- the files of all versions that loads count in were read, each under its version
pub record HasRead (s : State) : Type 0 where
  pub held : IsHeld s
  pub named : AreNamed (finite.get s.files)

-- the same with other parts of the state
read_so : (s u : State) → u.files ≡ s.files → AreNamed (finite.get s.files) → AreNamed (finite.get u.files)
read_so s u same named = subst (λ (v : Versions). AreNamed (finite.get v)) (sym same) named

-- after the turn of a load that was asked about
read_asked : (most : ℕ) (sums : Option KnownSums) (registry : RegistryMeaning) (s rest : State) (load : Load) (asked : Asked) (outcome : Outcome) → s ≡ record rest { loads = load ∷ rest.loads } → manner_in sums registry s load ≡ IsAskedAs asked → Suits load asked outcome → HasRead s → HasRead (stored most rest load outcome)
read_asked most sums registry s rest load asked outcome left how suits before =
    let taken = held_taken s rest load left before.held in
    let files : s.files ≡ rest.files = ap (λ (x : State). x.files) left in
    let counts = asked_read sums registry (finite.get s.files) load.specifier before.named load.context asked how in
    record {
      held = held_stored most rest load asked outcome taken.0 taken.1 (subst (λ (v : Versions). IsReadAt (finite.get v) asked.held) files counts) suits;
      named = read_so s (stored most rest load outcome) (files_stored most rest load outcome ∙ sym files) before.named;
    }

-- and of one that fails without a question
read_failed : (most : ℕ) (s rest : State) (load : Load) (m : Manner) (outcome : Outcome) → s ≡ record rest { loads = load ∷ rest.loads } → failing load m ≡ Some outcome → HasRead s → HasRead (stored most rest load outcome)
read_failed most s rest load m outcome left fails before =
    let taken = held_taken s rest load left before.held in
    let files : s.files ≡ rest.files = ap (λ (x : State). x.files) left in
    record {
      held = failed_held most rest load m outcome fails taken.0 taken.1;
      named = read_so s (stored most rest load outcome) (files_stored most rest load outcome ∙ sym files) before.named;
    }

read_file : (registry : RegistryMeaning) (s : State) (nv : PackageNv) (answer : FileAnswer) → HasRead s → HasRead (file_kept s nv (kept_of registry nv answer))
read_file registry s nv answer before = record {
  held = held_file s nv (kept_of registry nv answer) before.held;
  named = named_file s nv (kept_of registry nv answer) before.named (named_kept registry nv answer);
}

read_wanted : (registry : RegistryMeaning) (s : State) (answer : FileAnswer) → HasRead s → HasRead (wanted_kept registry s answer)
read_wanted registry s answer before = record { held = held_wanted registry s answer before.held; named = named_wanted registry s answer before.named }

content_files : (s : State) (a : Answer) (ls : List LaterContent) → s.contents ≡ ls → (content_stored s a).files ≡ s.files
content_files s a [] e = ap (λ (cs : List LaterContent). (content_by s cs a).files) e
content_files s a (l ∷ ls) e = ap (λ (cs : List LaterContent). (content_by s cs a).files) e

-- from a state that has read so, runs lead to one that has
module _ (most : ℕ) (known : Known) (loader : Option World) (means : Means) (start : State) (begins : HasRead start) where
  pub read_by_run : {past : List Passed} {put : ℕ} {s : State} → Runs most known loader means start past put s → HasRead s
  read_by_run none = begins
  read_by_run (answered {s = s} {rest = rest} {load = load} {asked = asked} {outcome = outcome} run comes left how may costs is) =
      subst HasRead (sym is) (read_asked most (known_for known s.run).sums means.registry s rest load asked outcome left how may.suits (read_by_run run))
  read_by_run (failed {s = s} {rest = rest} {load = load} {outcome = outcome} run comes left fails is) =
      subst HasRead (sym is) (read_failed most s rest load (manner_in (known_for known s.run).sums means.registry s load) outcome left fails (read_by_run run))
  read_by_run (read {s = s} {nv = nv} a run comes left how right fresh is) = subst HasRead (sym is) (read_file means.registry s nv (loaded a) (read_by_run run))
  read_by_run (read_stored {s = s} {nv = nv} {answer = answer} run comes left how there is) = subst HasRead (sym is) (read_file means.registry s nv answer (read_by_run run))
  read_by_run (looked_up {s = s} a run comes left right fresh is) = subst HasRead (sym is) (read_wanted means.registry s (loaded a) (read_by_run run))
  read_by_run (looked_up_stored {s = s} {answer = answer} run comes left there is) = subst HasRead (sym is) (read_wanted means.registry s answer (read_by_run run))
  read_by_run (filled {s = s} a run comes left right is) =
      let before = read_by_run run in
      subst HasRead (sym is) (record { held = held_content s a before.held; named = read_so s (content_stored s a) (content_files s a s.contents refl) before.named })
  read_by_run (went_on {s = s} run goes is) =
      let before = read_by_run run in
      subst HasRead (sym is) (record { held = held_next means.registry means.newest s (next_of s) before.held; named = named_next means.registry means.newest s (next_of s) before.named })
  read_by_run (began_again {s = s} run comes is) =
      let before = read_by_run run in
      subst HasRead (sym is) (record { held = held_next means.registry means.newest s Restart before.held; named = named_next means.registry means.newest s Restart before.named })

-- ---- counts

-- a load that is asked about is still, whatever more is known
asked_more : (sums : Option KnownSums) (registry : RegistryMeaning) (s u : State) (load : Load) → FilesStay (finite.get s.files) (finite.get u.files) → IsReadFor s load → (m : Manner) → manner_in sums registry s load ≡ m → asked_count m ≤ asked_count (manner_in sums registry u load)
asked_more sums registry s u load more held (IsAskedAs asked) how =
    let now = asked_stays sums registry (finite.get s.files) (finite.get u.files) more load.specifier load.context asked held how in
    let one : asked_count (manner_in sums registry u load) ≡ 1 = ap asked_count now in
    omega (arith, one)
asked_more sums registry s u load more held (ReadsFirst nv) how = omega arith
asked_more sums registry s u load more held (Unread name e) how = omega arith
asked_more sums registry s u load more held Unsupported how = omega arith

count_more : (known : Known) (registry : RegistryMeaning) (s u : State) (loads : List Load) → FilesStay (finite.get s.files) (finite.get u.files) → All (IsReadFor s) loads → ahead_count known registry s loads ≤ ahead_count known registry u loads
count_more known registry s u [] more all = omega arith
count_more known registry s u (load ∷ loads) more all =
    let one = asked_more known.sums registry s u load more (All-head (IsReadFor s) load loads all) (manner_in known.sums registry s load) refl in
    let rest = count_more known registry s u loads more (All-tail (IsReadFor s) load loads all) in
    omega (arith, one, rest)

stay_same : (s u : State) → u.files ≡ s.files → FilesStay (finite.get s.files) (finite.get u.files)
stay_same s u same nv x e = ap (λ (v : Versions). finite.get v nv) same ∙ e

-- the first of some loads, and those behind it
All-front : {A : Type 0} (P : A → Type 0) (front back : List A) → All P (front ++ back) → All P front
All-front P [] back all = All-nil P
All-front P (x ∷ front) back all = All-cons P x front (All-head P x (front ++ back) all) (All-front P front back (All-tail P x (front ++ back) all))

-- ---- turns that put at least so many questions

module _ (w : Told) (kind : GraphKind) where
  pub record Puts (s : State) (n : ℕ) : Type 0 where
    pub count : ℕ
    pub puts : n ≤ put_by w kind count s

  puts_none : (s : State) → Puts s 0
  puts_none s = record { count = 0; puts = omega arith }

  puts_fewer : (s : State) (m n : ℕ) → m ≤ n → Puts s n → Puts s m
  puts_fewer s m n fewer p = let all = p.puts in record { count = p.count; puts = omega (arith, fewer, all) }

  turns_one : (s : State) → turns w kind 1 s ≡ turn w kind s
  unfolding turns
  turns_one s = refl

  put_one : (s : State) → put_by w kind 1 s ≡ next_cost w s + 0
  unfolding put_by turns
  put_one s = refl

  -- before them one turn more
  puts_more : (s u : State) (cost n : ℕ) → u ≡ turn w kind s → cost ≤ next_cost w s → Puts u n → Puts s (cost + n)
  puts_more s u cost n is costs p =
      let all = p.puts in
      let whole = put_more w kind p.count 1 s in
      let one = put_one s in
      let at = ap (put_by w kind p.count) (turns_one s ∙ sym is) in
      record { count = p.count + 1; puts = omega (arith, all, whole, one, at, costs) }

  abbrev pub known_of : State → Known
  known_of s = (told_for w s.run).known

  abbrev ahead : State → List Load → ℕ
  ahead s loads = ahead_count (known_of s) w.registry s loads

  -- ---- loads

  -- of so many loads at the front of a state those that are asked about
  abbrev PutsAhead : List Load → Type 0
  PutsAhead front = (back : List Load) (s : State) → s.loads ≡ front ++ back → HasRead s → Puts s (ahead s front)

  -- after a turn that took the first load away, whatever it stored
  behind : (front back : List Load) → PutsAhead front → (s rest : State) (load : Load) (outcome : Outcome) (cost : ℕ) → s ≡ record rest { loads = load ∷ rest.loads } → rest.loads ≡ front ++ back → stored w.world.max_redirects rest load outcome ≡ turn w kind s → cost ≤ next_cost w s → HasRead s → HasRead (stored w.world.max_redirects rest load outcome) → Puts s (cost + ahead s front)
  behind front back all s rest load outcome cost left others is costs before after =
      let u = stored w.world.max_redirects rest load outcome in
      let now = stores w.world.max_redirects rest load outcome in
      let files : u.files ≡ s.files = now.files ∙ sym (ap (λ (x : State). x.files) left) in
      let run : u.run ≡ s.run = now.run ∙ sym (ap (λ (x : State). x.run) left) in
      let loads : u.loads ≡ front ++ (back ++ now.grows.0) = now.grows.1 ∙ ap (λ (l : List Load). l ++ now.grows.0) others ∙ append_assoc front back now.grows.0 in
      let every : All (IsReadFor s) (load ∷ (front ++ back)) = subst (λ (l : List Load). All (IsReadFor s) l) (ap (λ (x : State). x.loads) left ∙ ap (λ (l : List Load). load ∷ l) others) before.held.loads in
      let more = count_more (known_of s) w.registry s u front (stay_same s u files) (All-front (IsReadFor s) front back (All-tail (IsReadFor s) load (front ++ back) every)) in
      let same : ahead u front ≡ ahead_count (known_of s) w.registry u front = ap (λ r. ahead_count (told_for w r).known w.registry u front) run in
      puts_more s u cost (ahead s front) is costs (puts_fewer u (ahead s front) (ahead u front) (omega (arith, more, same)) (all (back ++ now.grows.0) u loads after))

  -- once its version's file is known, a load isn't read first any more
  module _ (s : State) (load : Load) (nv : PackageNv) (how : manner_in (known_of s).sums w.registry s load ≡ ReadsFirst nv) (held : IsReadFor s load) where
    abbrev kept_then : Result KeptVersion JsrLoadError
    kept_then = told_version (told_for w s.run) nv

    abbrev after : State
    after = file_kept s nv kept_then

    to_read : IsToRead (known_of s).sums w.registry (finite.get s.files) load.specifier load.context nv
    to_read = reads_is (known_of s).sums w.registry (finite.get s.files) load.specifier load.context nv how

    manner_then : manner_in (known_of s).sums w.registry after load ≡ known_manner w.registry load.specifier nv (Some kept_then)
    manner_then = manner_known (known_of s).sums w.registry (finite.get after.files) load.specifier load.context nv (Some kept_then)
        (held_stays (finite.get s.files) (finite.get after.files) load.specifier load.context.«package» (files_kept s nv kept_then) held ∙ to_read.alone)
        to_read.names
        (answer_there s.files nv kept_then to_read.unknown)

    never_by_sum : (v : KeptVersion) (o : Option (List ℕ)) (n : PackageNv) → by_option o Unsupported (λ sum. IsAskedAs (asked_by_url v sum)) ≡ ReadsFirst n → ⊥
    never_by_sum v None n e = let wrong : Unsupported ≡ ReadsFirst n = e in cc
    never_by_sum v (Some sum) n e = let wrong : IsAskedAs (asked_by_url v sum) ≡ ReadsFirst n = e in cc

    never_by : (k : Result KeptVersion JsrLoadError) (n : PackageNv) → known_manner w.registry load.specifier nv (Some k) ≡ ReadsFirst n → ⊥
    never_by (Ok v) n e = never_by_sum v (sum_in_version v load.specifier) n e
    never_by (Err error) n e = let wrong : Unread (w.registry.package_url nv) error ≡ ReadsFirst n = e in cc

    read_once : (n : PackageNv) → manner_in (known_of s).sums w.registry after load ≡ ReadsFirst n → ⊥
    read_once n e = never_by kept_then n (sym manner_then ∙ e)

  asks_cost : (known : Known) (load : Load) (asked : Asked) → 1 ≤ turn_cost w.world known load asked
  asks_cost known load asked = by (asks_again asked (first_to w.world known asked load.specifier load.context))
    where
      by : (b : Bool) → 1 ≤ (if b then 2 else 1)
      by true = omega arith
      by false = omega arith

  module _ (front back : List Load) (all : PutsAhead front) (s : State) (load : Load) (first : s.loads ≡ load ∷ (front ++ back)) (quiet : s.notes ≡ []) (before : HasRead s) where
    abbrev rest : State
    rest = record s { loads = front ++ back }

    left : s ≡ record rest { loads = load ∷ rest.loads }
    left = ap (λ (l : List Load). record s { loads = l }) first

    -- it is asked about, at so many questions
    by_asking : (asked : Asked) (cost : ℕ) → manner_in (known_of s).sums w.registry s load ≡ IsAskedAs asked → cost ≤ turn_cost w.world (known_of s) load asked → Puts s (cost + ahead s front)
    by_asking asked cost how costs =
        let outcome = told_outcome (told_for w s.run) kind load asked in
        let paid = cost_asks w kind s rest load left quiet asked how in
        behind front back all s rest load outcome cost left refl (sym (turn_asks w kind s rest load left quiet asked how)) (omega (arith, costs, paid)) before
        (read_asked w.world.max_redirects (known_of s).sums w.registry s rest load asked outcome left how (outcome_suits (making_of w kind) load asked w.world (known_of s)) before)

    by_failing : (m : Manner) (outcome : Outcome) → manner_in (known_of s).sums w.registry s load ≡ m → failing load m ≡ Some outcome → Puts s (0 + ahead s front)
    by_failing m outcome how fails =
        let fails_now = ap (failing load) how ∙ fails in
        behind front back all s rest load outcome 0 left refl (sym (turn_fails w kind s rest load left quiet outcome fails_now)) (omega arith) before
        (read_failed w.world.max_redirects s rest load m outcome left fails before)

    -- it isn't read first
    by_now : (m : Manner) → manner_in (known_of s).sums w.registry s load ≡ m → ((n : PackageNv) → m ≡ ReadsFirst n → ⊥) → Puts s (asked_count m + ahead s front)
    by_now (IsAskedAs asked) how never = by_asking asked 1 how (asks_cost (known_of s) load asked)
    by_now (ReadsFirst nv) how never = absurd (never nv refl)
    by_now (Unread name e) how never = by_failing (Unread name e) _ how refl
    by_now Unsupported how never = by_failing Unsupported _ how refl

  -- the file of its version is read before, at so many questions
  by_reading : (front back : List Load) → PutsAhead front → (s : State) (load : Load) → s.loads ≡ load ∷ (front ++ back) → s.notes ≡ [] → HasRead s → (nv : PackageNv) (cost : ℕ) → manner_in (known_of s).sums w.registry s load ≡ ReadsFirst nv → cost ≤ file_cost (known_of s) (Version nv) → Puts s (cost + ahead s front)
  by_reading front back all s load first quiet before nv cost how costs =
      let rest : State = record s { loads = front ++ back } in
      let left : s ≡ record rest { loads = load ∷ rest.loads } = ap (λ (l : List Load). record s { loads = l }) first in
      let every : All (IsReadFor s) (load ∷ (front ++ back)) = subst (λ (l : List Load). All (IsReadFor s) l) first before.held.loads in
      let held = All-head (IsReadFor s) load (front ++ back) every in
      let u = after s load nv how held in
      let now : HasRead u = read_file w.registry s nv (told_file (told_for w s.run) (Version nv)) before in
      let m = manner_in (known_of u).sums w.registry u load in
      let step = by_now front back all u load first quiet now m refl (read_once s load nv how held) in
      let more = count_more (known_of s) w.registry s u front (files_kept s nv (kept_then s load nv how held)) (All-front (IsReadFor s) front back (All-tail (IsReadFor s) load (front ++ back) every)) in
      let paid = cost_reads w kind s rest load left quiet nv how in
      puts_more s u cost (ahead s front) (sym (turn_reads w kind s rest load left quiet nv how)) (omega (arith, costs, paid)) (puts_fewer u (ahead s front) (asked_count m + ahead u front) (omega (arith, more)) step)

  by_manner : (front back : List Load) → PutsAhead front → (u : State) (load : Load) → u.loads ≡ load ∷ (front ++ back) → u.notes ≡ [] → HasRead u → (m : Manner) → manner_in (known_of u).sums w.registry u load ≡ m → Puts u (asked_count m + ahead u front)
  by_manner front back all u load at quiet now (IsAskedAs asked) how = by_now front back all u load at quiet now (IsAskedAs asked) how (λ n e. let wrong : IsAskedAs asked ≡ ReadsFirst n = e in cc)
  by_manner front back all u load at quiet now (ReadsFirst nv) how = by_reading front back all u load at quiet now nv 0 how (omega arith)
  by_manner front back all u load at quiet now (Unread name e) how = by_now front back all u load at quiet now (Unread name e) how (λ n is. let wrong : Unread name e ≡ ReadsFirst n = is in cc)
  by_manner front back all u load at quiet now Unsupported how = by_now front back all u load at quiet now Unsupported how (λ n is. let wrong : Unsupported ≡ ReadsFirst n = is in cc)

  by_notes : (front back : List Load) → PutsAhead front → (s : State) (load : Load) → s.loads ≡ load ∷ (front ++ back) → HasRead s → (notes : List Note) → s.notes ≡ notes → Puts s (ahead s (load ∷ front))
  by_notes front back all s load first before [] quiet = by_manner front back all s load first quiet before (manner_in (known_of s).sums w.registry s load) refl
  by_notes front back all s load first before (note ∷ notes) noted =
      let u = notes_added w.registry s in
      let now : HasRead u = record { held = held_next w.registry w.newest s Notes before.held; named = before.named } in
      let every : All (IsReadFor s) (load ∷ (front ++ back)) = subst (λ (l : List Load). All (IsReadFor s) l) first before.held.loads in
      let more = count_more (known_of s) w.registry s u (load ∷ front) (stay_same s u refl) (All-front (IsReadFor s) (load ∷ front) back every) in
      let step = by_manner front back all u load first refl now (manner_in (known_of u).sums w.registry u load) refl in
      puts_fewer s (ahead s (load ∷ front)) (0 + ahead s (load ∷ front)) (omega arith) (puts_more s u 0 (ahead s (load ∷ front)) (sym (turn_notes w kind s note notes noted)) (omega arith) (puts_fewer u (ahead s (load ∷ front)) (ahead u (load ∷ front)) more step))

  loads_put : (front : List Load) → PutsAhead front
  loads_put [] back s first before = puts_none s
  loads_put (load ∷ front) back s first before = by_notes front back (loads_put front) s load first before s.notes refl

  -- ---- files that a pass wants

  same_files : (file other : RegistryFile) (files others : List RegistryFile) → ◌≡◌ {A = List RegistryFile} (other ∷ others) (file ∷ files) → others ≡ files
  same_files file other files others e = cc

  abbrev PutsWanted : List RegistryFile → Type 0
  PutsWanted files = (s : State) → s.notes ≡ [] → s.loads ≡ [] → s.wanted ≡ files → Puts s (file_count (known_of s) files)

  by_kept : (file : RegistryFile) (files : List RegistryFile) → PutsWanted files → (s : State) → s.notes ≡ [] → s.loads ≡ [] → s.wanted ≡ file ∷ files → (answer : FileAnswer) (u : State) → WantedKept w.registry s answer u → Puts u (file_count (known_of s) files)
  by_kept file files all s quiet shut first answer u (no_file e) = absurd (let wrong : [] ≡ file ∷ files = sym e ∙ first in cc)
  by_kept file files all s quiet shut first answer u (of_package {files = others} e) = all u quiet shut (same_files file _ files others (sym e ∙ first))
  by_kept file files all s quiet shut first answer u (of_package_again {files = others} e) = all u quiet shut (same_files file _ files others (sym e ∙ first))
  by_kept file files all s quiet shut first answer u (of_probe {files = others} e) = all u quiet shut (same_files file _ files others (sym e ∙ first))
  by_kept file files all s quiet shut first answer u (of_version {files = others} e) = all u quiet shut (same_files file _ files others (sym e ∙ first))

  wanted_put : (files : List RegistryFile) → PutsWanted files
  wanted_put [] s quiet shut all = puts_none s
  wanted_put (file ∷ files) s quiet shut all =
      let answer = told_file (told_for w s.run) file in
      let u = wanted_kept w.registry s answer in
      let paid = cost_wanted w kind s file files quiet shut all in
      puts_more s u (file_cost (known_of s) file) (file_count (known_of s) files) (sym (turn_wanted w kind s file files quiet shut all)) (omega (arith, paid))
      (by_kept file files (wanted_put files) s quiet shut all answer u (how_wanted w.registry s answer))

  -- ---- contents that come later

  contents_put : (ls : List LaterContent) (s : State) → IsIdle s → s.contents ≡ ls → Puts s (length ls)
  contents_put [] s idle all = puts_none s
  contents_put (l ∷ ls) s idle all =
      let a = answer_of w.world (content_question (known_of s) l) in
      let u : State = record s { graph = content_placed s.graph l (loaded a); contents = ls } in
      let is : u ≡ turn w kind s = sym (turn_content w kind s l ls idle all ∙ first_stored s a l ls all) in
      let paid = cost_content w kind s l ls idle all in
      let idle_still : IsIdle u = record {
        none_open = idle.none_open;
        none_deferred = idle.none_deferred;
        none_waits = idle.none_waits;
        none_noted = idle.none_noted;
        none_wanted = idle.none_wanted;
        none_waiting = idle.none_waiting;
        none_passing = idle.none_passing;
        none_due = idle.none_due;
      } in
      puts_fewer s (length (l ∷ ls)) (1 + length ls) (omega arith) (puts_more s u 1 (length ls) is (omega (arith, paid)) (contents_put ls u idle_still refl))

  -- ---- what stands

  -- turns put what was answered of the next turn, and what is open
  pub next_put : (s : State) (stage : Stage) → IsNext (Some w.world) (known_of s) w.registry s stage → HasRead s → Puts s (through stage + open_by (known_of s) w.registry s (next_of s))
  next_put s stage (rests is) before =
      let open_now : open_by (known_of s) w.registry s (next_of s) ≡ 0 = ap (open_by (known_of s) w.registry s) is in
      puts_fewer s _ 0 (omega (arith, open_now)) (puts_none s)
  next_put s stage (asks {asked = asked} {load = load} {loads = loads} is first how) before =
      let open_now : open_by (known_of s) w.registry s (next_of s) ≡ 1 + ahead s loads = ap (open_by (known_of s) w.registry s) is ∙ ap (load_count (known_of s) w.registry s) first in
      let whole : s.loads ≡ load ∷ (loads ++ []) = first ∙ ap (λ (l : List Load). load ∷ l) (sym (append-nil loads)) in
      puts_fewer s _ (1 + ahead s loads) (omega (arith, open_now)) (by_asking loads [] (loads_put loads) s load whole (no_notes s (next_of s) (how_next s) is) before asked 1 how (asks_cost (known_of s) load asked))
  next_put s stage (asks_again_by {asked = asked} {first = a} {load = load} {loads = loads} is first how right again) before =
      let open_now : open_by (known_of s) w.registry s (next_of s) ≡ 1 + ahead s loads = ap (open_by (known_of s) w.registry s) is ∙ ap (load_count (known_of s) w.registry s) first in
      let whole : s.loads ≡ load ∷ (loads ++ []) = first ∙ ap (λ (l : List Load). load ∷ l) (sym (append-nil loads)) in
      let two : turn_cost w.world (known_of s) load asked ≡ 2 = ap (λ (b : Bool). if b then 2 else 1) (ap (asks_again asked) (sym right) ∙ again) in
      puts_fewer s _ (2 + ahead s loads) (omega (arith, open_now)) (by_asking loads [] (loads_put loads) s load whole (no_notes s (next_of s) (how_next s) is) before asked 2 how (omega (arith, two)))
  next_put s stage (reads {nv = nv} {load = load} {loads = loads} is first how fresh at) before =
      let open_now : open_by (known_of s) w.registry s (next_of s) ≡ 1 + ahead s loads = ap (open_by (known_of s) w.registry s) is ∙ ap (load_count (known_of s) w.registry s) first in
      let whole : s.loads ≡ load ∷ (loads ++ []) = first ∙ ap (λ (l : List Load). load ∷ l) (sym (append-nil loads)) in
      let one : file_cost (known_of s) (Version nv) ≡ 1 = ap (λ (b : Bool). if b then 0 else 1) fresh in
      puts_fewer s _ (1 + ahead s loads) (omega (arith, open_now)) (by_reading loads [] (loads_put loads) s load whole (no_notes s (next_of s) (how_next s) is) before nv 1 how (omega (arith, one)))
  next_put s stage (looks {file = file} {files = files} is first fresh at) before =
      let quiet = no_loads s (next_of s) (how_next s) is in
      let open_now : open_by (known_of s) w.registry s (next_of s) ≡ file_count (known_of s) s.wanted = ap (open_by (known_of s) w.registry s) is in
      puts_fewer s _ (file_count (known_of s) s.wanted) (omega (arith, open_now)) (wanted_put s.wanted s quiet.0 quiet.1 refl)
  next_put s stage (fills {l = l} {ls = ls} is first) before =
      let open_now : open_by (known_of s) w.registry s (next_of s) ≡ length s.contents = ap (open_by (known_of s) w.registry s) is in
      puts_fewer s _ (length s.contents) (omega (arith, open_now)) (contents_put s.contents s (idle_next s (next_of s) (how_next s) is) refl)

  -- a build that is over its budget is one whose turns are
  pub turns_over : (start : State) (budget : ℕ) → HasRead start → IsOver w.world.max_redirects w.known (Some w.world) (told_means w kind) start budget → PutsOver w kind start budget
  turns_over start budget begins over =
      let led = run_turned w kind start over.run in
      let now = read_by_run w.world.max_redirects w.known (Some w.world) (told_means w kind) start begins over.run in
      let rest = next_put over.state over.stage over.next now in
      let whole = put_more w kind rest.count led.count start in
      let at = ap (put_by w kind rest.count) (sym led.state_is) in
      let puts = rest.puts in
      let put_is = led.put_is in
      let more = over.more_open in
      record { count = rest.count + led.count; over = omega (arith, whole, at, puts, put_is, more) }

  -- ---- the end

  ends_still : (n : ℕ) (s : State) → IsAtEnd s → (turns w kind n s ≡ s) × (put_by w kind n s ≡ 0)
  unfolding turns put_by
  ends_still zero s ends = (refl, refl)
  ends_still (suc n) s ends =
      let before = ends_still n s ends in
      let free : next_cost w (turns w kind n s) ≡ 0 = ap (next_cost w) before.0 ∙ cost_end w kind s ends in
      let none = before.1 in (
        ap (turn w kind) before.0 ∙ turn_end w kind s ends,
        omega (arith, free, none),
      )

  -- once turns are at their end, no more are put
  pub turns_within : (start : State) (count budget : ℕ) → IsAtEnd (turns w kind count start) → put_by w kind count start ≤ budget → PutsWithin w kind start budget
  turns_within start count budget ends within n =
      let first = put_more w kind count n start in
      let last = put_more w kind n count start in
      let none = (ends_still n (turns w kind count start) ends).1 in
      let sum : count + n ≡ n + count = omega arith in
      let same = ap (λ m. put_by w kind m start) sum in
      omega (arith, first, last, none, same, within)
