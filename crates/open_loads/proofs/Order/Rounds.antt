-- Where a turn passes without a question, less is left to load.
use Rattle.std.proofs.Common.{◌≡◌, ◌<◌, ℕ, List, [], ◌∷◌, drop, length, Bool, true, false, Option, None, Some, refl, ap, ◌∙◌, subst, option_map, sym, arith}
use Rattle.registry_urls.specs.Meaning.{RegistryMeaning}
use Rattle.module_slots.specs.declared.load.Load.{Load}
use Rattle.graph_turns.specs.declared.question_of.Asked.{Asked}
use Rattle.graph_turns.specs.declared.manner.Manner.{Manner}
use Rattle.graph_turns.specs.declared.manner.Manner.TheVariants.{Asks as IsAskedAs, Reads as ReadsFirst, Unread, Unsupported}
use Rattle.open_loads.specs.Order.OpenLoads.{OpenLoads, known_now}
use Rattle.open_loads.specs.Order.Numbered.{ahead_all, ahead_by, begun_known, begun_so, file_begun, late_by, load_begun, manner_at, one_ahead, one_wanted, read_so, stored_begun, stored_read, turn_begun, turn_begun_by, wanted_all, wanted_by}
use Rattle.graph_turns.specs.declared.next.Next.TheVariants.{Content, Deferred, Item, Notes, Restart, Wanted, Load as ALoad, Dynamic, End, Exports, Versions, Waiting}
use Rattle.registry_files.specs.Answers.{FileAnswer}
use Rattle.version_dates.specs.declared.newest_date.NewestDependencyDateOptions.{NewestDependencyDateOptions}
use Rattle.graph_turns.specs.declared.next.Next.{Next}
use Rattle.semver_npm.specs.declared.package.PackageNv.{PackageNv}
use Rattle.graph_turns.specs.declared.registry.RegistryFile.{RegistryFile}
use Rattle.graph_turns.specs.declared.registry.RegistryFile.TheVariants.{Version}
use Rattle.graph_turns.specs.Machine.Turns.{failing, gone_on, manner_in}
use Rattle.graph_turns.specs.Promise.Versions.{is_stored, answer_in}
use Rattle.graph_turns.specs.Machine.Runs.{known_for}
use Rattle.graph_turns.specs.Machine.Next.{next_of, stands}
use Rattle.graph_turns.specs.Machine.RegistryFiles.{wanted_kept}
use Rattle.url.specs.Parts.{Parts}
use Rattle.graph_turns.specs.Machine.Known.{Known}
use Rattle.graph_turns.proofs.Entering.Silent.{silently, silently_by, load_silently, first_silently, fails_silently, reads_silently, wanted_silently}
use Rattle.graph_turns.proofs.Entering.Measured.{left, fewer_left}
use Rattle.open_loads.proofs.Order.Wanted.{begun_by}
use Rattle.std.proofs.lemmas.Bool.{true≢false}

-- ---- questions that are put leave the state

pub record Puts (b new : OpenLoads) : Type 0 where
  pub state : new.state ≡ b.state
  pub known : new.known ≡ b.known
  pub redirects : new.redirects ≡ b.redirects

puts_same : (b : OpenLoads) → Puts b b
puts_same b = record { state = refl; known = refl; redirects = refl }

puts_both : (a b c : OpenLoads) → Puts a b → Puts b c → Puts a c
puts_both a b c p q = record { state = q.state ∙ p.state; known = q.known ∙ p.known; redirects = q.redirects ∙ p.redirects }

one_puts : (b : OpenLoads) (load : Load) (m : Manner) → Puts b (ahead_by b load m)
one_puts b load (IsAskedAs asked) = record { state = refl; known = refl; redirects = refl }
one_puts b load (ReadsFirst nv) = record { state = refl; known = refl; redirects = refl }
one_puts b load (Unread name error) = record { state = refl; known = refl; redirects = refl }
one_puts b load Unsupported = record { state = refl; known = refl; redirects = refl }

pub ahead_puts : (registry : RegistryMeaning) (loads : List Load) (b : OpenLoads) → Puts b (ahead_all registry loads b)
unfolding ahead_all
ahead_puts registry [] b = puts_same b
ahead_puts registry (load ∷ loads) b = puts_both b (one_ahead registry b load) (ahead_all registry loads (one_ahead registry b load)) (one_puts b load (manner_at registry b load)) (ahead_puts registry loads (one_ahead registry b load))

file_puts : (registry : RegistryMeaning) (b : OpenLoads) (file : RegistryFile) (z : Bool) → Puts b (wanted_by registry b file z)
file_puts registry b file true = record { state = refl; known = refl; redirects = refl }
file_puts registry b file false = record { state = refl; known = refl; redirects = refl }

pub wanted_puts : (registry : RegistryMeaning) (files : List RegistryFile) (b : OpenLoads) → Puts b (wanted_all registry files b)
unfolding wanted_all
wanted_puts registry [] b = puts_same b
wanted_puts registry (file ∷ files) b = puts_both b (one_wanted registry b file) (wanted_all registry files (one_wanted registry b file)) (file_puts registry b file (is_stored (known_now b).store file)) (wanted_puts registry files (one_wanted registry b file))

-- ---- a turn that passes

-- the state behind it is that of a step without an answer
record Passes (registry : RegistryMeaning) (newest : NewestDependencyDateOptions) (b new : OpenLoads) : Type 0 where
  silent : silently b.known registry newest b.redirects b.state ≡ Some new.state
  known : new.known ≡ b.known
  redirects : new.redirects ≡ b.redirects

module _ (registry : RegistryMeaning) (newest : NewestDependencyDateOptions) where
  passes_as : (a b new : OpenLoads) → Puts a b → Passes registry newest b new → Passes registry newest a new
  passes_as a b new same p = record {
    silent = sym (ap (λ (k : Known). silently k registry newest a.redirects a.state) same.known) ∙ (sym (ap (λ (n : ℕ). silently b.known registry newest n a.state) same.redirects) ∙ (sym (ap (silently b.known registry newest b.redirects) same.state) ∙ p.silent));
    known = p.known ∙ same.known;
    redirects = p.redirects ∙ same.redirects;
  }

  went_on : (b new : OpenLoads) (n : Next) → next_of b.state ≡ n → stands n ≡ false → (turn_begun_by registry newest b n ≡ (false, new)) → ((k : Known) → silently_by k registry newest b.redirects b.state n ≡ Some (gone_on registry newest b.state n)) → turn_begun_by registry newest b n ≡ (false, record b { state = gone_on registry newest b.state n }) → Passes registry newest b new
  went_on b new n comes silent e goes is =
      let same : record b { state = gone_on registry newest b.state n } ≡ new = ap (λ (x : Bool × OpenLoads). x.1) (sym is ∙ e) in
      subst (Passes registry newest b) same (record { silent = ap (silently_by (known_for b.known b.state.run) registry newest b.redirects b.state) comes ∙ goes (known_for b.known b.state.run); known = refl; redirects = refl })

  module _ (b : OpenLoads) (comes : next_of b.state ≡ ALoad) (new : OpenLoads) where
    abbrev known_here : Known
    known_here = known_now b

    silent_load : (load : Load) (loads : List Load) → b.state.loads ≡ load ∷ loads → silently b.known registry newest b.redirects b.state ≡ load_silently known_here registry b.redirects b.state load loads (manner_in known_here.sums registry b.state load)
    silent_load load loads e = ap (silently_by known_here registry newest b.redirects b.state) comes ∙ ap (first_silently known_here registry b.redirects b.state) e

    -- what a load comes to whose file was read in the given store
    by_read : (load : Load) (loads : List Load) (nv : PackageNv) (answer : FileAnswer) → silently b.known registry newest b.redirects b.state ≡ fails_silently b.redirects (stored_read registry b nv answer).state load loads (failing load (manner_in known_here.sums registry (stored_read registry b nv answer).state load)) → (m : Manner) → manner_in known_here.sums registry (stored_read registry b nv answer).state load ≡ m → begun_known registry (stored_read registry b nv answer) load loads m ≡ (false, new) → Passes registry newest b new
    by_read load loads nv answer silent (IsAskedAs asked) is e = absurd (true≢false (ap (λ (x : Bool × OpenLoads). x.0) e))
    by_read load loads nv answer silent (ReadsFirst again) is e = absurd (true≢false (ap (λ (x : Bool × OpenLoads). x.0) e))
    by_read load loads nv answer silent (Unread name error) is e =
        subst (Passes registry newest b) (ap (λ (x : Bool × OpenLoads). x.1) e)
        (record { silent = silent ∙ ap (λ (m : Manner). fails_silently b.redirects (stored_read registry b nv answer).state load loads (failing load m)) is; known = refl; redirects = refl })
    by_read load loads nv answer silent Unsupported is e =
        subst (Passes registry newest b) (ap (λ (x : Bool × OpenLoads). x.1) e)
        (record { silent = silent ∙ ap (λ (m : Manner). fails_silently b.redirects (stored_read registry b nv answer).state load loads (failing load m)) is; known = refl; redirects = refl })

    by_store : (load : Load) (loads : List Load) (nv : PackageNv) → silently b.known registry newest b.redirects b.state ≡ reads_silently known_here registry b.redirects b.state load loads nv (answer_in known_here.store (Version nv)) → (o : Option FileAnswer) → answer_in known_here.store (Version nv) ≡ o → read_so registry b load loads nv o ≡ (false, new) → Passes registry newest b new
    by_store load loads nv silent None is e = absurd (true≢false (ap (λ (x : Bool × OpenLoads). x.0) e))
    by_store load loads nv silent (Some answer) is e = by_read load loads nv answer (silent ∙ ap (reads_silently known_here registry b.redirects b.state load loads nv) is) (manner_at registry (stored_read registry b nv answer) load) refl e

    by_manner : (load : Load) (loads : List Load) → b.state.loads ≡ load ∷ loads → (m : Manner) → manner_at registry b load ≡ m → begun_so registry b load loads m ≡ (false, new) → Passes registry newest b new
    by_manner load loads here (IsAskedAs asked) is e = absurd (true≢false (ap (λ (x : Bool × OpenLoads). x.0) e))
    by_manner load loads here (ReadsFirst nv) is e = by_store load loads nv (silent_load load loads here ∙ ap (load_silently known_here registry b.redirects b.state load loads) is) (answer_in known_here.store (Version nv)) refl e
    by_manner load loads here (Unread name error) is e =
        subst (Passes registry newest b) (ap (λ (x : Bool × OpenLoads). x.1) e)
        (record { silent = silent_load load loads here ∙ ap (load_silently known_here registry b.redirects b.state load loads) is; known = refl; redirects = refl })
    by_manner load loads here Unsupported is e =
        subst (Passes registry newest b) (ap (λ (x : Bool × OpenLoads). x.1) e)
        (record { silent = silent_load load loads here ∙ ap (load_silently known_here registry b.redirects b.state load loads) is; known = refl; redirects = refl })

    by_late : (loads : List Load) → b.state.loads ≡ loads → late_by registry b loads ≡ (false, new) → Passes registry newest b new
    by_late [] here e = absurd (true≢false (ap (λ (x : Bool × OpenLoads). x.0) e))
    by_late (load ∷ loads) here e = by_manner load loads here (manner_at registry b load) refl e

  by_behind : (b new : OpenLoads) → next_of b.state ≡ ALoad → (ps : List (Option (ℕ × Asked))) → load_begun registry b ps ≡ (false, new) → Passes registry newest b new
  by_behind b new comes [] e = absurd (true≢false (ap (λ (x : Bool × OpenLoads). x.0) e))
  by_behind b new comes (Some p ∷ ps) e = absurd (true≢false (ap (λ (x : Bool × OpenLoads). x.0) e))
  by_behind b new comes (None ∷ ps) e =
      passes_as b (record b { behind = ps }) new (record { state = refl; known = refl; redirects = refl }) (by_late (record b { behind = ps }) comes new b.state.loads refl e)

  -- the first file is in the given store
  by_wanted : (b new : OpenLoads) → next_of b.state ≡ Wanted → (files : List RegistryFile) → b.state.wanted ≡ files → stored_begun registry b files ≡ (false, new) → Passes registry newest b new
  by_wanted b new comes [] here e = absurd (true≢false (ap (λ (x : Bool × OpenLoads). x.0) e))
  by_wanted b new comes (file ∷ files) here e = by_answer (answer_in (known_now b).store file) refl e
    where
      silent_file : silently b.known registry newest b.redirects b.state ≡ option_map (wanted_kept registry b.state) (answer_in (known_now b).store file)
      silent_file = ap (silently_by (known_now b) registry newest b.redirects b.state) comes ∙ ap (wanted_silently (known_now b) registry b.state) here

      by_answer : (o : Option FileAnswer) → answer_in (known_now b).store file ≡ o → begun_by registry b o ≡ (false, new) → Passes registry newest b new
      by_answer None is e = absurd (true≢false (ap (λ (x : Bool × OpenLoads). x.0) e))
      by_answer (Some answer) is e =
          subst (Passes registry newest b) (ap (λ (x : Bool × OpenLoads). x.1) e)
          (record { silent = silent_file ∙ ap (option_map (wanted_kept registry b.state)) is; known = refl; redirects = refl })

  by_file : (b new : OpenLoads) → next_of b.state ≡ Wanted → (ps : List (Option (ℕ × Parts))) → file_begun registry b ps ≡ (false, new) → Passes registry newest b new
  by_file b new comes [] e = absurd (true≢false (ap (λ (x : Bool × OpenLoads). x.0) e))
  by_file b new comes (Some p ∷ ps) e = absurd (true≢false (ap (λ (x : Bool × OpenLoads). x.0) e))
  by_file b new comes (None ∷ ps) e =
      passes_as b (record b { wanted = ps }) new (record { state = refl; known = refl; redirects = refl }) (by_wanted (record b { wanted = ps }) new comes b.state.wanted refl e)

  by_next : (b new : OpenLoads) (n : Next) → next_of b.state ≡ n → turn_begun_by registry newest b n ≡ (false, new) → Passes registry newest b new
  by_next b new Notes comes e = went_on b new Notes comes refl e (λ k. refl) refl
  by_next b new ALoad comes e =
      let ahead : OpenLoads = ahead_all registry (drop (length b.behind) b.state.loads) b in
      let puts = ahead_puts registry (drop (length b.behind) b.state.loads) b in
      passes_as b ahead new puts (by_behind ahead new (ap next_of puts.state ∙ comes) ahead.behind e)
  by_next b new Wanted comes e =
      let asked : OpenLoads = wanted_all registry (drop (length b.wanted) b.state.wanted) b in
      let puts = wanted_puts registry (drop (length b.wanted) b.state.wanted) b in
      passes_as b asked new puts (by_file asked new (ap next_of puts.state ∙ comes) asked.wanted e)
  by_next b new Restart comes e = went_on b new Restart comes refl e (λ k. refl) refl
  by_next b new Item comes e = went_on b new Item comes refl e (λ k. refl) refl
  by_next b new Versions comes e = went_on b new Versions comes refl e (λ k. refl) refl
  by_next b new Exports comes e = went_on b new Exports comes refl e (λ k. refl) refl
  by_next b new Deferred comes e = went_on b new Deferred comes refl e (λ k. refl) refl
  by_next b new Waiting comes e = went_on b new Waiting comes refl e (λ k. refl) refl
  by_next b new Dynamic comes e = went_on b new Dynamic comes refl e (λ k. refl) refl
  by_next b new Content comes e = absurd (true≢false (ap (λ (x : Bool × OpenLoads). x.0) e))
  by_next b new End comes e = absurd (true≢false (ap (λ (x : Bool × OpenLoads). x.0) e))

-- how many steps without an answer there are from a build on
abbrev pub left_in : RegistryMeaning → NewestDependencyDateOptions → OpenLoads → ℕ
left_in registry newest b = left b.known registry newest b.redirects b.state

-- a turn that passes leaves fewer
pub round_fewer : (registry : RegistryMeaning) (newest : NewestDependencyDateOptions) (b next : OpenLoads) → turn_begun registry newest b ≡ (false, next) → left_in registry newest next < left_in registry newest b
round_fewer registry newest b next e =
    let passes = by_next registry newest b next (next_of b.state) refl e in
    let less = fewer_left b.known registry newest b.redirects b.state next.state passes.silent in
    let same : left next.known registry newest next.redirects next.state ≡ left b.known registry newest b.redirects next.state = ap (λ (k : Known). left k registry newest next.redirects next.state) passes.known ∙ ap (λ (n : ℕ). left b.known registry newest n next.state) passes.redirects in
    omega (arith, less, same)
