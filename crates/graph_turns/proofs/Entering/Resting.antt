-- What each kind of turn is and costs; turns that put no question.
use Rattle.std.proofs.Common.{◌≡◌, ℕ, zero, suc, ◌+◌, List, [], ◌∷◌, Bool, true, false, Option, None, Some, if◌then◌else◌, refl, sym, ap, ◌∙◌, subst, arith}
use Rattle.std.proofs.lemmas.Bool.{true≢false}
use Rattle.url.specs.Parts.{Parts}
use Rattle.graph_dependencies.specs.declared.graph_kind.GraphKind.{GraphKind}
use Rattle.module_slots.specs.declared.load.Load.{Load}
use Rattle.module_slots.specs.declared.load.LoadContext.{LoadContext}
use Rattle.semver_npm.specs.declared.package.PackageNv.{PackageNv}
use Rattle.version_dates.specs.declared.newest_date.NewestDependencyDateOptions.{NewestDependencyDateOptions}
use Rattle.source_io.specs.Answers.{answer_of}
use Rattle.registry_urls.specs.Meaning.{RegistryMeaning}
use Rattle.graph_turns.specs.declared.question_of.Asked.{Asked}
use Rattle.graph_turns.specs.declared.dependencies.Note.{Note}
use Rattle.graph_turns.specs.declared.later_content.LaterContent.{LaterContent}
use Rattle.graph_turns.specs.declared.manner.Manner.{Manner}
use Rattle.graph_turns.specs.declared.manner.Manner.TheVariants.{Asks, Reads, Unread, Unsupported}
use Rattle.graph_turns.specs.declared.next.Next.{Next}
use Rattle.graph_turns.specs.declared.next.Next.TheVariants.{Notes, Load as ALoad, Wanted, Restart, Item, Versions, Exports, Deferred, Waiting, Dynamic, Content, End}
use Rattle.graph_turns.specs.declared.outcome.Outcome.{Outcome}
use Rattle.graph_turns.specs.declared.passes.Pass.{Pass}
use Rattle.graph_turns.specs.declared.registry.RegistryFile.{RegistryFile}
use Rattle.graph_turns.specs.declared.registry.RegistryFile.TheVariants.{Version}
use Rattle.graph_turns.specs.declared.state.State.{State}
use Rattle.graph_turns.specs.declared.waiting.WaitingPackage.{WaitingPackage}
use Rattle.graph_turns.specs.Machine.Choosing.{judged}
use Rattle.graph_turns.specs.Machine.Contents.{content_stored}
use Rattle.graph_turns.specs.Machine.Entering.{enter_all, stored}
use Rattle.graph_turns.specs.Machine.Files.{file_kept}
use Rattle.graph_turns.specs.Machine.Next.{next_entry, next_in, next_of, stands, where_any}
use Rattle.graph_turns.specs.Machine.Passes.{exports_entered, pass_begun, versions_asked}
use Rattle.graph_turns.specs.Machine.RegistryFiles.{wanted_kept}
use Rattle.graph_turns.specs.Machine.Runs.{is_due, restarted, told_for}
use Rattle.graph_turns.specs.Machine.Turns.{IsAtEnd, IsIdle, IsStanding, cost_by, deferred_entered, dynamic_entered, failing, file_cost, first_content_turn, first_file_turn, first_load_turn, gone_on, load_cost, load_turn, manner_cost, manner_in, next_cost, put_by, told_outcome, turn, turn_by, turn_cost, turns, wanted_cost}
use Rattle.graph_turns.specs.Machine.Waiting.{notes_added}
use Rattle.graph_turns.specs.Promise.Contents.{content_question}
use Rattle.graph_turns.specs.Promise.Told.{Told}
use Rattle.graph_turns.specs.Promise.Versions.{is_stored, told_file, told_version}
use Rattle.graph_turns.proofs.Entering.Next.{IsCalm, IsOutside, NextIs, cost_as, how_next, turn_as}
use Rattle.graph_turns.proofs.Entering.Next.NextIs.{notes as comes_notes, loads as comes_load, wanted as comes_file, restart as comes_restart, item as comes_item, versions as comes_versions, exports as comes_exports, deferred as comes_deferred, waiting as comes_waiting, dynamic as comes_dynamic, content as comes_content, ends as comes_end}

-- ---- what comes next

module _ (s : State) where
  abbrev behind_wanted : Next
  behind_wanted = if is_due s.run then Restart else next_in s s.pass

  abbrev behind_loads : Next
  behind_loads = where_any s.wanted Wanted behind_wanted

  abbrev behind_notes : Next
  behind_notes = where_any s.loads ALoad behind_loads

  past_notes : s.notes ≡ [] → next_of s ≡ behind_notes
  past_notes e = ap (λ (l : List Note). where_any l Notes behind_notes) e

  past_loads : s.loads ≡ [] → behind_notes ≡ behind_loads
  past_loads e = ap (λ (l : List Load). where_any l ALoad behind_loads) e

  past_wanted : s.wanted ≡ [] → behind_loads ≡ behind_wanted
  past_wanted e = ap (λ (l : List RegistryFile). where_any l Wanted behind_wanted) e

  by_run : (b : Bool) → is_due s.run ≡ b → behind_wanted ≡ (if b then Restart else next_in s s.pass)
  by_run b e = ap (λ x. if x then Restart else next_in s s.pass) e

  past_calm : IsCalm s → next_of s ≡ next_in s s.pass
  past_calm c = past_notes c.no_note ∙ past_loads c.no_load ∙ past_wanted c.no_file ∙ by_run false c.not_due

  by_entering : (p : Pass) (b : Bool) → IsCalm s → s.pass ≡ Some p → p.is_entering ≡ b → next_of s ≡ (if b then Exports else where_any p.items Item Versions)
  by_entering p b c goes e = past_calm c ∙ ap (next_in s) goes ∙ ap (λ x. if x then Exports else where_any p.items Item Versions) e

  past_pass : IsOutside s → next_of s ≡ next_entry s
  past_pass o = past_calm o.calm ∙ ap (next_in s) o.no_pass

  abbrev behind_dynamic : Next
  behind_dynamic = where_any s.contents Content End

  abbrev behind_waiting : Next
  behind_waiting = where_any s.dynamic Dynamic behind_dynamic

  abbrev behind_deferred : Next
  behind_deferred = where_any s.waiting Waiting behind_waiting

  past_deferred : IsOutside s → s.deferred ≡ [] → next_of s ≡ behind_deferred
  past_deferred o e = past_pass o ∙ ap (λ (l : List (Parts × LoadContext)). where_any l Deferred behind_deferred) e

  past_waiting : IsOutside s → s.deferred ≡ [] → s.waiting ≡ [] → next_of s ≡ behind_waiting
  past_waiting o d e = past_deferred o d ∙ ap (λ (l : List WaitingPackage). where_any l Waiting behind_waiting) e

  pub outside_idle : IsIdle s → IsOutside s
  outside_idle i = record {
    calm = record { no_note = i.none_noted; no_load = i.none_open; no_file = i.none_wanted; not_due = i.none_due };
    no_pass = i.none_passing;
  }

  past_dynamic : IsIdle s → next_of s ≡ behind_dynamic
  past_dynamic i = past_waiting (outside_idle i) i.none_deferred i.none_waiting ∙ ap (λ (l : List (Parts × Load)). where_any l Dynamic behind_dynamic) i.none_waits

  -- what stands there says what comes next
  pub next_as : (n : Next) → NextIs s n → next_of s ≡ n
  next_as n (comes_notes e) = ap (λ (l : List Note). where_any l Notes behind_notes) e
  next_as n (comes_load m e) = past_notes m ∙ ap (λ (l : List Load). where_any l ALoad behind_loads) e
  next_as n (comes_file m l e) = past_notes m ∙ past_loads l ∙ ap (λ (x : List RegistryFile). where_any x Wanted behind_wanted) e
  next_as n (comes_restart m l w d) = past_notes m ∙ past_loads l ∙ past_wanted w ∙ by_run true d
  next_as n (comes_item {p} c goes e i) = by_entering p false c goes e ∙ ap (λ (l : List WaitingPackage). where_any l Item Versions) i
  next_as n (comes_versions {p} c goes e i) = by_entering p false c goes e ∙ ap (λ (l : List WaitingPackage). where_any l Item Versions) i
  next_as n (comes_exports {p} c goes e) = by_entering p true c goes e
  next_as n (comes_deferred o e) = past_pass o ∙ ap (λ (l : List (Parts × LoadContext)). where_any l Deferred behind_deferred) e
  next_as n (comes_waiting o d e) = past_deferred o d ∙ ap (λ (l : List WaitingPackage). where_any l Waiting behind_waiting) e
  next_as n (comes_dynamic o d w e) = past_waiting o d w ∙ ap (λ (l : List (Parts × Load)). where_any l Dynamic behind_dynamic) e
  next_as n (comes_content i e) = past_dynamic i ∙ ap (λ (l : List LaterContent). where_any l Content End) e
  next_as n (comes_end a) = past_dynamic a.idle ∙ ap (λ (l : List LaterContent). where_any l Content End) a.none_comes

-- ---- turns by what comes next

goes_by : (told : Told) (kind : GraphKind) (s : State) (n : Next) → stands n ≡ false → turn_by told kind s n ≡ gone_on told.registry told.newest s n
goes_by told kind s Notes f = refl
goes_by told kind s ALoad f = absurd (true≢false f)
goes_by told kind s Wanted f = absurd (true≢false f)
goes_by told kind s Restart f = refl
goes_by told kind s Item f = refl
goes_by told kind s Versions f = refl
goes_by told kind s Exports f = refl
goes_by told kind s Deferred f = refl
goes_by told kind s Waiting f = refl
goes_by told kind s Dynamic f = refl
goes_by told kind s Content f = absurd (true≢false f)
goes_by told kind s End f = absurd (true≢false f)

free_by : (told : Told) (s : State) (n : Next) → stands n ≡ false → cost_by told s n ≡ 0
free_by told s Notes f = refl
free_by told s ALoad f = absurd (true≢false f)
free_by told s Wanted f = absurd (true≢false f)
free_by told s Restart f = refl
free_by told s Item f = refl
free_by told s Versions f = refl
free_by told s Exports f = refl
free_by told s Deferred f = refl
free_by told s Waiting f = refl
free_by told s Dynamic f = refl
free_by told s Content f = absurd (true≢false f)
free_by told s End f = absurd (true≢false f)

module _ (w : Told) (kind : GraphKind) (s : State) where
  -- what holds of each kind of turn holds of a turn
  pub by_turn : (P : State → Type 0) → ((n : Next) → NextIs s n → P (turn_by (told_for w s.run) kind s n)) → P (turn w kind s)
  by_turn P all = subst P (sym (turn_as w kind s (next_of s) refl)) (all (next_of s) (how_next s))

  pub turn_is : (n : Next) → NextIs s n → turn w kind s ≡ turn_by (told_for w s.run) kind s n
  turn_is n next = turn_as w kind s n (next_as s n next)

  pub cost_is : (n : Next) → NextIs s n → next_cost w s ≡ cost_by (told_for w s.run) s n
  cost_is n next = cost_as w s n (next_as s n next)

  -- what needs no answer is done, and costs nothing
  pub turn_next : (n : Next) → next_of s ≡ n → stands n ≡ false → turn w kind s ≡ gone_on w.registry w.newest s n
  turn_next n is f = turn_as w kind s n is ∙ goes_by (told_for w s.run) kind s n f

  pub cost_next : (n : Next) → next_of s ≡ n → stands n ≡ false → next_cost w s ≡ 0
  cost_next n is f = cost_as w s n is ∙ free_by (told_for w s.run) s n f

  pub turn_notes : (note : Note) (others : List Note) → s.notes ≡ note ∷ others → turn w kind s ≡ notes_added w.registry s
  turn_notes note others e = turn_is Notes (comes_notes e)

  pub turn_restart : s.notes ≡ [] → s.loads ≡ [] → s.wanted ≡ [] → is_due s.run ≡ true → turn w kind s ≡ restarted s
  turn_restart m l x d = turn_is Restart (comes_restart m l x d)

  pub turn_item : (p : Pass) (first : WaitingPackage) (others : List WaitingPackage) → IsCalm s → s.pass ≡ Some p → p.is_entering ≡ false → p.items ≡ first ∷ others → turn w kind s ≡ judged w.newest s
  turn_item p first others c goes e i = turn_is Item (comes_item c goes e i)

  pub turn_versions : (p : Pass) → IsCalm s → s.pass ≡ Some p → p.is_entering ≡ false → p.items ≡ [] → turn w kind s ≡ versions_asked s
  turn_versions p c goes e i = turn_is Versions (comes_versions c goes e i)

  pub turn_exports : (p : Pass) → IsCalm s → s.pass ≡ Some p → p.is_entering ≡ true → turn w kind s ≡ exports_entered s
  turn_exports p c goes e = turn_is Exports (comes_exports c goes e)

  pub turn_deferred : (x : Parts × LoadContext) (es : List (Parts × LoadContext)) → IsOutside s → s.deferred ≡ x ∷ es → turn w kind s ≡ deferred_entered s
  turn_deferred x es o d = turn_is Deferred (comes_deferred o d)

  pub turn_waiting : (x : WaitingPackage) (es : List WaitingPackage) → IsOutside s → s.deferred ≡ [] → s.waiting ≡ x ∷ es → turn w kind s ≡ pass_begun s
  turn_waiting x es o d e = turn_is Waiting (comes_waiting o d e)

  pub turn_dynamic : (x : Parts × Load) (es : List (Parts × Load)) → IsOutside s → s.deferred ≡ [] → s.waiting ≡ [] → s.dynamic ≡ x ∷ es → turn w kind s ≡ dynamic_entered s
  turn_dynamic x es o d e f = turn_is Dynamic (comes_dynamic o d e f)

  -- ---- a file that a pass wants

  pub turn_wanted : (file : RegistryFile) (files : List RegistryFile) → s.notes ≡ [] → s.loads ≡ [] → s.wanted ≡ file ∷ files → turn w kind s ≡ wanted_kept w.registry s (told_file (told_for w s.run) file)
  turn_wanted file files m l e = turn_is Wanted (comes_file m l e) ∙ ap (first_file_turn (told_for w s.run) s) e

  pub cost_wanted : (file : RegistryFile) (files : List RegistryFile) → s.notes ≡ [] → s.loads ≡ [] → s.wanted ≡ file ∷ files → next_cost w s ≡ file_cost (told_for w s.run).known file
  cost_wanted file files m l e = cost_is Wanted (comes_file m l e) ∙ ap (wanted_cost (told_for w s.run).known) e

  -- ---- the end

  pub turn_content : (l : LaterContent) (ls : List LaterContent) → IsIdle s → s.contents ≡ l ∷ ls → turn w kind s ≡ content_stored s (answer_of w.world (content_question (told_for w s.run).known l))
  turn_content l ls i c = turn_is Content (comes_content i c) ∙ ap (first_content_turn (told_for w s.run) s) c

  pub cost_content : (l : LaterContent) (ls : List LaterContent) → IsIdle s → s.contents ≡ l ∷ ls → next_cost w s ≡ 1
  cost_content l ls i c = cost_is Content (comes_content i c)

  pub turn_end : IsAtEnd s → turn w kind s ≡ s
  turn_end a = turn_is End (comes_end a)

  pub cost_end : IsAtEnd s → next_cost w s ≡ 0
  cost_end a = cost_is End (comes_end a)

-- ---- turns that follow one another

module _ (w : Told) (kind : GraphKind) where
  pub turns_more : (m k : ℕ) (s : State) → turns w kind (m + k) s ≡ turns w kind m (turns w kind k s)
  unfolding turns
  turns_more zero k s = let none : zero + k ≡ k = omega arith in ap (λ n. turns w kind n s) none
  turns_more (suc m) k s = let one : suc m + k ≡ suc (m + k) = omega arith in ap (λ n. turns w kind n s) one ∙ ap (turn w kind) (turns_more m k s)

  -- the questions of turns and of turns after them
  pub put_more : (m k : ℕ) (s : State) → put_by w kind (m + k) s ≡ put_by w kind m (turns w kind k s) + put_by w kind k s
  unfolding put_by
  put_more zero k s =
      let none : zero + k ≡ k = omega arith in
      let same : put_by w kind k s ≡ 0 + put_by w kind k s = omega arith in
      ap (λ n. put_by w kind n s) none ∙ same
  put_more (suc m) k s =
      let one : suc m + k ≡ suc (m + k) = omega arith in
      let rest = put_more m k s in
      let at = ap (next_cost w) (turns_more m k s) in
      let both : next_cost w (turns w kind (m + k) s) + put_by w kind (m + k) s ≡ next_cost w (turns w kind m (turns w kind k s)) + put_by w kind m (turns w kind k s) + put_by w kind k s = omega (arith, rest, at) in
      ap (λ n. put_by w kind n s) one ∙ both

  -- some turns that put no question lead from one state to another
  pub record IsSilent (s u : State) : Type 0 where
    pub count : ℕ
    pub is : u ≡ turns w kind count s
    pub puts_none : put_by w kind count s ≡ 0

  pub silent_none : (s : State) → IsSilent s s
  unfolding turns put_by
  silent_none s = record { count = 0; is = refl; puts_none = refl }

  pub silent_both : (s t u : State) → IsSilent s t → IsSilent t u → IsSilent s u
  silent_both s t u a b = record {
    count = b.count + a.count;
    is = b.is ∙ ap (turns w kind b.count) a.is ∙ sym (turns_more b.count a.count s);
    puts_none =
        let p = put_more b.count a.count s in
        let q = ap (put_by w kind b.count) (sym a.is) ∙ b.puts_none in
        let r = a.puts_none in
        omega (arith, p, q, r);
  }

  -- so does one that puts none
  pub one_silent : (s u : State) → next_cost w s ≡ 0 → u ≡ turn w kind s → IsSilent s u
  unfolding turns put_by
  one_silent s u none is = record { count = 1; is = is; puts_none = (let all : next_cost w s + 0 ≡ 0 = omega (arith, none) in all) }

  -- what comes next is done, where it needs no answer
  pub silent_next : (s : State) (n : Next) → next_of s ≡ n → stands n ≡ false → IsSilent s (gone_on w.registry w.newest s n)
  silent_next s n is f = one_silent s _ (cost_next w kind s n is f) (sym (turn_next w kind s n is f))

  -- a file that the given store has is kept
  pub silent_wanted : (s : State) (file : RegistryFile) (files : List RegistryFile) → s.notes ≡ [] → s.loads ≡ [] → s.wanted ≡ file ∷ files → is_stored (told_for w s.run).known.store file ≡ true → IsSilent s (wanted_kept w.registry s (told_file (told_for w s.run) file))
  silent_wanted s file files m l e t =
      one_silent s _ (cost_wanted w kind s file files m l e ∙ ap (λ b. if b then 0 else 1) t) (sym (turn_wanted w kind s file files m l e))

-- ---- the turn of a load

some_same : (x y : Outcome) → Some x ≡ Some y → x ≡ y
some_same x y e = cc

-- by how it goes
pub turn_first : (w : Told) (kind : GraphKind) (s rest : State) (load : Load) → s ≡ record rest { loads = load ∷ rest.loads } → s.notes ≡ [] → turn w kind s ≡ load_turn (told_for w s.run) kind s load rest.loads (manner_in (told_for w s.run).known.sums w.registry s load)
turn_first w kind s rest load e m =
    let first : s.loads ≡ load ∷ rest.loads = ap (λ (x : State). x.loads) e in
    turn_is w kind s ALoad (comes_load m first) ∙ ap (first_load_turn (told_for w s.run) kind s) first

pub cost_first : (w : Told) (s : State) (load : Load) (loads : List Load) → s.loads ≡ load ∷ loads → s.notes ≡ [] → next_cost w s ≡ manner_cost w.world (told_for w s.run).known load (manner_in (told_for w s.run).known.sums w.registry s load)
cost_first w s load loads e m = cost_as w s ALoad (next_as s ALoad (comes_load m e)) ∙ ap (load_cost (told_for w s.run) s) e

module _ (w : Told) (kind : GraphKind) (s rest : State) (load : Load) (is : s ≡ record rest { loads = load ∷ rest.loads }) (none : s.notes ≡ []) where
  abbrev manner_now : Manner
  manner_now = manner_in (told_for w s.run).known.sums w.registry s load

  others : record s { loads = rest.loads } ≡ rest
  others = ap (λ (x : State). record x { loads = rest.loads }) is

  -- it is answered
  pub turn_asks : (asked : Asked) → manner_in (told_for w s.run).known.sums w.registry s load ≡ Asks asked → turn w kind s ≡ stored w.world.max_redirects rest load (told_outcome (told_for w s.run) kind load asked)
  turn_asks asked m =
      turn_first w kind s rest load is none ∙ ap (load_turn (told_for w s.run) kind s load rest.loads) m
      ∙ ap (λ x. stored w.world.max_redirects x load (told_outcome (told_for w s.run) kind load asked)) others

  -- the file of its version is read, and it stays the first
  pub turn_reads : (nv : PackageNv) → manner_in (told_for w s.run).known.sums w.registry s load ≡ Reads nv → turn w kind s ≡ file_kept s nv (told_version (told_for w s.run) nv)
  turn_reads nv m = turn_first w kind s rest load is none ∙ ap (load_turn (told_for w s.run) kind s load rest.loads) m

  fails : (m : Manner) (outcome : Outcome) → failing load m ≡ Some outcome → load_turn (told_for w s.run) kind s load rest.loads m ≡ stored w.world.max_redirects (record s { loads = rest.loads }) load outcome
  fails (Asks asked) outcome f = absurd (let wrong : None ≡ Some outcome = f in cc)
  fails (Reads nv) outcome f = absurd (let wrong : None ≡ Some outcome = f in cc)
  fails (Unread name e) outcome f = ap (stored w.world.max_redirects (record s { loads = rest.loads }) load) (some_same _ outcome f)
  fails Unsupported outcome f = ap (stored w.world.max_redirects (record s { loads = rest.loads }) load) (some_same _ outcome f)

  -- it fails without a question
  pub turn_fails : (outcome : Outcome) → failing load (manner_in (told_for w s.run).known.sums w.registry s load) ≡ Some outcome → turn w kind s ≡ stored w.world.max_redirects rest load outcome
  turn_fails outcome f =
      turn_first w kind s rest load is none ∙ fails manner_now outcome f
      ∙ ap (λ x. stored w.world.max_redirects x load outcome) others

  first_is : s.loads ≡ load ∷ rest.loads
  first_is = ap (λ (x : State). x.loads) is

  pub cost_asks : (asked : Asked) → manner_in (told_for w s.run).known.sums w.registry s load ≡ Asks asked → next_cost w s ≡ turn_cost w.world (told_for w s.run).known load asked
  cost_asks asked m = cost_first w s load rest.loads first_is none ∙ ap (manner_cost w.world (told_for w s.run).known load) m

  pub cost_reads : (nv : PackageNv) → manner_in (told_for w s.run).known.sums w.registry s load ≡ Reads nv → next_cost w s ≡ file_cost (told_for w s.run).known (Version nv)
  cost_reads nv m = cost_first w s load rest.loads first_is none ∙ ap (manner_cost w.world (told_for w s.run).known load) m

  fails_free : (m : Manner) (outcome : Outcome) → failing load m ≡ Some outcome → manner_cost w.world (told_for w s.run).known load m ≡ 0
  fails_free (Asks asked) outcome f = absurd (let wrong : None ≡ Some outcome = f in cc)
  fails_free (Reads nv) outcome f = absurd (let wrong : None ≡ Some outcome = f in cc)
  fails_free (Unread name e) outcome f = refl
  fails_free Unsupported outcome f = refl

  pub cost_fails : (outcome : Outcome) → failing load (manner_in (told_for w s.run).known.sums w.registry s load) ≡ Some outcome → next_cost w s ≡ 0
  cost_fails outcome f = cost_first w s load rest.loads first_is none ∙ fails_free manner_now outcome f

  pub silent_fails : (outcome : Outcome) → failing load (manner_in (told_for w s.run).known.sums w.registry s load) ≡ Some outcome → IsSilent w kind s (stored w.world.max_redirects rest load outcome)
  silent_fails outcome f = one_silent w kind s _ (cost_fails outcome f) (sym (turn_fails outcome f))

  -- the file of its version stands in the given store
  pub silent_reads : (nv : PackageNv) → manner_in (told_for w s.run).known.sums w.registry s load ≡ Reads nv → is_stored (told_for w s.run).known.store (Version nv) ≡ true → IsSilent w kind s (file_kept s nv (told_version (told_for w s.run) nv))
  silent_reads nv m t = one_silent w kind s _ (cost_reads nv m ∙ ap (λ b. if b then 0 else 1) t) (sym (turn_reads nv m))
