-- What is open in a state is put by the turns from there to the end.
use Rattle.std.proofs.Common.{◌≡◌, ℕ, zero, suc, ◌+◌, ◌≤◌, List, [], ◌∷◌, ◌++◌, length, get_or, Bool, true, false, Option, None, Some, refl, sym, ap, ◌∙◌, subst, arith, if◌then◌else◌}
use Rattle.std.specs.Prelude.{All, Result}
use Rattle.std.proofs.lemmas.List.{append-nil}
use Rattle.std.proofs.lemmas.List.Elements.{All-head, All-tail, All-weaker}
use Rattle.std.specs.FinMap as finite
use Rattle.semver_npm.specs.declared.package.PackageNv.{PackageNv}
use Rattle.source_io.specs.Answers.{answer_of}
use Rattle.source_io.specs.declared.types.Answer.{Answer}
use Rattle.source_io.specs.declared.types.World.{World}
use Rattle.registry_urls.specs.Meaning.{RegistryMeaning}
use Rattle.graph_core.specs.declared.graph.ModuleGraph.{ModuleGraph}
use Rattle.graph_dependencies.specs.declared.graph_kind.GraphKind.{GraphKind}
use Rattle.module_slots.specs.declared.load.Load.{Load}
use Rattle.graph_turns.specs.declared.question_of.Asked.{Asked}
use Rattle.graph_turns.specs.declared.later_content.LaterContent.{LaterContent}
use Rattle.graph_turns.specs.declared.manner.Manner.{Manner}
use Rattle.graph_turns.specs.declared.manner.Manner.TheVariants.{Asks as IsAskedAs, Reads as ReadsFirst, Unread, Unsupported}
use Rattle.graph_turns.specs.declared.next.Next.{Next}
use Rattle.graph_turns.specs.declared.next.Next.TheVariants.{Load as ALoad, Wanted, Content, End}
use Rattle.graph_turns.specs.declared.outcome.Outcome.{Outcome}
use Rattle.graph_turns.specs.declared.registry.RegistryFile.{RegistryFile}
use Rattle.graph_turns.specs.declared.registry.RegistryFile.TheVariants.{Package, PackageAgain, Version, Probe}
use Rattle.graph_turns.specs.declared.starting.ResolvedStart.{ResolvedStart}
use Rattle.graph_turns.specs.declared.state.State.{State}
use Rattle.registry_files.specs.Answers.{FileAnswer}
use Rattle.registry_files.specs.declared.kept_version.KeptVersion.{KeptVersion}
use Rattle.graph_errors.specs.declared.jsr_error.JsrLoadError.{JsrLoadError}
use Rattle.graph_turns.specs.declared.run.Run.{Run}
use Rattle.graph_turns.specs.Promise.Contents.{content_question}
use Rattle.graph_turns.specs.Machine.Contents.{content_by, content_stored}
use Rattle.graph_turns.specs.Machine.Entering.{stored}
use Rattle.graph_turns.specs.Machine.Files.{file_kept}
use Rattle.graph_turns.specs.Machine.Held.{IsHeld, IsReadAt}
use Rattle.graph_turns.specs.Machine.Known.{Known}
use Rattle.graph_turns.specs.Machine.Next.{next_of}
use Rattle.graph_turns.specs.Machine.RegistryFiles.{answer_kept, first_kept, wanted_kept}
use Rattle.graph_turns.specs.Machine.Runs.{begun_over, known_for, told_for}
use Rattle.graph_turns.specs.Machine.Turns.{IsAtEnd, IsIdle, failing, file_cost, manner_cost, manner_in, next_cost, put_by, turn, turn_cost, turns}
use Rattle.graph_turns.specs.Machine.Waiting.{notes_added}
use Rattle.graph_turns.specs.Promise.Told.{Told}
use Rattle.graph_turns.specs.Promise.Versions.{is_stored, told_file}
use Rattle.graph_turns.specs.Machine.Outcomes.{failure_outcome}
use Rattle.graph_errors.specs.declared.jsr_error.JsrLoadError.TheVariants.{UnsupportedManifestChecksum}
use Rattle.graph_turns.specs.Promise.Taken.{asks_again, first_to}
use Rattle.graph_turns.proofs.Entering.Files.{FilesStay, files_kept, wanted_first}
use Rattle.graph_turns.proofs.Entering.Manners.{asked_stays}
use Rattle.graph_turns.proofs.Entering.Next.{IsCalm, IsOutside, NextIs, how_next}
use Rattle.graph_turns.proofs.Entering.Next.NextIs.{notes as comes_notes, loads as comes_load, wanted as comes_file, restart as comes_restart, item as comes_item, versions as comes_versions, exports as comes_exports, deferred as comes_deferred, waiting as comes_waiting, dynamic as comes_dynamic, content as comes_content, ends as comes_end}
use Rattle.graph_turns.proofs.Entering.Rested.{Grows, Stores, grows_none, stores}
use Rattle.graph_turns.proofs.Entering.Resting.{cost_asks, cost_content, cost_first, cost_reads, cost_wanted, outside_idle, turn_asks, turn_content, turn_fails, turn_notes, turn_reads, turn_wanted, turns_more, put_more}
use Rattle.turn_laws.proofs.Promise.KeptTurns.{kept_begun, kept_turns}
use Rattle.open_loads.specs.Budget.Open.{ahead_count, asked_count, file_count, load_count, open_by}
use Rattle.graph_builder.proofs.Budget.Orderly.{idle_next, open_next}
use Rattle.open_loads.specs.Order.Asking.{AnswersAs, IsNext, asked_question, through}
use Rattle.open_loads.specs.Order.Asking.IsNext.{rests, asks, asks_again_by, reads, looks, fills}
use Rattle.open_loads.specs.declared.turn_stage.Stage.{Stage}

-- ---- counts of open loads

-- whatever is behind them, where as many of them are asked about
module _ (known : Known) (registry : RegistryMeaning) (s u : State) where
  ahead_grown : (loads more : List Load) → All (λ (load : Load). asked_count (manner_in known.sums registry s load) ≤ asked_count (manner_in known.sums registry u load)) loads → ahead_count known registry s loads ≤ ahead_count known registry u (loads ++ more)
  ahead_grown [] more all = omega arith
  ahead_grown (load ∷ loads) more all =
      let here = All-head (λ (x : Load). asked_count (manner_in known.sums registry s x) ≤ asked_count (manner_in known.sums registry u x)) load loads all in
      let rest = ahead_grown loads more (All-tail (λ (x : Load). asked_count (manner_in known.sums registry s x) ≤ asked_count (manner_in known.sums registry u x)) load loads all) in
      omega (arith, here, rest)

asked_most : (m n : Manner) → ((asked : Asked) → m ≡ IsAskedAs asked → n ≡ IsAskedAs asked) → asked_count m ≤ asked_count n
asked_most (IsAskedAs asked) n stays = let one : asked_count n ≡ 1 = ap asked_count (stays asked refl) in omega (arith, one)
asked_most (ReadsFirst nv) n stays = omega arith
asked_most (Unread name e) n stays = omega arith
asked_most Unsupported n stays = omega arith

one_or_two : (b : Bool) → 1 ≤ (if b then 2 else 1)
one_or_two true = omega arith
one_or_two false = omega arith

noted : (s : State) (n : Next) → NextIs s n → n ≡ ALoad → s.notes ≡ []
noted s n (comes_notes e) is = absurd cc
noted s n (comes_load m e) is = m
noted s n (comes_file m l e) is = m
noted s n (comes_restart m l x d) is = m
noted s n (comes_item c goes e i) is = c.no_note
noted s n (comes_versions c goes e i) is = c.no_note
noted s n (comes_exports c goes e) is = c.no_note
noted s n (comes_deferred o e) is = o.calm.no_note
noted s n (comes_waiting o d e) is = o.calm.no_note
noted s n (comes_dynamic o d y e) is = o.calm.no_note
noted s n (comes_content i e) is = i.none_noted
noted s n (comes_end i) is = i.idle.none_noted

-- ---- what turns leave open

module _ (w : Told) (kind : GraphKind) where
  -- open loads that are asked about before all else, and wanted files that are
  abbrev ahead_in : State → ℕ
  ahead_in s = ahead_count (known_for w.known s.run) w.registry s s.loads

  abbrev files_in : State → ℕ
  files_in s = file_count (known_for w.known s.run) s.wanted

  -- loads that stay open count as before
  carried : (s u : State) (loads : List Load) → u.run ≡ s.run → Grows loads u.loads → All (λ (load : Load). asked_count (manner_in (known_for w.known s.run).sums w.registry s load) ≤ asked_count (manner_in (known_for w.known s.run).sums w.registry u load)) loads → ahead_count (known_for w.known s.run) w.registry s loads ≤ ahead_in u
  carried s u loads run grows all =
      let grown = ahead_grown (known_for w.known s.run) w.registry s u loads grows.0 all in
      let same : ahead_in u ≡ ahead_count (known_for w.known s.run) w.registry u (loads ++ grows.0) =
      ap (λ (r : Run). ahead_count (known_for w.known r) w.registry u u.loads) run ∙ ap (ahead_count (known_for w.known s.run) w.registry u) grows.1 in
      omega (arith, grown, same)

  same_manner : (s u : State) (known : Known) (load : Load) → u.files ≡ s.files → asked_count (manner_in known.sums w.registry s load) ≤ asked_count (manner_in known.sums w.registry u load)
  same_manner s u known load same = rw same (omega arith)

  -- so behind a load that was answered, or failed
  carried_stored : (s : State) (load : Load) (others : List Load) (o : Outcome) → ahead_count (known_for w.known s.run) w.registry s others ≤ ahead_in (stored w.world.max_redirects (record s { loads = others }) load o)
  carried_stored s load others o =
      let rest : State = record s { loads = others } in
      let u = stored w.world.max_redirects rest load o in
      let leaves = stores w.world.max_redirects rest load o in
      carried s u others leaves.run leaves.grows (λ k d below. same_manner s u (known_for w.known s.run) (get_or others k d) leaves.files)

  carried_file : (s : State) (load : Load) (others : List Load) (nv : PackageNv) (kept : Result KeptVersion JsrLoadError) → s.loads ≡ load ∷ others → IsHeld s → ahead_count (known_for w.known s.run) w.registry s others ≤ ahead_in (file_kept s nv kept)
  carried_file s load others nv kept first held =
      let u : State = file_kept s nv kept in
      let read : All (λ (x : Load). IsReadAt (finite.get s.files) x.context.«package») (load ∷ others) = subst (λ (ls : List Load). All (λ (x : Load). IsReadAt (finite.get s.files) x.context.«package») ls) first held.loads in
      let rest = All-tail (λ (x : Load). IsReadAt (finite.get s.files) x.context.«package») load others read in
      let stays : All (λ (x : Load). asked_count (manner_in (known_for w.known s.run).sums w.registry s x) ≤ asked_count (manner_in (known_for w.known s.run).sums w.registry u x)) others =
      All-weaker (λ (x : Load). IsReadAt (finite.get s.files) x.context.«package») (λ (x : Load). asked_count (manner_in (known_for w.known s.run).sums w.registry s x) ≤ asked_count (manner_in (known_for w.known s.run).sums w.registry u x))
      (λ x r. asked_most (manner_in (known_for w.known s.run).sums w.registry s x) (manner_in (known_for w.known s.run).sums w.registry u x)
      (λ asked is. asked_stays (known_for w.known s.run).sums w.registry (finite.get s.files) (finite.get u.files) (files_kept s nv kept) x.specifier x.context asked r is)) others rest in
      let grown = ahead_grown (known_for w.known s.run) w.registry s u others [] stays in
      let same : ahead_in u ≡ asked_count (manner_in (known_for w.known s.run).sums w.registry u load) + ahead_count (known_for w.known s.run) w.registry u others = ap (ahead_count (known_for w.known s.run) w.registry u) first in
      let none : ahead_count (known_for w.known s.run) w.registry u (others ++ []) ≡ ahead_count (known_for w.known s.run) w.registry u others = ap (ahead_count (known_for w.known s.run) w.registry u) (append-nil others) in
      omega (arith, grown, same, none)

  left : (s : State) (load : Load) (others : List Load) → s.loads ≡ load ∷ others → s ≡ record (record s { loads = others }) { loads = load ∷ others }
  left s load others e = ap (λ (l : List Load). record s { loads = l }) e

  -- the loads behind the first open one
  rest_ahead : (s : State) (load : Load) (others : List Load) → s.loads ≡ load ∷ others → s.notes ≡ [] → IsHeld s → ahead_count (known_for w.known s.run) w.registry s others ≤ ahead_in (turn w kind s)
  rest_ahead s load others first none held = by (manner_in (told_for w s.run).known.sums w.registry s load) refl
    where
      at : (u : State) → turn w kind s ≡ u → ahead_count (known_for w.known s.run) w.registry s others ≤ ahead_in u → ahead_count (known_for w.known s.run) w.registry s others ≤ ahead_in (turn w kind s)
      at u same below = subst (λ (x : State). ahead_count (known_for w.known s.run) w.registry s others ≤ ahead_in x) (sym same) below

      by : (m : Manner) → manner_in (told_for w s.run).known.sums w.registry s load ≡ m → ahead_count (known_for w.known s.run) w.registry s others ≤ ahead_in (turn w kind s)
      by (IsAskedAs asked) how = at _ (turn_asks w kind s (record s { loads = others }) load (left s load others first) none asked how) (carried_stored s load others _)
      by (ReadsFirst nv) how = at _ (turn_reads w kind s (record s { loads = others }) load (left s load others first) none nv how) (carried_file s load others nv _ first held)
      by (Unread name e) how = at _ (turn_fails w kind s (record s { loads = others }) load (left s load others first) none _ (ap (failing load) how)) (carried_stored s load others _)
      by Unsupported how = at _ (turn_fails w kind s (record s { loads = others }) load (left s load others first) none _ (ap (failing load) how)) (carried_stored s load others _)

  manner_pays : (world : World) (known : Known) (load : Load) (m : Manner) → asked_count m ≤ manner_cost world known load m
  manner_pays world known load (IsAskedAs asked) = one_or_two (asks_again asked (first_to world known asked load.specifier load.context))
  manner_pays world known load (ReadsFirst nv) = omega arith
  manner_pays world known load (Unread name e) = omega arith
  manner_pays world known load Unsupported = omega arith

  no_ahead : (s : State) → s.loads ≡ [] → ahead_in s ≡ 0
  no_ahead s none = ap (ahead_count (known_for w.known s.run) w.registry s) none

  none_ahead : (s : State) (x : ℕ) → s.loads ≡ [] → ahead_in s ≤ x
  none_ahead s x none = let zero_ahead = no_ahead s none in omega (arith, zero_ahead)

  -- a turn puts a question about the first of them, and leaves the others
  ahead_step : (s : State) → IsHeld s → ahead_in s ≤ next_cost w s + ahead_in (turn w kind s)
  ahead_step s held = by (next_of s) (how_next s)
    where
      by : (n : Next) → NextIs s n → ahead_in s ≤ next_cost w s + ahead_in (turn w kind s)
      by n (comes_notes {note} {others} e) =
          let u : State = notes_added w.registry s in
          let kept : ahead_in s ≤ ahead_in u = carried s u s.loads refl (grows_none s.loads) (λ k d below. same_manner s u (known_for w.known s.run) (get_or s.loads k d) refl) in
          let same = ap ahead_in (turn_notes w kind s note others e) in
          omega (arith, kept, same)
      by n (comes_load {load} {others} m e) =
          let behind = rest_ahead s load others e m held in
          let pays = manner_pays w.world (told_for w s.run).known load (manner_in (told_for w s.run).known.sums w.registry s load) in
          let costs = cost_first w s load others e m in
          let all : ahead_in s ≡ asked_count (manner_in (known_for w.known s.run).sums w.registry s load) + ahead_count (known_for w.known s.run) w.registry s others = ap (ahead_count (known_for w.known s.run) w.registry s) e in
          omega (arith, behind, pays, costs, all)
      by n (comes_file m l e) = none_ahead s _ l
      by n (comes_restart m l x d) = none_ahead s _ l
      by n (comes_item c goes e i) = none_ahead s _ c.no_load
      by n (comes_versions c goes e i) = none_ahead s _ c.no_load
      by n (comes_exports c goes e) = none_ahead s _ c.no_load
      by n (comes_deferred o e) = none_ahead s _ o.calm.no_load
      by n (comes_waiting o d e) = none_ahead s _ o.calm.no_load
      by n (comes_dynamic o d y e) = none_ahead s _ o.calm.no_load
      by n (comes_content i e) = none_ahead s _ i.none_open
      by n (comes_end i) = none_ahead s _ i.idle.none_open

  -- ---- files

  stored_files : (s : State) (load : Load) (others : List Load) (o : Outcome) → files_in (stored w.world.max_redirects (record s { loads = others }) load o) ≡ files_in s
  stored_files s load others o =
      let rest : State = record s { loads = others } in
      let leaves = stores w.world.max_redirects rest load o in
      ap (λ (r : Run). file_count (known_for w.known r) (stored w.world.max_redirects rest load o).wanted) leaves.run ∙ ap (file_count (known_for w.known s.run)) leaves.wanted

  load_files : (s : State) (load : Load) (others : List Load) → s.loads ≡ load ∷ others → s.notes ≡ [] → files_in (turn w kind s) ≡ files_in s
  load_files s load others first none = by (manner_in (told_for w s.run).known.sums w.registry s load) refl
    where
      by : (m : Manner) → manner_in (told_for w s.run).known.sums w.registry s load ≡ m → files_in (turn w kind s) ≡ files_in s
      by (IsAskedAs asked) how = ap files_in (turn_asks w kind s (record s { loads = others }) load (left s load others first) none asked how) ∙ stored_files s load others _
      by (ReadsFirst nv) how = ap files_in (turn_reads w kind s (record s { loads = others }) load (left s load others first) none nv how)
      by (Unread name e) how = ap files_in (turn_fails w kind s (record s { loads = others }) load (left s load others first) none _ (ap (failing load) how)) ∙ stored_files s load others _
      by Unsupported how = ap files_in (turn_fails w kind s (record s { loads = others }) load (left s load others first) none _ (ap (failing load) how)) ∙ stored_files s load others _

  kept_files : (s : State) (files : List RegistryFile) (file : RegistryFile) (answer : FileAnswer) → files_in (answer_kept w.registry (record s { wanted = files }) file answer) ≡ file_count (known_for w.known s.run) files
  kept_files s files (Package name) answer = refl
  kept_files s files (PackageAgain name) answer = refl
  kept_files s files (Version nv) answer = refl
  kept_files s files (Probe nv) answer = refl

  none_files : (s : State) (x : ℕ) → s.wanted ≡ [] → files_in s ≤ x
  none_files s x none = let zero_files : files_in s ≡ 0 = ap (file_count (known_for w.known s.run)) none in omega (arith, zero_files)

  no_files : (s : State) → s.wanted ≡ [] → files_in s ≡ 0
  no_files s none = ap (file_count (known_for w.known s.run)) none

  files_step : (s : State) → files_in s ≤ next_cost w s + files_in (turn w kind s)
  files_step s = by (next_of s) (how_next s)
    where
      by : (n : Next) → NextIs s n → files_in s ≤ next_cost w s + files_in (turn w kind s)
      by n (comes_notes {note} {others} e) =
          let same : files_in (turn w kind s) ≡ files_in s = ap files_in (turn_notes w kind s note others e) in
          omega (arith, same)
      by n (comes_load {load} {others} m e) = let same = load_files s load others e m in omega (arith, same)
      by n (comes_file {file} {others} m l e) =
          let answer = told_file (told_for w s.run) file in
          let same = ap files_in (turn_wanted w kind s file others m l e ∙ wanted_first w.registry s answer file others e) ∙ kept_files s others file answer in
          let costs = cost_wanted w kind s file others m l e in
          let all : files_in s ≡ file_cost (known_for w.known s.run) file + file_count (known_for w.known s.run) others = ap (file_count (known_for w.known s.run)) e in
          omega (arith, same, costs, all)
      by n (comes_restart m l x d) = none_files s _ x
      by n (comes_item c goes e i) = none_files s _ c.no_file
      by n (comes_versions c goes e i) = none_files s _ c.no_file
      by n (comes_exports c goes e) = none_files s _ c.no_file
      by n (comes_deferred o e) = none_files s _ o.calm.no_file
      by n (comes_waiting o d e) = none_files s _ o.calm.no_file
      by n (comes_dynamic o d y e) = none_files s _ o.calm.no_file
      by n (comes_content i e) = none_files s _ i.none_wanted
      by n (comes_end i) = none_files s _ i.idle.none_wanted

  -- ---- contents

  idle_filled : (s : State) (l : LaterContent) (ls : List LaterContent) (a : Answer) → IsIdle s → IsIdle (content_by s (l ∷ ls) a)
  idle_filled s l ls a i = record {
    none_open = i.none_open;
    none_deferred = i.none_deferred;
    none_waits = i.none_waits;
    none_noted = i.none_noted;
    none_wanted = i.none_wanted;
    none_waiting = i.none_waiting;
    none_passing = i.none_passing;
    none_due = i.none_due;
  }

  -- a turn comes before all others
  turns_behind : (m : ℕ) (s : State) → turns w kind (suc m) s ≡ turns w kind m (turn w kind s)
  unfolding turns
  turns_behind m s = let e : suc m ≡ m + 1 = omega arith in ap (λ (n : ℕ). turns w kind n s) e ∙ turns_more w kind m 1 s

  put_behind : (m : ℕ) (s : State) → put_by w kind (suc m) s ≡ put_by w kind m (turn w kind s) + (next_cost w s + 0)
  unfolding turns put_by
  put_behind m s = let e : suc m ≡ m + 1 = omega arith in ap (λ (n : ℕ). put_by w kind n s) e ∙ put_more w kind m 1 s

  contents_by : (m : ℕ) (s : State) (contents : List LaterContent) → IsIdle s → s.contents ≡ contents → IsAtEnd (turns w kind m (turn w kind s)) → (IsIdle (turn w kind s) → IsAtEnd (turns w kind m (turn w kind s)) → length (turn w kind s).contents ≤ put_by w kind m (turn w kind s)) → length s.contents ≤ put_by w kind (suc m) s
  contents_by m s [] i is end again = let none : length s.contents ≡ 0 = ap (λ (xs : List LaterContent). length xs) is in omega (arith, none)
  contents_by m s (l ∷ ls) i is end again =
      let a = answer_of w.world (content_question (told_for w s.run).known l) in
      let turned : turn w kind s ≡ content_by s (l ∷ ls) a = turn_content w kind s l ls i is ∙ ap (λ (xs : List LaterContent). content_by s xs a) is in
      let rest = again (subst IsIdle (sym turned) (idle_filled s l ls a i)) end in
      let fewer : length (turn w kind s).contents ≡ length ls = ap (λ (x : State). length x.contents) turned in
      let some : length s.contents ≡ suc (length ls) = ap (λ (xs : List LaterContent). length xs) is in
      let costs = cost_content w kind s l ls i is in
      let all = put_behind m s in
      omega (arith, rest, fewer, some, costs, all)

  contents_put : (m : ℕ) (s : State) → IsIdle s → IsAtEnd (turns w kind m s) → length s.contents ≤ put_by w kind m s
  unfolding turns put_by
  contents_put zero s i end = let none : length s.contents ≡ 0 = ap (λ (ls : List LaterContent). length ls) end.none_comes in omega (arith, none)
  contents_put (suc m) s i end = contents_by m s s.contents i refl (subst IsAtEnd (turns_behind m s) end) (contents_put m (turn w kind s))

-- ---- along turns

module _ (w : Told) (g : ModuleGraph) (start : ResolvedStart) where
  held_at : (n : ℕ) → IsHeld (turns w g.kind n (begun_over w.known g start))
  held_at n = (kept_turns w g start n (begun_over w.known g start) (kept_begun w g start)).kept.held

  -- what each turn puts or leaves is put by the end
  bound : (F : State → ℕ) → ((n : ℕ) → F (turns w g.kind n (begun_over w.known g start)) ≤ next_cost w (turns w g.kind n (begun_over w.known g start)) + F (turns w g.kind (suc n) (begun_over w.known g start))) → ((s : State) → IsAtEnd s → F s ≡ 0)
      → (m n : ℕ) → IsAtEnd (turns w g.kind (m + n) (begun_over w.known g start)) → F (turns w g.kind n (begun_over w.known g start)) + put_by w g.kind n (begun_over w.known g start) ≤ put_by w g.kind (m + n) (begun_over w.known g start)
  unfolding turns put_by
  bound F step end_is zero n end =
      let e : zero + n ≡ n = omega arith in
      let none = end_is _ (subst (λ k. IsAtEnd (turns w g.kind k (begun_over w.known g start))) e end) in
      let same = ap (λ k. put_by w g.kind k (begun_over w.known g start)) e in
      omega (arith, none, same)
  bound F step end_is (suc m) n end =
      let e : suc m + n ≡ m + suc n = omega arith in
      let same = ap (λ k. put_by w g.kind k (begun_over w.known g start)) e in
      let rest = bound F step end_is m (suc n) (subst (λ k. IsAtEnd (turns w g.kind k (begun_over w.known g start))) e end) in
      let here = step n in
      omega (arith, rest, same, here)

  ahead_bound : (m n : ℕ) → IsAtEnd (turns w g.kind (m + n) (begun_over w.known g start)) → ahead_in w g.kind (turns w g.kind n (begun_over w.known g start)) + put_by w g.kind n (begun_over w.known g start) ≤ put_by w g.kind (m + n) (begun_over w.known g start)
  unfolding turns
  ahead_bound m n end = bound (ahead_in w g.kind) (λ k. ahead_step w g.kind (turns w g.kind k (begun_over w.known g start)) (held_at k)) (λ s at_end. no_ahead w g.kind s at_end.idle.none_open) m n end

  files_bound : (m n : ℕ) → IsAtEnd (turns w g.kind (m + n) (begun_over w.known g start)) → files_in w g.kind (turns w g.kind n (begun_over w.known g start)) + put_by w g.kind n (begun_over w.known g start) ≤ put_by w g.kind (m + n) (begun_over w.known g start)
  unfolding turns
  files_bound m n end = bound (files_in w g.kind) (λ k. files_step w g.kind (turns w g.kind k (begun_over w.known g start))) (λ s at_end. no_files w g.kind s at_end.idle.none_wanted) m n end

  -- the turn of a load puts so many more, and those behind it are put behind it
  load_bound : (m n extra : ℕ) (load : Load) (others : List Load) → next_of (turns w g.kind n (begun_over w.known g start)) ≡ ALoad → (turns w g.kind n (begun_over w.known g start)).loads ≡ load ∷ others
      → suc extra ≤ next_cost w (turns w g.kind n (begun_over w.known g start)) → IsAtEnd (turns w g.kind (m + n) (begun_over w.known g start))
      → put_by w g.kind n (begun_over w.known g start) + extra + open_by (known_for w.known (turns w g.kind n (begun_over w.known g start)).run) w.registry (turns w g.kind n (begun_over w.known g start)) (next_of (turns w g.kind n (begun_over w.known g start))) ≤ put_by w g.kind (m + n) (begun_over w.known g start)
  unfolding turns put_by
  load_bound zero n extra load others next first costs end =
      let e : zero + n ≡ n = omega arith in
      let none = (subst (λ k. IsAtEnd (turns w g.kind k (begun_over w.known g start))) e end).idle.none_open in
      absurd (let wrong : load ∷ others ≡ [] = sym first ∙ none in cc)
  load_bound (suc m) n extra load others next first costs end =
      let s = turns w g.kind n (begun_over w.known g start) in
      let e : suc m + n ≡ m + suc n = omega arith in
      let same = ap (λ k. put_by w g.kind k (begun_over w.known g start)) e in
      let behind = rest_ahead w g.kind s load others first (noted s (next_of s) (how_next s) next) (held_at n) in
      let rest = ahead_bound m (suc n) (subst (λ k. IsAtEnd (turns w g.kind k (begun_over w.known g start))) e end) in
      let open_now : open_by (known_for w.known s.run) w.registry s (next_of s) ≡ 1 + ahead_count (known_for w.known s.run) w.registry s others =
      ap (open_by (known_for w.known s.run) w.registry s) next ∙ ap (load_count (known_for w.known s.run) w.registry s) first in
      omega (arith, same, behind, rest, open_now, costs)

  -- what is open where a turn stands is put by the end
  pub open_bound : (m n : ℕ) (stage : Stage) → IsNext (Some w.world) (known_for w.known (turns w g.kind n (begun_over w.known g start)).run) w.registry (turns w g.kind n (begun_over w.known g start)) stage → IsAtEnd (turns w g.kind (m + n) (begun_over w.known g start))
      → put_by w g.kind n (begun_over w.known g start) + through stage + open_by (known_for w.known (turns w g.kind n (begun_over w.known g start)).run) w.registry (turns w g.kind n (begun_over w.known g start)) (next_of (turns w g.kind n (begun_over w.known g start))) ≤ put_by w g.kind (m + n) (begun_over w.known g start)
  open_bound m n stage (rests next) end =
      let s = turns w g.kind n (begun_over w.known g start) in
      let none : open_by (known_for w.known s.run) w.registry s (next_of s) ≡ 0 = ap (open_by (known_for w.known s.run) w.registry s) next in
      let all = put_more w g.kind m n (begun_over w.known g start) in
      omega (arith, none, all)
  open_bound m n stage (asks {ticket} {asked} {load} {loads} next first how) end =
      let s = turns w g.kind n (begun_over w.known g start) in
      let costs = cost_first w s load loads first (noted s (next_of s) (how_next s) next) ∙ ap (manner_cost w.world (told_for w s.run).known load) how in
      let some = one_or_two (asks_again asked (first_to w.world (told_for w s.run).known asked load.specifier load.context)) in
      load_bound m n 0 load loads next first (omega (arith, costs, some)) end
  open_bound m n stage (asks_again_by {ticket} {asked} {first = answer} {load} {loads} next first how right again) end =
      let s = turns w g.kind n (begun_over w.known g start) in
      let two : turn_cost w.world (told_for w s.run).known load asked ≡ 2 = ap (λ (b : Bool). if b then 2 else 1) (ap (asks_again asked) (sym right) ∙ again) in
      let costs = cost_first w s load loads first (noted s (next_of s) (how_next s) next) ∙ ap (manner_cost w.world (told_for w s.run).known load) how in
      load_bound m n 1 load loads next first (omega (arith, costs, two)) end
  open_bound m n stage (reads {ticket} {nv} {at = place} {load} {loads} next first how fresh lies) end =
      let s = turns w g.kind n (begun_over w.known g start) in
      let costs = cost_first w s load loads first (noted s (next_of s) (how_next s) next) ∙ ap (manner_cost w.world (told_for w s.run).known load) how ∙ ap (λ (b : Bool). if b then 0 else 1) fresh in
      load_bound m n 0 load loads next first (omega (arith, costs)) end
  open_bound m n stage (looks {ticket} {at = place} {file} {files} next first fresh lies) end =
      let s = turns w g.kind n (begun_over w.known g start) in
      let open_now : open_by (known_for w.known s.run) w.registry s (next_of s) ≡ files_in w g.kind s = ap (open_by (known_for w.known s.run) w.registry s) next in
      let all = files_bound m n end in
      omega (arith, open_now, all)
  open_bound m n stage (fills {ticket} {l} {ls} next first) end =
      let s = turns w g.kind n (begun_over w.known g start) in
      let open_now : open_by (known_for w.known s.run) w.registry s (next_of s) ≡ length s.contents = ap (open_by (known_for w.known s.run) w.registry s) next in
      let rest = contents_put w g.kind m s (idle_next s (next_of s) (how_next s) next) (subst IsAtEnd (turns_more w g.kind m n (begun_over w.known g start)) end) in
      let all = put_more w g.kind m n (begun_over w.known g start) in
      omega (arith, open_now, rest, all)
