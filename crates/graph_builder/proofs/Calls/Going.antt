-- What calls leave of a build.
use Rattle.std.proofs.Common.{◌≡◌, ℕ, ◌+◌, ◌≤◌, ◌<◌, List, [], ◌∷◌, ◌++◌, length, length-append, Option, None, Some, refl, sym, ap, ◌∙◌, subst, arith, Bool, true, false, if◌then◌else◌}
use Rattle.std.specs.Prelude.{IfSome, IfNone}
use Rattle.url.specs.Parts.{Parts}
use Rattle.source_io.specs.declared.types.Answer.{Answer}
use Rattle.source_io.specs.declared.types.CacheSetting.{CacheSetting}
use Rattle.source_io.specs.declared.types.Question.{Question}
use Rattle.source_io.specs.declared.types.World.{World}
use Rattle.registry_urls.specs.Meaning.{RegistryMeaning}
use Rattle.graph_dependencies.specs.declared.graph_kind.GraphKind.{GraphKind}
use Rattle.graph_core.specs.declared.graph.ModuleGraph.{ModuleGraph}
use Rattle.module_slots.specs.declared.load.Load.{Load}
use Rattle.graph_core.specs.Graph.{new_graph}
use Rattle.graph_turns.specs.declared.question_of.Asked.{Asked}
use Rattle.graph_turns.specs.declared.later_content.LaterContent.{LaterContent}
use Rattle.graph_turns.specs.declared.unresolved_input.LeftOver.{LeftOver}
use Rattle.graph_turns.specs.declared.next.Next.TheVariants.{Load as ALoad}
use Rattle.graph_turns.specs.declared.registry.RegistryFile.{RegistryFile}
use Rattle.graph_turns.specs.declared.state.State.{State}
use Rattle.turn_laws.specs.Budget.Covers.{Counted, CoversRuns, enough}
use Rattle.graph_turns.specs.Machine.Held.{IsHeld}
use Rattle.graph_turns.specs.Machine.Known.{Known}
use Rattle.graph_turns.specs.Machine.Next.{next_of}
use Rattle.graph_turns.specs.Machine.Runs.{begun_over, setting_for}
use Rattle.graph_turns.specs.Machine.Starting.{told_start}
use Rattle.graph_turns.specs.Machine.Turns.{manner_in}
use Rattle.graph_turns.specs.Promise.Contents.{content_question}
use Rattle.graph_turns.specs.Promise.Told.{Told}
use Rattle.graph_turns.specs.Promise.Versions.{is_stored, manifest_at, metadata_question}
use Rattle.graph_builder.specs.declared.build_phase.Phase.{Phase}
use Rattle.graph_builder.specs.declared.build_phase.Phase.TheVariants.{Unbegun, Going, Finished, Ended}
use Rattle.open_loads.specs.declared.turn_stage.Stage.{Stage}
use Rattle.open_loads.specs.declared.turn_stage.Stage.TheVariants.{Asks, AsksAgain, Reads, Looks, Fills}
use Rattle.open_loads.specs.Budget.Open.{ahead_count, asked_count, file_count, load_count, open_by}
use Rattle.open_loads.specs.Budget.Runs.{IsOver}
use Rattle.graph_builder.specs.Calls.Builds.{GoesBy, IsPutBy}
use Rattle.graph_builder.specs.Calls.Steps.{BuildState, given_graph, has_ended, is_begun, is_finished, Enters, EntersAt, HandsOut, SpendsBudget, ended, IsGoing, IsDone, HasQueued}
use Rattle.open_loads.specs.Order.Asking.{AreAhead, AreWanted, IsNext, again_question, asked_question, wanted_question}
use Rattle.open_loads.specs.Order.Asking.IsNext.{rests, asks, asks_again_by, reads, looks, fills}
use Rattle.open_loads.specs.Order.Unused.{Due, behind_first, content_dues, dues, dues_of, file_dues, files_behind, loads_behind}
use Rattle.open_loads.specs.Order.Means.{Directions, Means}
use Rattle.open_loads.specs.Order.OpenLoads.{OpenLoads, known_now}
use Rattle.open_loads.specs.Order.Ordered.{FitsLoad, FitsTurn, IsBuilding, IsInFlight, IsInOrder, IsResting, IsTaken, TakesAnswer}
use Rattle.graph_turns.proofs.Entering.Next.{how_next}
use Rattle.graph_builder.proofs.Budget.Files.{end_next}
use Rattle.graph_builder.proofs.Budget.Ran.{no_room}
use Rattle.graph_builder.proofs.Calls.Builds.{entered_known, entered_redirects, entered_turning, reached_question}
use Rattle.graph_builder.proofs.Calls.Entered.{EntersHow, enters_begun, entered_begun, fresh_arranged, going_entered, how, start_budget, start_taken}
use Rattle.graph_builder.proofs.Calls.Entered.EntersHow.{stood, fresh}
use Rattle.graph_builder.proofs.Calls.Meant.{told_directions, told_itself, told_means}
use Rattle.graph_builder.proofs.Order.Matching.{taken_order, taken_flies, still_flies, none_open}

-- a build by its parts
abbrev pub built : {O : Type 0} → OpenLoads → Phase → GraphKind → O → BuildState O
built turns phase kind options = record { turns = turns; phase = phase; kind = kind; options = options }

-- handing out a question changes the queue and the number of those handed out alone
pub taken_one : (b new : OpenLoads) (t : ℕ) (q : Question) → IsTaken b new t q → new ≡ record b { taken = new.taken; queue = new.queue }
taken_one b new t q taken = taken.one_more ∙ ap (λ (n : ℕ). record b { taken = n; queue = new.queue }) (sym (ap (λ (x : OpenLoads). x.taken) taken.one_more))

pub taken_none : (b new : OpenLoads) → new ≡ b → new ≡ record b { taken = new.taken; queue = new.queue }
taken_none b new same = same ∙ ap (λ (x : OpenLoads). record b { taken = x.taken; queue = x.queue }) (sym same)

pub taken_as : (P : Type 0) (o : Option (ℕ × Question)) (b new : OpenLoads) → IfSome o (λ q. IsTaken b new q.0 q.1) → IfNone o ((new ≡ b) × P) → new ≡ record b { taken = new.taken; queue = new.queue }
taken_as P None b new some none = taken_none b new none.0
taken_as P (Some q) b new taken none = taken_one b new q.0 q.1 taken

pub flies_as : (b new : OpenLoads) (o : Option (ℕ × Question)) → IsInOrder b → IfSome o (λ q. IsTaken b new q.0 q.1) → IfSome o (λ q. IsInFlight new q.0)
flies_as b new None order some = tt
flies_as b new (Some q) order taken = taken_flies b new q.0 q.1 order taken

pub still_as : (P : Type 0) (b new : OpenLoads) (o : Option (ℕ × Question)) (s : ℕ) → IfSome o (λ q. IsTaken b new q.0 q.1) → IfNone o ((new ≡ b) × P) → IsInFlight b s → IsInFlight new s
still_as P b new None s some none f = subst (λ (x : OpenLoads). IsInFlight x s) (sym none.0) f
still_as P b new (Some q) s taken none f = still_flies b new q.0 q.1 s taken f

ended_not_begun : (p : Phase) → is_begun p ≡ false → is_finished p ≡ false
ended_not_begun (Unbegun left) e = refl
ended_not_begun Going e = cc
ended_not_begun Finished e = cc
ended_not_begun Ended e = cc

-- ---- what is due

-- not more is due of loads than are asked about before all else
dues_within : (known : Known) (registry : RegistryMeaning) (s : State) (ps : List (Option (ℕ × Asked))) (loads : List Load) → AreAhead known registry s ps loads → length (dues_of known ps loads) ≤ ahead_count known registry s loads
dues_within known registry s [] loads ahead = omega arith
dues_within known registry s (p ∷ ps) [] ahead = absurd ahead
dues_within known registry s (None ∷ ps) (l ∷ loads) ahead = let rest = dues_within known registry s ps loads ahead in omega (arith, rest)
dues_within known registry s (Some p ∷ ps) (l ∷ loads) ahead =
    let rest = dues_within known registry s ps loads ahead.1 in
    let one : asked_count (manner_in known.sums registry s l) ≡ 1 = ap asked_count ahead.0 in
    omega (arith, rest, one)

-- a file whose answer doesn't stand in the given store counts
one_file : (known : Known) (file : RegistryFile) → is_stored known.store file ≡ false → ◌≡◌ {A = ℕ} (if is_stored known.store file then 0 else 1) 1
one_file known file unstored = let one : Bool → ℕ = λ b. if b then 0 else 1 in ap one unstored

-- not more is due of files than are wanted whose answers don't stand there
files_within : (setting : CacheSetting) (known : Known) (registry : RegistryMeaning) (ps : List (Option (ℕ × Parts))) (files : List RegistryFile) → AreWanted known registry ps files → length (file_dues setting known ps files) ≤ file_count known files
files_within setting known registry [] files wanted = omega arith
files_within setting known registry (p ∷ ps) [] wanted = absurd wanted
files_within setting known registry (None ∷ ps) (file ∷ files) wanted = let rest = files_within setting known registry ps files wanted.1 in omega (arith, rest)
files_within setting known registry (Some p ∷ ps) (file ∷ files) wanted =
    let rest = files_within setting known registry ps files wanted.2 in
    let one = one_file known file wanted.0 in
    omega (arith, rest, one)

contents_within : (known : Known) (ts : List ℕ) (contents : List LaterContent) → length (content_dues known ts contents) ≤ length contents
contents_within known [] contents = omega arith
contents_within known (t ∷ ts) [] = omega arith
contents_within known (t ∷ ts) (l ∷ ls) = let rest = contents_within known ts ls in omega (arith, rest)

none_later : (known : Known) (ts : List ℕ) (contents : List LaterContent) → ts ≡ [] → length (content_dues known ts contents) ≡ 0
none_later known [] contents e = refl
none_later known (t ∷ ts) contents e = cc

none_wanted : (setting : CacheSetting) (known : Known) (ps : List (Option (ℕ × Parts))) (files : List RegistryFile) → ps ≡ [] → length (file_dues setting known ps files) ≡ 0
none_wanted setting known [] files e = refl
none_wanted setting known (p ∷ ps) files e = cc

none_behind : (known : Known) (ps : List (Option (ℕ × Asked))) (loads : List Load) → ps ≡ [] → length (dues_of known ps loads) ≡ 0
none_behind known [] loads e = refl
none_behind known (p ∷ ps) loads e = cc

-- four lists, one behind the other
long_as : (ws xs ys zs : List Due) → length (ws ++ (xs ++ (ys ++ zs))) ≡ length ws + (length xs + (length ys + length zs))
long_as ws xs ys zs =
    let all = length-append ws (xs ++ (ys ++ zs)) in
    let behind = length-append xs (ys ++ zs) in
    let last = length-append ys zs in
    omega (arith, all, behind, last)

-- not more is due than a state has open
module _ (told : Option World) (known : Known) (registry : RegistryMeaning) (setting : CacheSetting) (b : OpenLoads) where
  -- where a load is open, its turn has one question that is due, and each load behind it at most one
  load_within : FitsLoad b → next_of b.state ≡ ALoad → (load : Load) (loads : List Load) → b.state.loads ≡ load ∷ loads → AreAhead known registry b.state b.behind loads → (first : List Due) → length first ≡ 1 → length (first ++ (dues_of known b.behind loads ++ (file_dues setting known b.wanted b.state.wanted ++ content_dues known b.later b.state.contents))) ≤ open_by known registry b.state (next_of b.state)
  load_within fits next load loads e ahead first one =
      let parts = long_as first (dues_of known b.behind loads) (file_dues setting known b.wanted b.state.wanted) (content_dues known b.later b.state.contents) in
      let behind = dues_within known registry b.state b.behind loads ahead in
      let files = none_wanted setting known b.wanted b.state.wanted fits.no_file in
      let later = none_later known b.later b.state.contents fits.no_content in
      let open_now : open_by known registry b.state (next_of b.state) ≡ 1 + ahead_count known registry b.state loads = ap (open_by known registry b.state) next ∙ ap (load_count known registry b.state) e in
      omega (arith, parts, behind, files, later, open_now, one)

  ahead_first : (load : Load) (loads : List Load) → b.state.loads ≡ load ∷ loads → AreAhead known registry b.state b.behind (behind_first b.state.loads) → AreAhead known registry b.state b.behind loads
  ahead_first load loads e ahead = subst (λ (ls : List Load). AreAhead known registry b.state b.behind (behind_first ls)) e ahead

  pub all_within : (stage : Stage) → IsNext told known registry b.state stage → FitsTurn b stage → AreAhead known registry b.state b.behind (loads_behind stage b.state.loads) → AreWanted known registry b.wanted (files_behind stage b.state.wanted) → length (dues setting known stage b.behind b.state.loads b.wanted b.state.wanted b.later b.state.contents) ≤ open_by known registry b.state (next_of b.state)
  all_within stage (rests next) fits ahead wanted =
      let parts = long_as [] (dues_of known b.behind b.state.loads) (file_dues setting known b.wanted b.state.wanted) (content_dues known b.later b.state.contents) in
      let behind = none_behind known b.behind b.state.loads fits.1.no_load in
      let files = none_wanted setting known b.wanted b.state.wanted fits.1.no_file in
      let later = none_later known b.later b.state.contents fits.1.no_content in
      omega (arith, parts, behind, files, later)
  all_within stage (asks {ticket} {asked} {load} {loads} next e how) fits ahead wanted =
      subst (λ (ls : List Load). length (dues setting known (Asks ticket asked) b.behind ls b.wanted b.state.wanted b.later b.state.contents) ≤ open_by known registry b.state (next_of b.state)) (sym e)
      (load_within fits.1 next load loads e (ahead_first load loads e ahead) (record { ticket = ticket; question = asked_question known load asked } ∷ []) refl)
  all_within stage (asks_again_by {ticket} {asked} {first} {load} {loads} next e how right again) fits ahead wanted =
      subst (λ (ls : List Load). length (dues setting known (AsksAgain ticket asked first) b.behind ls b.wanted b.state.wanted b.later b.state.contents) ≤ open_by known registry b.state (next_of b.state)) (sym e)
      (load_within fits.1 next load loads e (ahead_first load loads e ahead) (record { ticket = ticket; question = again_question known load asked } ∷ []) refl)
  all_within stage (reads {ticket} {nv} {at} {load} {loads} next e how unstored is) fits ahead wanted =
      subst (λ (ls : List Load). length (dues setting known (Reads ticket nv at) b.behind ls b.wanted b.state.wanted b.later b.state.contents) ≤ open_by known registry b.state (next_of b.state)) (sym e)
      (load_within fits.1 next load loads e (ahead_first load loads e ahead) (record { ticket = ticket; question = metadata_question setting at (manifest_at known.manifests nv) } ∷ []) refl)
  all_within stage (looks {ticket} {at} {file} {files} next e unstored is) fits ahead wanted =
      let parts = long_as (record { ticket = ticket; question = wanted_question setting known file at } ∷ []) (dues_of known b.behind b.state.loads) (file_dues setting known b.wanted files) (content_dues known b.later b.state.contents) in
      let behind = none_behind known b.behind b.state.loads fits.1.no_load in
      let later = none_later known b.later b.state.contents fits.1.no_content in
      let rest = files_within setting known registry b.wanted files (subst (λ (fs : List RegistryFile). AreWanted known registry b.wanted (behind_first fs)) e wanted) in
      let one = one_file known file unstored in
      let open_now : open_by known registry b.state (next_of b.state) ≡ (if is_stored known.store file then 0 else 1) + file_count known files = ap (open_by known registry b.state) next ∙ ap (file_count known) e in
      subst (λ (fs : List RegistryFile). length (dues setting known (Looks ticket at) b.behind b.state.loads b.wanted fs b.later b.state.contents) ≤ open_by known registry b.state (next_of b.state)) (sym e)
      (omega (arith, parts, behind, later, rest, one, open_now))
  all_within stage (fills {ticket} {l} {ls} next e) fits ahead wanted =
      let parts = long_as (record { ticket = ticket; question = content_question known l } ∷ []) (dues_of known b.behind b.state.loads) (file_dues setting known b.wanted b.state.wanted) (content_dues known b.later ls) in
      let behind = none_behind known b.behind b.state.loads fits.1.no_load in
      let files = none_wanted setting known b.wanted b.state.wanted fits.1.no_file in
      let rest = contents_within known b.later ls in
      let open_now : open_by known registry b.state (next_of b.state) ≡ length b.state.contents = ap (open_by known registry b.state) next in
      let all = ap length e in
      subst (λ (cs : List LaterContent). length (dues setting known (Fills ticket) b.behind b.state.loads b.wanted b.state.wanted b.later cs) ≤ open_by known registry b.state (next_of b.state)) (sym e)
      (omega (arith, parts, behind, files, rest, open_now, all))

module _ {O : Type 0} where
  -- ---- what is given enters

  flight_how : (directions : Directions) (old new : BuildState O) (t : ℕ) → EntersHow directions old new → IsInFlight old.turns t → IsInFlight new.turns t
  flight_how directions old new t (stood e) f = subst (λ (b : BuildState O). IsInFlight b.turns t) (sym e) f
  flight_how directions old new t (fresh h) f = absurd (let low = f.was_taken in let none = ap (λ (x : OpenLoads). x.taken) h.turns_are in omega (arith, low, none))

  pub enters_flight : (directions : Directions) (b entered : BuildState O) (t : ℕ) → IsGoing b → Enters directions b entered → IsInFlight b.turns t → IsInFlight entered.turns t
  enters_flight directions b entered t going e f = flight_how directions b entered t (how directions b entered going e) f

  -- numbers that stay
  numbers_how : (directions : Directions) (old new : BuildState O) → EntersHow directions old new → (new.turns.taken ≡ old.turns.taken) × (new.turns.max_loads ≡ old.turns.max_loads)
  numbers_how directions old new (stood e) = (ap (λ (b : BuildState O). b.turns.taken) e, ap (λ (b : BuildState O). b.turns.max_loads) e)
  numbers_how directions old new (fresh h) = (
    start_taken directions.registry directions.newest old.turns.known old.turns.state.graph old.turns.redirects old.turns.max_loads h.enters.start new.turns (fresh_arranged directions old new h) ∙ sym (ap (λ (x : OpenLoads). x.taken) h.turns_are),
    start_budget directions.registry directions.newest old.turns.known old.turns.state.graph old.turns.redirects old.turns.max_loads h.enters.start new.turns (fresh_arranged directions old new h),
  )

  pub entered_numbers : (directions : Directions) (old new : BuildState O) → IsGoing old → Enters directions old new → (new.turns.taken ≡ old.turns.taken) × (new.turns.max_loads ≡ old.turns.max_loads)
  entered_numbers directions old new going e = numbers_how directions old new (how directions old new going e)

  finished_at : (directions : Directions) (old new : BuildState O) (p : Phase) → old.phase ≡ p → EntersAt directions old new p → is_finished old.phase ≡ false → is_finished new.phase ≡ false
  finished_at directions old new (Unbegun left) is e unfinished = ap (λ (b : BuildState O). is_finished b.phase) e.same
  finished_at directions old new Going is e unfinished = ap (λ (b : BuildState O). is_finished b.phase) e ∙ unfinished
  finished_at directions old new Finished is e unfinished = ap (λ (b : BuildState O). is_finished b.phase) e ∙ unfinished
  finished_at directions old new Ended is e unfinished = ap (λ (b : BuildState O). is_finished b.phase) e ∙ unfinished

  pub entered_unfinished : (directions : Directions) (old new : BuildState O) → Enters directions old new → is_finished old.phase ≡ false → is_finished new.phase ≡ false
  entered_unfinished directions old new e unfinished = finished_at directions old new old.phase refl e unfinished

  -- ---- a question

  -- a build with other turns
  abbrev pub with_turns : OpenLoads → BuildState O → BuildState O
  with_turns turns b = record b { turns = turns }

  none_by : (entered : BuildState O) (after : OpenLoads) (next : Option (ℕ × Question)) → IfNone next ((after ≡ entered.turns) × (entered.turns.queue ≡ [])) → IfNone next ((with_turns after entered ≡ entered) × (HasQueued (with_turns after entered) → ⊥))
  none_by entered after (Some q) none = tt
  none_by entered after None none = (
    ap (λ (t : OpenLoads). with_turns t entered) none.0,
    λ queued. let here = subst (λ (t : OpenLoads). 0 < length t.queue) none.0 queued in let zero_long = ap length none.1 in omega (arith, here, zero_long),
  )

  pub hands_by : (directions : Directions) (b entered : BuildState O) (after : OpenLoads) (next : Option (ℕ × Question)) → IsGoing b → Enters directions b entered → IfSome next (λ q. IsTaken entered.turns after q.0 q.1) → IfNone next ((after ≡ entered.turns) × (entered.turns.queue ≡ [])) → HandsOut directions b (with_turns after entered) next
  hands_by directions b entered after next going e some none = record {
    entered = entered;
    enters = e;
    same_taken = (entered_numbers directions b entered going e).0;
    some = some;
    none = none_by entered after next none;
    same = refl;
  }

  pub spends_by : (directions : Directions) (b entered : BuildState O) (after : OpenLoads) → IsGoing b → Enters directions b entered → after ≡ entered.turns → entered.turns.taken ≡ entered.turns.max_loads → 0 < length entered.turns.queue → SpendsBudget directions b (ended (with_turns after entered))
  spends_by directions b entered after going e same taken queued =
      let numbers = entered_numbers directions b entered going e in
      record {
        entered = entered;
        enters = e;
        all_taken = sym numbers.0 ∙ taken ∙ numbers.1;
        queued = queued;
        is = ap (λ (t : OpenLoads). ended (with_turns t entered)) same;
      }

  pub reached_as : (w : Told) (g : ModuleGraph) (given : LeftOver) (entered new : BuildState O) (o : Option (ℕ × Question)) → IsHeld entered.turns.state → IfSome o (λ q. IsTaken entered.turns new.turns q.0 q.1) → GoesBy w g given new → IfSome o (λ q. IsPutBy w g given q.1)
  reached_as w g given entered new None held some goes = tt
  reached_as w g given entered new (Some q) held taken goes = reached_question w g given entered new q.0 q.1 held taken goes

  -- a build that isn't finished gives the empty graph of its kind
  pub given_empty : (b : BuildState O) (kind : GraphKind) → is_finished b.phase ≡ false → b.kind ≡ kind → given_graph b ≡ new_graph kind
  given_empty b kind unfinished same = ap (λ (x : Bool). if x then b.turns.state.graph else new_graph b.kind) unfinished ∙ ap new_graph same

  pub going_question : (entered new : BuildState O) (t : ℕ) (q : Question) → IsGoing entered → is_begun entered.phase ≡ true → IsTaken entered.turns new.turns t q → new ≡ record entered { turns = new.turns } → IsGoing new
  going_question entered new t q going begun taken same = record {
    not_ended = ap (λ (b : BuildState O). has_ended b.phase) same ∙ going.not_ended;
    in_order = taken_order entered.turns new.turns t q going.in_order taken;
    resting = subst IsResting (sym taken.one_more) going.resting;
    start_first = λ none. let still = ap (λ (b : BuildState O). is_begun b.phase) same in cc;
  }

  going_by : (entered new : BuildState O) (next : Option (ℕ × Question)) → IsGoing entered → is_begun entered.phase ≡ true → IfSome next (λ q. IsTaken entered.turns new.turns q.0 q.1) → IfNone next ((new ≡ entered) × (HasQueued new → ⊥)) → new ≡ record entered { turns = new.turns } → IsGoing new
  going_by entered new None going begun some none same = subst IsGoing (sym none.0) going
  going_by entered new (Some q) going begun taken none same = going_question entered new q.0 q.1 going begun taken same

  pub going_next : (directions : Directions) (old new : BuildState O) (next : Option (ℕ × Question)) → IsGoing old → HandsOut directions old new next → IsGoing new
  going_next directions old new next going out =
      going_by out.entered new next (going_entered directions old out.entered going out.enters) (entered_begun directions old out.entered out.enters) out.some out.none out.same

  pub begun_next : (directions : Directions) (old new : BuildState O) (next : Option (ℕ × Question)) → HandsOut directions old new next → is_begun new.phase ≡ true
  begun_next directions old new next out = ap (λ (x : BuildState O). is_begun x.phase) out.same ∙ entered_begun directions old out.entered out.enters

  done_by : (new : BuildState O) (next : Option (ℕ × Question)) → IsGoing new → is_begun new.phase ≡ true → IfNone next (HasQueued new → ⊥) → IfNone next (((t : ℕ) → IsInFlight new.turns t → ⊥) → IsDone new)
  done_by new (Some q) now begun queued = tt
  done_by new None now begun queued = λ flies. record {
    begun = begun;
    at_end = end_next new.turns.state (next_of new.turns.state) (how_next new.turns.state) (none_open new.turns now.in_order now.resting flies queued);
  }

  none_queued : (entered new : BuildState O) (next : Option (ℕ × Question)) → IfNone next ((new ≡ entered) × (HasQueued new → ⊥)) → IfNone next (HasQueued new → ⊥)
  none_queued entered new None none = none.1
  none_queued entered new (Some q) none = tt

  pub done_next : (directions : Directions) (old new : BuildState O) (next : Option (ℕ × Question)) → IsGoing old → HandsOut directions old new next → IfNone next (((t : ℕ) → IsInFlight new.turns t → ⊥) → IsDone new)
  done_next directions old new next going out =
      done_by new next (going_next directions old new next going out) (begun_next directions old new next out) (none_queued out.entered new next out.none)

  pub flies_next : (directions : Directions) (old new : BuildState O) (next : Option (ℕ × Question)) → IsGoing old → HandsOut directions old new next → IfSome next (λ q. IsInFlight new.turns q.0)
  flies_next directions old new next going out = flies_as out.entered.turns new.turns next (going_entered directions old out.entered going out.enters).in_order out.some

  none_turns : (entered new : BuildState O) (next : Option (ℕ × Question)) → IfNone next ((new ≡ entered) × (HasQueued new → ⊥)) → IfNone next ((new.turns ≡ entered.turns) × (HasQueued new → ⊥))
  none_turns entered new None none = (ap (λ (b : BuildState O). b.turns) none.0, none.1)
  none_turns entered new (Some q) none = tt

  pub still_next : (directions : Directions) (old new : BuildState O) (next : Option (ℕ × Question)) (t : ℕ) → IsGoing old → HandsOut directions old new next → IsInFlight old.turns t → IsInFlight new.turns t
  still_next directions old new next t going out f = still_as _ out.entered.turns new.turns next t out.some (none_turns out.entered new next out.none) (enters_flight directions old out.entered t going out.enters f)

  pub turns_next : (directions : Directions) (old new : BuildState O) (next : Option (ℕ × Question)) (out : HandsOut directions old new next) → new.turns ≡ record out.entered.turns { taken = new.turns.taken; queue = new.turns.queue }
  turns_next directions old new next out = taken_as _ next out.entered.turns new.turns out.some (none_turns out.entered new next out.none)

  -- nothing was handed out before what is given entered
  pub begun_flying : (b : BuildState O) (t : ℕ) → IsGoing b → IsInFlight b.turns t → is_begun b.phase ≡ true
  begun_flying b t going f = by (is_begun b.phase) refl
    where
      by : (x : Bool) → is_begun b.phase ≡ x → is_begun b.phase ≡ true
      by true e = e
      by false e = absurd (let low = f.was_taken in let none = ap (λ (x : OpenLoads). x.taken) (going.start_first e) in omega (arith, low, none))

  pub going_answer : (means : Means) (old new : BuildState O) (t : ℕ) (a : Answer) → IsGoing old → IsInFlight old.turns t → TakesAnswer means old.turns new.turns t a → new ≡ record old { turns = new.turns } → IsGoing new
  going_answer means old new t a going flight taken same = record {
    not_ended = ap (λ (b : BuildState O). has_ended b.phase) same ∙ going.not_ended;
    in_order = taken.in_order;
    resting = taken.resting;
    start_first = λ none. let begun = begun_flying old t going flight in let still = ap (λ (b : BuildState O). is_begun b.phase) same in cc;
  }

  -- ---- where what is given has entered

  pub record HandsNext (old new : BuildState O) (next : Option (ℕ × Question)) : Type 0 where
    pub some : IfSome next (λ q. IsTaken old.turns new.turns q.0 q.1)
    pub none : IfNone next (new ≡ old)
    pub same : new ≡ record old { turns = new.turns }

  next_as : (old entered new : BuildState O) (next : Option (ℕ × Question)) → entered ≡ old → IfNone next ((new ≡ entered) × (HasQueued new → ⊥)) → IfNone next (new ≡ old)
  next_as old entered new None is none = none.0 ∙ is
  next_as old entered new (Some q) is none = tt

  pub hands_next : (directions : Directions) (old new : BuildState O) (next : Option (ℕ × Question)) → is_begun old.phase ≡ true → HandsOut directions old new next → HandsNext old new next
  hands_next directions old new next begun out =
      let is = enters_begun directions old out.entered begun out.enters in
      record {
        some = subst (λ (b : BuildState O). IfSome next (λ q. IsTaken b.turns new.turns q.0 q.1)) is out.some;
        none = next_as old out.entered new next is out.none;
        same = out.same ∙ ap (λ (b : BuildState O). record b { turns = new.turns }) is;
      }

  -- ---- the budget

  -- a build whose budget is spent has more to ask than it
  pub over_of : (told : Option World) (means : Means) (b : BuildState O) (start : State) → IsInOrder b.turns → HasQueued b → b.turns.taken ≡ b.turns.max_loads → IsBuilding told means start b.turns → IsOver b.turns.redirects b.turns.known told means start b.turns.max_loads
  over_of told means b start order queued spent i = record {
    past = i.past;
    put = i.put;
    state = b.turns.state;
    run = i.run;
    stage = b.turns.stage;
    next = i.next;
    more_open =
        let numbers = order.numbered.numbers in
        let most = all_within told (known_now b.turns) means.registry (setting_for b.turns.state.run) b.turns b.turns.stage i.next order.fits i.ahead i.wanted in
        let count = i.count in
        omega (arith, queued, spent, count, numbers, most);
  }

  -- where what is given has entered, the budget is spent at once
  pub spent_here : (directions : Directions) (old new : BuildState O) → is_begun old.phase ≡ true → SpendsBudget directions old new → HasQueued old × (old.turns.taken ≡ old.turns.max_loads)
  spent_here directions old new begun spent = (subst HasQueued (enters_begun directions old spent.entered begun spent.enters) spent.queued, spent.all_taken)

  pub room_of : (directions : Directions) (w : Told) (g : ModuleGraph) (given : LeftOver) (questions : List Counted) (old new : BuildState O) → IsGoing old → directions ≡ told_directions w → SpendsBudget directions old new → GoesBy w g given old → CoversRuns w g given questions → enough g given questions ≤ old.turns.max_loads → ⊥
  room_of directions w g given questions old new going told spent goes covers enough_is =
      let b = spent.entered in
      let start = told_start w given in
      let numbers = entered_numbers directions old b going spent.enters in
      let most = numbers.1 in
      let taken : b.turns.taken ≡ b.turns.max_loads = numbers.0 ∙ spent.all_taken ∙ sym most in
      let redirects : b.turns.redirects ≡ w.world.max_redirects = entered_redirects directions w g given old b goes spent.enters ∙ goes.redirects_are in
      let known : b.turns.known ≡ w.known = entered_known directions w g given old b goes spent.enters ∙ goes.known_is in
      no_room (Some w.world) (told_means w g.kind) w g given (told_itself w g.kind) b.turns.redirects redirects goes.no_circle questions covers b.turns.max_loads
      (subst (λ (k : Known). IsOver b.turns.redirects k (Some w.world) (told_means w g.kind) (begun_over w.known g start) b.turns.max_loads) known
      (over_of (Some w.world) (told_means w g.kind) b (begun_over w.known g start) (going_entered directions old b going spent.enters).in_order spent.queued taken (entered_turning directions w g given old b told spent.enters going.in_order goes))) (omega (arith, enough_is, most))
