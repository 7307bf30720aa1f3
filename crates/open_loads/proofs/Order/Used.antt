-- What the use of an answer moves: what is due, the given store, and the turn that goes on without it.
use Rattle.std.proofs.Common.{◌≡◌, ◌≢◌, ℕ, suc, ◌+◌, ◌≤◌, ◌<◌, List, [], ◌∷◌, ◌++◌, fold, length, Bool, true, false, ◌||◌, not, is_some, if◌then◌else◌, Option, None, Some, refl, sym, ap, ◌∙◌, subst, inl, inr, ◌⊎◌, ⊎_elim, arith}
use Rattle.std.specs.Prelude.{option_map}
use Rattle.std.specs.List.{All}
use Rattle.std.specs.FinMap as finite
use Rattle.std.specs.Ordering.{nat_cmp}
use Rattle.url.specs.Parts.{Parts}
use Rattle.source_io.specs.declared.types.Answer.{Answer}
use Rattle.source_io.specs.declared.types.Question.{Question}
use Rattle.source_io.specs.declared.types.World.{World}
use Rattle.metadata_store.specs.declared.store.JsrMetadataStore.{JsrMetadataStore}
use Rattle.registry_urls.specs.Meaning.{RegistryMeaning}
use Rattle.registry_files.specs.Answers.{FileAnswer}
use Rattle.module_slots.specs.declared.load.Load.{Load}
use Rattle.graph_turns.specs.declared.question_of.Asked.{Asked}
use Rattle.graph_turns.specs.declared.later_content.LaterContent.{LaterContent}
use Rattle.graph_turns.specs.declared.registry.RegistryFile.{RegistryFile}
use Rattle.graph_turns.specs.declared.state.State.{State}
use Rattle.graph_turns.specs.Machine.Entering.{stored}
use Rattle.graph_turns.specs.Machine.Held.{AreNamed, IsHeld}
use Rattle.graph_turns.specs.Machine.Known.{Known}
use Rattle.graph_turns.specs.Machine.Runs.{is_second, setting_for}
use Rattle.graph_turns.specs.Promise.Versions.{store_with}
use Rattle.open_loads.specs.declared.turn_stage.Stage.{Stage}
use Rattle.open_loads.specs.declared.turn_stage.Stage.TheVariants.{Idle}
use Rattle.open_loads.specs.Order.Asking.{AnswersAs, AreAhead, AreStored, through}
use Rattle.open_loads.specs.Order.Unused.{Due, IsDue, OnceDue, behind_first, dues, dues_of, files_behind, loads_behind}
use Rattle.open_loads.specs.Order.Means.{Means}
use Rattle.open_loads.specs.Order.OpenLoads.{OpenLoads, known_now}
use Rattle.open_loads.specs.Order.Numbered.{filled_store, with_added}
use Rattle.open_loads.specs.Order.Ordered.{FitsTurn, IsAheadRead, IsBuilding, IsCaughtUp, IsInFlight, IsInOrder, IsNumbered, IsStageRead, Numbered, all_due, asked_at}
use Rattle.open_loads.proofs.Order.Dues.{Adds, AreRight, append_none, numbered_as, numbered_used, right_used}
use Rattle.open_loads.proofs.Order.Coming.{asked_due}
use Rattle.open_loads.proofs.Order.InOrder.{AreRead, Builds, Follows, IsStoodOn, Led, due_idle}
use Rattle.open_loads.proofs.Order.Tickets.{cut_other}

-- the answer to one of the questions that are due was used: the others are due still, and what came is queued behind
pub record Moves (before new : OpenLoads) (head : Due) (xs : List Due) : Type 0 where
  dues_are : all_due before ≡ head ∷ xs
  known : new.known ≡ before.known
  taken : new.taken ≡ before.taken
  redirects : new.redirects ≡ before.redirects
  budget : new.max_loads ≡ before.max_loads
  kept : new.kept ≡ finite.remove before.kept head.ticket
  from : (x : Due) → IsDue x (all_due new) → IsDue x xs ⊎ (before.queued ≤ x.ticket)
  to : (x : Due) → IsDue x xs → IsDue x (all_due new)

-- where one waits it is that one
pub one_waits : (a b : ℕ) → Some a ≡ Some b → a ≡ b
one_waits a b e = cc

pub none_waits : (a : ℕ) → None ≡ Some a → ⊥
none_waits a e = absurd (cc)

module _ (before new : OpenLoads) (head : Due) (xs : List Due) (a : Answer) (here : finite.get before.kept head.ticket ≡ Some a) (order : IsInOrder before) (in_order : IsInOrder new) (moves : Moves before new head xs) where
  -- a ticket in flight isn't the one that was answered
  other_ticket : (t : ℕ) → finite.get before.kept t ≡ None → t ≢ head.ticket
  other_ticket t none same = (let at = subst (λ z. finite.get before.kept z ≡ None) same none in cc)

  due_before : (x : Due) → IsDue x (all_due new) → x.ticket < before.taken → IsDue x (all_due before)
  due_before x among low = ⊎_elim
      (λ old. subst (IsDue x) (sym moves.dues_are) (inr old))
      (λ high. let m = order.numbered.numbers in absurd (omega (arith, high, low, m)))
      (moves.from x among)

  due_after : (x : Due) → IsDue x (all_due before) → x.ticket ≢ head.ticket → IsDue x (all_due new)
  due_after x among ne = ⊎_elim (λ same. absurd (ne (ap (λ (u : Due). u.ticket) same))) (moves.to x) (subst (IsDue x) moves.dues_are among)

  pub moved_from : (t : ℕ) → IsInFlight new t → IsInFlight before t
  moved_from t f =
      let low : t < before.taken = let g = f.was_taken in let e = moves.taken in omega (arith, g, e) in
      let x = f.is_due.due in
      let at = f.is_due.is in
      let old = due_before x f.is_due.among (omega (arith, low, at)) in
      let apart : x.ticket ≢ head.ticket = λ same. not_head x f.is_due.among (omega (arith, low, at)) same in
      let ne : t ≢ head.ticket = λ same. apart (at ∙ same) in
      record {
        was_taken = low;
        is_due = record { due = x; among = old; is = at };
        not_kept = sym (cut_other before.kept head.ticket t ne) ∙ ap (λ (m : finite.FinMap nat_cmp Answer). finite.get m t) (sym moves.kept) ∙ f.not_kept;
      }
    where
      not_head : (x : Due) → IsDue x (all_due new) → x.ticket < before.taken → x.ticket ≢ head.ticket
      not_head x among low same = ⊎_elim
          (λ old. let once = subst OnceDue moves.dues_are order.numbered.once in once.0 x old (sym same))
          (λ high. let m = order.numbered.numbers in absurd (omega (arith, high, low, m)))
          (moves.from x among)

  pub moved_to : (t : ℕ) → IsInFlight before t → IsInFlight new t
  moved_to t f =
      let ne = other_ticket t f.not_kept in
      let at = f.is_due.is in
      record {
        was_taken = let g = f.was_taken in let e = moves.taken in omega (arith, g, e);
        is_due = record { due = f.is_due.due; among = due_after f.is_due.due f.is_due.among (λ same. ne (sym at ∙ same)); is = at };
        not_kept = ap (λ (m : finite.FinMap nat_cmp Answer). finite.get m t) moves.kept ∙ cut_other before.kept head.ticket t ne ∙ f.not_kept;
      }

  pub moved_same : (t : ℕ) → IsInFlight new t → asked_at new t ≡ asked_at before t
  moved_same t f =
      let x = f.is_due.due in
      let at = f.is_due.is in
      let low : x.ticket < before.taken = let g = f.was_taken in let e = moves.taken in omega (arith, g, e, at) in
      subst (λ k. asked_at new k ≡ asked_at before k) at (asked_due new x in_order f.is_due.among ∙ sym (asked_due before x order (due_before x f.is_due.among low)))

-- ---- an answer was used

-- what is built where so many questions of turns were answered
pub record Built (told : Option World) (means : Means) (start : State) (new : OpenLoads) (answers : ℕ) : Type 0 where
  pub put : ℕ
  pub on : IsStoodOn told means start put new
  pub all_put : put + through new.stage ≡ answers

-- the answer under the ticket that is waited for was used, and what else is due is as it was, but for what came
pub record Uses (means : Means) (before new : OpenLoads) (ticket : ℕ) (a : Answer) : Type 0 where
  pub question : Question
  pub xs : List Due
  pub dues_are : all_due before ≡ record { ticket = ticket; question = question } ∷ xs
  pub known : new.known ≡ before.known
  pub taken : new.taken ≡ before.taken
  pub redirects : new.redirects ≡ before.redirects
  pub budget : new.max_loads ≡ before.max_loads
  pub kept : new.kept ≡ finite.remove before.kept ticket
  pub fits : FitsTurn new new.stage
  pub stored : AreStored (known_now new).store new.wanted (files_behind new.stage new.state.wanted)
  pub held : IsHeld new.state
  pub named : AreNamed (finite.get new.state.files)
  pub stage_read : IsStageRead (finite.get new.state.files) new.stage
  pub ahead_read : All (IsAheadRead (finite.get new.state.files)) new.behind
  pub adds : Adds (finite.remove before.kept ticket) before.taken before.max_loads before.queue before.queued xs new.queue new.queued (all_due new)
  pub building : (told : Option World) (start : State) (i : IsBuilding told means start before) → AnswersAs told question a → Built told means start new (suc (through before.stage) + i.put)

module _ (means : Means) (before new : OpenLoads) (ticket : ℕ) (a : Answer) (here : finite.get before.kept ticket ≡ Some a) (order : IsInOrder before) (u : Uses means before new ticket a) where
  numbered_left : Numbered before.queue (finite.remove before.kept ticket) before.taken before.queued before.max_loads u.xs
  numbered_left = numbered_used before.queue before.kept before.taken before.queued before.max_loads (record { ticket = ticket; question = u.question }) u.xs (order.numbered.kept_due ticket a here).0
      (subst (Numbered before.queue before.kept before.taken before.queued before.max_loads) u.dues_are order.numbered)

  numbered_now : IsNumbered new
  numbered_now = numbered_as new.queue new.queued (all_due new) (finite.remove before.kept ticket) new.kept before.taken new.taken before.max_loads new.max_loads u.kept u.taken u.budget (u.adds.numbered numbered_left)

  used_order : IsInOrder new
  used_order = record { fits = u.fits; numbered = numbered_now; held = u.held; named = u.named; stage_read = u.stage_read; ahead_read = u.ahead_read; stored = u.stored }

  used_moves : Moves before new (record { ticket = ticket; question = u.question }) u.xs
  used_moves = record {
    dues_are = u.dues_are;
    known = u.known;
    taken = u.taken;
    redirects = u.redirects;
    budget = u.budget;
    kept = u.kept;
    from = u.adds.from;
    to = u.adds.to;
  }

  used_building : (told : Option World) (start : State) → IsBuilding told means start before → IsBuilding told means start new
  used_building told start i =
      let right : AnswersAs told u.question a = i.kept_right (record { ticket = ticket; question = u.question }) a (subst (IsDue (record { ticket = ticket; question = u.question })) (sym u.dues_are) (inl refl)) here in
      let left : AreRight (finite.remove before.kept ticket) told u.xs = right_used told before.kept (record { ticket = ticket; question = u.question }) u.xs (λ x y among e. i.kept_right x y (subst (IsDue x) (sym u.dues_are) among) e) in
      let b = u.building told start i right in
      record {
        past = b.on.led.past;
        put = b.put;
        run = b.on.led.run;
        store = b.on.led.store_is;
        next = b.on.next;
        ahead = b.on.ahead;
        wanted = b.on.wanted;
        count =
            let c = u.adds.cost in
            let old = i.count in
            let d : length (all_due before) ≡ suc (length u.xs) = ap length u.dues_are in
            let all = b.all_put in
            omega (arith, c, old, d, all);
        kept_right = λ x y among e. u.adds.right told numbered_left left x y among (ap (λ (m : finite.FinMap nat_cmp Answer). finite.get m x.ticket) (sym u.kept) ∙ e);
      }

  pub caught_by : IsCaughtUp means before new
  caught_by = record {
    same_taken = u.taken;
    same_known = u.known;
    same_redirects = u.redirects;
    same_budget = u.budget;
    in_order = λ o. used_order;
    building = λ o told start i. used_building told start i;
    flight_from = λ o t f. moved_from before new (record { ticket = ticket; question = u.question }) u.xs a here order used_order used_moves t f;
    flight_to = λ o t f. moved_to before new (record { ticket = ticket; question = u.question }) u.xs a here order used_order used_moves t f;
    same_questions = λ o t f. moved_same before new (record { ticket = ticket; question = u.question }) u.xs a here order used_order used_moves t f;
  }

-- ---- what is due

-- all that is due by its parts
pub dues_by : (b : OpenLoads) (s : Stage) (ps : List (Option (ℕ × Asked))) (loads : List Load) (ws : List (Option (ℕ × Parts))) (files : List RegistryFile) (ts : List ℕ) (contents : List LaterContent) → b.stage ≡ s → b.behind ≡ ps → b.state.loads ≡ loads → b.wanted ≡ ws → b.state.wanted ≡ files → b.later ≡ ts → b.state.contents ≡ contents → all_due b ≡ dues (setting_for b.state.run) (known_now b) s ps loads ws files ts contents
dues_by b s ps loads ws files ts contents e f g h i j k =
    ap (λ (x : Stage). dues (setting_for b.state.run) (known_now b) x b.behind b.state.loads b.wanted b.state.wanted b.later b.state.contents) e
    ∙ ap (λ (x : List (Option (ℕ × Asked))). dues (setting_for b.state.run) (known_now b) s x b.state.loads b.wanted b.state.wanted b.later b.state.contents) f
    ∙ ap (λ (x : List Load). dues (setting_for b.state.run) (known_now b) s ps x b.wanted b.state.wanted b.later b.state.contents) g
    ∙ ap (λ (x : List (Option (ℕ × Parts))). dues (setting_for b.state.run) (known_now b) s ps loads x b.state.wanted b.later b.state.contents) h
    ∙ ap (λ (x : List RegistryFile). dues (setting_for b.state.run) (known_now b) s ps loads ws x b.later b.state.contents) i
    ∙ ap (λ (x : List ℕ). dues (setting_for b.state.run) (known_now b) s ps loads ws files x b.state.contents) j
    ∙ ap (λ (x : List LaterContent). dues (setting_for b.state.run) (known_now b) s ps loads ws files ts x) k

-- the question of the turn of the first load is due before what is behind it
pub head_dues : (b : OpenLoads) (s : Stage) (load : Load) (left : List Load) (z : Due) → b.stage ≡ s → b.state.loads ≡ load ∷ left → b.wanted ≡ [] → b.later ≡ [] → dues (setting_for b.state.run) (known_now b) s b.behind (load ∷ left) [] b.state.wanted [] b.state.contents ≡ z ∷ (dues_of (known_now b) b.behind left ++ []) → all_due b ≡ z ∷ dues_of (known_now b) b.behind left
head_dues b s load left z stage_is e no_files no_contents is =
    dues_by b s b.behind (load ∷ left) [] b.state.wanted [] b.state.contents stage_is refl e no_files refl no_contents refl
    ∙ is
    ∙ ap (λ (d : List Due). z ∷ d) (append_none (dues_of (known_now b) b.behind left))

-- what is put ahead, behind the turn of the first load
pub head_ahead : (registry : RegistryMeaning) (b : OpenLoads) (s : Stage) (load : Load) (left : List Load) → b.stage ≡ s → b.state.loads ≡ load ∷ left → ((ls : List Load) → loads_behind s ls ≡ behind_first ls) → AreAhead (known_now b) registry b.state b.behind (loads_behind b.stage b.state.loads) → AreAhead (known_now b) registry b.state b.behind left
head_ahead registry b s load left stage_is e first a =
    subst (AreAhead (known_now b) registry b.state b.behind) (ap (λ (x : Stage). loads_behind x b.state.loads) stage_is ∙ first b.state.loads ∙ ap (λ (ls : List Load). behind_first ls) e) a

-- ---- what the given store gets

-- what a given store is to get, with an answer about a file
abbrev pub added_by : Bool → Option JsrMetadataStore → List (RegistryFile × FileAnswer) → RegistryFile → FileAnswer → List (RegistryFile × FileAnswer)
added_by second store added file answer = if second || not (is_some store) then added else added ++ (file, answer) ∷ []

pub with_added_is : (b : OpenLoads) (file : RegistryFile) (answer : FileAnswer) → with_added b file answer ≡ record b { added = added_by (is_second b.state.run) b.known.store b.added file answer }
with_added_is b file answer = by (is_second b.state.run || not (is_some b.known.store))
  where
    by : (z : Bool) → (if z then b else record b { added = b.added ++ (file, answer) ∷ [] }) ≡ record b { added = if z then b.added else b.added ++ (file, answer) ∷ [] }
    by true = refl
    by false = refl

-- one answer more
stored_last : (added : List (RegistryFile × FileAnswer)) (own : JsrMetadataStore) (file : RegistryFile) (answer : FileAnswer) → fold (λ s e. store_with s e.0 e.1) own (added ++ (file, answer) ∷ []) ≡ store_with (fold (λ s e. store_with s e.0 e.1) own added) file answer
stored_last [] own file answer = refl
stored_last (x ∷ added) own file answer = stored_last added (store_with own x.0 x.1) file answer

pub added_store : (second : Bool) (store : Option JsrMetadataStore) (added : List (RegistryFile × FileAnswer)) (file : RegistryFile) (answer : FileAnswer) (o : Option JsrMetadataStore) → filled_store store added ≡ o → filled_store store (added_by second store added file answer) ≡ (if second then o else option_map (λ own. store_with own file answer) o)
added_store true store added file answer o e = e
added_store false None added file answer o e = ap (option_map (λ own. store_with own file answer)) e
added_store false (Some own) added file answer o e = ap Some (stored_last added own file answer) ∙ ap (option_map (λ own. store_with own file answer)) e

-- ---- a turn goes on without the answer that was used

-- a state stands, with no turn
abbrev pub left_by : OpenLoads → ℕ → State → List (Option (ℕ × Asked)) → List (RegistryFile × FileAnswer) → OpenLoads
left_by before ticket s ps added = record before { kept = finite.remove before.kept ticket; state = s; stage = Idle; behind = ps; added = added }

module _ (means : Means) (before new : OpenLoads) (ticket : ℕ) (a : Answer) (question : Question) (s : State) (ps : List (Option (ℕ × Asked))) (added : List (RegistryFile × FileAnswer)) (dues_are : all_due before ≡ record { ticket = ticket; question = question } ∷ due_idle (left_by before ticket s ps added)) (f : Follows means (left_by before ticket s ps added) new) where
  pub uses_follows : AreRead (left_by before ticket s ps added) → ((told : Option World) (start : State) (i : IsBuilding told means start before) → AnswersAs told question a → Builds told means start (suc (through before.stage) + i.put) (left_by before ticket s ps added)) → Uses means before new ticket a
  uses_follows r ran =
      let now = f.read r in
      record {
        question = question;
        xs = due_idle (left_by before ticket s ps added);
        dues_are = dues_are;
        known = f.known;
        taken = f.taken;
        redirects = f.redirects;
        budget = f.budget;
        kept = f.kept;
        fits = f.fits;
        stored = f.stored;
        held = now.held;
        named = now.named;
        stage_read = now.stage_read;
        ahead_read = now.ahead_read;
        adds = f.adds;
        building = λ told start i right. record {
          put = suc (through before.stage) + i.put;
          on = f.builds told start (suc (through before.stage) + i.put) r (ran told start i right);
          all_put = let none = f.none_through in omega (arith, none);
        };
      }

-- a run under another number that is the same
pub led_put : (told : Option World) (means : Means) (start : State) (most : ℕ) (known : Known) (store : Option JsrMetadataStore) (s : State) (m n : ℕ) → m ≡ n → Led most known told means start store m s → Led most known told means start store n s
led_put told means start most known store s m n e l = subst (λ (k : ℕ). Led most known told means start store k s) e l
