-- Open tickets and questions in flight, through a question and an answer.
use Rattle.std.proofs.Common.{◌≡◌, ◌≢◌, ℕ, zero, suc, ◌+◌, ◌≤◌, ◌<◌, List, [], ◌∷◌, ◌++◌, length, get_or, Option, None, Some, refl, sym, ap, ◌∙◌, subst, inl, inr, ⊎_elim, ◌⊎◌, arith}
use Rattle.std.proofs.lemmas.Bool.{cases_eq}
use Rattle.std.specs.FinMap as finite
use Rattle.url.specs.Parts.{Parts}
use Rattle.source_io.specs.declared.types.Answer.{Answer}
use Rattle.source_io.specs.declared.types.Question.{Question}
use Rattle.source_io.specs.Tickets.{Takes, IsUnused}
use Rattle.module_slots.specs.declared.load.Load.{Load}
use Rattle.graph_turns.specs.declared.later_content.LaterContent.{LaterContent}
use Rattle.graph_turns.specs.declared.next.Next.TheVariants.{End}
use Rattle.graph_turns.specs.declared.registry.RegistryFile.{RegistryFile}
use Rattle.graph_turns.specs.Machine.Next.{next_of}
use Rattle.graph_turns.specs.Machine.Runs.{setting_for}
use Rattle.graph_turns.specs.Promise.Contents.{content_question}
use Rattle.graph_turns.specs.Promise.Versions.{manifest_at, metadata_question}
use Rattle.open_loads.specs.declared.turn_stage.Stage.{Stage}
use Rattle.open_loads.specs.declared.turn_stage.Stage.TheVariants.{Idle, Asks, AsksAgain, Reads, Looks, Fills}
use Rattle.open_loads.specs.Order.Asking.{again_question, asked_question, awaited, wanted_question}
use Rattle.open_loads.specs.Order.Unused.{Due, IsDue, dues}
use Rattle.graph_builder.specs.Order.InFlight.{HasTicket, OnceEach, IsAmong, Matches}
use Rattle.open_loads.specs.Order.Means.{Means}
use Rattle.open_loads.specs.Order.OpenLoads.{OpenLoads, known_now}
use Rattle.open_loads.specs.Order.Ordered.{all_due, asked_at, FitsContent, FitsFile, FitsLoad, FitsTurn, IsInFlight, IsInOrder, IsResting, IsTaken, Numbered, TakesAnswer}
use Rattle.open_loads.proofs.Order.Dues.{due_under, numbered_taken}
use Rattle.open_loads.proofs.Order.Coming.{fits_over}

ticket_of : (t : ℕ) (q : Question) (ps : List (ℕ × Question)) → IsAmong t q ps → HasTicket t ps
ticket_of t q [] a = a
ticket_of t q (p ∷ ps) a = ⊎_elim (λ e. inl e.0) (λ r. inr (ticket_of t q ps r)) a

among_cases : (t : ℕ) (q : Question) (xs ys : List (ℕ × Question)) → IsAmong t q (xs ++ ys) → IsAmong t q xs ⊎ IsAmong t q ys
among_cases t q [] ys a = inr a
among_cases t q (x ∷ xs) ys a = ⊎_elim (λ e. inl (inl e)) (λ r. ⊎_elim (λ l. inl (inr l)) inr (among_cases t q xs ys r)) a

among_left : (t : ℕ) (q : Question) (xs ys : List (ℕ × Question)) → IsAmong t q xs → IsAmong t q (xs ++ ys)
among_left t q [] ys a = absurd a
among_left t q (x ∷ xs) ys a = ⊎_elim inl (λ r. inr (among_left t q xs ys r)) a

among_right : (t : ℕ) (q : Question) (xs ys : List (ℕ × Question)) → IsAmong t q ys → IsAmong t q (xs ++ ys)
among_right t q [] ys a = a
among_right t q (x ∷ xs) ys a = inr (among_right t q xs ys a)

has_cases : (t : ℕ) (xs ys : List (ℕ × Question)) → HasTicket t (xs ++ ys) → HasTicket t xs ⊎ HasTicket t ys
has_cases t [] ys a = inr a
has_cases t (x ∷ xs) ys a = ⊎_elim (λ e. inl (inl e)) (λ r. ⊎_elim (λ l. inl (inr l)) inr (has_cases t xs ys r)) a

has_left : (t : ℕ) (xs ys : List (ℕ × Question)) → HasTicket t xs → HasTicket t (xs ++ ys)
has_left t [] ys a = absurd a
has_left t (x ∷ xs) ys a = ⊎_elim inl (λ r. inr (has_left t xs ys r)) a

has_right : (t : ℕ) (xs ys : List (ℕ × Question)) → HasTicket t ys → HasTicket t (xs ++ ys)
has_right t [] ys a = a
has_right t (x ∷ xs) ys a = inr (has_right t xs ys a)

once_end : (xs : List (ℕ × Question)) (p : ℕ × Question) → OnceEach xs → (HasTicket p.0 xs → ⊥) → OnceEach (xs ++ p ∷ [])
once_end [] p o new = (λ h. h, tt)
once_end (x ∷ xs) p o new = (λ h. ⊎_elim o.0 (λ r. ⊎_elim (λ e. new (inl (sym e))) (λ b. b) r) (has_cases x.0 xs (p ∷ []) h), once_end xs p o.1 (λ h. new (inr h)))

-- without the ticket that was taken out
once_out : (xs ys : List (ℕ × Question)) (p : ℕ × Question) → OnceEach (xs ++ p ∷ ys) → OnceEach (xs ++ ys) × (HasTicket p.0 (xs ++ ys) → ⊥)
once_out [] ys p o = (o.1, o.0)
once_out (x ∷ xs) ys p o =
    let rest = once_out xs ys p o.1 in (
      (λ h. o.0 (⊎_elim (λ l. has_left x.0 xs (p ∷ ys) l) (λ r. has_right x.0 xs (p ∷ ys) (inr r)) (has_cases x.0 xs ys h)), rest.0),
      λ h. ⊎_elim (λ e. o.0 (has_right x.0 xs (p ∷ ys) (inl (sym e)))) rest.1 h,
    )

at_place : (ps : List (ℕ × Question)) (k : ℕ) (d : ℕ × Question) → k < length ps → IsAmong (get_or ps k d).0 (get_or ps k d).1 ps
at_place [] k d below = absurd (omega arith)
at_place (p ∷ ps) zero d below = inl (refl, refl)
at_place (p ∷ ps) (suc k) d below = inr (at_place ps k d (omega arith))

pub next_unused : (tickets : List (ℕ × Question)) (b : OpenLoads) → Matches tickets b → IsUnused b.taken tickets
next_unused tickets b m q c =
    let a : IsAmong b.taken q tickets = subst (λ (p : ℕ × Question). IsAmong p.0 p.1 tickets) c.2 (at_place tickets c.0 (b.taken, q) c.1) in
    let f = (m.flies b.taken q a).0 in
    omega (arith, f.was_taken)

-- what is due in a queue that was taken from stays
taken_number : (b b' : OpenLoads) (t : ℕ) (q : Question) → IsTaken b b' t q → b'.taken ≡ b.taken + 1
taken_number b b' t q taken = ap (λ (x : OpenLoads). x.taken) taken.one_more

pub taken_order : (b b' : OpenLoads) (t : ℕ) (q : Question) → IsInOrder b → IsTaken b b' t q → IsInOrder b'
taken_order b b' t q order taken = subst IsInOrder (sym taken.one_more) record {
  fits = fits_over b b.kept (b.taken + 1) b'.queue b.stage order.fits;
  numbered = numbered_taken q b'.queue b.kept b.taken b.queued b.max_loads (all_due b) taken.in_budget (subst (λ (l : List Question). Numbered l b.kept b.taken b.queued b.max_loads (all_due b)) taken.was_queued order.numbered);
  held = order.held;
  named = order.named;
  stored = order.stored;
  stage_read = order.stage_read;
  ahead_read = order.ahead_read;
}

-- no answer is kept of what isn't handed out
none_kept : (b : OpenLoads) (k : ℕ) → IsInOrder b → b.taken ≤ k → finite.get b.kept k ≡ None
none_kept b k order high = by (finite.get b.kept k) refl
  where
    by : (o : Option Answer) → finite.get b.kept k ≡ o → finite.get b.kept k ≡ None
    by None e = e
    by (Some a) e = absurd (let low = (order.numbered.kept_due k a e).0 in omega (arith, low, high))

taken_flight : (b b' : OpenLoads) (t : ℕ) (q : Question) (k : ℕ) → IsInOrder b → IsTaken b b' t q → k ≡ b.taken → IsInFlight (record b { taken = b.taken + 1; queue = b'.queue }) k
taken_flight b b' t q k order taken e = record {
  was_taken = omega (arith, e);
  is_due = record { due = record { ticket = b.taken; question = q }; among = due_under (all_due b) b.taken q (ap (asked_at b) (sym taken.is_next) ∙ taken.about); is = sym e };
  not_kept = none_kept b k order (omega (arith, e));
}

pub taken_flies : (b b' : OpenLoads) (t : ℕ) (q : Question) → IsInOrder b → IsTaken b b' t q → IsInFlight b' t
taken_flies b b' t q order taken = subst (λ (x : OpenLoads). IsInFlight x t) (sym taken.one_more) (taken_flight b b' t q t order taken taken.is_next)

pub still_flies : (b b' : OpenLoads) (t : ℕ) (q : Question) (s : ℕ) → IsTaken b b' t q → IsInFlight b s → IsInFlight b' s
still_flies b b' t q s taken f = subst (λ (x : OpenLoads). IsInFlight x s) (sym taken.one_more) record { was_taken = let low = f.was_taken in omega (arith, low); is_due = f.is_due; not_kept = f.not_kept }

pub matches_asked : (tickets : List (ℕ × Question)) (b b' : OpenLoads) (t : ℕ) (q : Question) → IsInOrder b → Matches tickets b → IsTaken b b' t q → Matches (tickets ++ (t, q) ∷ []) b'
matches_asked tickets b b' t q order m taken = subst (λ (x : OpenLoads). Matches (tickets ++ (t, q) ∷ []) x) (sym taken.one_more)
    record {
      flies = λ k p a. ⊎_elim
          (λ old. let f = m.flies k p old in (record { was_taken = let low = f.0.was_taken in omega (arith, low); is_due = f.0.is_due; not_kept = f.0.not_kept }, f.1))
          (λ new. ⊎_elim (λ e. (
            taken_flight b b' t q k order taken (e.0 ∙ taken.is_next),
            ap (λ n. asked_at b n) e.0 ∙ taken.about ∙ ap Some (sym e.1),
          )) (λ none. absurd none) new)
          (among_cases k p tickets _ a);
      open_still = λ k f. ⊎_elim
          (λ same. has_right k tickets _ (inl (same ∙ sym taken.is_next)))
          (λ ne. has_left k tickets _ (m.open_still k record { was_taken = let low = f.was_taken in omega (arith, low, ne); is_due = f.is_due; not_kept = f.not_kept }))
          (cases_eq k b.taken);
      once = once_end tickets (t, q) m.once (λ h. fresh t taken.is_next h);
    }
  where
    question_of : (k : ℕ) (ps : List (ℕ × Question)) → HasTicket k ps → (p : Question) × IsAmong k p ps
    question_of k [] h = absurd h
    question_of k (x ∷ ps) h = ⊎_elim (λ e. (x.1, inl (e, refl))) (λ r. let rest = question_of k ps r in (rest.0, inr rest.1)) h

    fresh : (k : ℕ) → k ≡ b.taken → HasTicket k tickets → ⊥
    fresh k e h = let p = question_of k tickets h in let f = (m.flies k p.0 p.1).0 in let low = f.was_taken in omega (arith, low, e)

pub answered_flies : (tickets rest : List (ℕ × Question)) (b : OpenLoads) (t : ℕ) (q : Question) → Matches tickets b → Takes t q tickets rest → IsInFlight b t × (asked_at b t ≡ Some q)
answered_flies tickets rest b t q m takes = m.flies t q (subst (IsAmong t q) (sym takes.was) (among_right t q takes.front _ (inl (refl, refl))))

pub matches_answered : (means : Means) (tickets rest : List (ℕ × Question)) (b b' : OpenLoads) (t : ℕ) (q : Question) (answer : Answer) → Matches tickets b → Takes t q tickets rest → TakesAnswer means b b' t answer → Matches rest b'
matches_answered means tickets rest b b' t q answer m takes taken = record {
  flies = λ k p a.
      let here : IsAmong k p (takes.front ++ takes.back) = subst (IsAmong k p) takes.left a in
      let ne : k ≢ t = λ same. out.1 (subst (λ z. HasTicket z (takes.front ++ takes.back)) same (ticket_of k p _ here)) in
      let old = m.flies k p (subst (IsAmong k p) (sym takes.was) (⊎_elim (λ l. among_left k p takes.front _ l) (λ r. among_right k p takes.front _ (inr r)) (among_cases k p takes.front takes.back here))) in
      let now = taken.flight_to k old.0 ne in
      (now, taken.same_questions k now ∙ old.1);
  open_still = λ k f.
      let old = taken.flight_from k f in
      let there = subst (HasTicket k) takes.was (m.open_still k old.0) in
      subst (HasTicket k) (sym takes.left) (⊎_elim (λ l. has_left k takes.front _ l) (λ r. ⊎_elim (λ e. absurd (old.1 e)) (λ b. has_right k takes.front _ b) r) (has_cases k takes.front _ there));
  once = subst OnceEach (sym takes.left) out.0;
}
  where
    out : OnceEach (takes.front ++ takes.back) × (HasTicket t (takes.front ++ takes.back) → ⊥)
    out = once_out takes.front takes.back (t, q) (subst OnceEach takes.was m.once)

-- with nothing in flight and nothing queued, nothing is left
module _ (b : OpenLoads) (order : IsInOrder b) (rests : IsResting b) (none : (t : ℕ) → IsInFlight b t → ⊥) (queued : 0 < length b.queue → ⊥) where
  empty_queue : length b.queue ≡ 0
  empty_queue = ⊎_elim (λ e. e) (λ ne. absurd (queued (omega arith))) (cases_eq (length b.queue) 0)

  -- what the turn waits for was handed out
  flies : (t : ℕ) → awaited b.stage ≡ Some t → (x : Due) → IsDue x (all_due b) → x.ticket ≡ t → ⊥
  flies t waits x among e =
      let low = order.numbered.within x among in
      let numbers = order.numbered.numbers in
      let zero_long = empty_queue in
      none t record {
        was_taken = omega (arith, low, numbers, zero_long, e);
        is_due = record { due = x; among = among; is = e };
        not_kept = rests t waits;
      }

  -- what is due where such a turn stands
  abbrev due_at_stage : Stage → List Load → List RegistryFile → List LaterContent → List Due
  due_at_stage s loads files contents = dues (setting_for b.state.run) (known_now b) s b.behind loads b.wanted files b.later contents

  flies_first : (s : Stage) (t : ℕ) (q : Question) (loads : List Load) (files : List RegistryFile) (contents : List LaterContent) → b.stage ≡ s → awaited s ≡ Some t → b.state.loads ≡ loads → b.state.wanted ≡ files → b.state.contents ≡ contents → IsDue (record { ticket = t; question = q }) (due_at_stage s loads files contents) → ⊥
  flies_first s t q loads files contents is waits loads_are files_are contents_are due =
      flies t (ap awaited is ∙ waits) (record { ticket = t; question = q })
      (subst (λ (x : Stage). IsDue (record { ticket = t; question = q }) (due_at_stage x b.state.loads b.state.wanted b.state.contents)) (sym is)
      (subst (λ (l : List Load). IsDue (record { ticket = t; question = q }) (due_at_stage s l b.state.wanted b.state.contents)) (sym loads_are)
      (subst (λ (l : List RegistryFile). IsDue (record { ticket = t; question = q }) (due_at_stage s loads l b.state.contents)) (sym files_are)
      (subst (λ (l : List LaterContent). IsDue (record { ticket = t; question = q }) (due_at_stage s loads files l)) (sym contents_are) due)))) refl

  -- no turn of a load stands
  no_load : (s : Stage) (t : ℕ) → b.stage ≡ s → FitsLoad b → awaited s ≡ Some t → ((load : Load) (left : List Load) → (q : Question) × IsDue (record { ticket = t; question = q }) (due_at_stage s (load ∷ left) b.state.wanted b.state.contents)) → ⊥
  no_load s t is fits waits due = by b.state.loads refl
    where
      by : (loads : List Load) → b.state.loads ≡ loads → ⊥
      by [] e = let some = fits.places in let empty : length b.state.loads ≡ 0 = ap length e in omega (arith, some, empty)
      by (load ∷ left) e = flies_first s t (due load left).0 (load ∷ left) b.state.wanted b.state.contents is waits e refl refl (due load left).1

  -- nor one of a file
  no_file : (t : ℕ) (at : Parts) → b.stage ≡ Looks t at → FitsFile b → ⊥
  no_file t at is fits = by b.state.wanted refl
    where
      by : (files : List RegistryFile) → b.state.wanted ≡ files → ⊥
      by [] e = let some = fits.places in let empty : length b.state.wanted ≡ 0 = ap length e in omega (arith, some, empty)
      by (file ∷ files) e = flies_first (Looks t at) t (wanted_question (setting_for b.state.run) (known_now b) file at) b.state.loads (file ∷ files) b.state.contents is refl refl e refl (inl refl)

  -- nor one of a content
  no_content : (t : ℕ) → b.stage ≡ Fills t → FitsContent b → ⊥
  no_content t is fits = by b.state.contents refl
    where
      by : (contents : List LaterContent) → b.state.contents ≡ contents → ⊥
      by [] e = let some = fits.places in let empty : length b.state.contents ≡ 0 = ap length e in omega (arith, some, empty)
      by (l ∷ ls) e = flies_first (Fills t) t (content_question (known_now b) l) b.state.loads b.state.wanted (l ∷ ls) is refl refl refl e (inl refl)

  by_stage : (s : Stage) → b.stage ≡ s → FitsTurn b s → next_of b.state ≡ End
  by_stage Idle is fits = fits.0
  by_stage (Asks t asked) is fits = absurd (no_load (Asks t asked) t is fits.1 refl (λ load left. (asked_question (known_now b) load asked, inl refl)))
  by_stage (AsksAgain t asked first) is fits = absurd (no_load (AsksAgain t asked first) t is fits.1 refl (λ load left. (again_question (known_now b) load asked, inl refl)))
  by_stage (Reads t nv at) is fits = absurd (no_load (Reads t nv at) t is fits.1 refl (λ load left. (metadata_question (setting_for b.state.run) at (manifest_at (known_now b).manifests nv), inl refl)))
  by_stage (Looks t at) is fits = absurd (no_file t at is fits.1)
  by_stage (Fills t) is fits = absurd (no_content t is fits.1)

  pub none_open : next_of b.state ≡ End
  none_open = by_stage b.stage refl order.fits

-- nothing is in flight where nothing is open in the loader
pub none_flies : (tickets : List (ℕ × Question)) (b : OpenLoads) → tickets ≡ [] → Matches tickets b → (t : ℕ) → IsInFlight b t → ⊥
none_flies tickets b none m t f = subst (HasTicket t) none (m.open_still t f)

pub one_fewer : (t : ℕ) (q : Question) (tickets rest : List (ℕ × Question)) → Takes t q tickets rest → length tickets ≡ suc (length rest)
one_fewer t q tickets rest takes = ap length takes.was ∙ middle takes.front ∙ ap suc (ap length (sym takes.left))
  where
    middle : (xs : List (ℕ × Question)) → length (xs ++ (t, q) ∷ takes.back) ≡ suc (length (xs ++ takes.back))
    middle [] = refl
    middle (x ∷ xs) = ap suc (middle xs)

pub one_more_open : (tickets : List (ℕ × Question)) (p : ℕ × Question) → length (tickets ++ p ∷ []) ≡ suc (length tickets)
one_more_open [] p = refl
one_more_open (x ∷ tickets) p = ap suc (one_more_open tickets p)
