-- Lists of questions that are due, by their tickets.
use Rattle.std.proofs.Common.{◌≡◌, ◌≢◌, ℕ, zero, suc, ◌+◌, ◌≤◌, ◌<◌, true, false, List, [], ◌∷◌, ◌++◌, length, if◌then◌else◌, Option, None, Some, nat_eq, slice_get, refl, sym, ap, ◌∙◌, subst, inl, inr, ⊎_elim, ◌⊎◌, arith}
use Rattle.std.proofs.lemmas.Bool.{cases_eq}
use Rattle.std.proofs.lemmas.Bool.Decides.{nat_tests}
use Rattle.std.specs.FinMap as finite
use Rattle.std.specs.Ordering.{nat_cmp}
use Rattle.graph_turns.specs.Machine.Known.{Known}
use Rattle.source_io.specs.declared.types.Answer.{Answer}
use Rattle.source_io.specs.declared.types.Question.{Question}
use Rattle.source_io.specs.declared.types.World.{World}
use Rattle.module_slots.specs.declared.load.Load.{Load}
use Rattle.graph_turns.specs.declared.question_of.Asked.{Asked}
use Rattle.graph_turns.specs.declared.later_content.LaterContent.{LaterContent}
use Rattle.graph_turns.specs.Promise.Contents.{content_question}
use Rattle.source_io.specs.declared.types.CacheSetting.{CacheSetting}
use Rattle.url.specs.Parts.{Parts}
use Rattle.graph_turns.specs.declared.registry.RegistryFile.{RegistryFile}
use Rattle.open_loads.specs.Order.Asking.{AnswersAs, asked_question, wanted_question}
use Rattle.open_loads.specs.Order.Unused.{Due, IsDue, OnceDue, content_dues, due_at, dues_of, file_dues}
use Rattle.open_loads.specs.Order.Ordered.{HasDue, Numbered}
use Rattle.open_loads.proofs.Order.Opening.{length_more}
use Rattle.open_loads.proofs.Order.Tickets.{put_same, put_other, cut_same, cut_other}

-- ---- members

pub due_cases : (x : Due) (xs ys : List Due) → IsDue x (xs ++ ys) → IsDue x xs ⊎ IsDue x ys
due_cases x [] ys a = inr a
due_cases x (y ∷ xs) ys a = ⊎_elim (λ e. inl (inl e)) (λ r. ⊎_elim (λ l. inl (inr l)) inr (due_cases x xs ys r)) a

pub due_left : (x : Due) (xs ys : List Due) → IsDue x xs → IsDue x (xs ++ ys)
due_left x [] ys a = absurd a
due_left x (y ∷ xs) ys a = ⊎_elim inl (λ r. inr (due_left x xs ys r)) a

pub due_right : (x : Due) (xs ys : List Due) → IsDue x ys → IsDue x (xs ++ ys)
due_right x [] ys a = a
due_right x (y ∷ xs) ys a = inr (due_right x xs ys a)

-- with one more at some place
pub due_more : (x z : Due) (xs ys : List Due) → IsDue x (xs ++ ys) → IsDue x (xs ++ z ∷ ys)
due_more x z xs ys a = ⊎_elim (λ l. due_left x xs (z ∷ ys) l) (λ r. due_right x xs (z ∷ ys) (inr r)) (due_cases x xs ys a)

pub due_less : (x z : Due) (xs ys : List Due) → IsDue x (xs ++ z ∷ ys) → (x ≡ z) ⊎ IsDue x (xs ++ ys)
due_less x z xs ys a = ⊎_elim (λ l. inr (due_left x xs ys l)) (λ r. ⊎_elim inl (λ s. inr (due_right x xs ys s)) r) (due_cases x xs (z ∷ ys) a)

pub due_there : (z : Due) (xs ys : List Due) → IsDue z (xs ++ z ∷ ys)
due_there z xs ys = due_right z xs (z ∷ ys) (inl refl)

pub once_more : (xs ys : List Due) (z : Due) → OnceDue (xs ++ ys) → ((y : Due) → IsDue y (xs ++ ys) → y.ticket ≢ z.ticket) → OnceDue (xs ++ z ∷ ys)
once_more [] ys z once new = (λ y a same. new y a (sym same), once)
once_more (x ∷ xs) ys z once new = (
  λ y a same. ⊎_elim (λ e. new x (inl refl) (same ∙ ap (λ (u : Due). u.ticket) e)) (λ b. once.0 y b same) (due_less y z xs ys a),
  once_more xs ys z once.1 (λ y a. new y (inr a)),
)

pub same_due : (xs : List Due) (x y : Due) → OnceDue xs → IsDue x xs → IsDue y xs → x.ticket ≡ y.ticket → x ≡ y
same_due [] x y once a b e = absurd a
same_due (z ∷ zs) x y once (inl a) (inl b) e = a ∙ sym b
same_due (z ∷ zs) x y once (inl a) (inr b) e = absurd (once.0 y b (ap (λ (u : Due). u.ticket) (sym a) ∙ e))
same_due (z ∷ zs) x y once (inr a) (inl b) e = absurd (once.0 x a (sym (e ∙ ap (λ (u : Due). u.ticket) b)))
same_due (z ∷ zs) x y once (inr a) (inr b) e = same_due zs x y once.1 a b e

-- ---- by tickets

same_number : (m n : ℕ) → m ≡ n → nat_eq m n ≡ true
same_number m n e = grind (arith, nat_tests)

other_number : (m n : ℕ) → m ≢ n → nat_eq m n ≡ false
other_number m n ne = grind (arith, nat_tests)

pub at_due : (xs : List Due) (x : Due) → OnceDue xs → IsDue x xs → due_at xs x.ticket ≡ Some x.question
at_due [] x once a = absurd a
at_due (y ∷ ys) x once (inl same) = ap (λ b. if b then Some y.question else due_at ys x.ticket) (same_number y.ticket x.ticket (ap (λ (u : Due). u.ticket) (sym same))) ∙ ap (λ (u : Due). Some u.question) (sym same)
at_due (y ∷ ys) x once (inr a) = ap (λ b. if b then Some y.question else due_at ys x.ticket) (other_number y.ticket x.ticket (once.0 x a)) ∙ at_due ys x once.1 a

pub due_under : (xs : List Due) (t : ℕ) (q : Question) → due_at xs t ≡ Some q → IsDue (record { ticket = t; question = q }) xs
due_under [] t q e = cc
due_under (y ∷ ys) t q e = ⊎_elim
    (λ same. let here : Some y.question ≡ Some q = sym (ap (λ b. if b then Some y.question else due_at ys t) (same_number y.ticket t same)) ∙ e in
    let is : y.question ≡ q = cc in
    inl (ap (λ (n : ℕ). record { ticket = n; question = q }) (sym same) ∙ ap (λ (p : Question). record { ticket = y.ticket; question = p }) (sym is)))
    (λ ne. inr (due_under ys t q (sym (ap (λ b. if b then Some y.question else due_at ys t) (other_number y.ticket t ne)) ∙ e)))
    (cases_eq y.ticket t)

-- ---- lists

pub append_none : {X : Type 0} (xs : List X) → xs ++ [] ≡ xs
append_none [] = refl
append_none (x ∷ xs) = ap (λ l. x ∷ l) (append_none xs)

pub length_both : {X : Type 0} (xs ys : List X) → length (xs ++ ys) ≡ length xs + length ys
length_both [] ys = omega arith
length_both (x ∷ xs) ys = omega (arith, length_both xs ys)

-- ---- the first questions of loads

-- loads without a place have none
pub dues_short : (known : Known) (ps : List (Option (ℕ × Asked))) (loads added : List Load) → length ps ≤ length loads → dues_of known ps (loads ++ added) ≡ dues_of known ps loads
dues_short known [] loads added le = refl
dues_short known (p ∷ ps) [] added le = absurd (omega arith)
dues_short known (None ∷ ps) (load ∷ loads) added le = dues_short known ps loads added (omega arith)
dues_short known (Some p ∷ ps) (load ∷ loads) added le = ap (λ (l : List Due). record { ticket = p.0; question = asked_question known load p.1 } ∷ l) (dues_short known ps loads added (omega arith))

-- one more place is at the end, with a question
pub dues_ahead : (known : Known) (ps : List (Option (ℕ × Asked))) (p : ℕ × Asked) (front left : List Load) (load : Load) → length front ≡ length ps → dues_of known (ps ++ Some p ∷ []) (front ++ load ∷ left) ≡ dues_of known ps (front ++ load ∷ left) ++ record { ticket = p.0; question = asked_question known load p.1 } ∷ []
dues_ahead known [] p [] left load e = refl
dues_ahead known [] p (l ∷ front) left load e = absurd (omega arith)
dues_ahead known (q ∷ ps) p [] left load e = absurd (omega arith)
dues_ahead known (None ∷ ps) p (l ∷ front) left load e = dues_ahead known ps p front left load (omega arith)
dues_ahead known (Some q ∷ ps) p (l ∷ front) left load e = ap (λ (d : List Due). record { ticket = q.0; question = asked_question known l q.1 } ∷ d) (dues_ahead known ps p front left load (omega arith))

-- or with none
pub dues_gap : (known : Known) (ps : List (Option (ℕ × Asked))) (front left : List Load) (load : Load) → length front ≡ length ps → dues_of known (ps ++ None ∷ []) (front ++ load ∷ left) ≡ dues_of known ps (front ++ load ∷ left)
dues_gap known [] [] left load e = refl
dues_gap known [] (l ∷ front) left load e = absurd (omega arith)
dues_gap known (q ∷ ps) [] left load e = absurd (omega arith)
dues_gap known (None ∷ ps) (l ∷ front) left load e = dues_gap known ps front left load (omega arith)
dues_gap known (Some q ∷ ps) (l ∷ front) left load e = ap (λ (d : List Due). record { ticket = q.0; question = asked_question known l q.1 } ∷ d) (dues_gap known ps front left load (omega arith))

-- ---- those about files of the registry

-- the question about one more file is at the end
pub files_ahead : (setting : CacheSetting) (known : Known) (ps : List (Option (ℕ × Parts))) (p : ℕ × Parts) (front left : List RegistryFile) (file : RegistryFile) → length front ≡ length ps → file_dues setting known (ps ++ Some p ∷ []) (front ++ file ∷ left) ≡ file_dues setting known ps (front ++ file ∷ left) ++ record { ticket = p.0; question = wanted_question setting known file p.1 } ∷ []
files_ahead setting known [] p [] left file e = refl
files_ahead setting known [] p (f ∷ front) left file e = absurd (omega arith)
files_ahead setting known (q ∷ ps) p [] left file e = absurd (omega arith)
files_ahead setting known (None ∷ ps) p (f ∷ front) left file e = files_ahead setting known ps p front left file (omega arith)
files_ahead setting known (Some q ∷ ps) p (f ∷ front) left file e = ap (λ (d : List Due). record { ticket = q.0; question = wanted_question setting known f q.1 } ∷ d) (files_ahead setting known ps p front left file (omega arith))

-- or none is, where the given store has its answer
pub files_gap : (setting : CacheSetting) (known : Known) (ps : List (Option (ℕ × Parts))) (front left : List RegistryFile) (file : RegistryFile) → length front ≡ length ps → file_dues setting known (ps ++ None ∷ []) (front ++ file ∷ left) ≡ file_dues setting known ps (front ++ file ∷ left)
files_gap setting known [] [] left file e = refl
files_gap setting known [] (f ∷ front) left file e = absurd (omega arith)
files_gap setting known (q ∷ ps) [] left file e = absurd (omega arith)
files_gap setting known (None ∷ ps) (f ∷ front) left file e = files_gap setting known ps front left file (omega arith)
files_gap setting known (Some q ∷ ps) (f ∷ front) left file e = ap (λ (d : List Due). record { ticket = q.0; question = wanted_question setting known f q.1 } ∷ d) (files_gap setting known ps front left file (omega arith))

-- ---- those about contents

-- the question about one more content is at the end
pub dues_later : (known : Known) (ts : List ℕ) (n : ℕ) (front left : List LaterContent) (l : LaterContent) → length front ≡ length ts → content_dues known (ts ++ n ∷ []) (front ++ l ∷ left) ≡ content_dues known ts (front ++ l ∷ left) ++ record { ticket = n; question = content_question known l } ∷ []
dues_later known [] n [] left l e = refl
dues_later known [] n (c ∷ front) left l e = absurd (omega arith)
dues_later known (t ∷ ts) n [] left l e = absurd (omega arith)
dues_later known (t ∷ ts) n (c ∷ front) left l e = ap (λ (d : List Due). record { ticket = t; question = content_question known c } ∷ d) (dues_later known ts n front left l (omega arith))

-- ---- tickets in order

place_more : (queue : List Question) (q p : Question) (i : ℕ) → slice_get (queue ++ q ∷ []) i ≡ Some p → (slice_get queue i ≡ Some p) ⊎ ((i ≡ length queue) × (q ≡ p))
place_more [] q p zero e = inr (refl, (let same : q ≡ p = cc in same))
place_more [] q p (suc i) e = cc
place_more (x ∷ queue) q p zero e = inl e
place_more (x ∷ queue) q p (suc i) e = ⊎_elim inl (λ r. inr (ap suc r.0, r.1)) (place_more queue q p i e)

-- the kept answers are right for what is due
abbrev pub AreRight : finite.FinMap nat_cmp Answer → Option World → List Due → Type 0
AreRight kept told xs = (x : Due) (a : Answer) → IsDue x xs → finite.get kept x.ticket ≡ Some a → AnswersAs told x.question a

module _ (queue : List Question) (kept : finite.FinMap nat_cmp Answer) (taken queued most : ℕ) where
  -- a question is queued, whatever its place
  pub numbered_put : (xs ys : List Due) (q : Question) → Numbered queue kept taken queued most (xs ++ ys) → Numbered (queue ++ q ∷ []) kept taken (queued + 1) most (xs ++ record { ticket = queued; question = q } ∷ ys)
  numbered_put xs ys q n = record {
    once = once_more xs ys z n.once (λ y a same. let low = n.within y a in absurd (omega (arith, low, same)));
    within = λ x a. ⊎_elim (λ e. let t = ap (λ (u : Due). u.ticket) e in omega (arith, t)) (λ b. let low = n.within x b in omega (arith, low)) (due_less x z xs ys a);
    numbers = let m = n.numbers in let l = length_more queue q in omega (arith, m, l);
    in_budget = n.in_budget;
    queue_due = λ i p e. ⊎_elim
        (λ old. due_more _ z xs ys (n.queue_due i p old))
        (λ new. let at : queued ≡ taken + i = (let m = n.numbers in let l = new.0 in omega (arith, m, l)) in
        subst (λ (u : Due). IsDue u (xs ++ z ∷ ys)) (ap (λ (k : ℕ). record { ticket = k; question = q }) at ∙ ap (λ (u : Question). record { ticket = taken + i; question = u }) new.1) (due_there z xs ys))
        (place_more queue q p i e);
    kept_due = λ t a e. let old = n.kept_due t a e in (old.0, record { due = old.1.due; among = due_more old.1.due z xs ys old.1.among; is = old.1.is });
  }
    where
      z : Due
      z = record { ticket = queued; question = q }

  -- an answer is used
  pub numbered_used : (x : Due) (xs : List Due) → x.ticket < taken → Numbered queue kept taken queued most (x ∷ xs) → Numbered queue (finite.remove kept x.ticket) taken queued most xs
  numbered_used x xs below n = record {
    once = n.once.1;
    within = λ y a. n.within y (inr a);
    numbers = n.numbers;
    in_budget = n.in_budget;
    queue_due = λ i q e. ⊎_elim (λ same. let t = ap (λ (u : Due). u.ticket) same in absurd (omega (arith, t, below))) (λ b. b) (n.queue_due i q e);
    kept_due = λ t a e.
        let ne : t ≢ x.ticket = λ same. (let at = subst (λ z. finite.get (finite.remove kept x.ticket) z ≡ Some a) same e in let gone = cut_same kept x.ticket in cc) in
        let old = n.kept_due t a (sym (cut_other kept x.ticket t ne) ∙ e) in
        (old.0, record { due = old.1.due; among = ⊎_elim (λ same. absurd (ne (sym old.1.is ∙ ap (λ (u : Due). u.ticket) same))) (λ b. b) old.1.among; is = old.1.is });
  }

  -- an answer came
  pub numbered_came : (xs : List Due) (t : ℕ) (a : Answer) → t < taken → HasDue t xs → Numbered queue kept taken queued most xs → Numbered queue (finite.insert kept t a) taken queued most xs
  numbered_came xs t a below has n = record {
    once = n.once;
    within = n.within;
    numbers = n.numbers;
    in_budget = n.in_budget;
    queue_due = n.queue_due;
    kept_due = λ u b e. ⊎_elim
        (λ same. (omega (arith, below, same), record { due = has.due; among = has.among; is = has.is ∙ sym same }))
        (λ ne. n.kept_due u b (sym (put_other kept t a u ne) ∙ e))
        (cases_eq u t);
  }

  pub right_put : (told : Option World) (xs ys : List Due) (q : Question) → Numbered queue kept taken queued most (xs ++ ys) → AreRight kept told (xs ++ ys) → AreRight kept told (xs ++ record { ticket = queued; question = q } ∷ ys)
  right_put told xs ys q n right x a among e = ⊎_elim
      (λ same. let low = (n.kept_due x.ticket a e).0 in let t = ap (λ (u : Due). u.ticket) same in let m = n.numbers in absurd (omega (arith, low, t, m)))
      (λ b. right x a b e)
      (due_less x (record { ticket = queued; question = q }) xs ys among)

-- the questions of a queue whose first one is handed out
pub numbered_taken : (q : Question) (queue : List Question) (kept : finite.FinMap nat_cmp Answer) (taken queued most : ℕ) (xs : List Due) → taken < most → Numbered (q ∷ queue) kept taken queued most xs → Numbered queue kept (taken + 1) queued most xs
numbered_taken q queue kept taken queued most xs below n = record {
  once = n.once;
  within = n.within;
  numbers = let m = n.numbers in omega (arith, m);
  in_budget = omega (arith, below);
  queue_due = λ i p e. subst (λ (k : ℕ). IsDue (record { ticket = k; question = p }) xs) (let same : taken + suc i ≡ taken + 1 + i = omega arith in same) (n.queue_due (suc i) p e);
  kept_due = λ t a e. let old = n.kept_due t a e in (let low = old.0 in omega (arith, low), old.1);
}

pub right_used : (told : Option World) (kept : finite.FinMap nat_cmp Answer) (x : Due) (xs : List Due) → ((y : Due) (a : Answer) → IsDue y (x ∷ xs) → finite.get kept y.ticket ≡ Some a → AnswersAs told y.question a) → (y : Due) (a : Answer) → IsDue y xs → finite.get (finite.remove kept x.ticket) y.ticket ≡ Some a → AnswersAs told y.question a
right_used told kept x xs right y a among e =
    let ne : y.ticket ≢ x.ticket = λ same. (let at = subst (λ z. finite.get (finite.remove kept x.ticket) z ≡ Some a) same e in let gone = cut_same kept x.ticket in cc) in
    right y a (inr among) (sym (cut_other kept x.ticket y.ticket ne) ∙ e)

pub right_came : (told : Option World) (kept : finite.FinMap nat_cmp Answer) (xs : List Due) (x : Due) (a : Answer) → OnceDue xs → IsDue x xs → AnswersAs told x.question a → ((y : Due) (b : Answer) → IsDue y xs → finite.get kept y.ticket ≡ Some b → AnswersAs told y.question b) → (y : Due) (b : Answer) → IsDue y xs → finite.get (finite.insert kept x.ticket a) y.ticket ≡ Some b → AnswersAs told y.question b
right_came told kept xs x a once among right_now right y b there e = ⊎_elim
    (λ same.
    let at = subst (λ z. finite.get (finite.insert kept x.ticket a) z ≡ Some b) same e in
    let put = put_same kept x.ticket a in
    let one : a ≡ b = cc in
    let is : y ≡ x = same_due xs y x once there among same in
    subst (λ (u : Due). AnswersAs told u.question b) (sym is) (subst (AnswersAs told x.question) one right_now))
    (λ ne. right y b there (sym (put_other kept x.ticket a y.ticket ne) ∙ e))
    (cases_eq y.ticket x.ticket)

-- ---- questions that were queued, one after the other

module _ (kept : finite.FinMap nat_cmp Answer) (taken most : ℕ) where
  -- what was due is due still, and what came is due under the tickets behind
  pub record Adds (queue : List Question) (queued : ℕ) (xs : List Due) (questions : List Question) (number : ℕ) (ys : List Due) : Type 0 where
    pub numbered : Numbered queue kept taken queued most xs → Numbered questions kept taken number most ys
    pub right : (told : Option World) → Numbered queue kept taken queued most xs → AreRight kept told xs → AreRight kept told ys
    pub cost : number + length xs ≡ queued + length ys
    pub from : (x : Due) → IsDue x ys → IsDue x xs ⊎ (queued ≤ x.ticket)
    pub to : (x : Due) → IsDue x xs → IsDue x ys
    pub later : queued ≤ number

  pub adds_none : (queue : List Question) (queued : ℕ) (xs : List Due) → Adds queue queued xs queue queued xs
  adds_none queue queued xs = record {
    numbered = λ n. n;
    right = λ told n right. right;
    cost = refl;
    from = λ x a. inl a;
    to = λ x a. a;
    later = omega arith;
  }

  pub adds_both : {queue questions more : List Question} {queued number last : ℕ} {xs ys zs : List Due} → Adds queue queued xs questions number ys → Adds questions number ys more last zs → Adds queue queued xs more last zs
  adds_both a b = record {
    numbered = λ n. b.numbered (a.numbered n);
    right = λ told n right. b.right told (a.numbered n) (a.right told n right);
    cost = let p = a.cost in let q = b.cost in omega (arith, p, q);
    from = λ x c. ⊎_elim (λ d. a.from x d) (λ high. inr (let low = a.later in omega (arith, high, low))) (b.from x c);
    to = λ x c. b.to x (a.to x c);
    later = let p = a.later in let q = b.later in omega (arith, p, q);
  }

  -- one question, whatever its place
  pub adds_put : (queue : List Question) (queued : ℕ) (xs ys : List Due) (q : Question) → Adds queue queued (xs ++ ys) (queue ++ q ∷ []) (queued + 1) (xs ++ record { ticket = queued; question = q } ∷ ys)
  adds_put queue queued xs ys q = record {
    numbered = numbered_put queue kept taken queued most xs ys q;
    right = λ told n right. right_put queue kept taken queued most told xs ys q n right;
    cost =
        let l : length (xs ++ ys) ≡ length xs + length ys = length_both xs ys in
        let m : length (xs ++ record { ticket = queued; question = q } ∷ ys) ≡ length xs + suc (length ys) = length_both xs (record { ticket = queued; question = q } ∷ ys) in
        omega (arith, l, m);
    from = λ x a. ⊎_elim (λ e. inr (let t = ap (λ (u : Due). u.ticket) e in omega (arith, t))) inl (due_less x (record { ticket = queued; question = q }) xs ys a);
    to = λ x a. due_more x (record { ticket = queued; question = q }) xs ys a;
    later = omega arith;
  }

  -- the same of lists that are equal
  pub adds_as : {queue questions : List Question} {queued number : ℕ} {xs ys others more : List Due} → xs ≡ others → ys ≡ more → Adds queue queued xs questions number ys → Adds queue queued others questions number more
  adds_as {queue} {questions} {queued} {number} {xs} {ys} {others} {more} e f a =
      subst (λ (l : List Due). Adds queue queued l questions number more) e (subst (λ (l : List Due). Adds queue queued xs questions number l) f a)

-- numbers under other names of the same
pub numbered_as : (queue : List Question) (queued : ℕ) (xs : List Due) (kept kept_now : finite.FinMap nat_cmp Answer) (taken taken_now most most_now : ℕ) → kept_now ≡ kept → taken_now ≡ taken → most_now ≡ most → Numbered queue kept taken queued most xs → Numbered queue kept_now taken_now queued most_now xs
numbered_as queue queued xs kept kept_now taken taken_now most most_now e f g n =
    subst (λ (k : finite.FinMap nat_cmp Answer). Numbered queue k taken_now queued most_now xs) (sym e)
    (subst (λ (t : ℕ). Numbered queue kept t queued most_now xs) (sym f)
    (subst (λ (m : ℕ). Numbered queue kept taken queued m xs) (sym g) n))

-- the same of other names
pub adds_over : {queue questions : List Question} {queued number : ℕ} {xs ys : List Due} (kept kept_now : finite.FinMap nat_cmp Answer) (taken taken_now most most_now : ℕ) → kept_now ≡ kept → taken_now ≡ taken → most_now ≡ most → Adds kept_now taken_now most_now queue queued xs questions number ys → Adds kept taken most queue queued xs questions number ys
adds_over {queue} {questions} {queued} {number} {xs} {ys} kept kept_now taken taken_now most most_now e f g a =
    subst (λ (k : finite.FinMap nat_cmp Answer). Adds k taken most queue queued xs questions number ys) e
    (subst (λ (t : ℕ). Adds kept_now t most queue queued xs questions number ys) f
    (subst (λ (m : ℕ). Adds kept_now taken_now m queue queued xs questions number ys) g a))
