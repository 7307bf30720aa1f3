-- Lists that hold all specifiers that can come to a state without an answer, and those of them that exports of passes have redirected_end on already.
use Rattle.std.proofs.Common.{◌≡◌, ◌≢◌, ◌⊎◌, ℕ, ◌+◌, ◌≤◌, ◌<◌, List, [], ◌∷◌, ◌++◌, Bool, true, false, ◌||◌, ◌&&◌, if◌then◌else◌, Option, None, Some, is_some, bytes_eq, refl, sym, ap, ◌∙◌, subst, inl, inr, arith, ⊎_elim, ◌-◌}
use Rattle.std.proofs.lemmas.Slice.Eq.{bytes_eq-Decides}
use Rattle.url.specs.Parts.{Parts}
use Rattle.spec_base.specs.Options.{has_text}
use Rattle.spec_base.specs.Shown.{text_cmp}
use Rattle.spec_base.specs.Specifier.{same_specifier, specifier_text}
use Rattle.graph_core.specs.declared.graph.ModuleGraph.{ModuleGraph}
use Rattle.module_slots.specs.declared.load.LoadContext.{LoadContext}
use Rattle.module_slots.specs.declared.slot.ModuleSlot.{ModuleSlot}
use Rattle.module_slots.specs.declared.slot.ModuleSlot.TheVariants.{Module as Stands, Err as Failed, Pending}
use Rattle.graph_core.specs.Graph.{has_slot, redirect_at, slot_at, with_redirect, with_slot, without_slot}
use Rattle.module_slots.specs.Slots.{is_pending_at}
use Rattle.graph_core.proofs.At.{cases_text, cut_other, put_same, put_other, text_of_same, other_text}
use Rattle.graph_turns.specs.Machine.Entering.{is_pending_asset_at, is_shut}
use Rattle.graph_turns.specs.Machine.Redirects.{is_settled, redirected_end, leads_back, moved, renamed, unknown_at}
use Rattle.graph_turns.proofs.Leading.Ends.{stands}
use Rattle.graph_turns.proofs.Leading.Follow.{follow_keeps, follow_last, onward_parts, onward_slot}
use Rattle.graph_turns.proofs.Leading.Loops.Onto.{one, more}
use Rattle.graph_turns.proofs.Leading.Loops.{Loop, Onto, onto_in, led_loop, loop_put, loop_redirected, no_loop_here}
use Rattle.graph_turns.proofs.Leading.Ways.{put_at, slot_put, slot_put_other}
use Rattle.std.specs.FinMap.{FinMap}
use Rattle.std.specs.FinMap as finite
use Rattle.std.proofs.lemmas.Bool.{or_cases}

-- ---- lists of specifiers

abbrev pub In : List Parts → Parts → Type 0
In [] p = ⊥
In (q ∷ qs) p = (q ≡ p) ⊎ In qs p

pub in_left : (ps qs : List Parts) (p : Parts) → In ps p → In (ps ++ qs) p
in_left [] qs p i = absurd i
in_left (q ∷ ps) qs p (inl e) = inl e
in_left (q ∷ ps) qs p (inr i) = inr (in_left ps qs p i)

pub in_right : (ps qs : List Parts) (p : Parts) → In qs p → In (ps ++ qs) p
in_right [] qs p i = i
in_right (q ∷ ps) qs p i = inr (in_right ps qs p i)

-- how many of them weren't redirected_end on
abbrev pub fresh : List Parts → List (List ℕ) → ℕ
fresh [] done = 0
fresh (p ∷ ps) done = (if has_text done (specifier_text p) then 0 else 1) + fresh ps done

text_here : (t : List ℕ) (done : List (List ℕ)) → has_text (t ∷ done) t ≡ true
text_here t done = ap (λ b. b || has_text done t) (same_bytes t)
  where
    same_bytes : (x : List ℕ) → bytes_eq x x ≡ true
    same_bytes x = (bytes_eq-Decides x x).1 refl

-- one more was redirected_end on
one_more : (t x : List ℕ) (done : List (List ℕ)) → (if has_text (t ∷ done) x then 0 else 1) ≤ (if has_text done x then 0 else 1)
one_more t x done = by (bytes_eq t x) (has_text done x)
  where
    by : (a b : Bool) → (if (a || b) then 0 else 1) ≤ (if b then 0 else 1)
    by true true = omega arith
    by true false = omega arith
    by false true = omega arith
    by false false = omega arith

pub fresh_more : (ps : List Parts) (t : List ℕ) (done : List (List ℕ)) → fresh ps (t ∷ done) ≤ fresh ps done
fresh_more [] t done = omega arith
fresh_more (p ∷ ps) t done = let one = one_more t (specifier_text p) done in let rest = fresh_more ps t done in omega (arith, one, rest)

pub fresh_less : (ps : List Parts) (p : Parts) (done : List (List ℕ)) → In ps p → has_text done (specifier_text p) ≡ false → fresh ps (specifier_text p ∷ done) < fresh ps done
fresh_less [] p done i new = absurd i
fresh_less (q ∷ ps) p done (inl e) new =
    let rest = fresh_more ps (specifier_text p) done in
    let before : ◌≡◌ {A = ℕ} (if has_text done (specifier_text q) then 0 else 1) 1 = ap (λ (z : Parts). if has_text done (specifier_text z) then 0 else 1) e ∙ ap (λ b. if b then 0 else 1) new in
    let after : ◌≡◌ {A = ℕ} (if has_text (specifier_text p ∷ done) (specifier_text q) then 0 else 1) 0 = ap (λ (z : Parts). if has_text (specifier_text p ∷ done) (specifier_text z) then 0 else 1) e ∙ ap (λ b. if b then 0 else 1) (text_here (specifier_text p) done) in
    omega (arith, rest, before, after)
fresh_less (q ∷ ps) p done (inr i) new =
    let one = one_more (specifier_text p) (specifier_text q) done in
    let rest = fresh_less ps p done i new in
    omega (arith, one, rest)

-- ---- slots that stay

abbrev pub is_failed : Option ModuleSlot → Bool
is_failed None = false
is_failed (Some (Stands m)) = false
is_failed (Some (Failed e)) = true
is_failed (Some (Pending asset)) = false

abbrev pub FailedAt : ModuleGraph → List ℕ → Type 0
FailedAt g x = is_failed (finite.get g.slots x) ≡ true

pub failed_shut : (o : Option ModuleSlot) (c : LoadContext) → is_failed o ≡ true → is_shut o c ≡ true
failed_shut None c e = absurd cc
failed_shut (Some (Stands m)) c e = absurd cc
failed_shut (Some (Failed x)) c e = by c.asset
  where
    by : (b : Bool) → b || true ≡ true
    by true = refl
    by false = refl
failed_shut (Some (Pending asset)) c e = absurd cc

pub failed_not_pending : (o : Option ModuleSlot) → is_failed o ≡ true → is_pending_asset_at o ≡ false
failed_not_pending None e = refl
failed_not_pending (Some (Stands m)) e = refl
failed_not_pending (Some (Failed x)) e = refl
failed_not_pending (Some (Pending asset)) e = absurd cc

pub failed_stands : (o : Option ModuleSlot) → is_failed o ≡ true → is_some o ≡ true
failed_stands None e = absurd cc
failed_stands (Some v) e = refl

-- ---- graphs

-- a specifier of this text was redirected_end on: a slot or a redirect stands there, and it is on no circle without a slot
pub record IsDone (g : ModuleGraph) (t : List ℕ) : Type 0 where
  pub key : (stands g t ≡ true) ⊎ (is_some (finite.get g.redirects t) ≡ true)
  pub no_loop : Loop g t → ⊥

-- each redirect leads into a list, or to an error, and all that were redirected_end on are so
pub record GraphIn (ps : List Parts) (done : List (List ℕ)) (g : ModuleGraph) : Type 0 where
  pub targets : (k : List ℕ) (n : Parts) → finite.get g.redirects k ≡ Some n → In ps n ⊎ FailedAt g (specifier_text n)
  pub led_on : (t : List ℕ) → has_text done t ≡ true → IsDone g t

module _ (ps : List Parts) (done : List (List ℕ)) where
  pub graph_same : (g u : ModuleGraph) → u.slots ≡ g.slots → u.redirects ≡ g.redirects → GraphIn ps done g → GraphIn ps done u
  graph_same g u slots redirects held = record {
    targets = λ k n e. ⊎_elim inl (λ failed. inr (subst (λ (m : finite.FinMap text_cmp ModuleSlot). is_failed (finite.get m (specifier_text n)) ≡ true) (sym slots) failed)) (held.targets k n (sym (ap (λ (m : finite.FinMap text_cmp Parts). finite.get m k) redirects) ∙ e));
    led_on = λ t h. let was = held.led_on t h in record {
      key = ⊎_elim (λ x. inl (ap (λ (m : finite.FinMap text_cmp ModuleSlot). finite.contains_key m t) slots ∙ x)) (λ x. inr (ap (λ (m : finite.FinMap text_cmp Parts). is_some (finite.get m t)) redirects ∙ x)) was.key;
      no_loop = λ way. was.no_loop (onto_in u g (λ x n free e. (sym (ap (λ (m : finite.FinMap text_cmp ModuleSlot). finite.contains_key m x) slots) ∙ free, sym (ap (λ (m : finite.FinMap text_cmp Parts). finite.get m x) redirects) ∙ e)) way);
    };
  }

  -- a slot is put, which is an error where one stood
  pub graph_put : (g : ModuleGraph) (k : List ℕ) (v : ModuleSlot) → (FailedAt g k → is_failed (Some v) ≡ true) → GraphIn ps done g → GraphIn ps done (put_at g k v)
  graph_put g k v stays held = record {
    targets = λ q n e. ⊎_elim inl (λ failed. inr (still (specifier_text n) failed)) (held.targets q n e);
    led_on = λ t h. let was = held.led_on t h in record { key = ⊎_elim (λ s. inl (more_stands t s)) inr was.key; no_loop = λ way. was.no_loop (loop_put g k v way) };
  }
    where
      still : (x : List ℕ) → FailedAt g x → FailedAt (put_at g k v) x
      still x failed = ⊎_elim
          (λ same. ap is_failed (ap (finite.get (put_at g k v).slots) same ∙ put_same g.slots k v) ∙ stays (subst (FailedAt g) same failed))
          (λ ne. ap is_failed (put_other g.slots k v x ne) ∙ failed)
          (cases_text x k)

      more_stands : (t : List ℕ) → stands g t ≡ true → stands (put_at g k v) t ≡ true
      more_stands t s = ⊎_elim
          (λ same. ap (stands (put_at g k v)) same ∙ slot_put g k v)
          (λ ne. slot_put_other g k v t ne ∙ s)
          (cases_text t k)

  -- where known redirects lead is in the list, or an error
  pub led_in : (g : ModuleGraph) (s : Parts) → GraphIn ps done g → In ps s ⊎ FailedAt g (specifier_text s) → In ps (redirected_end g s) ⊎ FailedAt g (specifier_text (redirected_end g s))
  led_in g s held start = follow_keeps g (λ x. In ps x ⊎ FailedAt g (specifier_text x)) (λ x t so_far e. let parts = onward_parts g x t e in held.targets (specifier_text x) t parts.1) (finite.len g.redirects) (s ∷ []) s start

  -- where they end without a slot, none was redirected_end on
  pub led_fresh : (g : ModuleGraph) (s : Parts) → GraphIn ps done g → has_slot g (redirected_end g s) ≡ false → has_text done (specifier_text (redirected_end g s)) ≡ false
  led_fresh g s held free = by (has_text done (specifier_text (redirected_end g s))) refl
    where
      by_redirect : IsDone g (specifier_text (redirected_end g s)) → (o : Option Parts) → redirect_at g (redirected_end g s) ≡ o → ⊥
      by_redirect was None e = ⊎_elim (λ (h : stands g (specifier_text (redirected_end g s)) ≡ true). let wrong : true ≡ false = sym h ∙ free in cc) (λ (h : is_some (redirect_at g (redirected_end g s)) ≡ true). let none = ap is_some e in cc) was.key
      by_redirect was (Some n) e = was.no_loop (led_loop g s n free e)

      by : (b : Bool) → has_text done (specifier_text (redirected_end g s)) ≡ b → has_text done (specifier_text (redirected_end g s)) ≡ false
      by true h = absurd (by_redirect (held.led_on _ h) (redirect_at g (redirected_end g s)) refl)
      by false h = h

  -- one more is redirected_end on
  pub graph_done : (g : ModuleGraph) (t : List ℕ) → IsDone g t → GraphIn ps done g → GraphIn ps (t ∷ done) g
  graph_done g t now held = record {
    targets = held.targets;
    led_on = λ x h. ⊎_elim (λ same. subst (IsDone g) ((bytes_eq-Decides t x).0 same) now) (held.led_on x) (or_cases (bytes_eq t x) (has_text done x) h);
  }

-- ---- redirects

-- a graph with a redirect from a specifier that doesn't lead back, and with the slots of another one but there
module _ (ps : List Parts) (done : List (List ℕ)) (g u : ModuleGraph) (a n : Parts) (slots : (y : List ℕ) → y ≢ specifier_text a → finite.get u.slots y ≡ finite.get g.slots y) (failed_stays : FailedAt g (specifier_text a) → FailedAt u (specifier_text a)) (redirects : u.redirects ≡ finite.insert g.redirects (specifier_text a) n) (back : leads_back g a n ≡ false) where
  at_others : (y : List ℕ) → y ≢ specifier_text a → finite.get u.redirects y ≡ finite.get g.redirects y
  at_others y ne = ap (λ (m : finite.FinMap text_cmp Parts). finite.get m y) redirects ∙ put_other g.redirects (specifier_text a) n y ne

  at_it : finite.get u.redirects (specifier_text a) ≡ Some n
  at_it = ap (λ (m : finite.FinMap text_cmp Parts). finite.get m (specifier_text a)) redirects ∙ put_same g.redirects (specifier_text a) n

  goes_there : (t : Parts) → stands u (specifier_text a) ≡ false → finite.get u.redirects (specifier_text a) ≡ Some t → t ≡ n
  goes_there t free e = let both : Some t ≡ Some n = sym e ∙ at_it in cc

  still_failed : (x : List ℕ) → FailedAt g x → FailedAt u x
  still_failed x failed = ⊎_elim
      (λ same. subst (FailedAt u) (sym same) (failed_stays (subst (FailedAt g) same failed)))
      (λ ne. ap is_failed (slots x ne) ∙ failed)
      (cases_text x (specifier_text a))

  pub redirected_done : IsDone u (specifier_text a)
  redirected_done = record { key = inr (ap is_some at_it); no_loop = no_loop_here g u a n (λ y ne. ap is_some (slots y ne)) at_others goes_there back }

  pub graph_redirected : In ps n ⊎ FailedAt u (specifier_text n) → GraphIn ps done g → GraphIn ps done u
  graph_redirected target held = record {
    targets = λ k t e. ⊎_elim
        (λ same. let is : t ≡ n = let both : Some t ≡ Some n = sym e ∙ (ap (finite.get u.redirects) same ∙ at_it) in cc in subst (λ (z : Parts). In ps z ⊎ FailedAt u (specifier_text z)) (sym is) target)
        (λ ne. ⊎_elim inl (λ failed. inr (still_failed (specifier_text t) failed)) (held.targets k t (sym (at_others k ne) ∙ e)))
        (cases_text k (specifier_text a));
    led_on = λ t h. ⊎_elim
        (λ same. subst (IsDone u) (sym same) redirected_done)
        (λ ne.
        let was = held.led_on t h in
        record {
          key = ⊎_elim (λ x. inl (ap is_some (slots t ne) ∙ x)) (λ x. inr (ap is_some (at_others t ne) ∙ x)) was.key;
          no_loop = λ way. was.no_loop (loop_redirected g u a n (λ y other. ap is_some (slots y other)) at_others goes_there back way);
        })
        (cases_text t (specifier_text a));
  }

pub settled_some : (o : Option ModuleSlot) → is_settled o ≡ true → is_some o ≡ true
settled_some None e = absurd cc
settled_some (Some v) e = refl

pending_not_failed : (o : Option ModuleSlot) → is_pending_at o ≡ true → is_failed o ≡ true → ⊥
pending_not_failed None p f = cc
pending_not_failed (Some (Stands m)) p f = cc
pending_not_failed (Some (Failed e)) p f = cc
pending_not_failed (Some (Pending asset)) p f = cc

-- a slot stands where a specifier isn't redirected
pub stands_done : (g : ModuleGraph) (t : List ℕ) → stands g t ≡ true → IsDone g t
stands_done g t s = record { key = inl s; no_loop = λ way. standing way refl }
  where
    standing : {x d : List ℕ} → Onto g x d → x ≡ t → ⊥
    standing (one {x = x} free e) is = let wrong : true ≡ false = sym s ∙ (sym (ap (stands g) is) ∙ free) in cc
    standing (more {x = x} free e r) is = let wrong : true ≡ false = sym s ∙ (sym (ap (stands g) is) ∙ free) in cc

module _ (ps : List Parts) (done : List (List ℕ)) (g : ModuleGraph) (a n : Parts) where
  -- the graph by what stands at the specifier
  abbrev moved_by : Bool → Bool → ModuleGraph
  moved_by kept pending = if kept then g else with_redirect (if pending then without_slot g a else g) a n

  pub record IsMoved (u : ModuleGraph) : Type 0 where
    pub graph : GraphIn ps done u
    pub done_now : IsDone u (specifier_text a)

  -- a specifier is redirected, which doesn't lead back
  pub graph_moved : leads_back g a n ≡ false → In ps n → GraphIn ps done g → IsMoved (moved g a n)
  graph_moved back target held = by_kept (is_settled (slot_at g a) && is_some (redirect_at g a)) refl
    where
      by_pending : (b : Bool) → is_pending_at (slot_at g a) ≡ b → IsMoved (moved_by false b)
      by_pending true p = record {
        graph = graph_redirected ps done g (moved_by false true) a n (λ y ne. cut_other g.slots (specifier_text a) y ne) (λ failed. absurd (pending_not_failed (slot_at g a) p failed)) refl back (inl target) held;
        done_now = redirected_done ps done g (moved_by false true) a n (λ y ne. cut_other g.slots (specifier_text a) y ne) (λ failed. absurd (pending_not_failed (slot_at g a) p failed)) refl back;
      }
      by_pending false p = record {
        graph = graph_redirected ps done g (moved_by false false) a n (λ y ne. refl) (λ failed. failed) refl back (inl target) held;
        done_now = redirected_done ps done g (moved_by false false) a n (λ y ne. refl) (λ failed. failed) refl back;
      }

      by_kept : (b : Bool) → (is_settled (slot_at g a) && is_some (redirect_at g a)) ≡ b → IsMoved (moved g a n)
      by_kept true k = subst IsMoved (sym (ap (λ b. moved_by b (is_pending_at (slot_at g a))) k)) (record { graph = held; done_now = stands_done g (specifier_text a) (settled_some (slot_at g a) (and_first (is_settled (slot_at g a)) (is_some (redirect_at g a)) k)) })
        where
          and_first : (x y : Bool) → x && y ≡ true → x ≡ true
          and_first true y e = refl
          and_first false y e = absurd cc
      by_kept false k = subst IsMoved (sym (ap (λ b. moved_by b (is_pending_at (slot_at g a))) k)) (by_it (is_pending_at (slot_at g a)) refl)
        where
          by_it : (b : Bool) → is_pending_at (slot_at g a) ≡ b → IsMoved (moved_by false (is_pending_at (slot_at g a)))
          by_it b p = subst (λ x. IsMoved (moved_by false x)) (sym p) (by_pending b p)

-- an error is put at a name, to which a specifier is redirected where that is another one
module _ (ps : List Parts) (done : List (List ℕ)) (g : ModuleGraph) (a name : Parts) (v : ModuleSlot) (error : is_failed (Some v) ≡ true) where
  abbrev with_error : ModuleGraph
  with_error = put_at g (specifier_text name) v

  abbrev named_by : Bool → Bool → Bool → ModuleGraph
  named_by same kept pending = with_slot (if same then g else (if kept then g else with_redirect (if pending then without_slot g a else g) a name)) name v

  other_back : specifier_text a ≢ specifier_text name → leads_back with_error a name ≡ false
  other_back ne =
      let standing : has_slot (unknown_at with_error a) name ≡ true = ap is_some (cut_other with_error.slots (specifier_text a) (specifier_text name) (λ e. ne (sym e)) ∙ put_same g.slots (specifier_text name) v) in
      let stops : redirected_end (unknown_at with_error a) name ≡ name = follow_last (unknown_at with_error a) (finite.len (unknown_at with_error a).redirects) (name ∷ []) name (onward_slot (unknown_at with_error a) name standing) in
      ap (λ (z : Parts). same_specifier z a) stops ∙ not_same (same_specifier name a) refl
    where
      not_same : (b : Bool) → same_specifier name a ≡ b → same_specifier name a ≡ false
      not_same true e = absurd (ne (sym (text_of_same name a e)))
      not_same false e = e

  held_error : GraphIn ps done g → GraphIn ps done with_error
  held_error held = graph_put ps done g (specifier_text name) v (λ failed. error) held

  slots_named : (pending : Bool) (y : List ℕ) → y ≢ specifier_text a → finite.get (named_by false false pending).slots y ≡ finite.get with_error.slots y
  slots_named true y ne = ⊎_elim
      (λ same. ap (finite.get (named_by false false true).slots) same ∙ (put_same (finite.remove g.slots (specifier_text a)) (specifier_text name) v ∙ sym (ap (finite.get with_error.slots) same ∙ put_same g.slots (specifier_text name) v)))
      (λ other. put_other (finite.remove g.slots (specifier_text a)) (specifier_text name) v y other ∙ (cut_other g.slots (specifier_text a) y ne ∙ sym (put_other g.slots (specifier_text name) v y other)))
      (cases_text y (specifier_text name))
  slots_named false y ne = refl

  pub graph_named : GraphIn ps done g → GraphIn ps done (with_slot (renamed g a name) name v)
  graph_named held = by_same (same_specifier a name) refl
    where
      by_pending : specifier_text a ≢ specifier_text name → (b : Bool) → is_pending_at (slot_at g a) ≡ b → GraphIn ps done (named_by false false b)
      by_pending ne b p = graph_redirected ps done with_error (named_by false false b) a name (slots_named b) (failed_here b p) (redirects_are b) (other_back ne)
          (inr (ap is_failed (put_same (stored_slots b) (specifier_text name) v) ∙ error)) (held_error held)
        where
          stored_slots : Bool → finite.FinMap text_cmp ModuleSlot
          stored_slots b = (if b then without_slot g a else g).slots

          redirects_are : (b : Bool) → (named_by false false b).redirects ≡ finite.insert with_error.redirects (specifier_text a) name
          redirects_are true = refl
          redirects_are false = refl

          failed_here : (b : Bool) → is_pending_at (slot_at g a) ≡ b → FailedAt with_error (specifier_text a) → FailedAt (named_by false false b) (specifier_text a)
          failed_here true p failed = absurd (pending_not_failed (slot_at g a) p (sym (ap is_failed (put_other g.slots (specifier_text name) v (specifier_text a) ne)) ∙ failed))
          failed_here false p failed = failed

      by_kept : specifier_text a ≢ specifier_text name → (b : Bool) → (is_settled (slot_at g a) && is_some (redirect_at g a)) ≡ b → GraphIn ps done (named_by false (is_settled (slot_at g a) && is_some (redirect_at g a)) (is_pending_at (slot_at g a)))
      by_kept ne true k = subst (λ b. GraphIn ps done (named_by false b (is_pending_at (slot_at g a)))) (sym k) (held_error held)
      by_kept ne false k = subst (λ b. GraphIn ps done (named_by false b (is_pending_at (slot_at g a)))) (sym k) (by_pending ne (is_pending_at (slot_at g a)) refl)

      by_same : (b : Bool) → same_specifier a name ≡ b → GraphIn ps done (named_by (same_specifier a name) (is_settled (slot_at g a) && is_some (redirect_at g a)) (is_pending_at (slot_at g a)))
      by_same true e = subst (λ b. GraphIn ps done (named_by b (is_settled (slot_at g a) && is_some (redirect_at g a)) (is_pending_at (slot_at g a)))) (sym e) (held_error held)
      by_same false e = subst (λ b. GraphIn ps done (named_by b (is_settled (slot_at g a) && is_some (redirect_at g a)) (is_pending_at (slot_at g a)))) (sym e) (by_kept (other_text a name e) (is_settled (slot_at g a) && is_some (redirect_at g a)) refl)
