-- A step of a walk.
use Rattle.std.proofs.Common.{true≢false, ◌≡◌, ◌≢◌, ℕ, zero, suc, ◌+◌, ◌-◌, ◌≤◌, List, [], ◌∷◌, ◌++◌, length, Bool, true, false, cond, ◌||◌, Option, None, Some, refl, sym, ap, ◌∙◌, subst, inl, inr, ⊎_elim, ◌⊎◌, arith}
use Rattle.std.proofs.lemmas.Grind.{common_steps}
use Rattle.std.specs.Prelude.{bytes_eq}
use Rattle.std.specs.List.{list_any}
use Rattle.std.specs.Cmp.Lexicographic.{bytes_decides}
use Rattle.url.specs.Parts.{Parts}
use Rattle.graph_core.specs.declared.graph.ModuleGraph.{ModuleGraph}
use Rattle.module_slots.specs.declared.slot.JsModule.{JsModule}
use Rattle.module_slots.specs.declared.slot.Module.TheVariants.{Js, Json, Wasm, Npm, Node, External}
use Rattle.module_slots.specs.declared.slot.ModuleSlot.{ModuleSlot}
use Rattle.module_slots.specs.declared.slot.ModuleSlot.TheVariants.{Module as Stands, Err as Failed, Pending}
use Rattle.graph_walk.specs.Lists.{Text, Among, Distinct, Within}
use Rattle.graph_walk.specs.Options.{How}
use Rattle.graph_walk.specs.Order.{redirect_text, slot_of, redirect_of, walked, FrontView, WalkView, Waiting, Entry, is_seen, offer, offered, early, late, late_of, late_at_slot, option_list, is_passed_over, targets_back, adds, taken, with_entry, entry_at, entry_of, entry_at_slot, entry_at_redirect, entries_at, left, rest, pending_adds, front_left}
use Rattle.graph_walk.specs.Room.{IsSound, IsReady, GivesNext}
use Rattle.graph_walk.proofs.Offers.{offered-append, offered-none, grows, Fits, after}

-- ---- lists
pub among_left : (x : Text) (xs ys : List Text) → Among x xs → Among x (xs ++ ys)
among_left x [] ys a = absurd a
among_left x (z ∷ xs) ys a = ⊎_elim inl (λ b. inr (among_left x xs ys b)) a

pub among_right : (x : Text) (xs ys : List Text) → Among x ys → Among x (xs ++ ys)
among_right x [] ys a = a
among_right x (z ∷ xs) ys a = inr (among_right x xs ys a)

pub among_either : (x : Text) (xs ys : List Text) → Among x (xs ++ ys) → Among x xs ⊎ Among x ys
among_either x [] ys a = inr a
among_either x (z ∷ xs) ys a = ⊎_elim (λ e. inl (inl e)) (λ b. ⊎_elim (λ h. inl (inr h)) inr (among_either x xs ys b)) a

pub distinct_push : (xs : List Text) (x : Text) → Distinct xs → (Among x xs → ⊥) → Distinct (xs ++ x ∷ [])
distinct_push [] x d new = (λ a. a, tt)
distinct_push (y ∷ xs) x d new =
    (λ a. ⊎_elim d.0 (λ e. ⊎_elim (λ same. new (inl (sym same))) (λ b. b) e) (among_either y xs (x ∷ []) a), distinct_push xs x d.1 (λ a. new (inr a)))

record Cut (x : Text) (ys : List Text) : Type 0 where
  rest : List Text
  shorter : suc (length rest) ≡ length ys
  others : (y : Text) → y ≢ x → Among y ys → Among y rest

cut : (x : Text) (ys : List Text) → Among x ys → Cut x ys
cut x [] a = absurd a
cut x (y ∷ ys) (inl same) = record { rest = ys; shorter = refl; others = λ z ne a. ⊎_elim (λ e. absurd (ne (e ∙ sym same))) (λ t. t) a }
cut x (y ∷ ys) (inr a) = let c = cut x ys a in record { rest = y ∷ c.rest; shorter = ap suc c.shorter; others = λ z ne b. ⊎_elim inl (λ t. inr (c.others z ne t)) b }

pub pigeons : (xs ys : List Text) → Distinct xs → Within xs ys → length xs ≤ length ys
pigeons [] ys d in_ys = omega arith
pigeons (x ∷ xs) ys d in_ys =
    let c = cut x ys (in_ys x (inl refl)) in
    let fewer = pigeons xs c.rest d.1 (λ y a. c.others y (λ same. d.0 (subst (λ z. Among z xs) same a)) (in_ys y (inr a))) in
    let one = c.shorter in
    omega arith

-- ---- what was seen
pub seen_among : (xs : List Text) (x : Text) → is_seen xs x ≡ true → Among x xs
seen_among [] x e = absurd (cc)
seen_among (y ∷ xs) x e = by (bytes_eq x y) refl (seen_among xs x) e
  where
    by : (b : Bool) → bytes_eq x y ≡ b → (list_any (bytes_eq x) xs ≡ true → Among x xs) → (b || list_any (bytes_eq x) xs) ≡ true → (x ≡ y) ⊎ Among x xs
    by true is rest h = inl ((bytes_decides x y).0 is)
    by false is rest h = inr (rest h)

pub unseen_new : (xs : List Text) (x : Text) → is_seen xs x ≡ false → Among x xs → ⊥
unseen_new [] x e a = a
unseen_new (y ∷ xs) x e (inl same) =
    let is : bytes_eq x y ≡ true = (bytes_decides x y).1 same in
    true≢false (sym (ap (λ b. b || list_any (bytes_eq x) xs) is) ∙ e)
unseen_new (y ∷ xs) x e (inr a) = unseen_new xs x (second (bytes_eq x y) (list_any (bytes_eq x) xs) e) a
  where
    second : (a b : Bool) → (a || b) ≡ false → b ≡ false
    second true b h = absurd cc
    second false b h = h

pub record Held (all : List Text) (f : Waiting) : Type 0 where
  pub seen_in : Within f.seen all
  pub waiting_in : Within f.waiting all
  pub distinct : Distinct f.seen

pub held_offer : (all : List Text) (f : Waiting) (x : Text) → Among x all → Held all f → Held all (offer f x)
held_offer all f x a h =
    elim (is_seen f.seen x) as (λ b. is_seen f.seen x ≡ b → Held all (cond b f (record { seen = f.seen ++ x ∷ []; waiting = x ∷ f.waiting }))) [
      | true ↦ λ e. h
      | false ↦ λ e. record {
        seen_in = λ y b. ⊎_elim (h.seen_in y) (λ c. ⊎_elim (λ same. subst (λ z. Among z all) (sym same) a) absurd c) (among_either y f.seen (x ∷ []) b);
        waiting_in = λ y b. ⊎_elim (λ same. subst (λ z. Among z all) (sym same) a) (h.waiting_in y) b;
        distinct = distinct_push f.seen x h.distinct (unseen_new f.seen x e);
      }
    ] refl

pub held_offered : (all : List Text) (f : Waiting) (xs : List Text) → Within xs all → Held all f → Held all (offered f xs)
unfolding offered
held_offered all f [] within h = h
held_offered all f (x ∷ xs) within h = held_offered all (offer f x) xs (λ y a. within y (inr a)) (held_offer all f x (within x (inl refl)) h)

pub held_room : (all : List Text) (f : Waiting) → Held all f → length f.seen ≤ length all
held_room all f h = pigeons f.seen all h.distinct h.seen_in

pub balance_one : (f : Waiting) (x : Text) → length (offer f x).seen + length f.waiting ≡ length (offer f x).waiting + length f.seen
balance_one f x = grind (arith, common_steps)

pub balance : (f : Waiting) (xs : List Text) → length (offered f xs).seen + length f.waiting ≡ length (offered f xs).waiting + length f.seen
unfolding offered
balance f [] = omega arith
balance f (x ∷ xs) = omega (arith, balance_one f x, balance (offer f x) xs)

-- an offer takes no step away
pub offers_left : (f n : FrontView) (xs : List Text) → n ≡ after f xs → Fits f xs → front_left n ≡ front_left f
offers_left f n xs now fits =
    let a = ap (λ (v : FrontView). length v.front.seen) now in
    let b = ap (λ (v : FrontView). length v.front.waiting) now in
    let d = ap (λ (v : FrontView). v.bound) now in
    omega (arith, a, b, d, balance f.front xs, grows f.front xs, fits)

-- ---- sound fronts
module _ (g : ModuleGraph) (o : How) (all : List Text) where
  pub held_of : (f : FrontView) → IsSound g o all f → Held all f.front
  held_of f s = record { seen_in = s.seen_in; waiting_in = s.waiting_in; distinct = s.distinct }

  pub sound_from : (f k : FrontView) → IsSound g o all f → Held all k.front → f.bound ≡ k.bound → IsSound g o all k
  sound_from f k s h same = record {
    early_in = s.early_in;
    late_in = s.late_in;
    seen_in = h.seen_in;
    waiting_in = h.waiting_in;
    distinct = h.distinct;
    room = let r = s.room in omega arith;
  }

  pub sound_after : (f : FrontView) (xs : List Text) → Within xs all → IsSound g o all f → IsSound g o all (after f xs)
  sound_after f xs within s = sound_from f (after f xs) s (held_offered all f.front xs within (held_of f s)) refl

  pub sound_fits : (f : FrontView) (xs : List Text) → Within xs all → IsSound g o all f → Fits f xs
  sound_fits f xs within s = let r = s.room in let h = held_room all _ (held_offered all f.front xs within (held_of f s)) in omega arith

  -- the first that waits was taken
  pub sound_taken : (f k : FrontView) (s : Text) → f.front.waiting ≡ s ∷ k.front.waiting → k.front.seen ≡ f.front.seen → k.bound ≡ f.bound → IsSound g o all f → IsSound g o all k
  sound_taken f k s parts seen bound sound = sound_from f k sound
      record {
        seen_in = subst (λ (xs : List Text). Within xs all) (sym seen) sound.seen_in;
        waiting_in = λ x a. sound.waiting_in x (subst (λ (xs : List Text). Among x xs) (sym parts) (inr a));
        distinct = subst Distinct (sym seen) sound.distinct;
      } (sym bound)

  pub taken_in : (f : FrontView) (s : Text) (rest : List Text) → f.front.waiting ≡ s ∷ rest → IsSound g o all f → Among s all
  taken_in f s rest parts sound = sound.waiting_in s (subst (λ (xs : List Text). Among s xs) (sym parts) (inl refl))

-- ---- entries
late_none_redirect : (r : Option Parts) → entry_at_redirect r ≡ None → option_list (redirect_text r) ≡ []
late_none_redirect None e = refl
late_none_redirect (Some t) e = absurd (cc)

late_none_js : (o : How) (m : JsModule) → entry_at_slot o (Stands (Js m)) ≡ None → late_at_slot o (Stands (Js m)) ≡ []
late_none_js o m e =
    elim (is_passed_over o m) as (λ b. cond b None (Some (Entry.OfModule (Js m))) ≡ None → cond b [] (targets_back o (walked o m)) ≡ []) [
      | true ↦ λ _. refl
      | false ↦ λ h. absurd (cc)
    ] e

late_none_slot : (o : How) (r : Option Parts) (slot : Option ModuleSlot) → entry_of o slot r ≡ None → late_of o slot r ≡ []
late_none_slot o r None e = late_none_redirect r e
late_none_slot o r (Some (Stands (Js m))) e = late_none_js o m e
late_none_slot o r (Some (Stands (Json m))) e = absurd (cc)
late_none_slot o r (Some (Stands (Wasm m))) e = absurd (cc)
late_none_slot o r (Some (Stands (Npm m))) e = absurd (cc)
late_none_slot o r (Some (Stands (Node m))) e = absurd (cc)
late_none_slot o r (Some (Stands (External m))) e = absurd (cc)
late_none_slot o r (Some (Failed x)) e = refl
late_none_slot o r (Some (Pending is_asset)) e = refl

-- where the walk gives nothing, nothing comes later
pub late_none : (g : ModuleGraph) (o : How) (s : Text) → entry_at g o s ≡ None → late g o s ≡ []
unfolding entry_at late
late_none g o s e = late_none_slot o (redirect_of g s) (slot_of g s) e

none_taken : (more : Text → List Text) (n : ℕ) (seen waiting : List Text) → waiting ≡ [] → taken more n seen waiting ≡ []
unfolding taken
none_taken more zero seen [] e = refl
none_taken more (suc n) seen [] e = refl
none_taken more n seen (x ∷ xs) e = absurd (cc)

pub left_none : (bound : ℕ) (g : ModuleGraph) (o : How) (f : Waiting) → f.waiting ≡ [] → left bound g o f ≡ []
unfolding left entries_at
left_none bound g o f e = ap (entries_at g o) (none_taken (adds g o) _ f.seen f.waiting e)

-- what the front is after s was taken from it and all that it adds was offered
abbrev pub turned : ModuleGraph → How → List Text → Text → List Text → Waiting
turned g o seen s rest = offered (record { seen = seen; waiting = rest }) (early g o s ++ late g o s)

taken_step : (n m : ℕ) (g : ModuleGraph) (o : How) (seen : List Text) (s : Text) (rest : List Text) → n ≡ suc m → taken (adds g o) n seen (s ∷ rest) ≡ s ∷ taken (adds g o) m (turned g o seen s rest).seen (turned g o seen s rest).waiting
unfolding taken
taken_step n m g o seen s rest e = ap (λ (k : ℕ). taken (adds g o) k seen (s ∷ rest)) e

left_step_plain : (bound : ℕ) (g : ModuleGraph) (o : How) (seen : List Text) (s : Text) (rest : List Text) → length (turned g o seen s rest).seen ≤ bound →
    left bound g o (record { seen = seen; waiting = s ∷ rest }) ≡ with_entry s (entry_at g o s) (left bound g o (turned g o seen s rest))
unfolding left entries_at
left_step_plain bound g o seen s rest fits =
    let f : Waiting = record { seen = seen; waiting = rest } in
    let adds = early g o s ++ late g o s in
    ap (entries_at g o) (taken_step (bound - length seen + length (s ∷ rest)) (bound - length (turned g o seen s rest).seen + length (turned g o seen s rest).waiting) g o seen s rest
    (omega (arith, balance f adds, grows f adds, fits)))

module _ (g : ModuleGraph) (o : How) (all : List Text) (f k : FrontView) (s : Text) (sound : IsSound g o all f) (parts : f.front.waiting ≡ s ∷ k.front.waiting) (seen : k.front.seen ≡ f.front.seen) (bound : k.bound ≡ f.bound) where
  pub taken_sound : IsSound g o all k
  taken_sound = sound_taken g o all f k s parts seen bound sound

  pub first_in : Among s all
  first_in = taken_in g o all f s k.front.waiting parts sound

  pub adds_in : Within (early g o s ++ late g o s) all
  adds_in x a = ⊎_elim (sound.early_in s first_in x) (sound.late_in s first_in x) (among_either x (early g o s) (late g o s) a)

  pub early_fits : Fits k (early g o s)
  early_fits = sound_fits g o all k (early g o s) (sound.early_in s first_in) taken_sound

  pub left_step : left f.bound g o f.front ≡ with_entry s (entry_at g o s) (left f.bound g o (offered k.front (early g o s ++ late g o s)))
  left_step =
      let whole : f.front ≡ record { seen = k.front.seen; waiting = s ∷ k.front.waiting } = λ i. record { seen = sym seen i; waiting = parts i } in
      let fits = sound_fits g o all k (early g o s ++ late g o s) adds_in taken_sound in
      ap (left f.bound g o) whole ∙ left_step_plain f.bound g o k.front.seen s k.front.waiting (omega (arith, fits))

  module _ (n : FrontView) (now : n ≡ after k (early g o s)) where
    pub now_sound : IsSound g o all n
    now_sound = subst (IsSound g o all) (sym now) (sound_after g o all k (early g o s) (sound.early_in s first_in) taken_sound)

    pub now_front : offered k.front (early g o s ++ late g o s) ≡ offered n.front (late g o s)
    now_front = offered-append k.front (early g o s) (late g o s) ∙ ap (λ (a : FrontView). offered a.front (late g o s)) (sym now)

    pub now_bound : n.bound ≡ f.bound
    now_bound = ap (λ (a : FrontView). a.bound) now ∙ bound

    pub gives : (e : Entry) → entry_at g o s ≡ Some e → GivesNext g o f (Some (s, e)) n
    gives e is = (
      left_step ∙ ap (λ (r : Option Entry). with_entry s r (left f.bound g o (offered k.front (early g o s ++ late g o s)))) is ∙ ap (λ (w : Waiting). (s, e) ∷ left f.bound g o w) now_front ∙ ap (λ (b : ℕ). (s, e) ∷ left b g o (offered n.front (late g o s))) (sym now_bound),
      (all, now_sound, sound.late_in s first_in),
    )

    pub skips : entry_at g o s ≡ None → left f.bound g o f.front ≡ left f.bound g o n.front
    skips is =
        left_step ∙ ap (λ (r : Option Entry). with_entry s r (left f.bound g o (offered k.front (early g o s ++ late g o s)))) is ∙ ap (left f.bound g o) (now_front ∙ ap (offered n.front) (late_none g o s is) ∙ offered-none n.front)

    -- how many specifiers may still come
    pub nearer : suc (n.bound - length n.front.seen + length n.front.waiting) ≡ f.bound - length f.front.seen + length f.front.waiting
    nearer =
        let room = held_room all n.front (held_of g o all n now_sound) in
        let size = now_sound.room in
        let e = balance k.front (early g o s) in
        let a = ap (λ (v : FrontView). length v.front.seen) now in
        let b = ap (λ (v : FrontView). length v.front.waiting) now in
        let p = ap (λ (xs : List Text). length xs) parts in
        let q = ap (λ (xs : List Text). length xs) seen in
        let r = now_bound in
        let m = grows k.front (early g o s) in
        omega arith

-- ---- the iterator
module _ {O : Type 0} (as_how : O → How) (w : WalkView O) (f n : FrontView) (now : f ≡ after w.front (pending_adds w.graph (as_how w.options) w.last)) where
  front_rest : rest as_how w ≡ left f.bound w.graph (as_how w.options) f.front
  front_rest = ap (λ (v : FrontView). left v.bound w.graph (as_how w.options) v.front) (sym now)

  pub walk_some : (p : Text × Entry) → GivesNext w.graph (as_how w.options) f (Some p) n → rest as_how w ≡ p ∷ rest as_how (record { graph = w.graph; options = w.options; front = n; last = Some p.0 })
  walk_some p h = front_rest ∙ h.0

  pub walk_none : GivesNext w.graph (as_how w.options) f None n → (rest as_how w ≡ []) × (rest as_how (record { graph = w.graph; options = w.options; front = n; last = None }) ≡ [])
  walk_none h = (front_rest ∙ h.0, ap (left n.bound w.graph (as_how w.options)) (offered-none n.front) ∙ h.1)

pub ready_fits : (g : ModuleGraph) (o : How) (last : Option Text) (f : FrontView) → IsReady g o last f → Fits f (pending_adds g o last)
ready_fits g o last f r = sound_fits g o r.0 f (pending_adds g o last) r.2 r.1

pub ready_after : (g : ModuleGraph) (o : How) (last : Option Text) (f n : FrontView) → n ≡ after f (pending_adds g o last) → IsReady g o last f → IsReady g o None n
ready_after g o last f n now r = (r.0, subst (IsSound g o r.0) (sym now) (sound_after g o r.0 f (pending_adds g o last) r.2 r.1), λ x a. absurd a)

pub ready_skip : (g : ModuleGraph) (o : How) (last : Option Text) (f : FrontView) → IsReady g o last f → IsReady g o None f
ready_skip g o last f r = (r.0, r.1, λ x a. absurd a)
