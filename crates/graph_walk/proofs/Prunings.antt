-- A pruning keeps the least closed list.
use Rattle.std.proofs.Common.{true≢false, ◌≡◌, ℕ, suc, ◌+◌, ◌-◌, ◌≤◌, List, [], ◌∷◌, ◌++◌, length, true, false, cond, Option, None, Some, refl, sym, ap, ◌∙◌, subst, inl, inr, ⊎_elim, ◌⊎◌, arith}
use Rattle.url.specs.Parts.{Parts}
use Rattle.graph_dependencies.specs.Kinds.{include_types}
use Rattle.graph_dependencies.specs.declared.graph_kind.GraphKind.{GraphKind}
use Rattle.graph_dependencies.specs.declared.graph_kind.GraphKind.TheVariants.{All, CodeOnly, TypesOnly}
use Rattle.graph_core.specs.declared.graph.ModuleGraph.{ModuleGraph}
use Rattle.module_slots.specs.declared.slot.ModuleSlot.{ModuleSlot}
use Rattle.graph_walk.specs.Lists.{Text, Among, Distinct, Within, SameMembers}
use Rattle.graph_walk.specs.Order.{slot_of, redirect_of, texts, blank, FrontView, Waiting, is_seen, offer, offered, queue, queued, types_at_slot, late_at_slot, room}
use Rattle.graph_walk.specs.Prune.{prune_how, codes, prune_of, prune_adds, IsPruned, LosesTypes, prunes_by, Prunes}
use Rattle.graph_walk.specs.Pruning.{Pruning}
use Rattle.graph_walk.proofs.Offers.{Fits, after, grows}
use Rattle.graph_walk.proofs.Steps.{Held, held_offered, held_room, among_right, balance, among_either}
use Rattle.graph_walk.proofs.Universe.{universe, universe_short, slots_in, redirects_in, roots_held, roots_fit}
use Rattle.graph_walk.proofs.Closed.{Queue, queue_offered, offered_kept, offered_seen, offered_new, fresh_queued, queued_seen}

module _ (g : ModuleGraph) where
  codes_in : (s : Text) (slot : Option ModuleSlot) → slot_of g s ≡ slot → Within (codes slot) (universe g prune_how (texts g.roots))
  codes_in s None e x a = absurd a
  codes_in s (Some slot) e x a = slots_in g prune_how (texts g.roots) s slot e x (among_right x (types_at_slot prune_how slot) (late_at_slot prune_how slot) a)

  prune_cases : (s : Text) (to : Option Parts) → redirect_of g s ≡ to → Within (prune_of to (slot_of g s)) (universe g prune_how (texts g.roots))
  prune_cases s None e x a = codes_in s (slot_of g s) refl x a
  prune_cases s (Some t) e x a = ⊎_elim (λ same. subst (λ z. Among z (universe g prune_how (texts g.roots))) (sym same) (redirects_in g prune_how (texts g.roots) s t e)) absurd a

  prune_held : (s : Text) → Within (prune_adds g s) (universe g prune_how (texts g.roots))
  unfolding prune_adds
  prune_held s x a = prune_cases s (redirect_of g s) refl x a

seen_within : (f : Waiting) (more xs : List Text) → Within f.seen xs → Within more xs → Within (offered f more).seen xs
unfolding offered
seen_within f [] xs h k = h
seen_within f (x ∷ more) xs h k =
    seen_within (offer f x) more xs
    (elim (is_seen f.seen x) as (λ b. Within (cond b f (record { seen = f.seen ++ x ∷ []; waiting = x ∷ f.waiting })).seen xs) [
      | true ↦ h
      | false ↦ λ y a. ⊎_elim (h y) (λ b. ⊎_elim (λ same. k y (inl same)) absurd b) (among_either y f.seen (x ∷ []) a)
    ])
    (λ y a. k y (inr a))

module _ (g : ModuleGraph) (f k : FrontView) (s : Text) (p : Pruning g f) (parts : f.front.waiting ≡ s ∷ k.front.waiting) (seen : k.front.seen ≡ f.front.seen) (bound : k.bound ≡ f.bound) where
  was_waiting : Within (s ∷ k.front.waiting) f.front.waiting
  was_waiting x a = subst (λ (xs : List Text). Among x xs) (sym parts) a

  was_seen : Within k.front.seen f.front.seen
  was_seen x a = subst (λ (xs : List Text). Among x xs) seen a

  now_seen : Within f.front.seen k.front.seen
  now_seen x a = subst (λ (xs : List Text). Among x xs) (sym seen) a

  taken_held : Held p.all k.front
  taken_held = record { seen_in = λ x a. p.seen_in x (was_seen x a); waiting_in = λ x a. p.waiting_in x (was_waiting x (inr a)); distinct = subst Distinct (sym seen) p.distinct }

  now_held : Held p.all (offered k.front (prune_adds g s))
  now_held = held_offered p.all k.front (prune_adds g s) (p.adds_in s) taken_held

  pub prune_fits : Fits k (prune_adds g s)
  prune_fits = omega (arith, held_room p.all (offered k.front (prune_adds g s)) now_held, p.room, bound)

  taken_queue : Queue k.front
  taken_queue = record { once = (subst Distinct parts p.once).1; were_seen = λ x a. now_seen x (p.were_seen x (was_waiting x (inr a))) }

  first_seen : Among s f.front.seen
  first_seen = p.were_seen s (was_waiting s (inl refl))

  offered_done : (x : Text) → Among x (offered k.front (prune_adds g s)).seen → Among x (offered k.front (prune_adds g s)).waiting ⊎ Within (prune_adds g x) (offered k.front (prune_adds g s)).seen
  offered_done x a =
      let kept = offered_kept k.front (prune_adds g s) in
      ⊎_elim
      (λ b. ⊎_elim
      (λ w. ⊎_elim
      (λ same. inr (λ y c. offered_seen k.front (prune_adds g s) y (subst (λ z. Among y (prune_adds g z)) same c)))
      (λ r. inl (kept.1 x r))
      (subst (λ (xs : List Text). Among x xs) parts w))
      (λ d. inr (λ y c. kept.0 y (now_seen y (d y c))))
      (p.done x (was_seen x b)))
      inl
      (offered_new k.front (prune_adds g s) x a)

  whole : Pruning g (after k (prune_adds g s))
  whole =
      let q = queue_offered k.front (prune_adds g s) taken_queue in
      record {
        all = p.all;
        adds_in = p.adds_in;
        seen_in = now_held.seen_in;
        waiting_in = now_held.waiting_in;
        distinct = now_held.distinct;
        were_seen = q.were_seen;
        once = q.once;
        room = omega (arith, p.room, bound);
        roots_in = λ x a. (offered_kept k.front (prune_adds g s)).0 x (now_seen x (p.roots_in x a));
        done = offered_done;
        least = λ xs c. seen_within k.front (prune_adds g s) xs (λ x a. p.least xs c x (was_seen x a)) (c.adds s (p.least xs c s first_seen));
      }

  module _ (n : FrontView) (now : n ≡ after k (prune_adds g s)) where
    pub prune_next : Pruning g n
    prune_next = subst (Pruning g) (sym now) whole

    pub prune_nearer : suc (n.bound - length n.front.seen + length n.front.waiting) ≡ f.bound - length f.front.seen + length f.front.waiting
    prune_nearer =
        let e = balance k.front (prune_adds g s) in
        let a = ap (λ (v : FrontView). length v.front.seen) now in
        let b = ap (λ (v : FrontView). length v.front.waiting) now in
        let d = ap (λ (v : FrontView). v.bound) now in
        let t = ap (λ (xs : List Text). length xs) parts in
        let q = ap (λ (xs : List Text). length xs) seen in
        let m = grows k.front (prune_adds g s) in
        let fits = prune_fits in
        omega arith

pub prune_end : (g : ModuleGraph) (f k : FrontView) → Pruning g f → f.front.waiting ≡ [] → k ≡ f → IsPruned g k.front.seen
prune_end g f k p none same =
    subst (λ (v : FrontView). IsPruned g v.front.seen) (sym same)
    (record { root = p.roots_in; adds = λ s a. ⊎_elim (λ w. absurd (subst (λ (xs : List Text). Among s xs) none w)) (λ d. d) (p.done s a) }, p.least)

queued_least : (f : Waiting) (more xs : List Text) → Within f.seen xs → Within more xs → Within (queued f more).seen xs
unfolding queued
queued_least f [] xs h k = h
queued_least f (x ∷ more) xs h k =
    queued_least (queue f x) more xs
    (elim (is_seen f.seen x) as (λ b. Within (cond b f (record { seen = f.seen ++ x ∷ []; waiting = f.waiting ++ x ∷ [] })).seen xs) [
      | true ↦ h
      | false ↦ λ y a. ⊎_elim (h y) (λ b. ⊎_elim (λ same. k y (inl same)) absurd b) (among_either y f.seen (x ∷ []) a)
    ])
    (λ y a. k y (inr a))

pub prune_start : (g : ModuleGraph) → Pruning g (record { front = queued blank (texts g.roots); bound = room g prune_how (texts g.roots) })
prune_start g =
    let h = roots_held g prune_how (texts g.roots) in
    let fresh = fresh_queued blank (texts g.roots) record { queue_is = record { once = tt; were_seen = λ y a. a }; all_wait = λ y a. a } in
    record {
      all = universe g prune_how (texts g.roots);
      adds_in = prune_held g;
      seen_in = h.seen_in;
      waiting_in = h.waiting_in;
      distinct = h.distinct;
      were_seen = fresh.queue_is.were_seen;
      once = fresh.queue_is.once;
      room = universe_short g prune_how (texts g.roots);
      roots_in = queued_seen blank (texts g.roots);
      done = λ s a. inl (fresh.all_wait s a);
      least = λ xs c. queued_least blank (texts g.roots) xs (λ y a. absurd a) c.root;
    }

-- the steps by which a pruning begins
module _ (g : ModuleGraph) (n : ℕ) (f : FrontView) (is_room : n ≡ room g prune_how (texts g.roots)) (made : f ≡ record { front = blank; bound = n }) (roots : List Text) (roots_are : roots ≡ texts g.roots) where
  begun_room : f ≡ record { front = blank; bound = room g prune_how (texts g.roots) }
  begun_room = made ∙ ap (λ (b : ℕ). record { front = blank; bound = b }) is_room

  pub queue_step : length (queued f.front roots).seen ≤ f.bound
  queue_step =
      subst (λ (xs : List Text). length (queued f.front xs).seen ≤ f.bound) (sym roots_are)
      (subst (λ (v : FrontView). length (queued v.front (texts g.roots)).seen ≤ v.bound) (sym begun_room) (roots_fit g prune_how (texts g.roots)))

  pub start_step : (q : FrontView) → q ≡ record { front = queued f.front roots; bound = f.bound } → Pruning g q
  start_step q is =
      subst (Pruning g) (sym (is ∙ ap (λ (xs : List Text). record { front = queued f.front xs; bound = f.bound }) roots_are ∙ ap (λ (v : FrontView). record { front = queued v.front (texts g.roots); bound = v.bound }) begun_room)) (prune_start g)

-- ---- what a pruning leaves

-- the least closed list is told by its members
pub pruned_members : (g : ModuleGraph) (xs ys : List Text) → SameMembers ys xs → IsPruned g xs → IsPruned g ys
pruned_members g xs ys same h = (
  record { root = λ x a. same.1 x (h.0.root x a); adds = λ s a x b. same.1 x (h.0.adds s (same.0 s a) x b) },
  λ zs c x a. h.1 zs c x (same.0 x a),
)

code_stays : (k : GraphKind) (g : ModuleGraph) → include_types k ≡ false → prunes_by k g g
code_stays CodeOnly g e = refl
code_stays All g e = absurd (true≢false e)
code_stays TypesOnly g e = absurd (true≢false e)

types_go : (k : GraphKind) (g u : ModuleGraph) → include_types k ≡ true → LosesTypes g u → prunes_by k g u
types_go CodeOnly g u e h = absurd (true≢false (sym e))
types_go All g u e h = h
types_go TypesOnly g u e h = h

-- a graph of code alone stays as it is
pub prunes_code : (g : ModuleGraph) → include_types g.kind ≡ false → Prunes g g
prunes_code g = code_stays g.kind g

pub prunes_types : (g u : ModuleGraph) → include_types g.kind ≡ true → LosesTypes g u → Prunes g u
prunes_types g u = types_go g.kind g u
