-- A walk gives what every closed list has, and each once.
use Rattle.std.proofs.Common.{◌≡◌, ℕ, zero, suc, ◌+◌, ◌-◌, ◌≤◌, List, [], ◌∷◌, ◌++◌, map as list_map, length, Bool, true, false, cond, Option, None, Some, refl, sym, ap, ◌∙◌, subst, inl, inr, ⊎_elim, ◌⊎◌, arith}
use Rattle.graph_dependencies.specs.Kinds.{include_types}
use Rattle.graph_core.specs.declared.graph.ModuleGraph.{ModuleGraph}
use Rattle.module_slots.specs.declared.slot.JsModule.{JsModule}
use Rattle.module_slots.specs.declared.slot.Module.{Module}
use Rattle.module_slots.specs.declared.slot.Module.TheVariants.{Js, Json, Wasm, Npm, Node, External}
use Rattle.module_slots.specs.declared.slot.ModuleSlot.{ModuleSlot}
use Rattle.module_slots.specs.declared.slot.ModuleSlot.TheVariants.{Module as Stands, Err as Failed, Pending}
use Rattle.graph_walk.specs.Lists.{Text, Among, Distinct, Within}
use Rattle.graph_walk.specs.Options.{How}
use Rattle.graph_walk.specs.Order.{Named, target_in, types_target, redirect_text, slot_of, redirect_of, imported, follows, walked, walked_dependencies, blank, Waiting, Entry, is_seen, offer, offered, queue, queued, early, late, types_of, late_of, late_at_slot, option_list, is_passed_over, targets_of, followed_targets, targets_back, import_targets, adds, taken, with_entry, entry_at, entries_at, left, rest, room, begun, walk_order}
use Rattle.graph_walk.specs.Closure.{HasFollowed, IsWalkClosed, GivesClosure}
use Rattle.graph_walk.proofs.Steps.{Held, held_offered, held_room, among_left, among_right, among_either, distinct_push, seen_among, unseen_new, balance}
use Rattle.graph_walk.proofs.Offers.{grows}
use Rattle.graph_walk.proofs.Universe.{universe, universe_short, begun_held, early_held, late_held}

-- ---- what a target comes from
in_option : (t : Text) (r : Option Text) → Among t (option_list r) → r ≡ Some t
in_option t None a = absurd a
in_option t (Some x) a = ⊎_elim (λ e. ap Some (sym e)) absurd a

abbrev pub IsTarget : How → Named → Text → Type 0
IsTarget o d t = (target_in d.1.maybe_code ≡ Some t) ⊎ ((include_types o.kind ≡ true) × (target_in d.1.maybe_type ≡ Some t))

in_cond : (t : Text) (b : Bool) (xs : List Text) → Among t (cond b xs []) → (b ≡ true) × Among t xs
in_cond t true xs a = (refl, a)
in_cond t false xs a = absurd a

from_cond : (t : Text) (b : Bool) (xs : List Text) → b ≡ true → Among t xs → Among t (cond b xs [])
from_cond t true xs e a = a
from_cond t false xs e a = absurd (cc)

in_targets : (o : How) (d : Named) (t : Text) → Among t (targets_of o d) → IsTarget o d t
in_targets o d t a =
    ⊎_elim (λ c. inl (in_option t (target_in d.1.maybe_code) c)) (λ c. let p = in_cond t (include_types o.kind) (option_list (target_in d.1.maybe_type)) c in inr (p.0, in_option t (target_in d.1.maybe_type) p.1))
    (among_either t (option_list (target_in d.1.maybe_code)) (cond (include_types o.kind) (option_list (target_in d.1.maybe_type)) []) a)

pub from_option : (t : Text) (r : Option Text) → r ≡ Some t → Among t (option_list r)
from_option t r e = subst (λ (x : Option Text). Among t (option_list x)) (sym e) (inl refl)

pub from_targets : (o : How) (d : Named) (t : Text) → IsTarget o d t → Among t (targets_of o d)
from_targets o d t h =
    ⊎_elim (λ e. among_left t (option_list (target_in d.1.maybe_code)) _ (from_option t (target_in d.1.maybe_code) e))
    (λ p. among_right t (option_list (target_in d.1.maybe_code)) _ (from_cond t (include_types o.kind) (option_list (target_in d.1.maybe_type)) p.0 (from_option t (target_in d.1.maybe_type) p.1))) h

record Comes (o : How) (ds : List Named) (t : Text) : Type 0 where
  from : Named
  one : Among from ds
  follows_it : follows o from ≡ true
  target : IsTarget o from t

in_back : (o : How) (ds : List Named) (t : Text) → Among t (targets_back o ds) → Comes o ds t
unfolding targets_back
in_back o [] t a = absurd a
in_back o (d ∷ ds) t a =
    ⊎_elim (λ b. let c = in_back o ds t b in record { from = c.from; one = inr c.one; follows_it = c.follows_it; target = c.target })
    (λ b. let p = in_cond t (follows o d) (targets_of o d) b in record { from = d; one = inl refl; follows_it = p.0; target = in_targets o d t p.1 })
    (among_either t (targets_back o ds) (followed_targets o d) a)

pub from_back : (o : How) (ds : List Named) (d : Named) (t : Text) → Among d ds → follows o d ≡ true → IsTarget o d t → Among t (targets_back o ds)
unfolding targets_back
from_back o [] d t a f h = absurd a
from_back o (x ∷ ds) d t (inl same) f h =
    among_right t (targets_back o ds) _ (subst (λ (y : Named). Among t (followed_targets o y)) same (from_cond t (follows o d) (targets_of o d) f (from_targets o d t h)))
from_back o (x ∷ ds) d t (inr a) f h = among_left t (targets_back o ds) _ (from_back o ds d t a f h)

record Imported (o : How) (ds : List Named) (t : Text) : Type 0 where
  from : Named
  one : Among from ds
  target : IsTarget o from t

in_imports : (o : How) (ds : List Named) (t : Text) → Among t (import_targets o ds) → Imported o ds t
unfolding import_targets
in_imports o [] t a = absurd a
in_imports o (d ∷ ds) t a =
    ⊎_elim (λ b. record { from = d; one = inl refl; target = in_targets o d t b })
    (λ b. let c = in_imports o ds t b in record { from = c.from; one = inr c.one; target = c.target })
    (among_either t (targets_of o d) (import_targets o ds) a)

from_imports : (o : How) (ds : List Named) (d : Named) (t : Text) → Among d ds → IsTarget o d t → Among t (import_targets o ds)
unfolding import_targets
from_imports o [] d t a h = absurd a
from_imports o (x ∷ ds) d t (inl same) h = among_left t (targets_of o x) _ (subst (λ (y : Named). Among t (targets_of o y)) same (from_targets o d t h))
from_imports o (x ∷ ds) d t (inr a) h = among_right t (targets_of o x) _ (from_imports o ds d t a h)

-- ---- what a module adds after its entry
pub late_is : (o : How) (m : Module) → late_at_slot o (Stands m) ≡ targets_back o (walked_dependencies o m)
unfolding targets_back
late_is o (Js m) =
    elim (is_passed_over o m) as (λ b. cond b [] (targets_back o (walked o m)) ≡ targets_back o (cond b [] (walked o m))) [
      | true ↦ refl
      | false ↦ refl
    ]
late_is o (Json m) = refl
late_is o (Wasm m) = refl
late_is o (Npm m) = refl
late_is o (Node m) = refl
late_is o (External m) = refl

in_late : (o : How) (m : Module) (t : Text) → Among t (late_at_slot o (Stands m)) → Comes o (walked_dependencies o m) t
in_late o m t a = in_back o (walked_dependencies o m) t (subst (λ (xs : List Text). Among t xs) (late_is o m) a)

pub from_late : (o : How) (m : Module) (d : Named) (t : Text) → HasFollowed o m d → IsTarget o d t → Among t (late_at_slot o (Stands m))
from_late o m d t h target =
    subst (λ (xs : List Text). Among t xs) (sym (late_is o m)) (from_back o (walked_dependencies o m) d t h.0 h.1 target)

-- ---- a closed list has all that its members add
module _ (g : ModuleGraph) (o : How) (roots xs : List Text) (closed : IsWalkClosed g o roots xs) where
  by_slot : (s t : Text) (m : Module) (d : Named) → Among s xs → slot_of g s ≡ Some (Stands m) → HasFollowed o m d → IsTarget o d t → Among t xs
  by_slot s t m d a e h target = ⊎_elim (closed.code s t m d a e h) (λ p. closed.type s t m d a e h p.0 p.1) target

  early_closed_cases : (s : Text) (slot : Option ModuleSlot) → slot_of g s ≡ slot → Among s xs → Within (types_of o slot) xs
  early_closed_cases s None e a t b = absurd b
  early_closed_cases s (Some (Stands (Js m))) e a t b = let p = in_cond t (include_types o.kind) (option_list (types_target m.maybe_types_dependency)) b in closed.types s t m a e p.0 (in_option t (types_target m.maybe_types_dependency) p.1)
  early_closed_cases s (Some (Stands (Json m))) e a t b = absurd b
  early_closed_cases s (Some (Stands (Wasm m))) e a t b = absurd b
  early_closed_cases s (Some (Stands (Npm m))) e a t b = absurd b
  early_closed_cases s (Some (Stands (Node m))) e a t b = absurd b
  early_closed_cases s (Some (Stands (External m))) e a t b = absurd b
  early_closed_cases s (Some (Failed x)) e a t b = absurd b
  early_closed_cases s (Some (Pending is_asset)) e a t b = absurd b

  pub late_closed_cases : (s : Text) (slot : Option ModuleSlot) → slot_of g s ≡ slot → Among s xs → Within (late_of o slot (redirect_of g s)) xs
  late_closed_cases s None e a t b = closed.redirect s t a e (in_option t (redirect_text (redirect_of g s)) b)
  late_closed_cases s (Some (Stands m)) e a t b = let c = in_late o m t b in by_slot s t m c.from a e (c.one, c.follows_it) c.target
  late_closed_cases s (Some (Failed x)) e a t b = absurd b
  late_closed_cases s (Some (Pending is_asset)) e a t b = absurd b

  adds_closed : (s : Text) → Among s xs → Within (early g o s ++ late g o s) xs
  unfolding early late
  adds_closed s a t b = ⊎_elim (early_closed_cases s (slot_of g s) refl a t) (late_closed_cases s (slot_of g s) refl a t) (among_either t (early g o s) (late g o s) b)

  begun_closed : Within (import_targets o (imported g.imports)) xs
  begun_closed t a = let c = in_imports o (imported g.imports) t a in ⊎_elim (closed.import_code c.from t c.one) (λ p. closed.import_type c.from t c.one p.0 p.1) c.target

-- ---- how a front changes
pub offer_kept : (f : Waiting) (x : Text) → Within f.seen (offer f x).seen × Within f.waiting (offer f x).waiting
offer_kept f x =
    elim (is_seen f.seen x) as (λ b. (let k : Waiting = cond b f (record { seen = f.seen ++ x ∷ []; waiting = x ∷ f.waiting }) in Within f.seen k.seen × Within f.waiting k.waiting)) [
      | true ↦ (λ y a. a, λ y a. a)
      | false ↦ (λ y a. among_left y f.seen _ a, λ y a. inr a)
    ]

pub offer_seen : (f : Waiting) (x : Text) → Among x (offer f x).seen
offer_seen f x =
    elim (is_seen f.seen x) as (λ b. is_seen f.seen x ≡ b → (let k : Waiting = cond b f (record { seen = f.seen ++ x ∷ []; waiting = x ∷ f.waiting }) in Among x k.seen)) [
      | true ↦ λ e. seen_among f.seen x e
      | false ↦ λ e. among_right x f.seen _ (inl refl)
    ] refl

-- what is seen anew waits
pub offer_new : (f : Waiting) (x y : Text) → Among y (offer f x).seen → Among y f.seen ⊎ Among y (offer f x).waiting
offer_new f x y =
    elim (is_seen f.seen x) as (λ b. (let k : Waiting = cond b f (record { seen = f.seen ++ x ∷ []; waiting = x ∷ f.waiting }) in Among y k.seen → Among y f.seen ⊎ Among y k.waiting)) [
      | true ↦ λ a. inl a
      | false ↦ λ a. ⊎_elim inl (λ b. ⊎_elim (λ same. inr (inl same)) absurd b) (among_either y f.seen (x ∷ []) a)
    ]

-- what waits anew wasn't seen
pub offer_unseen : (f : Waiting) (x y : Text) → Among y (offer f x).waiting → Among y f.waiting ⊎ (Among y f.seen → ⊥)
offer_unseen f x y =
    elim (is_seen f.seen x) as (λ b. is_seen f.seen x ≡ b → (let k : Waiting = cond b f (record { seen = f.seen ++ x ∷ []; waiting = x ∷ f.waiting }) in Among y k.waiting → Among y f.waiting ⊎ (Among y f.seen → ⊥))) [
      | true ↦ λ e a. inl a
      | false ↦ λ e a. ⊎_elim (λ same. inr (λ c. unseen_new f.seen x e (subst (λ z. Among z f.seen) same c))) inl a
    ] refl

pub offered_kept : (f : Waiting) (xs : List Text) → Within f.seen (offered f xs).seen × Within f.waiting (offered f xs).waiting
unfolding offered
offered_kept f [] = (λ y a. a, λ y a. a)
offered_kept f (x ∷ xs) = let h = offered_kept (offer f x) xs in let k = offer_kept f x in (λ y a. h.0 y (k.0 y a), λ y a. h.1 y (k.1 y a))

pub offered_seen : (f : Waiting) (xs : List Text) → Within xs (offered f xs).seen
unfolding offered
offered_seen f [] y a = absurd a
offered_seen f (x ∷ xs) y a = ⊎_elim (λ same. (offered_kept (offer f x) xs).0 y (subst (λ z. Among z (offer f x).seen) (sym same) (offer_seen f x))) (offered_seen (offer f x) xs y) a

pub offered_new : (f : Waiting) (xs : List Text) (y : Text) → Among y (offered f xs).seen → Among y f.seen ⊎ Among y (offered f xs).waiting
unfolding offered
offered_new f [] y a = inl a
offered_new f (x ∷ xs) y a =
    ⊎_elim (λ b. ⊎_elim inl (λ w. inr ((offered_kept (offer f x) xs).1 y w)) (offer_new f x y b)) inr (offered_new (offer f x) xs y a)

pub offered_unseen : (f : Waiting) (xs : List Text) (y : Text) → Among y (offered f xs).waiting → Among y f.waiting ⊎ (Among y f.seen → ⊥)
unfolding offered
offered_unseen f [] y a = inl a
offered_unseen f (x ∷ xs) y a =
    ⊎_elim (offer_unseen f x y) (λ no. inr (λ b. no ((offer_kept f x).0 y b))) (offered_unseen (offer f x) xs y a)

offered_within : (f : Waiting) (more xs : List Text) → Within f.waiting xs → Within more xs → Within (offered f more).waiting xs
unfolding offered
offered_within f [] xs h k = h
offered_within f (x ∷ more) xs h k =
    offered_within (offer f x) more xs
    (elim (is_seen f.seen x) as (λ b. Within (cond b f (record { seen = f.seen ++ x ∷ []; waiting = x ∷ f.waiting })).waiting xs) [
      | true ↦ h
      | false ↦ λ y a. ⊎_elim (λ same. k y (inl same)) (h y) a
    ])
    (λ y a. k y (inr a))

-- those that wait were seen, and each waits once
pub record Queue (f : Waiting) : Type 0 where
  pub once : Distinct f.waiting
  pub were_seen : Within f.waiting f.seen

pub queue_offer : (f : Waiting) (x : Text) → Queue f → Queue (offer f x)
queue_offer f x q =
    elim (is_seen f.seen x) as (λ b. is_seen f.seen x ≡ b → Queue (cond b f (record { seen = f.seen ++ x ∷ []; waiting = x ∷ f.waiting }))) [
      | true ↦ λ e. q
      | false ↦ λ e. record {
        once = (λ a. unseen_new f.seen x e (q.were_seen x a), q.once);
        were_seen = λ y a. ⊎_elim (λ same. among_right y f.seen _ (inl same)) (λ b. among_left y f.seen _ (q.were_seen y b)) a;
      }
    ] refl

pub queue_offered : (f : Waiting) (xs : List Text) → Queue f → Queue (offered f xs)
unfolding offered
queue_offered f [] q = q
queue_offered f (x ∷ xs) q = queue_offered (offer f x) xs (queue_offer f x q)

queue_rest : (seen : List Text) (s : Text) (rest : List Text) → Queue (record { seen = seen; waiting = s ∷ rest }) → Queue (record { seen = seen; waiting = rest })
queue_rest seen s rest q = record { once = q.once.1; were_seen = λ y a. q.were_seen y (inr a) }

-- ---- what is taken
abbrev next : (Text → List Text) → List Text → Text → List Text → Waiting
next more seen s rest = offered (record { seen = seen; waiting = rest }) (more s)

module _ (more : Text → List Text) where
  taken_within : (xs : List Text) → ((s : Text) → Among s xs → Within (more s) xs) → (n : ℕ) (seen waiting : List Text) → Within waiting xs → Within (taken more n seen waiting) xs
  unfolding taken
  taken_within xs closed zero seen waiting h t a = absurd a
  taken_within xs closed (suc n) seen [] h t a = absurd a
  taken_within xs closed (suc n) seen (s ∷ rest) h t a =
      let f = next more seen s rest in
      ⊎_elim (λ same. h t (inl same))
      (taken_within xs closed n f.seen f.waiting
      (offered_within (record { seen = seen; waiting = rest }) (more s) xs (λ y b. h y (inr b)) (closed s (h s (inl refl)))) t) a

  -- each that is taken once, and none that was seen before and doesn't wait
  taken_once : (n : ℕ) (seen waiting : List Text) → Queue (record { seen = seen; waiting = waiting }) → Distinct (taken more n seen waiting) × ((t : Text) → Among t (taken more n seen waiting) → Among t waiting ⊎ (Among t seen → ⊥))
  unfolding taken
  taken_once zero seen waiting q = (tt, λ t a. absurd a)
  taken_once (suc n) seen [] q = (tt, λ t a. absurd a)
  taken_once (suc n) seen (s ∷ rest) q =
      let f0 : Waiting = record { seen = seen; waiting = rest } in
      let f = next more seen s rest in
      let kept = offered_kept f0 (more s) in
      let ih = taken_once n f.seen f.waiting (queue_offered f0 (more s) (queue_rest seen s rest q)) in (
        (λ a. ⊎_elim (λ w. ⊎_elim q.once.0 (λ no. no (q.were_seen s (inl refl))) (offered_unseen f0 (more s) s w)) (λ no. no (kept.0 s (q.were_seen s (inl refl)))) (ih.1 s a), ih.0),
        λ t a. ⊎_elim (λ same. inl (inl same)) (λ b. ⊎_elim (λ w. ⊎_elim (λ r. inl (inr r)) inr (offered_unseen f0 (more s) t w)) (λ no. inr (λ c. no (kept.0 t c))) (ih.1 t b)) a,
      )

  -- with enough turns all that waits is taken, and so is all that is added and wasn't seen before
  taken_all : (all : List Text) → ((s : Text) → Within (more s) all) → (n : ℕ) (seen waiting : List Text) → Held all (record { seen = seen; waiting = waiting }) → length all - length seen + length waiting ≤ n →
      Within waiting (taken more n seen waiting) × ((s t : Text) → Among s (taken more n seen waiting) → Among t (more s) → Among t seen ⊎ Among t (taken more n seen waiting))
  unfolding taken
  taken_all all held zero seen [] h enough = (λ t a. absurd a, λ s t a. absurd a)
  taken_all all held zero seen (s ∷ rest) h enough = absurd (omega arith)
  taken_all all held (suc n) seen [] h enough = (λ t a. absurd a, λ s t a. absurd a)
  taken_all all held (suc n) seen (s ∷ rest) h enough =
      let f0 : Waiting = record { seen = seen; waiting = rest } in
      let f = next more seen s rest in
      let kept = offered_kept f0 (more s) in
      let h0 : Held all f0 = record { seen_in = h.seen_in; waiting_in = λ y a. h.waiting_in y (inr a); distinct = h.distinct } in
      let h1 = held_offered all f0 (more s) (held s) h0 in
      let room = held_room all f h1 in
      let fewer : length all - length f.seen + length f.waiting ≤ n = omega (arith, balance f0 (more s), grows f0 (more s), room) in
      let ih = taken_all all held n f.seen f.waiting h1 fewer in
      let later : (t : Text) → Among t f.seen → Among t seen ⊎ ((t ≡ s) ⊎ Among t (taken more n f.seen f.waiting)) = λ t a. ⊎_elim inl (λ w. inr (inr (ih.0 t w))) (offered_new f0 (more s) t a) in (
        λ t a. ⊎_elim inl (λ r. inr (ih.0 t (kept.1 t r))) a,
        λ x t a b. ⊎_elim (λ same. later t (offered_seen f0 (more s) t (subst (λ z. Among t (more z)) same b))) (λ c. ⊎_elim (later t) (λ k. inr (inr k)) (ih.1 x t c b)) a,
      )

-- ---- the beginning
pub record Fresh (f : Waiting) : Type 0 where
  pub queue_is : Queue f
  pub all_wait : Within f.seen f.waiting

fresh_queue : (f : Waiting) (x : Text) → Fresh f → Fresh (queue f x)
fresh_queue f x h =
    elim (is_seen f.seen x) as (λ b. is_seen f.seen x ≡ b → Fresh (cond b f (record { seen = f.seen ++ x ∷ []; waiting = f.waiting ++ x ∷ [] }))) [
      | true ↦ λ e. h
      | false ↦ λ e. record {
        queue_is = record {
          once = distinct_push f.waiting x h.queue_is.once (λ a. unseen_new f.seen x e (h.queue_is.were_seen x a));
          were_seen = λ y a. ⊎_elim (λ b. among_left y f.seen _ (h.queue_is.were_seen y b)) (λ b. among_right y f.seen _ b) (among_either y f.waiting (x ∷ []) a);
        };
        all_wait = λ y a. ⊎_elim (λ b. among_left y f.waiting _ (h.all_wait y b)) (λ b. among_right y f.waiting _ b) (among_either y f.seen (x ∷ []) a);
      }
    ] refl

queue_kept : (f : Waiting) (x : Text) → Within f.seen (queue f x).seen
queue_kept f x =
    elim (is_seen f.seen x) as (λ b. Within f.seen (cond b f (record { seen = f.seen ++ x ∷ []; waiting = f.waiting ++ x ∷ [] })).seen) [
      | true ↦ λ y a. a
      | false ↦ λ y a. among_left y f.seen _ a
    ]

queue_seen : (f : Waiting) (x : Text) → Among x (queue f x).seen
queue_seen f x =
    elim (is_seen f.seen x) as (λ b. is_seen f.seen x ≡ b → Among x (cond b f (record { seen = f.seen ++ x ∷ []; waiting = f.waiting ++ x ∷ [] })).seen) [
      | true ↦ λ e. seen_among f.seen x e
      | false ↦ λ e. among_right x f.seen _ (inl refl)
    ] refl

queue_within : (f : Waiting) (x : Text) (xs : List Text) → Within f.waiting xs → Among x xs → Within (queue f x).waiting xs
queue_within f x xs h k =
    elim (is_seen f.seen x) as (λ b. Within (cond b f (record { seen = f.seen ++ x ∷ []; waiting = f.waiting ++ x ∷ [] })).waiting xs) [
      | true ↦ h
      | false ↦ λ y a. ⊎_elim (h y) (λ b. ⊎_elim (λ same. subst (λ z. Among z xs) (sym same) k) absurd b) (among_either y f.waiting (x ∷ []) a)
    ]

pub fresh_queued : (f : Waiting) (xs : List Text) → Fresh f → Fresh (queued f xs)
unfolding queued
fresh_queued f [] h = h
fresh_queued f (x ∷ xs) h = fresh_queued (queue f x) xs (fresh_queue f x h)

pub queued_kept : (f : Waiting) (xs : List Text) → Within f.seen (queued f xs).seen
unfolding queued
queued_kept f [] y a = a
queued_kept f (x ∷ xs) y a = queued_kept (queue f x) xs y (queue_kept f x y a)

pub queued_seen : (f : Waiting) (xs : List Text) → Within xs (queued f xs).seen
unfolding queued
queued_seen f [] y a = absurd a
queued_seen f (x ∷ xs) y a = ⊎_elim (λ same. queued_kept (queue f x) xs y (subst (λ z. Among z (queue f x).seen) (sym same) (queue_seen f x))) (queued_seen (queue f x) xs y) a

pub queued_within : (f : Waiting) (more xs : List Text) → Within f.waiting xs → Within more xs → Within (queued f more).waiting xs
unfolding queued
queued_within f [] xs h k = h
queued_within f (x ∷ more) xs h k = queued_within (queue f x) more xs (queue_within f x xs h (k x (inl refl))) (λ y a. k y (inr a))

module _ (g : ModuleGraph) (o : How) (roots : List Text) where
  first_fresh : Fresh (queued blank roots)
  first_fresh = fresh_queued blank roots record { queue_is = record { once = tt; were_seen = λ y a. a }; all_wait = λ y a. a }

  begun_queue : Queue (begun g o roots)
  begun_queue = queue_offered (queued blank roots) (import_targets o (imported g.imports)) first_fresh.queue_is

  begun_waits : Within (begun g o roots).seen (begun g o roots).waiting
  begun_waits y a =
      let imports = import_targets o (imported g.imports) in
      ⊎_elim (λ b. (offered_kept (queued blank roots) imports).1 y (first_fresh.all_wait y b)) (λ b. b) (offered_new (queued blank roots) imports y a)

  begun_within : (xs : List Text) → IsWalkClosed g o roots xs → Within (begun g o roots).waiting xs
  begun_within xs closed = offered_within (queued blank roots) (import_targets o (imported g.imports)) xs (queued_within blank roots xs (λ y a. absurd a) closed.root) (begun_closed g o roots xs closed)

  abbrev all_taken : List Text
  all_taken = taken (adds g o) (room g o roots - length (begun g o roots).seen + length (begun g o roots).waiting) (begun g o roots).seen (begun g o roots).waiting

  adds_held : (s : Text) → Within (adds g o s) (universe g o roots)
  adds_held s t a = ⊎_elim (early_held g o roots s t) (late_held g o roots s t) (among_either t (early g o s) (late g o s) a)

  run : Within (begun g o roots).waiting all_taken × ((s t : Text) → Among s all_taken → Among t (adds g o s) → Among t (begun g o roots).seen ⊎ Among t all_taken)
  run = taken_all (adds g o) (universe g o roots) adds_held (room g o roots - length (begun g o roots).seen + length (begun g o roots).waiting) (begun g o roots).seen (begun g o roots).waiting (begun_held g o roots)
      (omega (arith, universe_short g o roots))

  begun_taken : Within (begun g o roots).seen all_taken
  begun_taken t a = run.0 t (begun_waits t a)

  adds_taken : (s t : Text) → Among s all_taken → Among t (adds g o s) → Among t all_taken
  adds_taken s t a b = ⊎_elim (begun_taken t) (λ c. c) (run.1 s t a b)

  import_taken : (d : Named) (t : Text) → Among d (imported g.imports) → IsTarget o d t → Among t all_taken
  import_taken d t a h = begun_taken t (offered_seen (queued blank roots) (import_targets o (imported g.imports)) t (from_imports o (imported g.imports) d t a h))

  late_taken : (s t : Text) (slot : ModuleSlot) → Among s all_taken → slot_of g s ≡ Some slot → Among t (late_at_slot o slot) → Among t all_taken
  unfolding late
  late_taken s t slot a e b = adds_taken s t a (among_right t (early g o s) _ (subst (λ (v : Option ModuleSlot). Among t (late_of o v (redirect_of g s))) (sym e) b))

  followed_taken : (s t : Text) (m : Module) (d : Named) → Among s all_taken → slot_of g s ≡ Some (Stands m) → HasFollowed o m d → IsTarget o d t → Among t all_taken
  followed_taken s t m d a e h target = late_taken s t (Stands m) a e (from_late o m d t h target)

  redirect_taken : (s t : Text) → Among s all_taken → slot_of g s ≡ None → redirect_text (redirect_of g s) ≡ Some t → Among t all_taken
  unfolding late
  redirect_taken s t a e r = adds_taken s t a (among_right t (early g o s) _ (subst (λ (v : Option ModuleSlot). Among t (late_of o v (redirect_of g s))) (sym e) (from_option t (redirect_text (redirect_of g s)) r)))

  types_taken : (s t : Text) (m : JsModule) → Among s all_taken → slot_of g s ≡ Some (Stands (Js m)) → include_types o.kind ≡ true → types_target m.maybe_types_dependency ≡ Some t → Among t all_taken
  unfolding early
  types_taken s t m a e w h = adds_taken s t a (among_left t (early g o s) _ (subst (λ (v : Option ModuleSlot). Among t (types_of o v)) (sym e) (from_cond t (include_types o.kind) (option_list (types_target m.maybe_types_dependency)) w (from_option t (types_target m.maybe_types_dependency) h))))

  taken_closed : IsWalkClosed g o roots all_taken
  taken_closed = record {
    root = λ s a. begun_taken s ((offered_kept (queued blank roots) (import_targets o (imported g.imports))).0 s (queued_seen blank roots s a));
    import_code = λ d t a e. import_taken d t a (inl e);
    import_type = λ d t a w e. import_taken d t a (inr (w, e));
    redirect = redirect_taken;
    types = types_taken;
    code = λ s t m d a e h c. followed_taken s t m d a e h (inl c);
    type = λ s t m d a e h w c. followed_taken s t m d a e h (inr (w, c));
  }

-- ---- entries
entry_in : (s : Text) (r : Option Entry) (es : List (Text × Entry)) (p : Text × Entry) → Among p (with_entry s r es) → ((p.0 ≡ s) × (r ≡ Some p.1)) ⊎ Among p es
entry_in s None es p a = inr a
entry_in s (Some e) es p a = ⊎_elim (λ same. inl (ap (λ (q : Text × Entry). q.0) same, ap (λ (q : Text × Entry). Some q.1) (sym same))) inr a

among_entries : (g : ModuleGraph) (o : How) (ss : List Text) (p : Text × Entry) → Among p (entries_at g o ss) → Among p.0 ss × (entry_at g o p.0 ≡ Some p.1)
unfolding entries_at
among_entries g o [] p a = absurd a
among_entries g o (s ∷ ss) p a =
    ⊎_elim (λ h. (inl h.0, ap (entry_at g o) h.0 ∙ h.1)) (λ b. let r = among_entries g o ss p b in (inr r.0, r.1)) (entry_in s (entry_at g o s) (entries_at g o ss) p a)

entry_kept : (s : Text) (r : Option Entry) (es : List (Text × Entry)) (p : Text × Entry) → Among p es → Among p (with_entry s r es)
entry_kept s None es p a = a
entry_kept s (Some e) es p a = inr a

entries_among : (g : ModuleGraph) (o : How) (ss : List Text) (s : Text) (e : Entry) → Among s ss → entry_at g o s ≡ Some e → Among (s, e) (entries_at g o ss)
unfolding entries_at
entries_among g o [] s e a is = absurd a
entries_among g o (x ∷ ss) s e (inl same) is =
    subst (λ (r : Option Entry). Among (s, e) (with_entry x r (entries_at g o ss))) (sym (ap (entry_at g o) (sym same) ∙ is)) (inl (λ i. (same i, e)))
entries_among g o (x ∷ ss) s e (inr a) is = entry_kept x (entry_at g o x) (entries_at g o ss) (s, e) (entries_among g o ss s e a is)

names_within : (g : ModuleGraph) (o : How) (ss : List Text) → Within (list_map (λ e. e.0) (entries_at g o ss)) ss
unfolding entries_at
names_within g o [] x a = absurd a
names_within g o (s ∷ ss) x a =
    elim (entry_at g o s) as (λ r. Among x (list_map (λ e. e.0) (with_entry s r (entries_at g o ss))) → (x ≡ s) ⊎ Among x ss) [
      | None ↦ λ b. inr (names_within g o ss x b)
      | Some e ↦ λ b. ⊎_elim inl (λ c. inr (names_within g o ss x c)) b
    ] a

names_once : (g : ModuleGraph) (o : How) (ss : List Text) → Distinct ss → Distinct (list_map (λ e. e.0) (entries_at g o ss))
unfolding entries_at
names_once g o [] d = tt
names_once g o (s ∷ ss) d =
    elim (entry_at g o s) as (λ r. Distinct (list_map (λ e. e.0) (with_entry s r (entries_at g o ss)))) [
      | None ↦ names_once g o ss d.1
      | Some e ↦ (λ a. d.0 (names_within g o ss s a), names_once g o ss d.1)
    ]

pub gives_closure : (g : ModuleGraph) (o : How) (roots : List Text) → GivesClosure g o roots (walk_order g o roots)
unfolding left
gives_closure g o roots = record {
  within = λ s e a. let r = among_entries g o (all_taken g o roots) (s, e) a in
      (λ xs closed. taken_within (adds g o) xs (adds_closed g o roots xs closed) _ (begun g o roots).seen (begun g o roots).waiting (begun_within g o roots xs closed) s r.0, r.1);
  all = λ s e inside is. entries_among g o (all_taken g o roots) s e (inside (all_taken g o roots) (taken_closed g o roots)) is;
  once = names_once g o (all_taken g o roots) (taken_once (adds g o) _ (begun g o roots).seen (begun g o roots).waiting (begun_queue g o roots)).0;
}
