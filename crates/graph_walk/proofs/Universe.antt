-- A list that holds all that a walk may come to.
use Rattle.std.proofs.Common.{◌≡◌, ℕ, suc, ◌+◌, ◌≤◌, List, [], ◌∷◌, ◌++◌, map as list_map, length, Bool, true, false, cond, Option, None, Some, refl, sym, ap, ◌∙◌, subst, inl, inr, ⊎_elim, ◌⊎◌, arith, length-append}
use Rattle.std.proofs.lemmas.List.Sums.{sum_by-cons}
use Rattle.std.specs.Prelude.{sum_by}
use Rattle.std.specs.Ordering.{eq_by_cmp}
use Rattle.std.specs.FinMap as finite
use Rattle.std.specs.FinMap.{find, get-entries, len-entries}
use Rattle.url.specs.Parts.{Parts}
use Rattle.spec_base.specs.Shown.{text_cmp}
use Rattle.spec_base.specs.Specifier.{specifier_text}
use Rattle.graph_dependencies.specs.Kinds.{include_types}
use Rattle.graph_core.specs.declared.graph.ModuleGraph.{ModuleGraph}
use Rattle.graph_dependencies.specs.declared.graph_import.GraphImport.{GraphImport}
use Rattle.module_slots.specs.declared.slot.Module.TheVariants.{Js, Json, Wasm, Npm, Node, External}
use Rattle.module_slots.specs.declared.slot.ModuleSlot.{ModuleSlot}
use Rattle.module_slots.specs.declared.slot.ModuleSlot.TheVariants.{Module as Stands, Err as Failed, Pending}
use Rattle.graph_walk.specs.Lists.{Text, Among, Within}
use Rattle.graph_walk.specs.Options.{How}
use Rattle.graph_walk.specs.Order.{Named, target_in, types_target, redirect_text, slot_of, redirect_of, imported, follows, walked, blank, FrontView, Waiting, is_seen, offered, queue, queued, early, late, types_of, types_at_slot, late_of, late_at_slot, option_list, is_passed_over, targets_of, followed_targets, targets_back, import_targets, left, slot_room, import_room, room, begun, walk_order}
use Rattle.graph_walk.specs.Room.{IsSound, IsReady}
use Rattle.graph_walk.proofs.Offers.{offered-none}
use Rattle.graph_walk.proofs.Steps.{Held, held_offered, held_room, among_left, among_right, among_either, distinct_push, unseen_new}

abbrev pub slot_adds : How → ModuleSlot → List Text
slot_adds o slot = types_at_slot o slot ++ late_at_slot o slot

unfoldable pub slots_add : How → List (Text × ModuleSlot) → List Text
slots_add o [] = []
slots_add o (e ∷ es) = slot_adds o e.1 ++ slots_add o es

abbrev pub targets_held : List (Text × Parts) → List Text
targets_held es = list_map (λ e. specifier_text e.1) es

abbrev pub universe : ModuleGraph → How → List Text → List Text
universe g o roots = roots ++ (import_targets o (imported g.imports) ++ (targets_held (finite.entries g.redirects) ++ slots_add o (finite.entries g.slots)))

-- ---- it holds what each specifier adds
slot_held : (o : How) (es : List (Text × ModuleSlot)) (q : Text) (slot : ModuleSlot) → find text_cmp q es ≡ Some slot → Within (slot_adds o slot) (slots_add o es)
unfolding slots_add
slot_held o [] q slot e x a = absurd (cc)
slot_held o (d ∷ es) q slot e x a =
    elim (eq_by_cmp text_cmp q d.0) as (λ b. cond b (Some d.1) (find text_cmp q es) ≡ Some slot → Among x (slot_adds o d.1 ++ slots_add o es)) [
      | true ↦ λ h. let same : d.1 ≡ slot = cc in among_left x (slot_adds o d.1) _ (subst (λ (s : ModuleSlot). Among x (slot_adds o s)) (sym same) a)
      | false ↦ λ h. among_right x (slot_adds o d.1) _ (slot_held o es q slot h x a)
    ] e

redirect_held : (es : List (Text × Parts)) (q : Text) (t : Parts) → find text_cmp q es ≡ Some t → Among (specifier_text t) (targets_held es)
redirect_held [] q t e = absurd (cc)
redirect_held (d ∷ es) q t e =
    elim (eq_by_cmp text_cmp q d.0) as (λ b. cond b (Some d.1) (find text_cmp q es) ≡ Some t → (specifier_text t ≡ specifier_text d.1) ⊎ Among (specifier_text t) (targets_held es)) [
      | true ↦ λ h. let same : d.1 ≡ t = cc in inl (ap specifier_text (sym same))
      | false ↦ λ h. inr (redirect_held es q t h)
    ] e

module _ (g : ModuleGraph) (o : How) (roots : List Text) where
  pub slots_in : (s : Text) (slot : ModuleSlot) → slot_of g s ≡ Some slot → Within (slot_adds o slot) (universe g o roots)
  slots_in s slot e x a =
      among_right x roots _ (among_right x (import_targets o (imported g.imports)) _ (among_right x (targets_held (finite.entries g.redirects)) _ (slot_held o (finite.entries g.slots) s slot (sym (get-entries g.slots s) ∙ e) x a)))

  pub redirects_in : (s : Text) (t : Parts) → redirect_of g s ≡ Some t → Among (specifier_text t) (universe g o roots)
  redirects_in s t e =
      among_right _ roots _ (among_right _ (import_targets o (imported g.imports)) _ (among_left _ (targets_held (finite.entries g.redirects)) _ (redirect_held (finite.entries g.redirects) s t (sym (get-entries g.redirects s) ∙ e))))

  early_cases : (s : Text) (slot : Option ModuleSlot) → slot_of g s ≡ slot → Within (types_of o slot) (universe g o roots)
  early_cases s None e x a = absurd a
  early_cases s (Some slot) e x a = slots_in s slot e x (among_left x (types_at_slot o slot) (late_at_slot o slot) a)

  pub early_held : (s : Text) → Within (early g o s) (universe g o roots)
  unfolding early
  early_held s x a = early_cases s (slot_of g s) refl x a

  redirect_cases : (s : Text) (to : Option Parts) → redirect_of g s ≡ to → Within (option_list (redirect_text to)) (universe g o roots)
  redirect_cases s None e x a = absurd a
  redirect_cases s (Some t) e x a = ⊎_elim (λ same. subst (λ z. Among z (universe g o roots)) (sym same) (redirects_in s t e)) absurd a

  late_cases : (s : Text) (slot : Option ModuleSlot) → slot_of g s ≡ slot → Within (late_of o slot (redirect_of g s)) (universe g o roots)
  late_cases s None e x a = redirect_cases s (redirect_of g s) refl x a
  late_cases s (Some slot) e x a = slots_in s slot e x (among_right x (types_at_slot o slot) (late_at_slot o slot) a)

  pub late_held : (s : Text) → Within (late g o s) (universe g o roots)
  unfolding late
  late_held s x a = late_cases s (slot_of g s) refl x a

-- ---- its length
option_short : (t : Option Text) → length (option_list t) ≤ 1
option_short None = omega arith
option_short (Some t) = omega arith

types_short : (b : Bool) (t : Option Text) → length (cond b (option_list t) []) ≤ 1
types_short true t = option_short t
types_short false t = omega arith

targets_short : (o : How) (d : Named) → length (targets_of o d) ≤ 2
targets_short o d = omega (arith, length-append (option_list (target_in d.1.maybe_code)) (cond (include_types o.kind) (option_list (target_in d.1.maybe_type)) []), option_short (target_in d.1.maybe_code), types_short (include_types o.kind) (target_in d.1.maybe_type))

followed_cases : (b : Bool) (xs : List Text) → length xs ≤ 2 → length (cond b xs []) ≤ 2
followed_cases true xs h = h
followed_cases false xs h = omega arith

back_short : (o : How) (ds : List Named) → length (targets_back o ds) ≤ length ds + length ds
unfolding targets_back
back_short o [] = omega arith
back_short o (d ∷ ds) = omega (arith, length-append (targets_back o ds) (followed_targets o d), back_short o ds, followed_cases (follows o d) (targets_of o d) (targets_short o d))

imports_short : (o : How) (ds : List Named) → length (import_targets o ds) ≤ length ds + length ds
unfolding import_targets
imports_short o [] = omega arith
imports_short o (d ∷ ds) = omega (arith, length-append (targets_of o d) (import_targets o ds), imports_short o ds, targets_short o d)

late_js_short : (b : Bool) (o : How) (ds : List Named) → length (cond b [] (targets_back o ds)) ≤ length ds + length ds
late_js_short true o ds = omega arith
late_js_short false o ds = back_short o ds

slot_short : (o : How) (slot : ModuleSlot) → length (slot_adds o slot) ≤ slot_room o slot
slot_short o (Stands (Js m)) = omega (arith, length-append (types_at_slot o (Stands (Js m))) (late_at_slot o (Stands (Js m))), types_short (include_types o.kind) (types_target m.maybe_types_dependency), late_js_short (is_passed_over o m) o (walked o m))
slot_short o (Stands (Json m)) = omega arith
slot_short o (Stands (Wasm m)) = back_short o m.dependencies
slot_short o (Stands (Npm m)) = omega arith
slot_short o (Stands (Node m)) = omega arith
slot_short o (Stands (External m)) = omega arith
slot_short o (Failed e) = omega arith
slot_short o (Pending is_asset) = omega arith

slots_short : (o : How) (es : List (Text × ModuleSlot)) → length (slots_add o es) ≤ sum_by (λ e. slot_room o e.1) es
unfolding slots_add
slots_short o [] = omega arith
slots_short o (e ∷ es) = omega (arith, length-append (slot_adds o e.1) (slots_add o es), slot_short o e.1, slots_short o es, sum_by-cons (λ (x : Text × ModuleSlot). slot_room o x.1) e es)

length_held : (es : List (Text × Parts)) → length (targets_held es) ≡ length es
length_held [] = refl
length_held (e ∷ es) = ap suc (length_held es)

imports_room : (es : List (Parts × GraphImport)) → length (imported es) + length (imported es) ≡ sum_by import_room es
imports_room [] = refl
imports_room (e ∷ es) = let h = imports_room es in let l = length-append e.1.dependencies (imported es) in let c = sum_by-cons import_room e es in omega arith

pub universe_short : (g : ModuleGraph) (o : How) (roots : List Text) → length (universe g o roots) ≤ room g o roots
universe_short g o roots =
    let imports = import_targets o (imported g.imports) in
    let redirects = targets_held (finite.entries g.redirects) in
    let slots = slots_add o (finite.entries g.slots) in
    omega (
      arith,
      length-append roots (imports ++ (redirects ++ slots)),
      length-append imports (redirects ++ slots),
      length-append redirects slots,
      imports_short o (imported g.imports),
      imports_room g.imports,
      slots_short o (finite.entries g.slots),
      length_held (finite.entries g.redirects),
      len-entries g.redirects,
    )

-- ---- the beginning
pub held_queue : (all : List Text) (f : Waiting) (x : Text) → Among x all → Held all f → Held all (queue f x)
held_queue all f x a h =
    elim (is_seen f.seen x) as (λ b. is_seen f.seen x ≡ b → Held all (cond b f (record { seen = f.seen ++ x ∷ []; waiting = f.waiting ++ x ∷ [] }))) [
      | true ↦ λ e. h
      | false ↦ λ e. record {
        seen_in = λ y b. ⊎_elim (h.seen_in y) (λ c. ⊎_elim (λ same. subst (λ z. Among z all) (sym same) a) absurd c) (among_either y f.seen (x ∷ []) b);
        waiting_in = λ y b. ⊎_elim (h.waiting_in y) (λ c. ⊎_elim (λ same. subst (λ z. Among z all) (sym same) a) absurd c) (among_either y f.waiting (x ∷ []) b);
        distinct = distinct_push f.seen x h.distinct (unseen_new f.seen x e);
      }
    ] refl

pub held_queued : (all : List Text) (f : Waiting) (xs : List Text) → Within xs all → Held all f → Held all (queued f xs)
unfolding queued
held_queued all f [] within h = h
held_queued all f (x ∷ xs) within h = held_queued all (queue f x) xs (λ y a. within y (inr a)) (held_queue all f x (within x (inl refl)) h)

module _ (g : ModuleGraph) (o : How) (roots : List Text) where
  pub roots_held : Held (universe g o roots) (queued blank roots)
  roots_held = held_queued (universe g o roots) blank roots (λ x a. among_left x roots _ a) record { seen_in = λ x a. absurd a; waiting_in = λ x a. absurd a; distinct = tt }

  pub begun_held : Held (universe g o roots) (begun g o roots)
  begun_held = held_offered (universe g o roots) (queued blank roots) (import_targets o (imported g.imports)) (λ x a. among_right x roots _ (among_left x (import_targets o (imported g.imports)) _ a)) roots_held

  pub roots_fit : length (queued blank roots).seen ≤ room g o roots
  roots_fit = omega (arith, held_room (universe g o roots) (queued blank roots) roots_held, universe_short g o roots)

  pub begun_fits : length (begun g o roots).seen ≤ room g o roots
  begun_fits = omega (arith, held_room (universe g o roots) (begun g o roots) begun_held, universe_short g o roots)

  pub begun_sound : IsSound g o (universe g o roots) (record { front = begun g o roots; bound = room g o roots })
  begun_sound = record {
    early_in = λ s a. early_held g o roots s;
    late_in = λ s a. late_held g o roots s;
    seen_in = begun_held.seen_in;
    waiting_in = begun_held.waiting_in;
    distinct = begun_held.distinct;
    room = universe_short g o roots;
  }

  pub begun_ready : IsReady g o None (record { front = begun g o roots; bound = room g o roots })
  begun_ready = (universe g o roots, begun_sound, λ x a. absurd a)

-- ---- the steps by which a walk is made
module _ (g : ModuleGraph) (o : How) (roots : List Text) (n : ℕ) (f : FrontView) (is_room : n ≡ room g o roots) (made : f ≡ record { front = blank; bound = n }) where
  made_room : f ≡ record { front = blank; bound = room g o roots }
  made_room = made ∙ ap (λ (b : ℕ). record { front = blank; bound = b }) is_room

  pub roots_step : length (queued f.front roots).seen ≤ f.bound
  roots_step = subst (λ (v : FrontView). length (queued v.front roots).seen ≤ v.bound) (sym made_room) (roots_fit g o roots)

  module _ (q : FrontView) (queued_is : q ≡ record { front = queued f.front roots; bound = f.bound }) where
    queued_room : q ≡ record { front = queued blank roots; bound = room g o roots }
    queued_room = queued_is ∙ ap (λ (v : FrontView). record { front = queued v.front roots; bound = v.bound }) made_room

    pub imports_step : length (offered q.front (import_targets o (imported g.imports))).seen ≤ q.bound
    imports_step =
        (subst (λ (v : FrontView). length (offered v.front (import_targets o (imported g.imports))).seen ≤ v.bound) (sym queued_room) (begun_fits g o roots))

    module _ (k : FrontView) (offered_is : k ≡ record { front = offered q.front (import_targets o (imported g.imports)); bound = q.bound }) where
      pub begun_is : k ≡ record { front = begun g o roots; bound = room g o roots }
      begun_is =
          offered_is ∙ ap (λ (v : FrontView). record { front = offered v.front (import_targets o (imported g.imports)); bound = v.bound }) queued_room

      pub made_ready : IsReady g o None k
      made_ready = subst (λ (v : FrontView). IsReady g o None v) (sym begun_is) (begun_ready g o roots)

      pub made_order : left k.bound g o (offered k.front []) ≡ walk_order g o roots
      made_order = ap (left k.bound g o) (offered-none k.front) ∙ ap (λ (v : FrontView). left v.bound g o v.front) begun_is
