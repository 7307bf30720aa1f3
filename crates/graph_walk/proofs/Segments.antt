-- A graph of the entries of a walk has what the walk gives, and no more.
use Rattle.std.proofs.Common.{true≢false, ◌≡◌, ◌≢◌, List, [], ◌∷◌, Bool, true, false, cond, Option, None, Some, refl, sym, ap, ◌∙◌, subst, inl, inr, ⊎_elim, ◌⊎◌}
use Rattle.std.specs.Prelude.{bytes_eq}
use Rattle.std.specs.Cmp.Lexicographic.{bytes_decides}
use Rattle.std.specs.FinMap as finite
use Rattle.std.specs.FinMap.{get-empty}
use Rattle.url.specs.Parts.{Parts}
use Rattle.spec_base.specs.Shown.{text_cmp}
use Rattle.graph_core.specs.declared.graph.ModuleGraph.{ModuleGraph}
use Rattle.module_slots.specs.declared.slot.JsModule.{JsModule}
use Rattle.module_slots.specs.declared.slot.Module.TheVariants.{Js, Json, Wasm, Npm, Node, External}
use Rattle.module_slots.specs.declared.slot.ModuleSlot.{ModuleSlot}
use Rattle.module_slots.specs.declared.slot.ModuleSlot.TheVariants.{Module as Stands, Err as Failed, Pending}
use Rattle.graph_walk.specs.Lists.{Text, Among}
use Rattle.graph_walk.specs.Options.{How}
use Rattle.graph_walk.specs.Order.{slot_of, redirect_of, texts, Entry, is_passed_over, entry_at, entry_of, entry_at_redirect, walk_order}
use Rattle.module_slots.specs.declared.slot.Module.{Module}
use Rattle.graph_dependencies.specs.declared.graph_kind.GraphKind.{GraphKind}
use Rattle.graph_walk.specs.Order.Entry.{OfModule, OfError, Redirected}
use Rattle.graph_walk.specs.Closure.{Closure}
use Rattle.graph_walk.specs.Segment.{put_entry, put_entries, segment_start, segment_how, walked_part, IsSegment}
use Rattle.graph_core.proofs.At.{put_same, put_other}
use Rattle.graph_walk.proofs.Closed.{gives_closure}

put_entries-none : (g : ModuleGraph) → put_entries g [] ≡ g
unfolding put_entries
put_entries-none g = refl

text_cases : (s q : Text) → (s ≡ q) ⊎ (s ≢ q)
text_cases s q = by (bytes_eq s q) refl
  where
    by : (b : Bool) → bytes_eq s q ≡ b → (s ≡ q) ⊎ (s ≢ q)
    by true e = inl ((bytes_decides s q).0 e)
    by false e = inr (λ same. true≢false (sym ((bytes_decides s q).1 same) ∙ e))

-- ---- what an entry says of what stands there
abbrev At : ModuleGraph → Text → Entry → Type 0
At g s (OfModule m) = slot_of g s ≡ Some (Stands m)
At g s (OfError e) = slot_of g s ≡ Some (Failed e)
At g s (Redirected t) = (slot_of g s ≡ None) × (redirect_of g s ≡ Some t)

at_js : (g : ModuleGraph) (s : Text) (m : JsModule) (e : Entry) (b : Bool) → slot_of g s ≡ Some (Stands (Js m)) → cond b None (Some (OfModule (Js m))) ≡ Some e → At g s e
at_js g s m e true at is = absurd (cc)
at_js g s m (OfModule n) false at is = let same : Js m ≡ n = cc in at ∙ ap (λ z. Some (Stands z)) same
at_js g s m (OfError x) false at is = absurd (cc)
at_js g s m (Redirected t) false at is = absurd (cc)

at_module : (g : ModuleGraph) (s : Text) (m : Module) (e : Entry) → slot_of g s ≡ Some (Stands m) → Some (OfModule m) ≡ Some e → At g s e
at_module g s m (OfModule n) at is = let same : m ≡ n = cc in at ∙ ap (λ z. Some (Stands z)) same
at_module g s m (OfError x) at is = absurd (cc)
at_module g s m (Redirected t) at is = absurd (cc)

at_redirect : (g : ModuleGraph) (s : Text) (r : Option Parts) (e : Entry) → slot_of g s ≡ None → redirect_of g s ≡ r → entry_at_redirect r ≡ Some e → At g s e
at_redirect g s None e at r is = absurd (cc)
at_redirect g s (Some t) (Redirected u) at r is = let same : t ≡ u = cc in (at, r ∙ ap Some same)
at_redirect g s (Some t) (OfModule m) at r is = absurd (cc)
at_redirect g s (Some t) (OfError x) at r is = absurd (cc)

at_cases : (g : ModuleGraph) (o : How) (s : Text) (slot : Option ModuleSlot) (e : Entry) → slot_of g s ≡ slot → entry_of o slot (redirect_of g s) ≡ Some e → At g s e
at_cases g o s None e at is = at_redirect g s (redirect_of g s) e at refl is
at_cases g o s (Some (Stands (Js m))) e at is = at_js g s m e (is_passed_over o m) at is
at_cases g o s (Some (Stands (Json m))) e at is = at_module g s (Json m) e at is
at_cases g o s (Some (Stands (Wasm m))) e at is = at_module g s (Wasm m) e at is
at_cases g o s (Some (Stands (Npm m))) e at is = at_module g s (Npm m) e at is
at_cases g o s (Some (Stands (Node m))) e at is = at_module g s (Node m) e at is
at_cases g o s (Some (Stands (External m))) e at is = at_module g s (External m) e at is
at_cases g o s (Some (Failed x)) (OfModule m) at is = absurd (cc)
at_cases g o s (Some (Failed x)) (OfError y) at is = let same : x ≡ y = cc in at ∙ ap (λ z. Some (Failed z)) same
at_cases g o s (Some (Failed x)) (Redirected t) at is = absurd (cc)
at_cases g o s (Some (Pending is_asset)) e at is = absurd (cc)

stands : (g : ModuleGraph) (o : How) (s : Text) (e : Entry) → entry_at g o s ≡ Some e → At g s e
unfolding entry_at
stands g o s e is = at_cases g o s (slot_of g s) e refl is

-- ---- what an entry put into a graph
abbrev pub HasEntry : ModuleGraph → Text → Entry → Type 0
HasEntry g s (OfModule m) = finite.get g.slots s ≡ Some (Stands m)
HasEntry g s (OfError e) = finite.get g.slots s ≡ Some (Failed e)
HasEntry g s (Redirected t) = finite.get g.redirects s ≡ Some t

kept_at : {X : Type 0} (m base : finite.FinMap text_cmp X) (s q : Text) (v w : X) → finite.get m s ≡ Some w → finite.get base s ≡ Some w → finite.get base q ≡ Some v → finite.get (finite.insert m q v) s ≡ Some w
kept_at m base s q v w h b c =
    ⊎_elim
    (λ same. let at = put_same m q v in let e = ap (finite.get base) same in let k = ap (finite.get (finite.insert m q v)) same in k ∙ at ∙ sym c ∙ sym e ∙ b)
    (λ ne. put_other m q v s ne ∙ h)
    (text_cases s q)

module _ (g0 : ModuleGraph) where
  has_put : (acc : ModuleGraph) (s : Text) (e : Entry) → HasEntry (put_entry acc s e) s e
  has_put acc s (OfModule m) = put_same acc.slots s (Stands m)
  has_put acc s (OfError x) = put_same acc.slots s (Failed x)
  has_put acc s (Redirected t) = put_same acc.redirects s t

  has_kept : (acc : ModuleGraph) (s q : Text) (e f : Entry) → HasEntry acc s e → At g0 s e → At g0 q f → HasEntry (put_entry acc q f) s e
  has_kept acc s q (OfModule w) (OfModule v) h a b = kept_at acc.slots g0.slots s q (Stands v) (Stands w) h a b
  has_kept acc s q (OfModule w) (OfError y) h a b = kept_at acc.slots g0.slots s q (Failed y) (Stands w) h a b
  has_kept acc s q (OfModule w) (Redirected t) h a b = h
  has_kept acc s q (OfError x) (OfModule v) h a b = kept_at acc.slots g0.slots s q (Stands v) (Failed x) h a b
  has_kept acc s q (OfError x) (OfError y) h a b = kept_at acc.slots g0.slots s q (Failed y) (Failed x) h a b
  has_kept acc s q (OfError x) (Redirected t) h a b = h
  has_kept acc s q (Redirected u) (OfModule v) h a b = h
  has_kept acc s q (Redirected u) (OfError y) h a b = h
  has_kept acc s q (Redirected u) (Redirected t) h a b = kept_at acc.redirects g0.redirects s q t u h a.1 b.1

  abbrev AllStand : List (Text × Entry) → Type 0
  AllStand es = (p : Text × Entry) → Among p es → At g0 p.0 p.1

  has_stay : (es : List (Text × Entry)) (acc : ModuleGraph) (s : Text) (e : Entry) → AllStand es → HasEntry acc s e → At g0 s e → HasEntry (put_entries acc es) s e
  unfolding put_entries
  has_stay [] acc s e all h a = h
  has_stay (p ∷ es) acc s e all h a = has_stay es (put_entry acc p.0 p.1) s e (λ q b. all q (inr b)) (has_kept acc s p.0 e p.1 h a (all p (inl refl))) a

  has_all : (es : List (Text × Entry)) (acc : ModuleGraph) (p : Text × Entry) → AllStand es → Among p es → HasEntry (put_entries acc es) p.0 p.1
  unfolding put_entries
  has_all [] acc p all a = absurd a
  has_all (x ∷ es) acc p all (inl same) =
      subst (λ (q : Text × Entry). HasEntry (put_entries (put_entry acc x.0 x.1) es) q.0 q.1) (sym same)
      (has_stay es (put_entry acc x.0 x.1) x.0 x.1 (λ q b. all q (inr b)) (has_put acc x.0 x.1) (all x (inl refl)))
  has_all (x ∷ es) acc p all (inr a) = has_all es (put_entry acc x.0 x.1) p (λ q b. all q (inr b)) a

  module _ (o : How) (roots : List Text) where
    record Good (acc : ModuleGraph) : Type 0 where
      good_slots : (s : Text) (slot : ModuleSlot) → finite.get acc.slots s ≡ Some slot → Closure g0 o roots s × (finite.get g0.slots s ≡ Some slot)
      good_redirects : (s : Text) (t : Parts) → finite.get acc.redirects s ≡ Some t → Closure g0 o roots s × (finite.get g0.slots s ≡ None) × (finite.get g0.redirects s ≡ Some t)

    good_slot : (acc : ModuleGraph) (s : Text) (slot : ModuleSlot) → Closure g0 o roots s → finite.get g0.slots s ≡ Some slot → Good acc → Good (record acc { slots = finite.insert acc.slots s slot })
    good_slot acc s slot inside at h = record {
      good_slots = λ q v e. ⊎_elim
          (λ same. let put : finite.get (finite.insert acc.slots s slot) s ≡ Some slot = put_same acc.slots s slot in
          let there = ap (finite.get (finite.insert acc.slots s slot)) (sym same) in
          let base = ap (finite.get g0.slots) same in
          (subst (Closure g0 o roots) (sym same) inside, base ∙ at ∙ sym put ∙ there ∙ e))
          (λ ne. h.good_slots q v (sym (put_other acc.slots s slot q ne) ∙ e))
          (text_cases q s);
      good_redirects = h.good_redirects;
    }

    good_redirect : (acc : ModuleGraph) (s : Text) (t : Parts) → Closure g0 o roots s → finite.get g0.slots s ≡ None → finite.get g0.redirects s ≡ Some t → Good acc → Good (record acc { redirects = finite.insert acc.redirects s t })
    good_redirect acc s t inside none at h = record {
      good_slots = h.good_slots;
      good_redirects = λ q v e. ⊎_elim
          (λ same. let put : finite.get (finite.insert acc.redirects s t) s ≡ Some t = put_same acc.redirects s t in
          let there = ap (finite.get (finite.insert acc.redirects s t)) (sym same) in
          (subst (Closure g0 o roots) (sym same) inside, ap (finite.get g0.slots) same ∙ none, ap (finite.get g0.redirects) same ∙ at ∙ sym put ∙ there ∙ e))
          (λ ne. h.good_redirects q v (sym (put_other acc.redirects s t q ne) ∙ e))
          (text_cases q s);
    }

    good_put : (acc : ModuleGraph) (s : Text) (e : Entry) → Closure g0 o roots s → At g0 s e → Good acc → Good (put_entry acc s e)
    good_put acc s (OfModule m) inside at h = good_slot acc s (Stands m) inside at h
    good_put acc s (OfError x) inside at h = good_slot acc s (Failed x) inside at h
    good_put acc s (Redirected t) inside at h = good_redirect acc s t inside at.0 at.1 h

    good_all : (es : List (Text × Entry)) (acc : ModuleGraph) → AllStand es → ((p : Text × Entry) → Among p es → Closure g0 o roots p.0) → Good acc → Good (put_entries acc es)
    unfolding put_entries
    good_all [] acc all inside h = h
    good_all (p ∷ es) acc all inside h = good_all es (put_entry acc p.0 p.1) (λ q b. all q (inr b)) (λ q b. inside q (inr b)) (good_put acc p.0 p.1 (inside p (inl refl)) (all p (inl refl)) h)

    by_entry : (new : ModuleGraph) (s : Text) (e : Entry) (slot : ModuleSlot) → HasEntry new s e → At g0 s e → finite.get g0.slots s ≡ Some slot → finite.get new.slots s ≡ Some slot
    by_entry new s (OfModule v) slot h a at = h ∙ sym a ∙ at
    by_entry new s (OfError x) slot h a at = h ∙ sym a ∙ at
    by_entry new s (Redirected t) slot h a at = absurd (not_both (sym a.0 ∙ at))
      where
        not_both : ◌≡◌ {A = Option ModuleSlot} None (Some slot) → ⊥
        not_both e = cc

    redirect_entry : (s : Text) (t : Parts) → finite.get g0.slots s ≡ None → finite.get g0.redirects s ≡ Some t → entry_at g0 o s ≡ Some (Redirected t)
    unfolding entry_at
    redirect_entry s t none at = ap (λ v. entry_of o v (redirect_of g0 s)) none ∙ ap entry_at_redirect at

    pub is_segment : (start : ModuleGraph) → start.slots ≡ finite.empty → start.redirects ≡ finite.empty → IsSegment g0 o roots (put_entries start (walk_order g0 o roots))
    is_segment start no_slots no_redirects =
        let gives = gives_closure g0 o roots in
        let all : AllStand (walk_order g0 o roots) = λ p a. stands g0 o p.0 p.1 (gives.within p.0 p.1 a).1 in
        let blank : Good start = record {
          good_slots = λ s slot e. absurd (nothing (sym (ap (λ (m : finite.FinMap text_cmp ModuleSlot). finite.get m s) no_slots ∙ get-empty text_cmp s) ∙ e));
          good_redirects = λ s t e. absurd (nothing (sym (ap (λ (m : finite.FinMap text_cmp Parts). finite.get m s) no_redirects ∙ get-empty text_cmp s) ∙ e));
        } in
        let good = good_all (walk_order g0 o roots) start all (λ p a. (gives.within p.0 p.1 a).0) blank in
        record {
          slots = good.good_slots;
          redirects = good.good_redirects;
          kept_slots = λ s e slot inside is at. by_entry (put_entries start (walk_order g0 o roots)) s e slot (has_all (walk_order g0 o roots) start (s, e) all (gives.all s e inside is)) (stands g0 o s e is) at;
          kept_redirects = λ s t inside none at. has_all (walk_order g0 o roots) start (s, Redirected t) all (gives.all s (Redirected t) inside (redirect_entry s t none at));
        }
      where
        nothing : {X : Type 0} {x : X} → ◌≡◌ {A = Option X} None (Some x) → ⊥
        nothing e = cc

-- the steps by which a segment is made
abbrev kind_how : GraphKind → How
kind_how k = record { kind = k; follow_dynamic = true; prefers_fast_check = false; checks = λ _. true }

pub segment_put : (g : ModuleGraph) (roots : List Parts) (new start : ModuleGraph) (es : List (Text × Entry)) (kind : GraphKind) → new ≡ put_entries start es → es ≡ walk_order g (kind_how kind) (texts roots) → kind ≡ g.kind → start ≡ segment_start g roots → new ≡ walked_part g roots
segment_put g roots new start es kind put gives is begins =
    put ∙ ap (put_entries start) (gives ∙ ap (λ k. walk_order g (kind_how k) (texts roots)) is) ∙ ap (λ s. put_entries s (walk_order g (segment_how g) (texts roots))) begins
