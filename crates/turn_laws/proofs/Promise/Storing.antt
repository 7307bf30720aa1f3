-- That nothing is left out when what an answer gives is stored.
use Rattle.std.proofs.Common.{◌&&◌, ◌≡◌, ◌≢◌, ℕ, List, [], ◌∷◌, Bool, true, false, ◌||◌, if◌then◌else◌, Option, None, Some, is_some, refl, sym, ap, ◌∙◌, subst, inl, inr, ⊎_elim, ◌⊎◌}
use Rattle.std.proofs.lemmas.Bool.{true≢false}
use Rattle.std.specs.FinMap as finite
use Rattle.url.specs.Parts.{Parts}
use Rattle.spec_base.specs.Specifier.{same_specifier, specifier_text}
use Rattle.graph_core.specs.declared.graph.ModuleGraph.{ModuleGraph}
use Rattle.module_slots.specs.declared.load.Load.{Load}
use Rattle.module_slots.specs.declared.load.LoadContext.{LoadContext}
use Rattle.module_slots.specs.declared.slot.Module.{Module}
use Rattle.module_slots.specs.declared.slot.ModuleSlot.{ModuleSlot}
use Rattle.module_slots.specs.declared.slot.ModuleSlot.TheVariants.{Module as Stands, Err as Failed, Pending}
use Rattle.graph_core.specs.Edges.{loads_of}
use Rattle.graph_core.specs.Graph.{slot_at, redirect_at, with_slot, with_redirect, without_slot}
use Rattle.module_slots.specs.Slots.{is_asset_slot, is_pending, is_pending_at}
use Rattle.graph_turns.specs.declared.state.State.{State}
use Rattle.graph_turns.specs.Machine.Redirects.{is_settled, redirected_end, leads_back, moved, renamed}
use Rattle.semver_npm.specs.declared.package.PackageNv.{PackageNv}
use Rattle.graph_turns.specs.Promise.Input.{EnteredGraph, Start}
use Rattle.graph_core.proofs.At.{cases_text, put_same, put_other, cut_other, text_of_same}
use Rattle.graph_turns.proofs.Leading.Ends.{stands}
use Rattle.turn_laws.proofs.Leading.Paths.{End, Lead, end_apart, lead_as}
use Rattle.graph_turns.proofs.Leading.Ways.{IsElsewhere, put_at, put_elsewhere, cut_at, redirect_to, slot_put}
use Rattle.graph_turns.proofs.Entering.Loads.{HasLoad, edges_here}
use Rattle.turn_laws.proofs.Entering.Placed.{Placed, how_placed, no_edges, not_pending, settled_stands, settled_still}
use Rattle.turn_laws.proofs.Entering.Placed.Placed.{there, stood}
use Rattle.turn_laws.proofs.Promise.Moving.{IsMoved, is_moved, end_beyond, end_named, end_through, lead_moved, lead_named, lead_through, moved_elsewhere, moved_ends}
use Rattle.turn_laws.proofs.Promise.Sound.{ends_now, HasAwaited, IsLeft, IsWanted, Sound, nothing, none_due, asset_at, sound_as, sound_beside, sound_enter_beside, lead_put, end_put, stands_put, shut_put}
use Rattle.graph_turns.specs.Machine.Entering.{hop, redirected, edges_from, placed, placed_at}

-- the first open load was taken; what its answer gives isn't stored yet
pub record Taken (o : EnteredGraph) (early : Type 0) (a : List ℕ) (s : State) : Type 0 where
  pub sound : Sound o early (λ k. k ≡ a) nothing [] s
  pub here : stands s.graph a ≡ true
  pub others : HasLoad a s.loads → ⊥

pub taken : (o : EnteredGraph) (early : Type 0) (rest : State) (load : Load) → Sound o early nothing nothing [] (record rest { loads = load ∷ rest.loads }) → Taken o early (specifier_text load.specifier) rest
taken o early rest load sound = record {
  sound = record {
    given = sound.given;
    ends = sound.ends;
    asked = λ k b p. ⊎_elim (λ a. inl (⊎_elim (λ n. absurd n) (λ h. h) a)) inr (sound.asked k b p);
    held = λ k a. sound.held k (inr a);
    shut = λ k a. sound.shut k (inr a);
    once = sound.once.1;
    keyed = sound.keyed;
    wanted = sound.wanted;
    plain = λ k a. sound.plain k (inr a);
    packages = sound.packages;
    entering = sound.entering;
  };
  here = sound.held (specifier_text load.specifier) (inl refl);
  others = sound.once.0;
}

-- ---- how the asked specifier is redirected

-- no slot there is pending
abbrev pub IsUnopened : ModuleGraph → List ℕ → Type 0
IsUnopened g k = (asset : Bool) → finite.get g.slots k ≡ Some (Pending asset) → ⊥

-- its slot was pending and goes, or another slot stands there and an earlier redirect stays, or the new one comes
pub data Moved (g : ModuleGraph) (a : Parts) (n : Parts) : ModuleGraph → Type 0 where
  cut : {asset : Bool} → finite.get g.slots (specifier_text a) ≡ Some (Pending asset) → Moved g a n (redirect_to (cut_at g (specifier_text a)) (specifier_text a) n)
  stays : IsUnopened g (specifier_text a) → Moved g a n g
  put : IsUnopened g (specifier_text a) → Moved g a n (redirect_to g (specifier_text a) n)

pub how_moved : (g : ModuleGraph) (a n : Parts) → Moved g a n (moved g a n)
how_moved g a n = by_slot (finite.get g.slots (specifier_text a)) refl
  where
    -- the graph by what stands there
    by_found : Option ModuleSlot → Option Parts → ModuleGraph
    by_found o r = if is_settled o && is_some r then g else with_redirect (if is_pending_at o then without_slot g a else g) a n

    by_redirect : (o : Option ModuleSlot) → finite.get g.slots (specifier_text a) ≡ o → ((r : Option Parts) → by_found o r ≡ (if is_some r then g else with_redirect g a n)) → IsUnopened g (specifier_text a) → (b : Bool) → is_some (redirect_at g a) ≡ b → Moved g a n (moved g a n)
    by_redirect o e found stands_still true r = subst (Moved g a n) (sym (ap (λ p. by_found p (redirect_at g a)) e ∙ found (redirect_at g a) ∙ ap (λ b. if b then g else with_redirect g a n) r)) (stays stands_still)
    by_redirect o e found stands_still false r = subst (Moved g a n) (sym (ap (λ p. by_found p (redirect_at g a)) e ∙ found (redirect_at g a) ∙ ap (λ b. if b then g else with_redirect g a n) r)) (put stands_still)

    by_slot : (o : Option ModuleSlot) → finite.get g.slots (specifier_text a) ≡ o → Moved g a n (moved g a n)
    by_slot None e = subst (Moved g a n) (sym (ap (λ p. by_found p (redirect_at g a)) e)) (put (λ b p. let both = sym e ∙ p in cc))
    by_slot (Some (Pending asset)) e = subst (Moved g a n) (sym (ap (λ p. by_found p (redirect_at g a)) e)) (cut e)
    by_slot (Some (Stands m)) e = by_redirect (Some (Stands m)) e (λ r. refl) (λ b p. let both : Some (Stands m) ≡ Some (Pending b) = sym e ∙ p in let inner : Stands m ≡ Pending b = cc in cc) (is_some (redirect_at g a)) refl
    by_slot (Some (Failed x)) e = by_redirect (Some (Failed x)) e (λ r. refl) (λ b p. let both : Some (Failed x) ≡ Some (Pending b) = sym e ∙ p in let inner : Failed x ≡ Pending b = cc in cc) (is_some (redirect_at g a)) refl

-- another text keeps its slot
pub slots_moved : (g : ModuleGraph) (a n : Parts) (u : ModuleGraph) → Moved g a n u → (k : List ℕ) → k ≢ specifier_text a → finite.get u.slots k ≡ finite.get g.slots k
slots_moved g a n u (cut pending) k ne = cut_other g.slots (specifier_text a) k ne
slots_moved g a n u (stays still) k ne = refl
slots_moved g a n u (put still) k ne = refl

-- the edges of a slot that a build in a state follows
abbrev pub edges_in : State → ModuleSlot → LoadContext → List Load
edges_in s v c = edges_from s.graph.kind s.flags.skip_dynamic_deps v c

module _ (o : EnteredGraph) (early : Type 0) where
  -- a pending slot that is excused is none
  pub settle : (excused loose : List ℕ → Type 0) (due : List Load) (s : State) → ((k : List ℕ) (asset : Bool) → finite.get s.graph.slots k ≡ Some (Pending asset) → excused k → ⊥) → Sound o early excused loose due s → Sound o early nothing loose due s
  settle excused loose due s none sound = record {
    given = sound.given;
    ends = sound.ends;
    asked = λ k b p. ⊎_elim (λ a. inl (⊎_elim (λ x. absurd (none k b p x)) inr a)) inr (sound.asked k b p);
    held = sound.held;
    shut = sound.shut;
    once = sound.once;
    keyed = sound.keyed;
    wanted = sound.wanted;
    plain = sound.plain;
    packages = sound.packages;
    entering = sound.entering;
  }

  -- a pending slot may be excused
  pub excuse : (excused loose : List ℕ → Type 0) (due : List Load) (s : State) → Sound o early nothing loose due s → Sound o early excused loose due s
  excuse excused loose due s sound = record {
    given = sound.given;
    ends = sound.ends;
    asked = λ k b p. ⊎_elim (λ a. inl (⊎_elim (λ n. absurd n) inr a)) inr (sound.asked k b p);
    held = sound.held;
    shut = sound.shut;
    once = sound.once;
    keyed = sound.keyed;
    wanted = sound.wanted;
    plain = sound.plain;
    packages = sound.packages;
    entering = sound.entering;
  }

  -- where nothing was due, edges may be
  left_due : (s : State) (due : List Load) (e : List ℕ) → IsLeft [] s e ⊎ (HasAwaited s e ⊎ nothing e) → IsLeft due s e ⊎ (HasAwaited s e ⊎ nothing e)
  left_due s due e l = ⊎_elim (λ a. inl (none_due s e due a)) inr l

  -- a final slot at some text
  pub sound_put : (excused : List ℕ → Type 0) (k : List ℕ) (s : State) (v : ModuleSlot) (c : LoadContext) → Sound o early excused nothing [] s → is_pending v ≡ false → (HasLoad k s.loads → is_asset_slot v ≡ false) → Sound o early (λ q. excused q × (q ≢ k)) nothing (edges_in s v c) (record s { graph = put_at s.graph k v })
  sound_put excused k s v c sound final no_asset = record {
    given = sound.given;
    ends = λ x. ⊎_elim (λ e. inl (end_put s.graph k v x e))
        (λ m. inr (m.0, lead_put s.graph k v (λ e. IsLeft [] s e ⊎ (HasAwaited s e ⊎ nothing e)) (λ e. IsLeft (edges_in s v c) s e ⊎ (HasAwaited s e ⊎ nothing e)) x (λ e ne l. left_due s (edges_in s v c) e l) m.1))
        (sound.ends x);
    asked = λ q b p. let there = elsewhere q b p in ⊎_elim (λ a. inl (⊎_elim (λ x. inl (x, there.0)) inr a)) inr (sound.asked q b there.1);
    held = λ q h. stands_put s.graph k v q (sound.held q h);
    shut = λ q h. shut_put s.graph k v q (λ same. no_asset (subst (λ z. HasLoad z s.loads) same h)) (sound.shut q h);
    once = sound.once;
    keyed = sound.keyed;
    wanted = λ t w. ⊎_elim (λ old. ⊎_elim (λ lead. inl (lead_put s.graph k v (λ e. HasAwaited s e ⊎ nothing e) (λ e. HasAwaited s e ⊎ nothing e) t (λ e ne l. l) lead)) (λ n. inr (none_due s t (edges_in s v c) n)) (sound.wanted t old)) (λ d. inr (inl d)) (now_wanted t w);
    plain = sound.plain;
    packages = sound.packages;
    entering = sound.entering;
  }
    where
      elsewhere : (q : List ℕ) (b : Bool) → finite.get (finite.insert s.graph.slots k v) q ≡ Some (Pending b) → (q ≢ k) × (finite.get s.graph.slots q ≡ Some (Pending b))
      elsewhere q b p =
          let ne : q ≢ k = λ same. let at = subst (λ z. finite.get (finite.insert s.graph.slots k v) z ≡ Some (Pending b)) same p in let there = put_same s.graph.slots k v in let one : v ≡ Pending b = cc in not_pending v b final one in
          (ne, sym (put_other s.graph.slots k v q ne) ∙ p)

      now_wanted : (t : List ℕ) → IsWanted o (record s { graph = put_at s.graph k v }) t → IsWanted o s t ⊎ HasLoad t (edges_in s v c)
      now_wanted t (inl r) = inl (inl r)
      now_wanted t (inr w) = ⊎_elim
          (λ same. inr (
          let at = subst (λ z. finite.get (finite.insert s.graph.slots k v) z ≡ Some (Stands w.1)) same w.3 in
          let there = put_same s.graph.slots k v in
          let one : v ≡ Stands w.1 = cc in
          edges_here t s.graph.kind s.flags.skip_dynamic_deps v w.1 w.2 c one w.5))
          (λ ne. inl (inr (w.0, w.1, w.2, sym (put_other s.graph.slots k v w.0 ne) ∙ w.3, w.4, w.5)))
          (cases_text w.0 k)

  -- ---- where a specifier is redirected

  module _ (loose : List ℕ → Type 0) (due : List Load) (s : State) (a n : Parts) (sound : Sound o early (λ k. k ≡ specifier_text a) (λ e. (e ≡ specifier_text a) ⊎ loose e) due s) (others : HasLoad (specifier_text a) s.loads → ⊥) (u : ModuleGraph) (is : IsMoved s.graph u a n) where
    apart : (k : List ℕ) → HasLoad k s.loads → k ≢ specifier_text a
    apart k h same = others (subst (λ z. HasLoad z s.loads) same h)

    slot_before : (q : List ℕ) (v : ModuleSlot) → finite.get u.slots q ≡ Some v → finite.get s.graph.slots q ≡ Some v
    slot_before q v p = ⊎_elim
        (λ same. subst (λ z. finite.get s.graph.slots z ≡ Some v) (sym same) (is.slot_was v (subst (λ z. finite.get u.slots z ≡ Some v) same p)))
        (λ ne. sym (is.slots q ne) ∙ p)
        (cases_text q (specifier_text a))

    asked_moved : (k : List ℕ) (b : Bool) → finite.get u.slots k ≡ Some (Pending b) → (nothing k ⊎ HasLoad k s.loads) ⊎ (finite.get o.graph.slots k ≡ Some (Pending b))
    asked_moved k b p = ⊎_elim
        (λ e. inl (⊎_elim (λ same. absurd (is.none_pending b (subst (λ z. finite.get u.slots z ≡ Some (Pending b)) same p))) inr e))
        inr
        (sound.asked k b (slot_before k (Pending b) p))

    held_moved : (k : List ℕ) → HasLoad k s.loads → stands u k ≡ true
    held_moved k h = ap is_some (is.slots k (apart k h)) ∙ sound.held k h

    shut_moved : (k : List ℕ) → HasLoad k s.loads → asset_at (finite.get u.slots k) ≡ false
    shut_moved k h = ap asset_at (is.slots k (apart k h)) ∙ sound.shut k h

    -- by the kind that the graph had
    by_kind : (t : List ℕ) (m : Module) (c : LoadContext) → HasLoad t (loads_of u.kind s.flags.skip_dynamic_deps m c) → HasLoad t (loads_of s.graph.kind s.flags.skip_dynamic_deps m c)
    by_kind t m c h = subst (λ (b : Start). HasLoad t (loads_of b.kind s.flags.skip_dynamic_deps m c)) is.starts_are h

    was_wanted : (t : List ℕ) → IsWanted o (record s { graph = u }) t → IsWanted o s t
    was_wanted t (inl r) = inl r
    was_wanted t (inr w) = inr (w.0, w.1, w.2, slot_before w.0 (Stands w.1) w.3, w.4, by_kind t w.1 w.2 w.5)

    -- what was excused there isn't any more
    kept : (e : List ℕ) (more : List ℕ → Type 0) → e ≢ specifier_text a → HasAwaited s e ⊎ ((e ≡ specifier_text a) ⊎ loose e) → HasAwaited s e ⊎ (more e ⊎ loose e)
    kept e more ne m = ⊎_elim inl (λ l. inr (⊎_elim (λ same. absurd (ne same)) inr l)) m

    -- a redirect that goes on; its end is loose until it enters
    pub sound_moved : leads_back s.graph a n ≡ false → Sound o early nothing (λ e. (e ≡ specifier_text (redirected_end u n)) ⊎ loose e) due (record s { graph = u })
    sound_moved back = record {
      given = is.starts_are ∙ sound.given;
      ends = λ x. by_name x (sound.ends (specifier_text n));
      asked = asked_moved;
      held = held_moved;
      shut = shut_moved;
      once = sound.once;
      keyed = sound.keyed;
      wanted = λ t w. ⊎_elim
          (λ lead. inl (lead_moved s.graph u a n is (λ e. HasAwaited s e ⊎ ((e ≡ specifier_text a) ⊎ loose e)) (λ e. HasAwaited s e ⊎ ((e ≡ specifier_text (redirected_end u n)) ⊎ loose e)) (λ e ne m. kept e (λ x. x ≡ specifier_text (redirected_end u n)) ne m) (inr (inl refl)) lead))
          inr (sound.wanted t (was_wanted t w));
      plain = sound.plain;
      packages = sound.packages;
      entering = sound.entering;
    }
      where
        Before : List ℕ → Type 0
        Before e = IsLeft due s e ⊎ (HasAwaited s e ⊎ ((e ≡ specifier_text a) ⊎ loose e))

        After : List ℕ → Type 0
        After e = IsLeft due s e ⊎ (HasAwaited s e ⊎ ((e ≡ specifier_text (redirected_end u n)) ⊎ loose e))

        early_lead : (x : List ℕ) → Lead s.graph (λ e. IsLeft due s e ⊎ (HasAwaited s e ⊎ ((e ≡ specifier_text a) ⊎ loose e))) x → Lead u (λ e. IsLeft due s e ⊎ (HasAwaited s e ⊎ ((e ≡ specifier_text (redirected_end u n)) ⊎ loose e))) x
        early_lead x lead = lead_moved s.graph u a n is (λ e. IsLeft due s e ⊎ (HasAwaited s e ⊎ ((e ≡ specifier_text a) ⊎ loose e))) (λ e. IsLeft due s e ⊎ (HasAwaited s e ⊎ ((e ≡ specifier_text (redirected_end u n)) ⊎ loose e)))
            (λ e ne l. ⊎_elim inl (λ m. inr (kept e (λ y. y ≡ specifier_text (redirected_end u n)) ne m)) l) (inr (inr (inl refl))) lead

        by_name : (x : List ℕ) → End s.graph (specifier_text n) ⊎ (early × Lead s.graph (λ e. IsLeft due s e ⊎ (HasAwaited s e ⊎ ((e ≡ specifier_text a) ⊎ loose e))) (specifier_text n)) → End u x ⊎ (early × Lead u (λ e. IsLeft due s e ⊎ (HasAwaited s e ⊎ ((e ≡ specifier_text (redirected_end u n)) ⊎ loose e))) x)
        by_name x (inl end) = ⊎_elim
            (λ e. inl (⊎_elim (λ p. end_through s.graph u a n is p (end_beyond s.graph u a n is back end)) (λ k. k) (end_apart s.graph u (specifier_text a) (moved_elsewhere s.graph u a n is) e)))
            (λ m. inr (m.0, early_lead x m.1))
            (sound.ends x)
        by_name x (inr first) = ⊎_elim
            (λ e. ⊎_elim (λ p. inr (first.0, lead_through s.graph u a n is (λ y. IsLeft due s y ⊎ (HasAwaited s y ⊎ ((y ≡ specifier_text (redirected_end u n)) ⊎ loose y))) (inr (inr (inl refl))) p)) inl (end_apart s.graph u (specifier_text a) (moved_elsewhere s.graph u a n is) e))
            (λ m. inr (m.0, early_lead x m.1))
            (sound.ends x)

    -- what holds of a graph in which a slot stands at the name
    module _ (h : ModuleGraph) (same : IsElsewhere u h (specifier_text n)) (here : stands h (specifier_text n) ≡ true) where
      named_ends : (x : List ℕ) → End h x ⊎ (early × Lead h (λ e. IsLeft due s e ⊎ (HasAwaited s e ⊎ loose e)) x)
      named_ends x = ⊎_elim
          (λ e. inl (end_named s.graph u a n is h same here e))
          (λ m. inr (m.0, lead_named s.graph u a n is h same here (λ e. IsLeft due s e ⊎ (HasAwaited s e ⊎ ((e ≡ specifier_text a) ⊎ loose e))) (λ e. IsLeft due s e ⊎ (HasAwaited s e ⊎ loose e)) (λ e ne l. ⊎_elim inl (λ r. inr (⊎_elim inl (λ k. ⊎_elim (λ is_a. absurd (ne is_a)) inr k) r)) l) m.1))
          (sound.ends x)

      named_lead : (t : List ℕ) → Lead s.graph (λ e. HasAwaited s e ⊎ ((e ≡ specifier_text a) ⊎ loose e)) t → Lead h (λ e. HasAwaited s e ⊎ loose e) t
      named_lead t lead = lead_named s.graph u a n is h same here (λ e. HasAwaited s e ⊎ ((e ≡ specifier_text a) ⊎ loose e)) (λ e. HasAwaited s e ⊎ loose e) (λ e ne r. ⊎_elim inl (λ k. ⊎_elim (λ is_a. absurd (ne is_a)) inr k) r) lead

    -- a slot stands at the name already
    pub sound_stood_there : stands u (specifier_text n) ≡ true → Sound o early nothing loose due (record s { graph = u })
    sound_stood_there here = record {
      given = is.starts_are ∙ sound.given;
      ends = named_ends u (record { slots = λ y ne. refl; redirects = λ y ne. refl }) here;
      asked = asked_moved;
      held = held_moved;
      shut = shut_moved;
      once = sound.once;
      keyed = sound.keyed;
      wanted = λ t w. ⊎_elim (λ lead. inl (named_lead u (record { slots = λ y ne. refl; redirects = λ y ne. refl }) here t lead)) inr (sound.wanted t (was_wanted t w));
      plain = sound.plain;
      packages = sound.packages;
      entering = sound.entering;
    }

  -- the same where a load was taken
  loose_there : (a : List ℕ) (s : State) → Taken o early a s → Sound o early (λ k. k ≡ a) (λ e. (e ≡ a) ⊎ nothing e) [] s
  loose_there a s took = sound_as o early (λ k. k ≡ a) nothing (λ e. (e ≡ a) ⊎ nothing e) [] [] s (λ e b. absurd b) (λ k h. h) took.sound

  -- a final slot at another name
  sound_away : (s : State) (load : Load) (n : Parts) (v : ModuleSlot) (c : LoadContext) → Taken o early (specifier_text load.specifier) s → is_pending v ≡ false → (HasLoad (specifier_text n) s.loads → is_asset_slot v ≡ false) → (u : ModuleGraph) → IsMoved s.graph u load.specifier n → Sound o early nothing nothing (edges_in s v c) (record s { graph = put_at u (specifier_text n) v })
  sound_away s load n v c took final no_asset u is = record {
    given = is.starts_are ∙ took.sound.given;
    ends = λ x. ⊎_elim inl (λ m. inr (m.0, lead_as (put_at u name v) (λ e. IsLeft [] s e ⊎ (HasAwaited s e ⊎ nothing e)) (λ e. IsLeft (edges_in s v c) s e ⊎ (HasAwaited s e ⊎ nothing e)) (λ e l. left_due s (edges_in s v c) e l) m.1)) (named_ends nothing [] s load.specifier n sound took.others u is (put_at u name v) (put_elsewhere u name v) (slot_put u name v) x);
    asked = λ k b p. asked_moved nothing [] s load.specifier n sound took.others u is k b (elsewhere k b p);
    held = λ k h. stands_put u name v k (held_moved nothing [] s load.specifier n sound took.others u is k h);
    shut = λ k h. shut_put u name v k (λ same. no_asset (subst (λ z. HasLoad z s.loads) same h)) (shut_moved nothing [] s load.specifier n sound took.others u is k h);
    once = sound.once;
    keyed = sound.keyed;
    wanted = λ t w. ⊎_elim
        (λ old. ⊎_elim (λ lead. inl (named_lead nothing [] s load.specifier n sound took.others u is (put_at u name v) (put_elsewhere u name v) (slot_put u name v) t lead)) (λ l. inr (none_due s t (edges_in s v c) l)) (sound.wanted t old))
        (λ d. inr (inl d)) (now_wanted t w);
    plain = sound.plain;
    packages = sound.packages;
    entering = sound.entering;
  }
    where
      name : List ℕ
      name = specifier_text n

      sound : Sound o early (λ k. k ≡ specifier_text load.specifier) (λ e. (e ≡ specifier_text load.specifier) ⊎ nothing e) [] s
      sound = loose_there (specifier_text load.specifier) s took

      elsewhere : (k : List ℕ) (b : Bool) → finite.get (finite.insert u.slots (specifier_text n) v) k ≡ Some (Pending b) → finite.get u.slots k ≡ Some (Pending b)
      elsewhere k b p =
          let ne : k ≢ specifier_text n = λ same. let at = subst (λ z. finite.get (finite.insert u.slots (specifier_text n) v) z ≡ Some (Pending b)) same p in let there = put_same u.slots (specifier_text n) v in let one : v ≡ Pending b = cc in not_pending v b final one in
          sym (put_other u.slots (specifier_text n) v k ne) ∙ p

      now_wanted : (t : List ℕ) → IsWanted o (record s { graph = put_at u (specifier_text n) v }) t → IsWanted o s t ⊎ HasLoad t (edges_in s v c)
      now_wanted t (inl r) = inl (inl r)
      now_wanted t (inr w) = ⊎_elim
          (λ same. inr (
          let at = subst (λ z. finite.get (finite.insert u.slots (specifier_text n) v) z ≡ Some (Stands w.1)) same w.3 in
          let there = put_same u.slots (specifier_text n) v in
          let one : v ≡ Stands w.1 = cc in
          edges_here t s.graph.kind s.flags.skip_dynamic_deps v w.1 w.2 c one (by_kind nothing [] s load.specifier n (loose_there (specifier_text load.specifier) s took) took.others u is t w.1 w.2 w.5)))
          (λ ne. inl (was_wanted nothing [] s load.specifier n (loose_there (specifier_text load.specifier) s took) took.others u is t (inr (w.0, w.1, w.2, sym (put_other u.slots (specifier_text n) v w.0 ne) ∙ w.3, w.4, w.5))))
          (cases_text w.0 (specifier_text n))

  -- a final slot at the asked specifier
  pub sound_here : (s : State) (load : Load) (v : ModuleSlot) (c : LoadContext) → Taken o early (specifier_text load.specifier) s → is_pending v ≡ false → Sound o early nothing nothing (edges_in s v c) (record s { graph = put_at s.graph (specifier_text load.specifier) v })
  sound_here s load v c took final =
      settle _ nothing (edges_in s v c) _ (λ k b p x. x.1 x.0)
      (sound_put (λ k. k ≡ specifier_text load.specifier) (specifier_text load.specifier) s v c took.sound final (λ h. absurd (took.others h)))

  -- ---- redirects

  pub sound_redirected : (n : Parts) (s : State) (load : Load) → Taken o early (specifier_text load.specifier) s → leads_back s.graph load.specifier n ≡ false → Sound o early nothing nothing [] (redirected s load n)
  sound_redirected n s load took back =
      let u = moved s.graph load.specifier n in
      let next : Load = record { specifier = n; context = hop load.context; is_type = false } in
      sound_enter_beside o early nothing nothing [] (record s { graph = u }) next
      (sound_as o early nothing (λ e. (e ≡ specifier_text (redirected_end u n)) ⊎ nothing e) (λ e. (e ≡ specifier_text (redirected_end u n)) ⊎ nothing e) [] (next ∷ []) (record s { graph = u }) (λ e l. inr l) (λ k h. absurd h)
      (sound_moved nothing [] s load.specifier n (loose_there (specifier_text load.specifier) s took) took.others u (is_moved s.graph load.specifier n) back))

  -- ---- at a name

  -- another name has a slot that stands
  sound_stood_away : (n : Parts) (s : State) (load : Load) → Taken o early (specifier_text load.specifier) s → is_settled (slot_at (moved s.graph load.specifier n) n) ≡ true → Sound o early nothing nothing [] (record s { graph = moved s.graph load.specifier n })
  sound_stood_away n s load took settled =
      let u = moved s.graph load.specifier n in
      sound_stood_there nothing [] s load.specifier n (loose_there (specifier_text load.specifier) s took) took.others u (is_moved s.graph load.specifier n) (settled_stands (slot_at u n) settled)

  -- the name has a slot that stands
  sound_stood : (n : Parts) (s : State) (load : Load) → Taken o early (specifier_text load.specifier) s → is_settled (slot_at (renamed s.graph load.specifier n) n) ≡ true → Sound o early nothing nothing [] (record s { graph = renamed s.graph load.specifier n })
  sound_stood n s load took settled = by_name (same_specifier load.specifier n) refl
    where
      by_name : (b : Bool) → same_specifier load.specifier n ≡ b → Sound o early nothing nothing [] (record s { graph = renamed s.graph load.specifier n })
      by_name true t =
          let is : renamed s.graph load.specifier n ≡ s.graph = ap (λ b. if b then s.graph else moved s.graph load.specifier n) t in
          let at : is_settled (slot_at s.graph n) ≡ true = subst (λ (u : ModuleGraph). is_settled (slot_at u n) ≡ true) is settled in
          rw is (settle (λ k. k ≡ specifier_text load.specifier) nothing [] s (λ k b p x. settled_still (slot_at s.graph n) b at (subst (λ z. finite.get s.graph.slots z ≡ Some (Pending b)) (x ∙ text_of_same load.specifier n t) p)) took.sound)
      by_name false f =
          let is : renamed s.graph load.specifier n ≡ moved s.graph load.specifier n = ap (λ b. if b then s.graph else moved s.graph load.specifier n) f in
          rw is (sound_stood_away n s load took (subst (λ (u : ModuleGraph). is_settled (slot_at u n) ≡ true) is settled))

  -- a final slot at the name of an answer
  sound_put_named : (s : State) (load : Load) (n : Parts) (v : ModuleSlot) (c : LoadContext) → Taken o early (specifier_text load.specifier) s → is_pending v ≡ false → (HasLoad (specifier_text n) s.loads → is_asset_slot v ≡ false) → Sound o early nothing nothing (edges_in s v c) (record s { graph = with_slot (renamed s.graph load.specifier n) n v })
  sound_put_named s load n v c took final no_asset = by_name (same_specifier load.specifier n) refl
    where
      by_name : (b : Bool) → same_specifier load.specifier n ≡ b → Sound o early nothing nothing (edges_in s v c) (record s { graph = with_slot (renamed s.graph load.specifier n) n v })
      by_name true t =
          let is : renamed s.graph load.specifier n ≡ s.graph = ap (λ b. if b then s.graph else moved s.graph load.specifier n) t in
          rw is (subst (λ k. Sound o early nothing nothing (edges_in s v c) (record s { graph = put_at s.graph k v })) (text_of_same load.specifier n t) (sound_here s load v c took final))
      by_name false f =
          let is : renamed s.graph load.specifier n ≡ moved s.graph load.specifier n = ap (λ b. if b then s.graph else moved s.graph load.specifier n) f in
          rw is (sound_away s load n v c took final no_asset (moved s.graph load.specifier n) (is_moved s.graph load.specifier n))

  -- what an answer gives is stored at its name
  pub sound_named : (s : State) (load : Load) (held : Option PackageNv) (n : Parts) (v : ModuleSlot) (c : LoadContext) → Taken o early (specifier_text load.specifier) s → is_pending v ≡ false → (HasLoad (specifier_text n) s.loads → is_asset_slot v ≡ false) → Sound o early nothing nothing (edges_in s v c) (placed_at s load held n v)
  sound_named s load held n v c took final no_asset =
      sound_beside o early nothing nothing (edges_in s v c) (record s { graph = placed (renamed s.graph load.specifier n) n v }) (placed_at s load held n v)
      (record { slots = refl; redirects = refl; starts_are = refl; flags = refl; loads = refl }) refl refl refl refl
      (by_placed (placed (renamed s.graph load.specifier n) n v) (how_placed (renamed s.graph load.specifier n) n v))
    where
      by_placed : (u : ModuleGraph) → Placed (renamed s.graph load.specifier n) n v u → Sound o early nothing nothing (edges_in s v c) (record s { graph = u })
      by_placed u (there free) = sound_put_named s load n v c took final no_asset
      by_placed u (stood outside t) = subst (λ due. Sound o early nothing nothing due (record s { graph = renamed s.graph load.specifier n })) (sym (no_edges s.graph.kind s.flags.skip_dynamic_deps v c outside)) (sound_stood n s load took t)

-- each way has an end before a redirect's name enters
pub redirected_ends : (o : EnteredGraph) (n : Parts) (s : State) (load : Load) → Taken o ⊥ (specifier_text load.specifier) s → leads_back s.graph load.specifier n ≡ false → (x : List ℕ) → End (moved s.graph load.specifier n) x
redirected_ends o n s load took back = moved_ends s.graph load.specifier n back (ends_now o (λ k. k ≡ specifier_text load.specifier) nothing [] s took.sound)

-- ---- small facts

pub not_used : (a b : Bool) → (a || b) ≡ false → a ≡ false
not_used true b e = e
not_used false b e = refl

pub not_back : (a b : Bool) → (a || b) ≡ false → b ≡ false
not_back true b e = absurd (true≢false e)
not_back false b e = e
