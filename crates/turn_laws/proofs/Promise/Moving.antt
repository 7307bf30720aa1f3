-- Where known redirects lead after a specifier was redirected.
use Rattle.std.proofs.Common.{◌≡◌, ◌≢◌, ℕ, suc, List, Bool, true, false, ◌&&◌, if◌then◌else◌, Option, None, Some, is_some, refl, sym, ap, ◌∙◌, subst, inl, inr, ⊎_elim, ◌⊎◌}
use Rattle.std.specs.FinMap as finite
use Rattle.url.specs.Parts.{Parts}
use Rattle.spec_base.specs.Specifier.{specifier_text}
use Rattle.graph_core.specs.declared.graph.ModuleGraph.{ModuleGraph}
use Rattle.module_slots.specs.declared.slot.ModuleSlot.{ModuleSlot}
use Rattle.module_slots.specs.declared.slot.ModuleSlot.TheVariants.{Module as Stands, Err as Failed, Pending}
use Rattle.graph_core.specs.Graph.{redirect_at, with_redirect, without_slot}
use Rattle.module_slots.specs.Slots.{is_pending_at}
use Rattle.graph_turns.specs.Machine.Redirects.{is_settled, redirected_end, leads_back, moved, unknown_at}
use Rattle.graph_turns.specs.Promise.Input.{starts}
use Rattle.graph_core.proofs.At.{put_same, put_other, cut_same, cut_other, other_text}
use Rattle.graph_turns.proofs.Leading.Ends.{Ends, ends_led, stands}
use Rattle.graph_turns.proofs.Leading.Ends.Ends.{at_last, on}
use Rattle.turn_laws.proofs.Leading.Paths.{End, Lead, Path, end_apart, end_there, ends_apart, lead_as, lead_there, led_path, path_apart, path_ends, path_join, path_slot, path_then}
use Rattle.turn_laws.proofs.Leading.Paths.Path.{stay, go}
use Rattle.graph_turns.proofs.Leading.Ways.{IsElsewhere, cut_at, ends_off, redirect_to}

-- no end is excused
abbrev nothing_more : List ℕ → Type 0
nothing_more k = ⊥

-- how a graph changes where a is redirected to n: elsewhere not at all, and a has a slot or the redirect; a pending slot there goes, and
-- no other comes
pub record IsMoved (g u : ModuleGraph) (a n : Parts) : Type 0 where
  pub starts_are : starts u ≡ starts g
  pub slots : (y : List ℕ) → y ≢ specifier_text a → finite.get u.slots y ≡ finite.get g.slots y
  pub redirects : (y : List ℕ) → y ≢ specifier_text a → finite.get u.redirects y ≡ finite.get g.redirects y
  pub from : (stands u (specifier_text a) ≡ true) ⊎ ((stands u (specifier_text a) ≡ false) × (finite.get u.redirects (specifier_text a) ≡ Some n))
  pub none_pending : (asset : Bool) → finite.get u.slots (specifier_text a) ≡ Some (Pending asset) → ⊥
  pub slot_was : (v : ModuleSlot) → finite.get u.slots (specifier_text a) ≡ Some v → finite.get g.slots (specifier_text a) ≡ Some v

module _ (g : ModuleGraph) (a n : Parts) where
  abbrev text : List ℕ
  text = specifier_text a

  -- its slot is pending and goes
  moved_cut : IsMoved g (redirect_to (cut_at g text) text n) a n
  moved_cut = record {
    starts_are = refl;
    slots = λ y ne. cut_other g.slots text y ne;
    redirects = λ y ne. put_other g.redirects text n y ne;
    from = inr (ap is_some (cut_same g.slots text), put_same g.redirects text n);
    none_pending = λ asset p. let none = cut_same g.slots text in cc;
    slot_was = λ v p. absurd (let none = cut_same g.slots text in cc);
  }

  -- it has none, or another one
  moved_put : ((asset : Bool) → finite.get g.slots text ≡ Some (Pending asset) → ⊥) → IsMoved g (redirect_to g text n) a n
  moved_put unopened = record {
    starts_are = refl;
    slots = λ y ne. refl;
    redirects = λ y ne. put_other g.redirects text n y ne;
    from = by_slot (stands g text) refl;
    none_pending = unopened;
    slot_was = λ v p. p;
  }
    where
      by_slot : (b : Bool) → stands g text ≡ b → (stands g text ≡ true) ⊎ ((stands g text ≡ false) × (finite.get (finite.insert g.redirects text n) text ≡ Some n))
      by_slot true s = inl s
      by_slot false s = inr (s, put_same g.redirects text n)

  -- an earlier redirect stays
  moved_still : ((asset : Bool) → finite.get g.slots text ≡ Some (Pending asset) → ⊥) → stands g text ≡ true → IsMoved g g a n
  moved_still unopened s = record { starts_are = refl; slots = λ y ne. refl; redirects = λ y ne. refl; from = inl s; none_pending = unopened; slot_was = λ v p. p }

  pub is_moved : IsMoved g (moved g a n) a n
  is_moved = by_slot (finite.get g.slots text) refl
    where
      by_found : Option ModuleSlot → Option Parts → ModuleGraph
      by_found o r = if is_settled o && is_some r then g else with_redirect (if is_pending_at o then without_slot g a else g) a n

      -- a slot stands that isn't pending
      by_settled : (v : ModuleSlot) → finite.get g.slots text ≡ Some v → ((r : Option Parts) → by_found (Some v) r ≡ (if is_some r then g else with_redirect g a n)) → ((asset : Bool) → finite.get g.slots text ≡ Some (Pending asset) → ⊥) → (b : Bool) → IsMoved g (if b then g else with_redirect g a n) a n
      by_settled v e found unopened true = moved_still unopened (ap is_some e)
      by_settled v e found unopened false = moved_put unopened

      by_stood : (v : ModuleSlot) → finite.get g.slots text ≡ Some v → ((r : Option Parts) → by_found (Some v) r ≡ (if is_some r then g else with_redirect g a n)) → ((asset : Bool) → finite.get g.slots text ≡ Some (Pending asset) → ⊥) → IsMoved g (moved g a n) a n
      by_stood v e found unopened =
          subst (λ (u : ModuleGraph). IsMoved g u a n) (sym (ap (λ o. by_found o (redirect_at g a)) e ∙ found (redirect_at g a)))
          (by_settled v e found unopened (is_some (redirect_at g a)))

      by_slot : (o : Option ModuleSlot) → finite.get g.slots text ≡ o → IsMoved g (moved g a n) a n
      by_slot None e = subst (λ (u : ModuleGraph). IsMoved g u a n) (sym (ap (λ o. by_found o (redirect_at g a)) e)) (moved_put (λ b p. let both = sym e ∙ p in cc))
      by_slot (Some (Pending asset)) e = subst (λ (u : ModuleGraph). IsMoved g u a n) (sym (ap (λ o. by_found o (redirect_at g a)) e)) moved_cut
      by_slot (Some (Stands m)) e = by_stood (Stands m) e (λ r. refl) (λ b p. let both : Some (Stands m) ≡ Some (Pending b) = sym e ∙ p in let inner : Stands m ≡ Pending b = cc in cc)
      by_slot (Some (Failed x)) e = by_stood (Failed x) e (λ r. refl) (λ b p. let both : Some (Failed x) ≡ Some (Pending b) = sym e ∙ p in let inner : Failed x ≡ Pending b = cc in cc)

module _ (g u : ModuleGraph) (a n : Parts) (is : IsMoved g u a n) where
  pub moved_elsewhere : IsElsewhere g u (specifier_text a)
  moved_elsewhere = record { slots = λ y ne. ap is_some (is.slots y ne); redirects = is.redirects }

  -- ---- where it goes on

  -- a graph in which neither its slot nor its redirect counts
  unknown_elsewhere : IsElsewhere g (unknown_at g a) (specifier_text a)
  unknown_elsewhere = record { slots = λ y ne. ap is_some (cut_other g.slots (specifier_text a) y ne); redirects = λ y ne. cut_other g.redirects (specifier_text a) y ne }

  from_unknown : IsElsewhere (unknown_at g a) u (specifier_text a)
  from_unknown = record { slots = λ y ne. moved_elsewhere.slots y ne ∙ sym (unknown_elsewhere.slots y ne); redirects = λ y ne. is.redirects y ne ∙ sym (unknown_elsewhere.redirects y ne) }

  -- what doesn't lead back has an end that stays
  pub end_beyond : leads_back g a n ≡ false → End g (specifier_text n) → End u (specifier_text n)
  end_beyond back e = ⊎_elim
      (λ p. let way = path_ends (unknown_at g a) p (at_last (ap is_some (cut_same g.slots (specifier_text a))) (cut_same g.redirects (specifier_text a))) in absurd (apart way.1))
      (λ w. record { steps = e.steps; end = e.end; way = ends_off (unknown_at g a) u (specifier_text a) from_unknown (cut_same g.redirects (specifier_text a)) w.0 w.1 })
      (ends_apart g (unknown_at g a) (specifier_text a) unknown_elsewhere e.way)
    where
      apart : {m : ℕ} → Ends (unknown_at g a) m (specifier_text n) (specifier_text a) → ⊥
      apart {m} way = other_text (redirected_end (unknown_at g a) n) a back (ends_led (unknown_at g a) m n (specifier_text n) (specifier_text a) refl way)

  -- what comes to it goes on there, unless a slot stands at it
  pub end_through : {x : List ℕ} → Path u x (specifier_text a) → End u (specifier_text n) → End u x
  end_through p e = ⊎_elim
      (λ s. path_slot u p s)
      (λ f. path_then u p (record { steps = suc e.steps; end = e.end; way = on f.0 f.1 e.way }))
      is.from

  pub lead_through : {x : List ℕ} (new : List ℕ → Type 0) → new (specifier_text (redirected_end u n)) → Path u x (specifier_text a) → Lead u new x
  lead_through new to p = ⊎_elim
      (λ s. record { end = specifier_text a; way = p; slot = inl s })
      (λ f. record { end = specifier_text (redirected_end u n); way = path_join u p (go f.0 f.1 (led_path u n)); slot = inr to })
      is.from

  -- a path that doesn't come to it stays
  pub lead_moved : {x : List ℕ} (loose new : List ℕ → Type 0) → ((e : List ℕ) → e ≢ specifier_text a → loose e → new e) → new (specifier_text (redirected_end u n)) → Lead g loose x → Lead u new x
  lead_moved loose new keeps to lead = ⊎_elim
      (lead_through new to)
      (λ p. record { end = lead.end; way = p.0; slot = ⊎_elim (λ t. inl (moved_elsewhere.slots lead.end p.1 ∙ t)) (λ l. inr (keeps lead.end p.1 l)) lead.slot })
      (path_apart g u (specifier_text a) moved_elsewhere lead.way)

  -- ---- where a slot stands at the name

  module _ (h : ModuleGraph) (same : IsElsewhere u h (specifier_text n)) (there : stands h (specifier_text n) ≡ true) where
    -- what comes to the asked specifier leads to a slot
    named_through : {x : List ℕ} → Path u x (specifier_text a) → Lead h nothing_more x
    named_through p = ⊎_elim
        (λ q. record { end = specifier_text n; way = q; slot = inl there })
        (λ q. ⊎_elim
        (λ s. record { end = specifier_text a; way = q.0; slot = inl (same.slots (specifier_text a) q.1 ∙ s) })
        (λ f. record { end = specifier_text n; way = path_join h q.0 (go (same.slots (specifier_text a) q.1 ∙ f.0) (same.redirects (specifier_text a) q.1 ∙ f.1) stay); slot = inl there })
        is.from)
        (path_apart u h (specifier_text n) same p)

    pub end_named : {x : List ℕ} → End g x → End h x
    end_named e = ⊎_elim
        (λ p. let lead = named_through p in path_slot h lead.way (⊎_elim (λ t. t) (λ b. absurd b) lead.slot))
        (λ k. end_there u h (specifier_text n) same there k)
        (end_apart g u (specifier_text a) moved_elsewhere e)

    pub lead_named : {x : List ℕ} (loose new : List ℕ → Type 0) → ((e : List ℕ) → e ≢ specifier_text a → loose e → new e) → Lead g loose x → Lead h new x
    lead_named loose new keeps lead = ⊎_elim
        (λ p. lead_as h nothing_more new (λ e b. absurd b) (named_through p))
        (λ p. lead_there u h (specifier_text n) same there new new (λ e ne l. l) (record { end = lead.end; way = p.0; slot = ⊎_elim (λ t. inl (moved_elsewhere.slots lead.end p.1 ∙ t)) (λ l. inr (keeps lead.end p.1 l)) lead.slot }))
        (path_apart g u (specifier_text a) moved_elsewhere lead.way)

-- where known redirects end everywhere, they do so after a move that doesn't lead back
pub moved_ends : (g : ModuleGraph) (a n : Parts) → leads_back g a n ≡ false → ((x : List ℕ) → End g x) → (x : List ℕ) → End (moved g a n) x
moved_ends g a n back ends x =
    let is = is_moved g a n in
    ⊎_elim
    (λ p. end_through g (moved g a n) a n is p (end_beyond g (moved g a n) a n is back (ends (specifier_text n))))
    (λ e. e)
    (end_apart g (moved g a n) (specifier_text a) (moved_elsewhere g (moved g a n) a n is) (ends x))
