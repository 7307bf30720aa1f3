-- What follows where nothing is left out: a graph is whole while turns go on, and all that has to leads to a slot at their end.
use Rattle.std.proofs.Common.{◌≡◌, ℕ, zero, suc, ◌<◌, List, [], ◌∷◌, length, get_or, Bool, true, Option, None, Some, refl, sym, ap, ◌∙◌, subst, inl, inr, ⊎_elim, ◌⊎◌, arith}
use Rattle.std.specs.List.{Contains}
use Rattle.std.specs.FinMap as finite
use Rattle.url.specs.Parts.{Parts}
use Rattle.spec_base.specs.Specifier.{specifier_text}
use Rattle.graph_core.specs.declared.graph.ModuleGraph.{ModuleGraph}
use Rattle.module_slots.specs.declared.load.Load.{Load}
use Rattle.module_slots.specs.declared.slot.Module.{Module}
use Rattle.module_slots.specs.declared.slot.ModuleSlot.TheVariants.{Module as Stands, Pending}
use Rattle.graph_core.specs.Edges.{loads_of}
use Rattle.graph_core.specs.Graph.{HasLead}
use Rattle.graph_core.specs.Graph.Leads.{here, along}
use Rattle.module_slots.specs.declared.npm_load.NpmLoad.{NpmLoad}
use Rattle.graph_turns.specs.declared.passes.Chosen.{Chosen}
use Rattle.graph_turns.specs.declared.passes.Pass.{Pass}
use Rattle.graph_turns.specs.declared.state.State.{State}
use Rattle.graph_turns.specs.declared.waiting.WaitingPackage.{WaitingPackage}
use Rattle.graph_turns.specs.Machine.Entering.{Imports}
use Rattle.graph_turns.specs.Machine.Turns.{IsIdle}
use Rattle.graph_turns.specs.Promise.Input.{EnteredGraph}
use Rattle.turn_laws.specs.Promise.Whole.{IsAwaited, IsWholeState, LeadsOrWaits, LeadsToAwaited}
use Rattle.turn_laws.specs.Promise.Whole.IsAwaited.{waits, stands as stands_in, chosen, resolves}
use Rattle.turn_laws.specs.Promise.Whole.LeadsToAwaited.{here as awaited_here, along as awaited_along}
use Rattle.graph_turns.proofs.Entering.Loads.{HasLoad, HasKey}
use Rattle.turn_laws.proofs.Leading.Circles.{no_circle_of}
use Rattle.graph_turns.proofs.Leading.Ends.{stands}
use Rattle.turn_laws.proofs.Leading.Paths.{End, Lead, Path}
use Rattle.turn_laws.proofs.Leading.Paths.Path.{stay, go}
use Rattle.turn_laws.proofs.Promise.Sound.{AwaitsEnd, AwaitsPass, HasAwaited, HasChosen, HasItem, HasNpm, IsLeft, IsWanted, Sound, StandsIn, ends_now, nothing}

-- ---- specifiers that lead to a slot

leads_from : (g : ModuleGraph) {x d : List ℕ} → Path g x d → stands g d ≡ true → (s : Parts) → x ≡ specifier_text s → HasLead g s
leads_from g stay t s is = (s, here (ap (stands g) (sym is) ∙ t))
leads_from g (go {t = n} f e r) t s is =
    let rest = leads_from g r t n refl in
    (rest.0, along (ap (stands g) (sym is) ∙ f) (ap (finite.get g.redirects) (sym is) ∙ e) rest.1)

pub has_lead : (g : ModuleGraph) (s : Parts) → Lead g nothing (specifier_text s) → HasLead g s
has_lead g s l = leads_from g l.way (⊎_elim (λ t. t) (λ b. absurd b) l.slot) s refl

pub has_load_at : (loads : List Load) (k : ℕ) (d : Load) → k < length loads → HasLoad (specifier_text (get_or loads k d).specifier) loads
has_load_at [] k d below = absurd (omega arith)
has_load_at (l ∷ ls) zero d below = inl refl
has_load_at (l ∷ ls) (suc k) d below = inr (has_load_at ls k d (omega arith))

-- ---- at the end

module _ (o : EnteredGraph) (early : Type 0) (s : State) (sound : Sound o early nothing nothing [] s) (end : IsIdle s) where
  none_awaited : (e : List ℕ) → AwaitsPass s e → ⊥
  none_awaited e a = ⊎_elim (λ w. subst (HasItem e) end.none_waiting w) (λ p. subst (λ (q : Option Pass). StandsIn q e) end.none_passing p) a

  none_left : (e : List ℕ) → IsLeft [] s e → ⊥
  none_left e l = ⊎_elim (λ b. b) (λ d. subst (HasKey e) end.none_waits d) l

  -- what waits there waits for the end
  at_end : (e : List ℕ) → HasAwaited s e ⊎ nothing e → AwaitsEnd s e
  at_end e m = ⊎_elim (λ a. ⊎_elim (λ b. absurd (none_awaited e b)) (λ n. n) a) (λ b. absurd b) m

  -- what has to lead somewhere leads to a slot, or to what waits for the end
  pub wanted_end : (k : List ℕ) → IsWanted o s k → Lead s.graph (AwaitsEnd s) k
  wanted_end k w = ⊎_elim
      (λ lead. record { end = lead.end; way = lead.way; slot = ⊎_elim inl (λ m. inr (at_end lead.end m)) lead.slot })
      (λ l. absurd (none_left k l))
      (sound.wanted k w)

  -- a slot that is pending was at entry
  pub pending_end : (k : List ℕ) (asset : Bool) → finite.get s.graph.slots k ≡ Some (Pending asset) → finite.get o.graph.slots k ≡ Some (Pending asset)
  pending_end k asset p = ⊎_elim (λ a. absurd (⊎_elim (λ n. n) (λ h. subst (HasLoad k) end.none_open h) a)) (λ there. there) (sound.asked k asset p)

  -- known redirects end, or lead to what waits for the end
  pub ends_end : (x : List ℕ) → End s.graph x ⊎ Lead s.graph (AwaitsEnd s) x
  ends_end x = ⊎_elim inl
      (λ m. inr (record { end = m.1.end; way = m.1.way; slot = ⊎_elim inl (λ l. ⊎_elim (λ d. absurd (none_left m.1.end d)) (λ r. inr (at_end m.1.end r)) l) m.1.slot }))
      (sound.ends x)

-- ---- while turns go on

pub contains_later : {A : Type 0} (x y : A) (xs : List A) → Contains xs y → Contains (x ∷ xs) y
contains_later x y xs among = (suc among.0, omega (arith, among.1), among.2)

wait_among : (k : List ℕ) (es : Imports) → HasKey k es → (e : Parts × Load) × Contains es e × (specifier_text e.0 ≡ k)
wait_among k [] h = absurd h
wait_among k (e ∷ es) h = ⊎_elim
    (λ same. (e, (0, omega arith, refl), sym same))
    (λ r. let found = wait_among k es r in (found.0, contains_later e found.0 es found.1, found.2))
    h

item_among : (k : List ℕ) (items : List WaitingPackage) → HasItem k items → (item : WaitingPackage) × Contains items item × (specifier_text item.specifier ≡ k)
item_among k [] h = absurd h
item_among k (i ∷ items) h = ⊎_elim
    (λ same. (i, (0, omega arith, refl), sym same))
    (λ r. let found = item_among k items r in (found.0, contains_later i found.0 items found.1, found.2))
    h

chosen_among : (k : List ℕ) (ones : List Chosen) → HasChosen k ones → (one : Chosen) × Contains ones one × (specifier_text one.item.specifier ≡ k)
chosen_among k [] h = absurd h
chosen_among k (i ∷ ones) h = ⊎_elim
    (λ same. (i, (0, omega arith, refl), sym same))
    (λ r. let found = chosen_among k ones r in (found.0, contains_later i found.0 ones found.1, found.2))
    h

npm_among : (k : List ℕ) (items : List NpmLoad) → HasNpm k items → (item : NpmLoad) × Contains items item × (specifier_text item.specifier ≡ k)
npm_among k [] h = absurd h
npm_among k (i ∷ items) h = ⊎_elim
    (λ same. (i, (0, omega arith, refl), sym same))
    (λ r. let found = npm_among k items r in (found.0, contains_later i found.0 items found.1, found.2))
    h

module _ (s : State) where
  is_awaited : (t : Parts) → HasAwaited s (specifier_text t) → IsAwaited s t
  is_awaited t a = ⊎_elim
      (λ b. ⊎_elim (λ w. let found = item_among (specifier_text t) s.waiting w in waits found.1 found.2) (by_pass s.pass refl) b)
      (λ n. let found = npm_among (specifier_text t) s.npm n.1 in resolves n.0 found.1 found.2)
      a
    where
      by_pass : (o : Option Pass) → s.pass ≡ o → StandsIn o (specifier_text t) → IsAwaited s t
      by_pass None e b = absurd b
      by_pass (Some p) e (inl w) = let found = item_among (specifier_text t) p.items w in stands_in e found.1 found.2
      by_pass (Some p) e (inr c) = let found = chosen_among (specifier_text t) p.chosen c in chosen e found.1 found.2

  leads_awaited : {x d : List ℕ} → Path s.graph x d → HasAwaited s d → (t : Parts) → x ≡ specifier_text t → LeadsToAwaited s t
  leads_awaited stay a t is = awaited_here (is_awaited t (subst (HasAwaited s) is a))
  leads_awaited (go {t = n} f e r) a t is = awaited_along (ap (stands s.graph) (sym is) ∙ f) (ap (finite.get s.graph.redirects) (sym is) ∙ e) (leads_awaited r a n refl)

  -- what has to lead somewhere leads to a slot, or waits
  pub leads_or_waits : (o : EnteredGraph) (early : Type 0) → Sound o early nothing nothing [] s → (load : Load) → IsWanted o s (specifier_text load.specifier) → LeadsOrWaits s load
  leads_or_waits o early sound load w = ⊎_elim
      (λ lead. ⊎_elim
      (λ t. inl (leads_from s.graph lead.way t load.specifier refl))
      (λ m. ⊎_elim (λ a. inr (inr (leads_awaited lead.way a load.specifier refl))) (λ b. absurd b) m)
      lead.slot)
      (λ l. ⊎_elim (λ b. absurd b) (λ d. inr (inl (wait_among (specifier_text load.specifier) s.dynamic d))) l)
      (sound.wanted (specifier_text load.specifier) w)

  -- so a graph is whole over one that was handed in, where the entry has no module that this hadn't
  pub whole_of : (handed_in : ModuleGraph) (o : EnteredGraph) → ((q : List ℕ) (m : Module) → finite.get o.graph.slots q ≡ Some (Stands m) → finite.get handed_in.slots q ≡ Some (Stands m)) → Sound o ⊥ nothing nothing [] s → IsWholeState handed_in s
  whole_of handed_in o stood sound = record {
    edges_lead = λ q m c e new k d below. let load = get_or (loads_of s.graph.kind s.flags.skip_dynamic_deps m c) k d in leads_or_waits o ⊥ sound load (inr (q, m, c, e, (λ there. new (stood q m there)), has_load_at (loads_of s.graph.kind s.flags.skip_dynamic_deps m c) k d below));
    no_circle = no_circle_of s.graph (ends_now o nothing nothing [] s sound);
  }
