-- Ways along known redirects, whether or not they end.
use Rattle.std.proofs.Common.{◌≡◌, ◌≢◌, ℕ, zero, suc, List, [], ◌∷◌, true, false, Some, refl, ◌∙◌, subst, inl, inr, ◌⊎◌, ⊎_elim}
use Rattle.std.specs.FinMap as finite
use Rattle.url.specs.Parts.{Parts}
use Rattle.spec_base.specs.Specifier.{specifier_text}
use Rattle.graph_core.specs.declared.graph.ModuleGraph.{ModuleGraph}
use Rattle.graph_turns.specs.Machine.Redirects.{redirected_end}
use Rattle.graph_core.proofs.At.{cases_text}
use Rattle.graph_turns.proofs.Leading.Ends.{Ends, stands}
use Rattle.graph_turns.proofs.Leading.Ends.Ends.{at_slot, at_last, on}
use Rattle.graph_turns.proofs.Leading.Follow.{follow_keeps, onward_parts}
use Rattle.graph_turns.proofs.Leading.Ways.{IsElsewhere}

-- known redirects lead from x to d, and no slot stands before d
pub data Path (g : ModuleGraph) : List ℕ → List ℕ → Type 0 where
  stay : {x : List ℕ} → Path g x x
  go : {x d : List ℕ} {t : Parts} → stands g x ≡ false → finite.get g.redirects x ≡ Some t → Path g (specifier_text t) d → Path g x d

-- known redirects lead from x to an end
pub record End (g : ModuleGraph) (x : List ℕ) : Type 0 where
  pub steps : ℕ
  pub end : List ℕ
  pub way : Ends g steps x end

-- x leads to a slot, or to an end that is excused
pub record Lead (g : ModuleGraph) (loose : List ℕ → Type 0) (x : List ℕ) : Type 0 where
  pub end : List ℕ
  pub way : Path g x end
  pub slot : (stands g end ≡ true) ⊎ loose end

-- a path to what has an end
pub path_then : (g : ModuleGraph) {x d : List ℕ} → Path g x d → End g d → End g x
path_then g stay e = e
path_then g (go f r p) e = let rest = path_then g p e in record { steps = suc rest.steps; end = rest.end; way = on f r rest.way }

-- the same, step by step
pub path_ends : (g : ModuleGraph) {x d : List ℕ} → Path g x d → Ends g zero d d → (m : ℕ) × Ends g m x d
path_ends g stay e = (zero, e)
path_ends g (go f r p) e = let rest = path_ends g p e in (suc rest.0, on f r rest.1)

pub path_slot : (g : ModuleGraph) {x d : List ℕ} → Path g x d → stands g d ≡ true → End g x
path_slot g {x} {d} p h = path_then g p (record { steps = 0; end = d; way = at_slot h })

module _ (g : ModuleGraph) where
  pub path_join : {x y d : List ℕ} → Path g x y → Path g y d → Path g x d
  path_join stay q = q
  path_join (go h e r) q = go h e (path_join r q)

  path_push : {x d : List ℕ} (s t : Parts) → Path g x d → d ≡ specifier_text s → stands g d ≡ false → finite.get g.redirects d ≡ Some t → Path g x (specifier_text t)
  path_push s t stay is h e = go h e stay
  path_push s t (go f r p) is h e = go f r (path_push s t p is h e)

  -- known redirects lead to their end
  pub led_path : (s : Parts) → Path g (specifier_text s) (specifier_text (redirected_end g s))
  led_path s = follow_keeps g (λ x. Path g (specifier_text s) (specifier_text x))
      (λ x t so_far e. let parts = onward_parts g x t e in path_push x t so_far refl parts.0 parts.1)
      (finite.len g.redirects) (s ∷ []) s stay

-- ---- where a graph changes at one text

module _ (g u : ModuleGraph) (a : List ℕ) (same : IsElsewhere g u a) where
  here_path : {x : List ℕ} → x ≡ a → Path u x a
  here_path {x} is = subst (Path u x) is stay

  -- a path comes to it, or stays
  pub path_apart : {x d : List ℕ} → Path g x d → Path u x a ⊎ (Path u x d × (d ≢ a))
  path_apart (stay {x = x}) = ⊎_elim (λ is. inl (here_path is)) (λ ne. inr (stay, ne)) (cases_text x a)
  path_apart (go {x = x} f e r) = ⊎_elim
      (λ is. inl (here_path is))
      (λ ne. ⊎_elim (λ p. inl (go (same.slots x ne ∙ f) (same.redirects x ne ∙ e) p)) (λ p. inr (go (same.slots x ne ∙ f) (same.redirects x ne ∙ e) p.0, p.1)) (path_apart r))
      (cases_text x a)

  -- a way that ends comes to it, or still ends
  pub ends_apart : {m : ℕ} {x d : List ℕ} → Ends g m x d → Path u x a ⊎ (Ends u m x d × (d ≢ a))
  ends_apart (at_slot {x = x} s) = ⊎_elim (λ is. inl (here_path is)) (λ ne. inr (at_slot (same.slots x ne ∙ s), ne)) (cases_text x a)
  ends_apart (at_last {x = x} f e) = ⊎_elim (λ is. inl (here_path is)) (λ ne. inr (at_last (same.slots x ne ∙ f) (same.redirects x ne ∙ e), ne)) (cases_text x a)
  ends_apart (on {x = x} f e r) = ⊎_elim
      (λ is. inl (here_path is))
      (λ ne. ⊎_elim (λ p. inl (go (same.slots x ne ∙ f) (same.redirects x ne ∙ e) p)) (λ w. inr (on (same.slots x ne ∙ f) (same.redirects x ne ∙ e) w.0, w.1)) (ends_apart r))
      (cases_text x a)

  pub end_apart : {x : List ℕ} → End g x → Path u x a ⊎ End u x
  end_apart e = ⊎_elim inl (λ w. inr record { steps = e.steps; end = e.end; way = w.0 }) (ends_apart e.way)

  -- where a slot stands there now
  module _ (there : stands u a ≡ true) where
    pub end_there : {x : List ℕ} → End g x → End u x
    end_there e = ⊎_elim (λ p. path_slot u p there) (λ k. k) (end_apart e)

    pub lead_there : {x : List ℕ} (loose new : List ℕ → Type 0) → ((e : List ℕ) → e ≢ a → loose e → new e) → Lead g loose x → Lead u new x
    lead_there loose new to lead = ⊎_elim
        (λ p. record { end = a; way = p; slot = inl there })
        (λ p. record { end = lead.end; way = p.0; slot = ⊎_elim (λ t. inl (same.slots lead.end p.1 ∙ t)) (λ l. inr (to lead.end p.1 l)) lead.slot })
        (path_apart lead.way)

pub lead_as : (g : ModuleGraph) (loose new : List ℕ → Type 0) {x : List ℕ} → ((e : List ℕ) → loose e → new e) → Lead g loose x → Lead g new x
lead_as g loose new to lead = record { end = lead.end; way = lead.way; slot = ⊎_elim inl (λ l. inr (to lead.end l)) lead.slot }
