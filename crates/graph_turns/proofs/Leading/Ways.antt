-- How the ways along known redirects change with the graph.
use Rattle.std.proofs.Common.{◌≡◌, ◌≢◌, ℕ, List, true, None, Some, is_some, refl, ap, ◌∙◌, subst, ⊎_elim}
use Rattle.std.specs.FinMap as finite
use Rattle.url.specs.Parts.{Parts}
use Rattle.graph_core.specs.declared.graph.ModuleGraph.{ModuleGraph}
use Rattle.module_slots.specs.declared.slot.ModuleSlot.{ModuleSlot}
use Rattle.graph_core.proofs.At.{cases_text, put_same, put_other}
use Rattle.graph_turns.proofs.Leading.Ends.{Ends, stands}
use Rattle.graph_turns.proofs.Leading.Ends.Ends.{at_slot, at_last, on}

-- the graph with a slot at a text
abbrev pub put_at : ModuleGraph → List ℕ → ModuleSlot → ModuleGraph
put_at g k v = record g { slots = finite.insert g.slots k v }

-- the graph with no slot at a text
abbrev pub cut_at : ModuleGraph → List ℕ → ModuleGraph
cut_at g k = record g { slots = finite.remove g.slots k }

-- the graph with a redirect from a text
abbrev pub redirect_to : ModuleGraph → List ℕ → Parts → ModuleGraph
redirect_to g k n = record g { redirects = finite.insert g.redirects k n }

pub slot_put : (g : ModuleGraph) (k : List ℕ) (v : ModuleSlot) → stands (put_at g k v) k ≡ true
slot_put g k v = ap is_some (put_same g.slots k v)

pub slot_put_other : (g : ModuleGraph) (k : List ℕ) (v : ModuleSlot) (q : List ℕ) → q ≢ k → stands (put_at g k v) q ≡ stands g q
slot_put_other g k v q ne = ap is_some (put_other g.slots k v q ne)

-- ---- two graphs that have the same at each text but one

pub record IsElsewhere (g u : ModuleGraph) (a : List ℕ) : Type 0 where
  pub slots : (y : List ℕ) → y ≢ a → stands u y ≡ stands g y
  pub redirects : (y : List ℕ) → y ≢ a → finite.get u.redirects y ≡ finite.get g.redirects y

pub put_elsewhere : (g : ModuleGraph) (k : List ℕ) (v : ModuleSlot) → IsElsewhere g (put_at g k v) k
put_elsewhere g k v = record { slots = slot_put_other g k v; redirects = λ y ne. refl }

module _ (g u : ModuleGraph) (a : List ℕ) (same : IsElsewhere g u a) where
  -- a way that comes to a text from where none leads on ends there
  pub ends_off : finite.get g.redirects a ≡ None → {m : ℕ} {x d : List ℕ} → Ends g m x d → d ≢ a → Ends u m x d
  ends_off none (at_slot {x = x} s) ne = at_slot (same.slots x ne ∙ s)
  ends_off none (at_last {x = x} f e) ne = at_last (same.slots x ne ∙ f) (same.redirects x ne ∙ e)
  ends_off none (on {x = x} {t = t} f e r) ne = ⊎_elim
      (λ is. absurd (let at = subst (λ z. finite.get g.redirects z ≡ Some t) is e in cc))
      (λ other. on (same.slots x other ∙ f) (same.redirects x other ∙ e) (ends_off none r ne))
      (cases_text x a)
