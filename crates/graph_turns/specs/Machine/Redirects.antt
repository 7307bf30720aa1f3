-- Known redirects, followed to their end, and how an answer's name becomes one.
use Rattle.std.specs.Prelude.{◌≡◌, ℕ, suc, zero, Bool, false, not, ◌&&◌, List, [], ◌∷◌, ◌++◌, Option, None, Some, is_some, if◌then◌else◌}
use Rattle.std.specs.FinMap as finite
use Rattle.std.specs.List.{list_any}
use Rattle.url.specs.Parts.{Parts}
use Rattle.spec_base.specs.Options.{by_option}
use Rattle.spec_base.specs.Specifier.{same_specifier, specifier_text}
use Rattle.graph_core.specs.declared.graph.ModuleGraph.{ModuleGraph}
use Rattle.graph_core.specs.Graph.{slot_at, has_slot, redirect_at, with_redirect, without_slot}
use Rattle.module_slots.specs.Slots.{is_pending, is_pending_at}
use Rattle.module_slots.specs.declared.slot.ModuleSlot.{ModuleSlot}

-- where a known redirect leads on from a specifier: none does from one with a slot
abbrev pub onward_at : ModuleGraph → Parts → Option Parts
onward_at g s = if has_slot g s then None else redirect_at g s

-- along known redirects to a slot, to where none goes on, or to the last specifier before one that was met, n of them at most
unfoldable pub follow : ModuleGraph → ℕ → List Parts → Parts → Parts
follow g zero met s = s
follow g (suc n) met s = by_option (onward_at g s) s (λ t. if list_any (same_specifier t) met then s else follow g n (met ++ t ∷ []) t)

-- the end of the known redirects from a specifier on: on a circle without a slot, the last specifier before a repeat
abbrev pub redirected_end : ModuleGraph → Parts → Parts
redirected_end g s = follow g (finite.len g.redirects) (s ∷ []) s

-- a graph with neither slot nor redirect at a specifier
abbrev pub unknown_at : ModuleGraph → Parts → ModuleGraph
unknown_at g s = record g { slots = finite.remove g.slots (specifier_text s); redirects = finite.remove g.redirects (specifier_text s) }

-- whether the known redirects lead from a name back to the asked specifier, whose own slot and redirect don't count
abbrev pub leads_back : ModuleGraph → Parts → Parts → Bool
leads_back g asked n = same_specifier (redirected_end (unknown_at g asked) n) asked

-- a slot that isn't pending stands there
abbrev pub is_settled : Option ModuleSlot → Bool
is_settled None = false
is_settled (Some slot) = not (is_pending slot)

-- the asked specifier is redirected: its slot goes where it is pending; an earlier redirect stays where a slot that isn't pending
-- stands there, else the new one takes its place
abbrev pub moved : ModuleGraph → Parts → Parts → ModuleGraph
moved g asked n =
    if is_settled (slot_at g asked) && is_some (redirect_at g asked) then g
    else with_redirect (if is_pending_at (slot_at g asked) then without_slot g asked else g) asked n

-- an answer that is named otherwise than asked redirects the asked specifier
abbrev pub renamed : ModuleGraph → Parts → Parts → ModuleGraph
renamed g asked n = if same_specifier asked n then g else moved g asked n

-- ---- circles

-- redirects lead from one specifier to another, and no slot stands at one that they lead on from
pub data RedirectsLead (g : ModuleGraph) : Parts → Parts → Type 0 where
  last : {s t : Parts} → has_slot g s ≡ false → redirect_at g s ≡ Some t → RedirectsLead g s t
  onward : {s t d : Parts} → has_slot g s ≡ false → redirect_at g s ≡ Some t → RedirectsLead g t d → RedirectsLead g s d

-- each circle of redirects has a slot on it
abbrev pub HasNoCircle : ModuleGraph → Type 0
HasNoCircle g = (s t : Parts) → RedirectsLead g s t → specifier_text s ≡ specifier_text t → ⊥
