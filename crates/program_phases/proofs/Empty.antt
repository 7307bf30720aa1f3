-- The empty graph, over which a build begins.
use Rattle.std.proofs.Common.{◌≡◌, ℕ, List, Some, sym, ap, subst, ◌∙◌}
use Rattle.std.specs.FinMap as finite
use Rattle.std.specs.FinMap.{get-empty}
use Rattle.spec_base.specs.Shown.{text_cmp}
use Rattle.graph_core.specs.declared.graph.ModuleGraph.{ModuleGraph}
use Rattle.graph_dependencies.specs.declared.graph_kind.GraphKind.{GraphKind}
use Rattle.module_slots.specs.declared.slot.ModuleSlot.TheVariants.{Pending}
use Rattle.graph_core.specs.Graph.{new_graph}
use Rattle.graph_turns.specs.Machine.Redirects.{RedirectsLead, HasNoCircle}
use Rattle.graph_turns.specs.Machine.Redirects.RedirectsLead.{last, onward}
use Rattle.turn_laws.specs.Promise.Complete.{NonePending}

-- it is the empty graph of its own kind
pub own_kind : (g : ModuleGraph) (kind : GraphKind) → g ≡ new_graph kind → g ≡ new_graph g.kind
own_kind g kind fresh = fresh ∙ ap (λ (x : ModuleGraph). new_graph x.kind) (sym fresh)

nothing_in_empty : {X : Type 0} (k : List ℕ) (x : X) → finite.get (finite.empty {X = X} {R = text_cmp}) k ≡ Some x → ⊥
nothing_in_empty {X} k x e = let none = get-empty {X = X} text_cmp k in cc

new_no_circle : (kind : GraphKind) → HasNoCircle (new_graph kind)
new_no_circle kind s t (last {t = u} h e) same = nothing_in_empty _ u e
new_no_circle kind s t (onward {t = u} h e r) same = nothing_in_empty _ u e

-- it has no redirects
pub fresh_no_circle : (g : ModuleGraph) (kind : GraphKind) → g ≡ new_graph kind → HasNoCircle g
fresh_no_circle g kind fresh = subst HasNoCircle (sym fresh) (new_no_circle kind)

new_none_pending : (kind : GraphKind) → NonePending (new_graph kind)
new_none_pending kind = λ k asset e. nothing_in_empty k (Pending asset) e

-- and nothing is pending
pub fresh_none_pending : (g : ModuleGraph) (kind : GraphKind) → g ≡ new_graph kind → NonePending g
fresh_none_pending g kind fresh = subst NonePending (sym fresh) (new_none_pending kind)
