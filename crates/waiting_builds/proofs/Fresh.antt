-- A build of the empty graph through a pool, by one over a loader that waits.
use Rattle.std.proofs.Common.{◌≡◌, ◌≤◌, ◌+◌, ℕ, List, Option, Some, None, sym, subst, arith}
use Rattle.std.specs.FinMap as finite
use Rattle.std.specs.FinMap.{get-empty}
use Rattle.spec_base.specs.Shown.{text_cmp}
use Rattle.source_sums.specs.Sums.{KnownSums}
use Rattle.metadata_store.specs.declared.store.JsrMetadataStore.{JsrMetadataStore}
use Rattle.spec_base.specs.Counters.{Rose}
use Rattle.source_io.specs.declared.types.World.{World}
use Rattle.graph_dependencies.specs.declared.graph_kind.GraphKind.{GraphKind}
use Rattle.graph_core.specs.declared.graph.ModuleGraph.{ModuleGraph}
use Rattle.module_slots.specs.declared.slot.ModuleSlot.TheVariants.{Pending}
use Rattle.graph_core.specs.Graph.{new_graph}
use Rattle.registry_urls.specs.Meaning.{RegistryMeaning}
use Rattle.turn_laws.specs.Budget.Asked.{AsksOnce}
use Rattle.graph_turns.specs.Machine.Known.{Known}
use Rattle.graph_turns.specs.declared.state.State.{State}
use Rattle.graph_turns.specs.Machine.Redirects.{HasNoCircle}
use Rattle.graph_turns.specs.Machine.Turns.{TellsTurns}
use Rattle.turn_laws.specs.Promise.Complete.{NonePending}
use Rattle.graph_turns.specs.Promise.Told.{Told}
use Rattle.turn_laws.proofs.Leading.Circles.{new_no_circle}
use Rattle.build_options.specs.Telling.{Telling, Tells}

-- the empty graph has no redirects
pub fresh_no_circle : (g : ModuleGraph) → g ≡ new_graph g.kind → HasNoCircle g
fresh_no_circle g fresh = subst HasNoCircle (sym fresh) (new_no_circle g.kind)

nothing_in_empty : {X : Type 0} (k : List ℕ) (x : X) → finite.get (finite.empty {X = X} {R = text_cmp}) k ≡ Some x → ⊥
nothing_in_empty {X} k x e = let none = get-empty {X = X} text_cmp k in cc

new_none_pending : (kind : GraphKind) → NonePending (new_graph kind)
new_none_pending kind = λ k asset e. nothing_in_empty k (Pending asset) e

-- and nothing is pending in it
pub fresh_none_pending : (g : ModuleGraph) → g ≡ new_graph g.kind → NonePending g
fresh_none_pending g fresh = subst NonePending (sym fresh) (new_none_pending g.kind)

-- what tells by the same world
pub tells_by : (own given : Option World) (telling : Telling) (known : Known) (told : Told) → own ≡ given → Tells given telling known told → Tells own telling known told
tells_by own given telling known told same tells = subst (λ (w : Option World). Tells w telling known told) (sym same) tells

-- a count of faults that stays 0 doesn't rise
pub never_rises : Rose 0 0 → ⊥
never_rises rose = omega (arith, rose)

-- so many questions were put since a count stood at 0
pub asks_from : (registry : RegistryMeaning) (g : ModuleGraph) (before now most : ℕ) → before ≡ 0 → now ≤ before + most → AsksOnce registry g before now → (asked : ℕ) × AsksOnce registry g 0 asked × (asked ≤ most)
asks_from registry g before now most none within asks = (now, subst (λ (n : ℕ). AsksOnce registry g n now) none asks, omega (arith, none, within))

-- turns put as many since a count stood at 0
pub turned_from : (told : Told) (kind : GraphKind) (start : State) (g : ModuleGraph) (sums : Option KnownSums) (store : Option JsrMetadataStore) (before now : ℕ) → before ≡ 0 → TellsTurns told kind start g sums store before now → (asked : ℕ) × TellsTurns told kind start g sums store 0 asked
turned_from told kind start g sums store before now none turned = (now, subst (λ (n : ℕ). TellsTurns told kind start g sums store n now) none turned)
