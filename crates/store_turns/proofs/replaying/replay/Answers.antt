use Rattle.std.specs.Prelude.{IfSome}
use Rattle.std.proofs.Common.{◌≡◌, ◌∙◌, ◌≤◌, ℕ, Bool, true, false, Option, Some, refl, sym, ap, subst}
use Rattle.source_io.specs.Tickets.{IsPut}
use Rattle.source_io.specs.declared.types.World.{World}
use Rattle.source_sums.specs.Sums.{KnownSums}
use Rattle.metadata_store.specs.declared.store.JsrMetadataStore.{JsrMetadataStore}
use Rattle.graph_core.specs.Graph.{new_graph}
use Rattle.graph_core.specs.declared.graph.ModuleGraph.{ModuleGraph}
use Rattle.graph_turns.specs.Machine.Redirects.{HasNoCircle}
use Rattle.graph_turns.specs.Machine.Runs.{begun_over}
use Rattle.graph_turns.specs.Machine.Starting.{told_start}
use Rattle.graph_turns.specs.Machine.Turns.{IsTurnedFrom, TellsTurns, begun}
use Rattle.graph_turns.specs.Promise.Input.{Given}
use Rattle.graph_turns.specs.Promise.Runs.{left_of}
use Rattle.graph_turns.specs.Promise.Told.{Told}
use Rattle.turn_laws.proofs.Leading.Circles.{new_no_circle}
use Rattle.build_options.specs.Telling.{Telling, Tells}
use Rattle.graph_turns.specs.Machine.Known.{Known}
use Rattle.store_turns.specs.Inputs.{given_in}
use Rattle.graph_builder.proofs.Budget.Ran.{memory_left}
use Rattle.store_turns.proofs.Ends.{leave_alike}
use Rattle.store_turns.proofs.Left.{unnoted}
use Rattle.store_turns.proofs.Spent.{never_over}
use Rattle.store_turns.proofs.replaying.replay.Goals as goal

-- by the empty graph itself, from no questions on
turned_fresh : (told : Told) (given : Given) (graph g : ModuleGraph) (now_known : Option KnownSums) (store : Option JsrMetadataStore) (before zero_put now : ℕ) → graph ≡ new_graph given.kind → before ≡ zero_put
    → TellsTurns told graph.kind (begun_over told.known graph (told_start told (left_of given))) g now_known store before now → TellsTurns told given.kind (begun told given) g now_known store zero_put now
turned_fresh told given graph g now_known store before zero_put now fresh none turned =
    subst (λ (n : ℕ). TellsTurns told given.kind (begun told given) g now_known store n now) none
    (subst (λ (x : ModuleGraph). TellsTurns told x.kind (begun_over told.known x (told_start told (left_of given))) g now_known store before now) fresh turned)

-- two builds by the same turns
same_turned : (told : Told) (given : Given) (g h : ModuleGraph) (sums : Option KnownSums) (own : Option JsrMetadataStore) (put : ℕ) (now_known : Option KnownSums) (store : Option JsrMetadataStore) (before now : ℕ)
    → IsTurnedFrom told given.kind (begun told given) g sums own put → TellsTurns told given.kind (begun told given) h now_known store before now → (h ≡ g) × IsPut put before now
same_turned told given g h sums own put now_known store before now first turned =
    let second = turned.1 in
    let alike = leave_alike told given.kind (begun told given) g h sums turned.0 own store put second.0 first second.1 in
    (alike.graphs, subst (λ (n : ℕ). IsPut n before now) alike.put second.2)

by_name : (world as_world : Option World) (telling : Telling) (known : Known) (told : Told) → as_world ≡ world → Tells world telling known told → Tells as_world telling known told
by_name world as_world telling known told same tells = subst (λ (o : Option World). Tells o telling known told) (sym same) tells

pub returns-in-Ok-clause-turned : goal.returns-in-Ok-clause-turned
returns-in-Ok-clause-turned g c = λ told tells npm.
    let fresh = c.new-graph.ensures in
    turned_fresh told (given_in c.args.input) c.new-graph.result _ _ _ _ _ _ fresh c.new-loader.ensures.asked
    (unnoted (c.in-Ok.ensures.turned (subst HasNoCircle (sym fresh) (new_no_circle c.args.input.kind)) told (by_name _ _ _ _ told c.new-loader.ensures.world tells) npm))

pub returns-in-Ok-clause-same : goal.returns-in-Ok-clause-same
returns-in-Ok-clause-same g c = λ told graph sums own put tells npm first.
    same_turned told (given_in c.args.input) graph _ sums own put _ _ _ _ first (returns-in-Ok-clause-turned g c told tells npm)

pub returns-clause-no_fault : goal.returns-clause-no_fault
returns-clause-no_fault g c = λ is. absurd (let never = c.in-Err.ensures.allowed is in cc)

pub returns-clause-memory : goal.returns-clause-memory
returns-clause-memory g c = λ told graph sums own put tells first within.
    memory_left _
    (λ budget.
    never_over _ _ told (given_in c.args.input) c.new-graph.result _ _ c.args.input.options.max_loads graph sums own put c.new-loader.ensures.world tells c.new-graph.ensures (c.in-Err.ensures.over_told budget) first within)
    (λ is. absurd (let never = c.in-Err.ensures.allowed is in cc))
