-- A budget that a call has spent is one that turns go over.
use Rattle.std.proofs.Common.{◌≡◌, ◌≤◌, ◌+◌, ⊎_elim, ℕ, List, Option, Some, ap, sym, subst, ◌∙◌, arith}
use Rattle.url.specs.Parts.{Parts}
use Rattle.source_io.specs.declared.types.World.{World}
use Rattle.import_records.specs.Target.{Resolving}
use Rattle.graph_core.specs.declared.graph.ModuleGraph.{ModuleGraph}
use Rattle.graph_dependencies.specs.declared.graph_kind.GraphKind.{GraphKind}
use Rattle.graph_turns.specs.declared.starting.ResolvedStart.{ResolvedStart}
use Rattle.graph_turns.specs.declared.state.State.{State}
use Rattle.graph_turns.specs.declared.unresolved_input.LeftOver.{LeftOver}
use Rattle.graph_turns.specs.Machine.Known.{Known}
use Rattle.graph_turns.specs.Machine.Entering.{begun_at}
use Rattle.module_slots.specs.declared.load.Load.{Load}
use Rattle.graph_builder.specs.Calls.Over.{AreOutset, entered}
use Rattle.graph_turns.specs.Machine.Next.{next_of}
use Rattle.graph_turns.specs.Machine.Runs.{begun_over, known_for, setting_for}
use Rattle.graph_turns.specs.Machine.Starting.{IsResolved, told_start}
use Rattle.graph_turns.specs.Machine.Turns.{PutsAtLeast, PutsOver, put_by}
use Rattle.graph_turns.specs.Promise.Told.{Told}
use Rattle.graph_turns.proofs.Entering.Resting.{put_more}
use Rattle.open_loads.specs.Budget.Open.{open_by}
use Rattle.open_loads.specs.Budget.Runs.{IsOver}
use Rattle.graph_builder.specs.Calls.Builds.{GoesBy, IsTurning, IsWaiting}
use Rattle.graph_builder.specs.Calls.Steps.{BuildState, IsGoing}
use Rattle.open_loads.specs.Order.Asking.{IsNext}
use Rattle.open_loads.specs.Order.OpenLoads.{OpenLoads, known_now}
use Rattle.open_loads.specs.Order.Means.{IsMeant, IsTold, Means}
use Rattle.graph_builder.proofs.Budget.Spent.{known_of, next_put, turns_over}
use Rattle.graph_builder.proofs.Calls.Builds.{by_world}
use Rattle.graph_builder.proofs.Calls.Entered.{held_over, held_entering, named_over, named_entering}
use Rattle.graph_builder.proofs.Calls.Going.{all_within}
use Rattle.graph_builder.proofs.Calls.Meant.{means_are, told_means}

module _ (told : Option World) (means : Means) (w : Told) (kind : GraphKind) (tells : IsTold told means w kind) (known : Known) (most budget : ℕ) (known_is : known ≡ w.known) (most_is : most ≡ w.world.max_redirects) where
  -- by all that is told
  over_all : (start : Known → State) → IsOver most known told means (start known) budget → IsOver w.world.max_redirects w.known (Some w.world) (told_means w kind) (start w.known) budget
  over_all start over =
      subst (λ (n : ℕ). IsOver n w.known (Some w.world) (told_means w kind) (start w.known) budget) most_is
      (subst (λ (k : Known). IsOver most k (Some w.world) (told_means w kind) (start k) budget) known_is
      (subst (λ (m : Means). IsOver most known (Some w.world) m (start known) budget) (means_are means w kind tells.meant)
      (subst (λ (o : Option World). IsOver most known o means (start known) budget) tells.answers over)))

  -- that of a build
  pub build_over : (g : ModuleGraph) (given : LeftOver) (start : ResolvedStart) → IsResolved (Some w.resolving) given start → IsOver most known told means (begun_over known g start) budget → PutsOver w kind (begun_over w.known g (told_start w given)) budget
  build_over g given start resolved over =
      let same = by_world w given start resolved in
      subst (λ (x : ResolvedStart). PutsOver w kind (begun_over w.known g x) budget) same
      (turns_over w kind (begun_over w.known g start) budget (record { held = held_over w.known g start; named = named_over w.known g start }) (over_all (λ k. begun_over k g start) over))

  -- that of a call whose loads enter
  pub entered_over : (g : ModuleGraph) (due : List Load) → AreOutset due → IsOver most known told means (begun_at known (entered g due)) budget → PutsOver w kind (begun_at w.known (entered g due)) budget
  entered_over g due outset over =
      turns_over w kind (begun_at w.known (entered g due)) budget (record { held = held_entering w.known g due outset; named = named_entering w.known g due }) (over_all (λ k. begun_at k (entered g due)) over)

abbrev start_here : Told → ModuleGraph → LeftOver → State
start_here w g given = begun_over w.known g (told_start w given)

module _ {O : Type 0} (w : Told) (g : ModuleGraph) (given : LeftOver) where
  -- as many questions as a build has handed out are put by turns
  by_turning : (b : BuildState O) → IsGoing b → b.turns.known ≡ w.known → IsTurning w g given b → PutsAtLeast w g.kind (start_here w g given) 0 b.turns.taken
  by_turning b going known_is turning =
      let d = turning.drives in
      let s = b.turns.state in
      let known : known_now b.turns ≡ known_of w g.kind s = ap (λ (k : Known). known_for k s.run) known_is in
      let next = subst (λ (k : Known). IsNext (Some w.world) k w.registry s b.turns.stage) known d.next in
      let order = going.in_order in
      let rest = next_put w g.kind s b.turns.stage next (record { held = order.held; named = order.named }) in
      let due = all_within (Some w.world) (known_now b.turns) w.registry (setting_for s.run) b.turns b.turns.stage d.next order.fits d.ahead d.wanted in
      let open_same = ap (λ (k : Known). open_by k w.registry s (next_of s)) known in
      let whole = put_more w g.kind rest.count d.turn_count (start_here w g given) in
      let at = ap (put_by w g.kind rest.count) (sym d.state_is) in
      let puts = rest.puts in
      let count = d.count in
      let numbers = order.numbered.numbers in
      record { count = rest.count + d.turn_count; enough = omega (arith, due, open_same, whole, at, puts, count, numbers) }

  by_waiting : (b : BuildState O) → IsWaiting g given b → PutsAtLeast w g.kind (start_here w g given) 0 b.turns.taken
  by_waiting b waits =
      let none : b.turns.taken ≡ 0 = ap (λ (t : OpenLoads). t.taken) waits.turns_are in
      record { count = 0; enough = omega (arith, none) }

  pub taken_put : (b : BuildState O) → IsGoing b → GoesBy w g given b → PutsAtLeast w g.kind (start_here w g given) 0 b.turns.taken
  taken_put b going goes = ⊎_elim (by_waiting b) (by_turning b going goes.known_is) goes.phase

-- as many as a loader was asked meanwhile
pub asked_put : (w : Told) (kind : GraphKind) (start : State) (before now taken : ℕ) → PutsAtLeast w kind start 0 taken → now ≤ before + taken → PutsAtLeast w kind start before now
asked_put w kind start before now taken put within = let enough = put.enough in record { count = put.count; enough = omega (arith, enough, within) }
