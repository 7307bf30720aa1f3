use Rattle.std.proofs.Common.{◌≡◌, ◌+◌, ◌≤◌, ◌∙◌, ℕ, List, [], ◌∷◌, length, refl, sym, ap, arith, subst, inl}
use Rattle.source_io.specs.Tickets.{IsPut}
use Rattle.source_io.specs.declared.types.World.{World}
use Rattle.graph_core.specs.declared.graph.ModuleGraph.{ModuleGraph}
use Rattle.std.specs.Prelude.{Option}
use Rattle.turn_laws.specs.Budget.Covers.{enough}
use Rattle.graph_builder.specs.Calls.Builds.{BuildsOn}
use Rattle.graph_builder.specs.Calls.Makers.{directions_in, means_in}
use Rattle.open_loads.specs.Order.Means.{Directions, IsTold, Means}
use Rattle.graph_builder.proofs.Calls.Keeps.{build_keeps, build_kept, loader_keeps, loader_kept, same_means}
use Rattle.graph_builder.proofs.Calls.Started.{matches_none}
use Rattle.graph_builder.proofs.Order.Matching.{none_flies}
use Rattle.graph_store.specs.Stores.{entries_in}
use Rattle.store_turns.proofs.Going.{going_as, going_more, going_none}
use Rattle.store_turns.proofs.Reaching.{reached_as, reached_more, reached_none, same_directions}
use Rattle.store_turns.proofs.driven.run_turns.Goals as goal

put_as : (n m before now : ℕ) → IsPut n before now → n ≡ m → IsPut m before now
put_as n m before now p e = subst (λ (k : ℕ). IsPut k before now) e p

none_open : {A : Type 0} (xs : List A) → length xs ≡ 0 → xs ≡ []
none_open [] e = refl
none_open (x ∷ xs) e = absurd (omega arith)

pub turns-init : goal.turns-init
turns-init g c =
    let none = ap length c.requires.closed in
    record {
      going = c.requires.going;
      matches = matches_none _ c.args.build.now.turns c.requires.closed c.requires.none_taken;
      counted = c.requires.none_taken;
      most = c.requires.budget;
      asked = inl (omega arith);
      opened = omega (arith, none);
      goes = going_none _ _ _ _;
      reached = reached_none _ _ _ _ _;
      builds = λ graph given on. on;
      below = omega arith;
      keeps = build_kept c.args.build.now;
      loader = loader_kept g.L.LoaderCore.world g.L.LoaderCore.may_fail g.L.LoaderCore.caches g.L.LoaderCore.faults c.args.recorder.now.inner;
    }

pub overflow_add-answered : goal.overflow_add-answered
overflow_add-answered g c =
    let inv = c.turns.invariant in
    let e = c.in-Ok.ensures in
    let open_now = e.opened c.turns.answered inv.opened in
    let closed = c.in-Ok-answer_one.ensures.closed in
    let within = e.going.in_order.numbered.in_budget in
    let budget = e.budget in
    omega arith

pub turns-smaller : goal.turns-smaller
turns-smaller g c =
    let inv = c.turns.invariant in
    let e = c.in-Ok.ensures in
    let open_now = e.opened c.turns.answered inv.opened in
    let closed = c.in-Ok-answer_one.ensures.closed in
    let within = e.going.in_order.numbered.in_budget in
    let budget = e.budget in
    omega arith

pub returns-then-open_len-eq0-clause-done : goal.returns-then-open_len-eq0-clause-done
returns-then-open_len-eq0-clause-done g c =
    let e = c.in-Ok.ensures in
    e.done (none_flies _ c.ask_all.new.build.turns (none_open _ (sym c.open_len.ensures ∙ c.if-open_len-eq0.true)) e.matches)

pub returns-then-open_len-eq0-clause-counted : goal.returns-then-open_len-eq0-clause-counted
returns-then-open_len-eq0-clause-counted g c =
    let inv = c.turns.invariant in
    let e = c.in-Ok.ensures in
    let within = e.going.in_order.numbered.in_budget in
    let budget = e.budget in
    let counted = e.counted in
    (counted, omega arith, put_as _ _ _ _ (e.asked _ inv.asked) counted)

pub returns-then-open_len-eq0-clause-goes : goal.returns-then-open_len-eq0-clause-goes
returns-then-open_len-eq0-clause-goes g c =
    let inv = c.turns.invariant in
    let world = g.L.LoaderCore.world c.args.recorder.now.inner in
    let means = means_in g.S.Analyze.ModuleAnalyzer.infos g.S.Tree.FileTree.paths g.S.Urls.JsrUrlProvider.meaning g.S.Resolve.Resolver.is_told g.S.Resolve.Resolver.meaning c.args.build.now in
    let same = same_means g.S.Analyze.ModuleAnalyzer.infos g.S.Tree.FileTree.paths g.S.Urls.JsrUrlProvider.meaning g.S.Resolve.Resolver.is_told g.S.Resolve.Resolver.meaning c.args.build.now c.turns.build inv.keeps in
    going_more world means (entries_in c.args.recorder.now.store) (entries_in c.turns.recorder.store) (entries_in c.ask_all.new.recorder.store) c.args.build.now c.turns.build c.ask_all.new.build inv.goes
    (going_as world _ means _ _ _ _ _ inv.loader.same_world same c.in-Ok.ensures.goes)

pub returns-in-Err-clause-over : goal.returns-in-Err-clause-over
returns-in-Err-clause-over g c = λ is. c.in-Err.ensures.over is _ c.turns.invariant.asked

pub turns-preserved : goal.turns-preserved
turns-preserved g c =
    let inv = c.turns.invariant in
    let e = c.in-Ok.ensures in
    let f = c.in-Ok-answer_one.ensures in
    let world = g.L.LoaderCore.world c.args.recorder.now.inner in
    let means = means_in g.S.Analyze.ModuleAnalyzer.infos g.S.Tree.FileTree.paths g.S.Urls.JsrUrlProvider.meaning g.S.Resolve.Resolver.is_told g.S.Resolve.Resolver.meaning c.args.build.now in
    let to_ask = loader_keeps g.L.LoaderCore.world g.L.LoaderCore.may_fail g.L.LoaderCore.caches g.L.LoaderCore.faults c.args.recorder.now.inner c.turns.recorder.inner c.ask_all.new.recorder.inner inv.loader c.ask_all.ensures.loader in
    let kept = build_keeps c.args.build.now c.turns.build c.ask_all.new.build inv.keeps c.ask_all.ensures.keeps in
    let same_first = same_means g.S.Analyze.ModuleAnalyzer.infos g.S.Tree.FileTree.paths g.S.Urls.JsrUrlProvider.meaning g.S.Resolve.Resolver.is_told g.S.Resolve.Resolver.meaning c.args.build.now c.turns.build inv.keeps in
    let same_then = same_means g.S.Analyze.ModuleAnalyzer.infos g.S.Tree.FileTree.paths g.S.Urls.JsrUrlProvider.meaning g.S.Resolve.Resolver.is_told g.S.Resolve.Resolver.meaning c.args.build.now c.ask_all.new.build kept in
    let asked = going_more world means (entries_in c.args.recorder.now.store) (entries_in c.turns.recorder.store) (entries_in c.ask_all.new.recorder.store) c.args.build.now c.turns.build c.ask_all.new.build inv.goes
    (going_as world _ means _ _ _ _ _ inv.loader.same_world same_first e.goes) in
    let open_now = e.opened c.turns.answered inv.opened in
    let closed = f.closed in
    let counted = e.counted in
    let within_ask = e.below in
    let below = inv.below in
    let still = c.answer_one.ensures.uncounted in
    let by_first = same_directions g.S.Urls.JsrUrlProvider.meaning g.S.Resolve.Resolver.is_told g.S.Resolve.Resolver.meaning c.args.build.now c.turns.build inv.keeps in
    let by_then = same_directions g.S.Urls.JsrUrlProvider.meaning g.S.Resolve.Resolver.is_told g.S.Resolve.Resolver.meaning c.args.build.now c.ask_all.new.build kept in
    record {
      going = f.going;
      matches = f.matches;
      counted = f.same_taken ∙ counted;
      most = f.same_budget ∙ e.budget;
      asked = put_as _ _ _ _ (subst (λ (n : ℕ). IsPut c.ask_all.new.build.turns.taken (g.L.LoaderCore.asked c.args.recorder.now.inner) n) (sym c.answer_one.ensures.uncounted) (e.asked _ inv.asked)) counted;
      opened = omega arith;
      goes = going_more world means (entries_in c.args.recorder.now.store) (entries_in c.ask_all.new.recorder.store) (entries_in c.answer_one.new.recorder.store) c.args.build.now c.ask_all.new.build c.answer_one.new.build asked
          (going_as world _ means _ _ _ _ _ to_ask.same_world same_then f.goes);
      reached = reached_more world means _ _ _ _ _ _ c.args.build.now c.ask_all.new.build asked
          (reached_more world means _ _ _ _ _ _ c.args.build.now c.turns.build inv.goes inv.reached (reached_as world _ means _ _ _ _ _ _ inv.loader.same_world same_first e.reached))
          (reached_as world _ means _ _ _ _ _ _ to_ask.same_world same_then f.reached);
      builds = λ graph given on.
          let before = subst (λ (d : Directions). BuildsOn d graph given c.ask_all.new.build) by_first (e.builds graph given (subst (λ (d : Directions). BuildsOn d graph given c.turns.build) (sym by_first) (inv.builds graph given on))) in
          subst (λ (d : Directions). BuildsOn d graph given c.answer_one.new.build) by_then (f.builds graph given (subst (λ (d : Directions). BuildsOn d graph given c.ask_all.new.build) (sym by_then) before));
      below = omega (arith, within_ask, below, still);
      keeps = build_keeps c.args.build.now c.ask_all.new.build c.answer_one.new.build kept c.answer_one.ensures.keeps;
      loader = loader_keeps g.L.LoaderCore.world g.L.LoaderCore.may_fail g.L.LoaderCore.caches g.L.LoaderCore.faults c.args.recorder.now.inner c.ask_all.new.recorder.inner c.answer_one.new.recorder.inner to_ask c.answer_one.ensures.loader;
    }

pub returns-then-open_len-eq0-clause-reached : goal.returns-then-open_len-eq0-clause-reached
returns-then-open_len-eq0-clause-reached g c =
    let inv = c.turns.invariant in
    let world = g.L.LoaderCore.world c.args.recorder.now.inner in
    let means = means_in g.S.Analyze.ModuleAnalyzer.infos g.S.Tree.FileTree.paths g.S.Urls.JsrUrlProvider.meaning g.S.Resolve.Resolver.is_told g.S.Resolve.Resolver.meaning c.args.build.now in
    let same = same_means g.S.Analyze.ModuleAnalyzer.infos g.S.Tree.FileTree.paths g.S.Urls.JsrUrlProvider.meaning g.S.Resolve.Resolver.is_told g.S.Resolve.Resolver.meaning c.args.build.now c.turns.build inv.keeps in
    reached_more world means _ _ _ _ _ _ c.args.build.now c.turns.build inv.goes inv.reached (reached_as world _ means _ _ _ _ _ _ inv.loader.same_world same c.in-Ok.ensures.reached)

pub returns-then-open_len-eq0-clause-builds : goal.returns-then-open_len-eq0-clause-builds
returns-then-open_len-eq0-clause-builds g c = λ graph given on.
    let inv = c.turns.invariant in
    let by = same_directions g.S.Urls.JsrUrlProvider.meaning g.S.Resolve.Resolver.is_told g.S.Resolve.Resolver.meaning c.args.build.now c.turns.build inv.keeps in
    subst (λ (d : Directions). BuildsOn d graph given c.ask_all.new.build) by (c.in-Ok.ensures.builds graph given (subst (λ (d : Directions). BuildsOn d graph given c.turns.build) (sym by) (inv.builds graph given on)))

pub returns-then-open_len-eq0-clause-within : goal.returns-then-open_len-eq0-clause-within
returns-then-open_len-eq0-clause-within g c =
    let inv = c.turns.invariant in
    let e = c.in-Ok.ensures in
    omega (arith, inv.below, e.below, e.counted, e.going.in_order.numbered.in_budget, e.budget)

pub returns-in-Err-clause-within : goal.returns-in-Err-clause-within
returns-in-Err-clause-within g c =
    let inv = c.turns.invariant in
    omega (arith, inv.below, c.ask_all.ensures.within)

pub returns-in-Err-answer_one-clause-within : goal.returns-in-Err-answer_one-clause-within
returns-in-Err-answer_one-clause-within g c =
    let inv = c.turns.invariant in
    let e = c.in-Ok.ensures in
    omega (arith, inv.below, e.below, e.counted, e.going.in_order.numbered.in_budget, e.budget, c.answer_one.ensures.uncounted)

pub returns-in-Err-clause-room : goal.returns-in-Err-clause-room
returns-in-Err-clause-room g c = λ told graph given questions tells goes covers within.
    let inv = c.turns.invariant in
    let same = same_means g.S.Analyze.ModuleAnalyzer.infos g.S.Tree.FileTree.paths g.S.Urls.JsrUrlProvider.meaning g.S.Resolve.Resolver.is_told g.S.Resolve.Resolver.meaning c.args.build.now c.turns.build inv.keeps in
    let there = subst (λ (o : Option World). IsTold o (means_in g.S.Analyze.ModuleAnalyzer.infos g.S.Tree.FileTree.paths g.S.Urls.JsrUrlProvider.meaning g.S.Resolve.Resolver.is_told g.S.Resolve.Resolver.meaning c.turns.build) told graph.kind) (sym inv.loader.same_world) (subst (λ (m : Means). IsTold (g.L.LoaderCore.world c.args.recorder.now.inner) m told graph.kind) (sym same) tells) in
    c.in-Err.ensures.room told graph given questions there (inv.goes.by_world told graph given tells goes) covers (subst (λ (n : ℕ). enough graph given questions ≤ n) (c.requires.budget ∙ sym inv.most) within)

pub returns-in-Err-answer_one-clause-room : goal.returns-in-Err-answer_one-clause-room
returns-in-Err-answer_one-clause-room g c = λ told graph given questions tells goes covers within. c.in-Err-answer_one.ensures.no_budget
