use Rattle.std.proofs.Common.{◌≡◌, ℕ, sym, arith, subst, Option, None}
use Rattle.source_io.specs.Tickets.{IsPut}
use Rattle.source_io.specs.declared.types.World.{World}
use Rattle.open_loads.specs.Order.Means.{Means, untold}
use Rattle.graph_builder.specs.Calls.Driven.{IsLater}
use Rattle.graph_builder.specs.Calls.Makers.{means_in}
use Rattle.graph_turns.specs.Machine.Runs.{begun_over}
use Rattle.graph_turns.specs.Machine.Starting.{told_start}
use Rattle.graph_builder.proofs.Calls.Driven.{later_more, over_before}
use Rattle.graph_builder.proofs.Calls.Spending.{asked_put, taken_put}
use Rattle.graph_builder.proofs.Calls.Keeps.{build_keeps, loader_keeps, same_means}
use Rattle.graph_builder.proofs.running.run_turns.Goals as goal

put_as : (n m before now : ℕ) → IsPut n before now → n ≡ m → IsPut m before now
put_as n m before now p e = subst (λ (k : ℕ). IsPut k before now) e p

pub returns-in-Err-clause-budget : goal.returns-in-Err-clause-budget
returns-in-Err-clause-budget g c = λ is.
    let inv = c.turns.invariant in
    put_as c.turns.build.turns.max_loads _ _ _ (c.in-Err.ensures.counted_over is _ inv.counted) inv.later.budget

pub returns-in-Err-clause-over : goal.returns-in-Err-clause-over
returns-in-Err-clause-over g c = λ is.
    let told = g.L.LoaderCore.world c.args.loader.now in
    let means = means_in g.S.Analyze.ModuleAnalyzer.infos g.S.Tree.FileTree.paths g.S.Urls.JsrUrlProvider.meaning g.S.Resolve.Resolver.is_told g.S.Resolve.Resolver.meaning c.args.build.now in
    over_before told means c.args.build.now c.turns.build c.turns.invariant.later (c.in-Err.ensures.over is told means)

pub returns-then-open_len-eq0-clause-later : goal.returns-then-open_len-eq0-clause-later
returns-then-open_len-eq0-clause-later g c = later_more _ _ c.args.build.now c.turns.build c.ask_all.new.build c.turns.invariant.later (c.in-Ok.ensures.asked.later _ _)

pub returns-then-open_len-eq0-clause-counted : goal.returns-then-open_len-eq0-clause-counted
returns-then-open_len-eq0-clause-counted g c = c.in-Ok.ensures.counted _ c.turns.invariant.counted

pub answer_one-requires-clause-begun : goal.answer_one-requires-clause-begun
answer_one-requires-clause-begun g c = (c.in-Ok.ensures.asked.later None (untold (g.S.Urls.JsrUrlProvider.meaning c.args.build.now.options.jsr_url_provider.now) c.args.build.now.options.jsr_version_resolver.now.newest_dependency_date_options)).begun

pub overflow_add-answered : goal.overflow_add-answered
overflow_add-answered g c =
    let inv = c.turns.invariant in
    let e = c.in-Ok.ensures in
    let step = e.asked.later (g.L.LoaderCore.world c.args.loader.now) (means_in g.S.Analyze.ModuleAnalyzer.infos g.S.Tree.FileTree.paths g.S.Urls.JsrUrlProvider.meaning g.S.Resolve.Resolver.is_told g.S.Resolve.Resolver.meaning c.args.build.now) in
    let open_now = e.opened c.turns.answered inv.opened in
    let closed = c.in-Ok-answer_one.ensures.closed in
    let within = e.asked.going.in_order.numbered.in_budget in
    let budget1 = step.budget in
    let budget2 = inv.later.budget in
    let read = inv.read in
    omega arith

pub turns-smaller : goal.turns-smaller
turns-smaller g c =
    let inv = c.turns.invariant in
    let e = c.in-Ok.ensures in
    let step = e.asked.later (g.L.LoaderCore.world c.args.loader.now) (means_in g.S.Analyze.ModuleAnalyzer.infos g.S.Tree.FileTree.paths g.S.Urls.JsrUrlProvider.meaning g.S.Resolve.Resolver.is_told g.S.Resolve.Resolver.meaning c.args.build.now) in
    let open_now = e.opened c.turns.answered inv.opened in
    let closed = c.in-Ok-answer_one.ensures.closed in
    let within = e.asked.going.in_order.numbered.in_budget in
    let budget1 = step.budget in
    let budget2 = inv.later.budget in
    let read = inv.read in
    omega arith

pub turns-preserved : goal.turns-preserved
turns-preserved g c =
    let inv = c.turns.invariant in
    let e = c.in-Ok.ensures in
    let f = c.in-Ok-answer_one.ensures in
    let told = g.L.LoaderCore.world c.args.loader.now in
    let means = means_in g.S.Analyze.ModuleAnalyzer.infos g.S.Tree.FileTree.paths g.S.Urls.JsrUrlProvider.meaning g.S.Resolve.Resolver.is_told g.S.Resolve.Resolver.meaning c.args.build.now in
    let to_ask = loader_keeps g.L.LoaderCore.world g.L.LoaderCore.may_fail g.L.LoaderCore.caches g.L.LoaderCore.faults c.args.loader.now c.turns.loader c.ask_all.new.loader inv.loader c.ask_all.ensures.loader in
    let kept = build_keeps c.args.build.now c.turns.build c.ask_all.new.build inv.keeps c.ask_all.ensures.keeps in
    let same_world : g.L.LoaderCore.world c.ask_all.new.loader ≡ told = to_ask.same_world in
    let same_means_now : means_in g.S.Analyze.ModuleAnalyzer.infos g.S.Tree.FileTree.paths g.S.Urls.JsrUrlProvider.meaning g.S.Resolve.Resolver.is_told g.S.Resolve.Resolver.meaning c.ask_all.new.build ≡ means = same_means g.S.Analyze.ModuleAnalyzer.infos g.S.Tree.FileTree.paths g.S.Urls.JsrUrlProvider.meaning g.S.Resolve.Resolver.is_told g.S.Resolve.Resolver.meaning c.args.build.now c.ask_all.new.build kept in
    let asked = later_more told means c.args.build.now c.turns.build c.ask_all.new.build inv.later (e.asked.later told means) in
    let answered : IsLater told means c.ask_all.new.build c.answer_one.new.build =
    subst (λ (m : Means). IsLater told m c.ask_all.new.build c.answer_one.new.build) same_means_now
    (subst (λ (o : Option World). IsLater o (means_in g.S.Analyze.ModuleAnalyzer.infos g.S.Tree.FileTree.paths g.S.Urls.JsrUrlProvider.meaning g.S.Resolve.Resolver.is_told g.S.Resolve.Resolver.meaning c.ask_all.new.build) c.ask_all.new.build c.answer_one.new.build) same_world f.answered.later) in
    let open_now = e.opened c.turns.answered inv.opened in
    let closed = f.closed in
    let taken = f.answered.same_taken in
    record {
      going = f.answered.going;
      later = later_more told means c.args.build.now c.ask_all.new.build c.answer_one.new.build asked answered;
      keeps = build_keeps c.args.build.now c.ask_all.new.build c.answer_one.new.build kept c.answer_one.ensures.keeps;
      finished = λ unfinished. f.finished (e.finished (inv.finished unfinished));
      matches = f.matches;
      read = inv.read;
      below = omega (arith, inv.below, e.below, c.answer_one.ensures.uncounted, taken);
      counted = subst (λ (n : ℕ). IsPut c.answer_one.new.build.turns.taken (g.L.LoaderCore.asked c.args.loader.now) n) (sym c.answer_one.ensures.uncounted) (put_as c.ask_all.new.build.turns.taken _ _ _ (e.counted _ inv.counted) (sym taken));
      opened = omega arith;
      loader = loader_keeps g.L.LoaderCore.world g.L.LoaderCore.may_fail g.L.LoaderCore.caches g.L.LoaderCore.faults c.args.loader.now c.ask_all.new.loader c.answer_one.new.loader to_ask c.answer_one.ensures.loader;
    }

pub returns-in-Err-answer_one-clause-paced : goal.returns-in-Err-answer_one-clause-paced
returns-in-Err-answer_one-clause-paced g c = λ is w graph given tells goes.
    let inv = c.turns.invariant in
    let e = c.in-Ok.ensures in
    let told = g.L.LoaderCore.world c.args.loader.now in
    let means = means_in g.S.Analyze.ModuleAnalyzer.infos g.S.Tree.FileTree.paths g.S.Urls.JsrUrlProvider.meaning g.S.Resolve.Resolver.is_told g.S.Resolve.Resolver.meaning c.args.build.now in
    let asked = later_more told means c.args.build.now c.turns.build c.ask_all.new.build inv.later (e.asked.later told means) in
    let put = taken_put w graph given c.ask_all.new.build e.asked.going (asked.goes_by w graph given tells goes) in
    asked_put w graph.kind (begun_over w.known graph (told_start w given)) (g.L.LoaderCore.asked c.args.loader.now) (g.L.LoaderCore.asked c.answer_one.new.loader) c.ask_all.new.build.turns.taken put
    (omega (arith, inv.below, e.below, c.answer_one.ensures.uncounted))
