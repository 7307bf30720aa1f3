use Rattle.std.proofs.Common.{◌≡◌, ap, arith}
use Rattle.std.specs.FinMap as finite
use Rattle.open_loads.specs.Order.Means.{means_of}
use Rattle.open_loads.specs.Order.Means.{Means}
use Rattle.open_loads.proofs.Order.Caught.{caught_up_none, caught_up_more, takes_fits, used_kept}
use Rattle.open_loads.proofs.Order.InOrder.{len_falls}
use Rattle.open_loads.proofs.open_loads.OpenLoads.process_kept.Goals as goal

pub use_answer-requires : goal.use_answer-requires
use_answer-requires g c = record { fits = takes_fits c.loop-answer.self c.take_awaited.new.self c.in-Some.answer (c.loop-answer.invariant.in_order c.requires.in_order) c.in-Some.ensures.some }

pub loop-answer-init : goal.loop-answer-init
loop-answer-init g c = caught_up_none (means_of g.S.Analyze.ModuleAnalyzer.infos g.S.Tree.FileTree.paths g.S.Urls.JsrUrlProvider.meaning g.S.Resolve.Resolver.is_told g.S.Resolve.Resolver.meaning c.args.maker.now) c.args.self.now

pub loop-answer-smaller : goal.loop-answer-smaller
loop-answer-smaller g c =
    let means : Means = means_of g.S.Analyze.ModuleAnalyzer.infos g.S.Tree.FileTree.paths g.S.Urls.JsrUrlProvider.meaning g.S.Resolve.Resolver.is_told g.S.Resolve.Resolver.meaning c.args.maker.now in
    let b = c.loop-answer.self in
    let takes = c.in-Some.ensures.some in
    let falls = len_falls b.kept takes.ticket c.in-Some.answer takes.here in
    let same : finite.len c.use_answer.new.self.kept ≡ finite.len (finite.remove b.kept takes.ticket) = ap finite.len (used_kept means c.args.self.now b c.take_awaited.new.self c.use_answer.new.self c.in-Some.answer c.loop-answer.invariant c.requires.in_order takes c.in_ok-use_answer.ensures.used) in
    omega (arith, falls, same)

pub loop-answer-preserved : goal.loop-answer-preserved
loop-answer-preserved g c =
    let means : Means = means_of g.S.Analyze.ModuleAnalyzer.infos g.S.Tree.FileTree.paths g.S.Urls.JsrUrlProvider.meaning g.S.Resolve.Resolver.is_told g.S.Resolve.Resolver.meaning c.args.maker.now in
    caught_up_more means c.args.self.now c.loop-answer.self c.take_awaited.new.self c.use_answer.new.self c.in-Some.answer c.loop-answer.invariant c.requires.in_order c.in-Some.ensures.some c.in_ok-use_answer.ensures.used
