use Rattle.std.proofs.Common.{Option, sym, subst}
use Rattle.source_io.specs.declared.types.Question.{Question}
use Rattle.open_loads.specs.Order.Ordered.{IsToldAnswer}
use Rattle.graph_builder.specs.Calls.Makers.{means_in}
use Rattle.graph_builder.proofs.Calls.Driven.{later_answer}
use Rattle.graph_builder.proofs.Order.Matching.{answered_flies, matches_answered}
use Rattle.graph_builder.proofs.running.answer_one.Goals as goal

pub answer-requires-clause-in_flight : goal.answer-requires-clause-in_flight
answer-requires-clause-in_flight g c =
    let a = c.in_ok-ticket.ensures.answered in
    (answered_flies _ _ c.args.build.now.turns c.in_ok-ticket.ticket a.question c.requires.matches a.takes).0

pub returns-clause-matches : goal.returns-clause-matches
returns-clause-matches g c =
    let a = c.in_ok-ticket.ensures.answered in
    matches_answered (means_in g.S.Analyze.ModuleAnalyzer.infos g.S.Tree.FileTree.paths g.S.Urls.JsrUrlProvider.meaning g.S.Resolve.Resolver.is_told g.S.Resolve.Resolver.meaning c.args.build.now) _ _ c.args.build.now.turns c.answer.new.self.turns c.in_ok-ticket.ticket a.question c.in_ok-ticket.answer c.requires.matches a.takes c.in_ok-answer.ensures.taken

pub returns-clause-answered : goal.returns-clause-answered
returns-clause-answered g c =
    let told = g.L.LoaderCore.world c.args.loader.now in
    let means = means_in g.S.Analyze.ModuleAnalyzer.infos g.S.Tree.FileTree.paths g.S.Urls.JsrUrlProvider.meaning g.S.Resolve.Resolver.is_told g.S.Resolve.Resolver.meaning c.args.build.now in
    let a = c.in_ok-ticket.ensures.answered in
    let e = c.in_ok-answer.ensures in
    let flight = answered_flies _ _ c.args.build.now.turns c.in_ok-ticket.ticket a.question c.requires.matches a.takes in
    let right = subst (λ (s : Option Question). IsToldAnswer told s c.in_ok-ticket.answer) (sym flight.1) a.by_world in
    record {
      going = e.going;
      later = later_answer told means c.args.build.now c.answer.new.self c.in_ok-ticket.ticket c.in_ok-ticket.answer c.requires.going.in_order c.requires.begun e.taken e.same right;
      same_taken = e.taken.same_taken;
    }
