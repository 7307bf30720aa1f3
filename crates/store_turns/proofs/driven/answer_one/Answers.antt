use Rattle.std.proofs.Common.{◌+◌, ◌∙◌, refl, sym, arith, length}
use Rattle.graph_builder.specs.Calls.Makers.{directions_in, means_in}
use Rattle.graph_builder.proofs.Order.Matching.{answered_flies, matches_answered, one_fewer}
use Rattle.graph_store.specs.Stores.{entries_in}
use Rattle.store_turns.proofs.Going.{going_answered}
use Rattle.store_turns.proofs.Reaching.{reached_answered}
use Rattle.store_turns.proofs.driven.answer_one.Goals as goal

pub answer-requires-clause-in_flight : goal.answer-requires-clause-in_flight
answer-requires-clause-in_flight g c =
    let r = c.in_ok-ticket.ensures.recorded in
    (answered_flies _ _ c.args.build.now.turns c.in_ok-ticket.ticket r.question c.requires.matches r.takes).0

pub returns-clause-matches : goal.returns-clause-matches
returns-clause-matches g c =
    let r = c.in_ok-ticket.ensures.recorded in
    matches_answered (means_in g.S.Analyze.ModuleAnalyzer.infos g.S.Tree.FileTree.paths g.S.Urls.JsrUrlProvider.meaning g.S.Resolve.Resolver.is_told g.S.Resolve.Resolver.meaning c.args.build.now) _ _ c.args.build.now.turns c.answer.new.self.turns c.in_ok-ticket.ticket r.question c.in_ok-ticket.answer c.requires.matches r.takes c.in_ok-answer.ensures.taken

pub returns-clause-same_taken : goal.returns-clause-same_taken
returns-clause-same_taken g c = c.in_ok-answer.ensures.taken.same_taken

pub returns-clause-same_budget : goal.returns-clause-same_budget
returns-clause-same_budget g c = c.in_ok-answer.ensures.taken.same_budget

pub returns-clause-closed : goal.returns-clause-closed
returns-clause-closed g c =
    let r = c.in_ok-ticket.ensures.recorded in
    let fewer = one_fewer c.in_ok-ticket.ticket r.question _ _ r.takes in
    omega (arith, fewer)

pub returns-clause-goes : goal.returns-clause-goes
returns-clause-goes g c =
    let r = c.in_ok-ticket.ensures.recorded in
    let b = c.args.build.now in
    let flight = answered_flies _ _ b.turns c.in_ok-ticket.ticket r.question c.requires.matches r.takes in
    going_answered (g.L.LoaderCore.world c.args.recorder.now.inner) (means_in g.S.Analyze.ModuleAnalyzer.infos g.S.Tree.FileTree.paths g.S.Urls.JsrUrlProvider.meaning g.S.Resolve.Resolver.is_told g.S.Resolve.Resolver.meaning b) _ _ (entries_in c.args.recorder.now.store) (entries_in c.next.new.self.store) b c.answer.new.self c.in_ok-ticket.ticket c.in_ok-ticket.answer r flight.1
    (λ told graph given meant goes right. c.in_ok-answer.ensures.goes_by told graph given meant goes right)

pub returns-clause-reached : goal.returns-clause-reached
returns-clause-reached g c = reached_answered (g.L.LoaderCore.world c.args.recorder.now.inner) (means_in g.S.Analyze.ModuleAnalyzer.infos g.S.Tree.FileTree.paths g.S.Urls.JsrUrlProvider.meaning g.S.Resolve.Resolver.is_told g.S.Resolve.Resolver.meaning c.args.build.now) _ _ (entries_in c.args.recorder.now.store) (entries_in c.next.new.self.store) c.args.build.now c.in_ok-ticket.ticket c.in_ok-ticket.answer c.in_ok-ticket.ensures.recorded

pub returns-clause-builds : goal.returns-clause-builds
returns-clause-builds g c = λ graph given on. c.in_ok-answer.ensures.builds_on (directions_in g.S.Urls.JsrUrlProvider.meaning g.S.Resolve.Resolver.is_told g.S.Resolve.Resolver.meaning c.args.build.now) graph given refl refl on
