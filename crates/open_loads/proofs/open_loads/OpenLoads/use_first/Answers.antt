use Rattle.std.proofs.Common.{◌∙◌, Bool, sym, ap, subst}
use Rattle.open_loads.specs.Order.Means.{means_of}
use Rattle.open_loads.specs.Order.Means.{Means}
use Rattle.open_loads.specs.Order.OpenLoads.{OpenLoads}
use Rattle.open_loads.specs.declared.turn_stage.Stage.{Stage}
use Rattle.open_loads.specs.Order.Numbered.{asked_again}
use Rattle.open_loads.specs.Order.Ordered.{IsUsedFirst}
use Rattle.open_loads.proofs.open_loads.OpenLoads.use_first.Goals as goal

pub returns-then-asks_again-clause-used : goal.returns-then-asks_again-clause-used
returns-then-asks_again-clause-used g c =
    let means : Means = means_of g.S.Analyze.ModuleAnalyzer.infos g.S.Tree.FileTree.paths g.S.Urls.JsrUrlProvider.meaning g.S.Resolve.Resolver.is_told g.S.Resolve.Resolver.meaning c.args.maker.now in
    let old : OpenLoads = c.args.self.now in
    subst (λ (b : Bool). IsUsedFirst means old c.args.asked c.args.answer c.ask_again.new.self b) (sym (sym c.asks_again.ensures ∙ c.if-asks_again.true))
    (c.in_ok-ask_again.ensures.again ∙ ap (λ (s : Stage). asked_again (record old { stage = s }) c.args.asked c.args.answer) c.requires.idle)

pub returns-clause-used : goal.returns-clause-used
returns-clause-used g c =
    let means : Means = means_of g.S.Analyze.ModuleAnalyzer.infos g.S.Tree.FileTree.paths g.S.Urls.JsrUrlProvider.meaning g.S.Resolve.Resolver.is_told g.S.Resolve.Resolver.meaning c.args.maker.now in
    let old : OpenLoads = c.args.self.now in
    subst (λ (b : Bool). IsUsedFirst means old c.args.asked c.args.answer c.end_turn.new.self b) (sym (sym c.asks_again.ensures ∙ c.if-asks_again.false)) c.in_ok-end_turn.ensures.answered
