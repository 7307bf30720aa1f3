use Rattle.std.proofs.Common.{◌∙◌, ap, subst, sym}
use Rattle.std.proofs.lemmas.Result.{on_ok_weaker}
use Rattle.graph_turns.specs.Machine.Entering.{stored}
use Rattle.open_loads.specs.Order.Means.{means_of}
use Rattle.open_loads.specs.declared.turn_stage.Stage.TheVariants.{Idle}
use Rattle.open_loads.specs.Order.Means.{Means}
use Rattle.open_loads.specs.Order.OpenLoads.{OpenLoads}
use Rattle.open_loads.specs.Order.Numbered.{Arranged}
use Rattle.open_loads.proofs.open_loads.OpenLoads.end_turn.Goals as goal

pub returns-in-Ok-clause-answered : goal.returns-in-Ok-clause-answered
returns-in-Ok-clause-answered g c =
    let means : Means = means_of g.S.Analyze.ModuleAnalyzer.infos g.S.Tree.FileTree.paths g.S.Urls.JsrUrlProvider.meaning g.S.Resolve.Resolver.is_told g.S.Resolve.Resolver.meaning c.args.maker.now in
    let load = c.in-Some.load in
    let outcome = c.in-Ok.outcome in
    on_ok_weaker c.store_first.result (λ goes. record {
      load = load;
      rest = c.take.new.self;
      outcome = outcome;
      was = ap (λ (x : OpenLoads). x.state) (sym c.self.view_is) ∙ c.in-Some.ensures.some;
      final = c.in-Ok.ensures.settled;
      suits = c.in-Ok.ensures.suits;
      given = c.in-Ok.ensures.told;
      is_now = subst (λ (x : OpenLoads). Arranged means.registry means.newest (record x { state = stored x.redirects c.take.new.self load outcome; stage = Idle }) c.store_first.new.self) c.self.view_is goes;
    }) c.store_first.ensures.stored
