use Rattle.std.proofs.Common.{subst}
use Rattle.open_loads.specs.Order.Means.{means_of}
use Rattle.open_loads.specs.Order.Means.{Means}
use Rattle.open_loads.specs.Order.OpenLoads.{OpenLoads}
use Rattle.open_loads.specs.Order.Numbered.{Arranged}
use Rattle.open_loads.proofs.Order.Opening.{arranged_by, stored_over}
use Rattle.open_loads.proofs.open_loads.OpenLoads.store_first.Goals as goal

pub returns-clause-stored : goal.returns-clause-stored
returns-clause-stored g c =
    let means : Means = means_of g.S.Analyze.ModuleAnalyzer.infos g.S.Tree.FileTree.paths g.S.Urls.JsrUrlProvider.meaning g.S.Resolve.Resolver.is_told g.S.Resolve.Resolver.meaning c.args.maker.now in
    stored_over means.registry means.newest _ c.args.self.now c.arrange.new.self c.store.new.self c.args.load c.args.outcome c.self.view_is c.in_ok-store.ensures
    (subst (λ (x : OpenLoads). Arranged means.registry means.newest x c.arrange.new.self) c.stand.ensures
    (arranged_by g.S.Urls.JsrUrlProvider.meaning _ _ _ _ _ _ c.registry.ensures.urls c.registry.ensures.versions c.in_ok-arrange.ensures.arranged))
