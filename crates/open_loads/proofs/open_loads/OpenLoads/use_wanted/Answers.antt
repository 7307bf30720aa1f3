use Rattle.std.proofs.Common.{subst}
use Rattle.open_loads.specs.Order.Means.{means_of}
use Rattle.open_loads.specs.Order.Means.{Means}
use Rattle.open_loads.specs.Order.OpenLoads.{OpenLoads}
use Rattle.open_loads.specs.Order.Numbered.{Arranged}
use Rattle.open_loads.proofs.Order.Opening.{arranged_by, wanted_over}
use Rattle.open_loads.proofs.open_loads.OpenLoads.use_wanted.Goals as goal

pub returns-clause-used : goal.returns-clause-used
returns-clause-used g c =
    let means : Means = means_of g.S.Analyze.ModuleAnalyzer.infos g.S.Tree.FileTree.paths g.S.Urls.JsrUrlProvider.meaning g.S.Resolve.Resolver.is_told g.S.Resolve.Resolver.meaning c.args.maker.now in
    subst (λ (x : OpenLoads). Arranged means.registry means.newest x c.arrange.new.self)
    (wanted_over means.registry c.args.self.now c.keep_wanted.new.self c.args.answer c.requires.idle c.in_ok-keep_wanted.ensures.kept)
    (arranged_by g.S.Urls.JsrUrlProvider.meaning _ _ _ _ _ _ c.registry.ensures.urls c.registry.ensures.versions c.in_ok-arrange.ensures.arranged)
