use Rattle.open_loads.specs.Order.Means.{means_of}
use Rattle.open_loads.specs.Order.Means.{Means}
use Rattle.open_loads.proofs.Order.Opening.{arranged_by, file_over, goes_passes, goes_stands}
use Rattle.open_loads.proofs.open_loads.OpenLoads.use_file.Goals as goal

pub returns-then-stands-clause-used : goal.returns-then-stands-clause-used
returns-then-stands-clause-used g c =
    let means : Means = means_of g.S.Analyze.ModuleAnalyzer.infos g.S.Tree.FileTree.paths g.S.Urls.JsrUrlProvider.meaning g.S.Resolve.Resolver.is_told g.S.Resolve.Resolver.meaning c.args.maker.now in
    goes_stands means.registry means.newest c.keep_file.new.self _ c.begin_late.new.self c.in_ok-stands.stands
    (file_over means.registry c.args.self.now c.keep_file.new.self c.args.nv c.args.answer c.requires.idle c.in_ok-keep_file.ensures.kept)
    c.in_ok-stands.ensures.begun c.if-stands.true

pub returns-clause-used : goal.returns-clause-used
returns-clause-used g c =
    let means : Means = means_of g.S.Analyze.ModuleAnalyzer.infos g.S.Tree.FileTree.paths g.S.Urls.JsrUrlProvider.meaning g.S.Resolve.Resolver.is_told g.S.Resolve.Resolver.meaning c.args.maker.now in
    goes_passes means.registry means.newest c.keep_file.new.self _ c.begin_late.new.self c.arrange.new.self c.in_ok-stands.stands
    (file_over means.registry c.args.self.now c.keep_file.new.self c.args.nv c.args.answer c.requires.idle c.in_ok-keep_file.ensures.kept)
    c.in_ok-stands.ensures.begun c.if-stands.false
    (arranged_by g.S.Urls.JsrUrlProvider.meaning _ _ _ _ _ _ c.registry.ensures.urls c.registry.ensures.versions c.in_ok-arrange.ensures.arranged)
