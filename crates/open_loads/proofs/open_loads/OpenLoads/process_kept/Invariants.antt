-- The kept answers whose turn has come were processed so far.
use Rattle.std.specs.FinMap as finite
use Rattle.open_loads.specs.Order.Means.{means_of}
use Rattle.open_loads.specs.Order.Ordered.{IsCaughtUp}
use Rattle.open_loads.proofs.open_loads.OpenLoads.process_kept.Given as goal

abbrev pub invariant-loop-answer : goal.invariant-loop-answer
invariant-loop-answer g l = IsCaughtUp (means_of g.S.Analyze.ModuleAnalyzer.infos g.S.Tree.FileTree.paths g.S.Urls.JsrUrlProvider.meaning g.S.Resolve.Resolver.is_told g.S.Resolve.Resolver.meaning l.fn.maker) l.fn.self l.self

abbrev pub decreases-loop-answer : goal.decreases-loop-answer
decreases-loop-answer g l = finite.len l.self.kept
