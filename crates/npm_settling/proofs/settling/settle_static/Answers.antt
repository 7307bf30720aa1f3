use Rattle.std.proofs.Common.{◌∙◌, Some, ap}
use Rattle.graph_core.specs.Npm.{listed_npm, npm_put_all, with_npm_graph}
use Rattle.npm_settling.proofs.EndLemmas.{put_listed}
use Rattle.npm_settling.proofs.settling.settle_static.Goals as goal

pub returns : goal.returns
returns g c =
    let answer = c.in_ok-results.field-0 in
    let old = c.args.graph.now in
    let items = c.args.items.now in
    put_listed (g.N.NpmResolver.table c.args.resolver.now) old c.put_static.new.graph items answer.results.items answer.graph c.in_ok-results.ensures
    (c.in_ok-put_static.ensures
    ∙ ap (λ r. npm_put_all (with_npm_graph old (Some r)) (listed_npm c.deref.result.now items)) c.replace-before.ensures.after
    ∙ ap (λ l. npm_put_all (with_npm_graph old (Some answer.graph)) (listed_npm l items)) c.deref.ensures.value)
