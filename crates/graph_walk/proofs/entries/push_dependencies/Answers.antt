use Rattle.std.proofs.Common.{rules}
use Rattle.graph_walk.specs.Options.{how}
use Rattle.graph_walk.proofs.ErrorSteps.{push_same, push_end}
use Rattle.graph_walk.proofs.entries.push_dependencies.Goals as goal

pub loop-text-preserved : goal.loop-text-preserved
loop-text-preserved g c =
    let l = c.loop-text in
    push_same c.args.graph.now (how g.C.CheckJsResolver.resolves c.args.options.now) c.args.is_checked c.args.here.now l.text-iterator c.next.new.self (c.in-Some.text.now, c.in-Some.dependency.now) l.errors.items c.push_named.new.errors.items _
    (search rules) l.invariant (search rules)

pub returns : goal.returns
returns g c =
    let l = c.loop-text in
    push_end c.args.graph.now (how g.C.CheckJsResolver.resolves c.args.options.now) c.args.is_checked c.args.here.now l.text-iterator l.errors.items _ (search rules) l.invariant
