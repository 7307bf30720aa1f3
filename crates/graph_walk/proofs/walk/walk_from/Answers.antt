use Rattle.std.proofs.Common.{subst, sym}
use Rattle.graph_walk.specs.Options.{how}
use Rattle.graph_walk.specs.Order.{texts}
use Rattle.graph_walk.specs.Closure.{GivesClosure}
use Rattle.graph_walk.proofs.Closed.{gives_closure}
use Rattle.graph_walk.proofs.Universe.{roots_step, imports_step, made_ready, made_order}
use Rattle.graph_walk.proofs.walk.walk_from.Goals as goal

pub queue_all-requires : goal.queue_all-requires
queue_all-requires g c = let o = how g.C.CheckJsResolver.resolves c.args.options in roots_step c.args.graph.now o (texts c.args.roots.now) c.in-Some.bound c.in_ok-front.front c.in-Some.ensures c.in_ok-front.ensures

pub offer_imports-requires : goal.offer_imports-requires
offer_imports-requires g c = let o = how g.C.CheckJsResolver.resolves c.args.options in imports_step c.args.graph.now o (texts c.args.roots.now) c.in-Some.bound c.in_ok-front.front c.in-Some.ensures c.in_ok-front.ensures c.queue_all.new.self c.queue_all.ensures

pub invariant_of-result : goal.invariant_of-result
invariant_of-result g c = let o = how g.C.CheckJsResolver.resolves c.args.options in made_ready c.args.graph.now o (texts c.args.roots.now) c.in-Some.bound c.in_ok-front.front c.in-Some.ensures c.in_ok-front.ensures c.queue_all.new.self c.queue_all.ensures c.offer_imports.new.self c.offer_imports.ensures

pub returns-clause-order : goal.returns-clause-order
returns-clause-order g c = let o = how g.C.CheckJsResolver.resolves c.args.options in made_order c.args.graph.now o (texts c.args.roots.now) c.in-Some.bound c.in_ok-front.front c.in-Some.ensures c.in_ok-front.ensures c.queue_all.new.self c.queue_all.ensures c.offer_imports.new.self c.offer_imports.ensures

pub returns-clause-closure : goal.returns-clause-closure
returns-clause-closure g c =
    let o = how g.C.CheckJsResolver.resolves c.args.options in
    let is = made_order c.args.graph.now o (texts c.args.roots.now) c.in-Some.bound c.in_ok-front.front c.in-Some.ensures c.in_ok-front.ensures c.queue_all.new.self c.queue_all.ensures c.offer_imports.new.self c.offer_imports.ensures in
    subst (GivesClosure c.args.graph.now o (texts c.args.roots.now)) (sym is) (gives_closure c.args.graph.now o (texts c.args.roots.now))
