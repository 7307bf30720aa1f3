use Rattle.std.proofs.Common.{subst, sym, ◌∙◌, ap, ◌++◌}
use Rattle.std.proofs.lemmas.List.{append-nil}
use Rattle.graph_walk.specs.Options.{how}
use Rattle.graph_walk.specs.Order.{texts}
use Rattle.graph_walk.specs.EntryValue.{item_value}
use Rattle.graph_walk.specs.Closure.{GivesClosure}
use Rattle.std.proofs.Common.{map}
use Rattle.graph_tests.proofs.walk_caller.reached.Goals as goal

pub returns-clause-closure : goal.returns-clause-closure
returns-clause-closure g c =
    let found = map item_value c.loop-item.found.items in
    let all = c.loop-item.invariant in
    let none = c.in_default.ensures.steps.0.0 in
    subst (GivesClosure c.args.graph.now (how g.C.CheckJsResolver.resolves c.args.options) (texts c.args.roots.now))
    (c.in_ok-walk.ensures.order ∙ sym all ∙ ap (λ xs. found ++ xs) none ∙ append-nil found) c.in_ok-walk.ensures.closure
