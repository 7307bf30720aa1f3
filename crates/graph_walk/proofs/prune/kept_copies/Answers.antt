use Rattle.std.proofs.lemmas.Result.{IfOk-weaker}
use Rattle.graph_walk.specs.Lists.{SameMembers}
use Rattle.graph_walk.specs.Order.{texts}
use Rattle.graph_walk.specs.Prune.{IsPruned}
use Rattle.graph_walk.proofs.Prunings.{pruned_members}
use Rattle.graph_walk.proofs.prune.kept_copies.Goals as goal

pub returns : goal.returns
returns c =
    IfOk-weaker c.seen_copies.result (λ s. SameMembers (texts s) c.in_ok-front.front.front.seen) (λ s. IsPruned c.args.graph.now (texts s))
    (λ s h. pruned_members c.args.graph.now c.in_ok-front.front.front.seen (texts s) h c.in_ok-front.ensures) c.seen_copies.ensures
