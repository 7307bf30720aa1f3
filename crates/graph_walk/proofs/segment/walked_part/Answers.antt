use Rattle.std.proofs.Common.{sym, subst, refl}
use Rattle.graph_walk.specs.Segment.{segment_start, segment_how, IsSegment}
use Rattle.graph_walk.specs.Order.{texts}
use Rattle.graph_walk.proofs.Segments.{is_segment, segment_put}
use Rattle.graph_walk.proofs.segment.walked_part.Goals as goal

pub returns-clause-whole : goal.returns-clause-whole
returns-clause-whole c =
    segment_put c.args.graph.now c.args.roots.now _ _ _ _ c.in_ok-put_entries.ensures c.in_ok-walk.ensures.order c.graph_kind.ensures c.in_ok-segment.ensures

pub returns-clause-exact : goal.returns-clause-exact
returns-clause-exact c =
    let whole = segment_put c.args.graph.now c.args.roots.now _ _ _ _ c.in_ok-put_entries.ensures c.in_ok-walk.ensures.order c.graph_kind.ensures c.in_ok-segment.ensures in
    subst (IsSegment c.args.graph.now (segment_how c.args.graph.now) (texts c.args.roots.now)) (sym whole)
    (is_segment c.args.graph.now (segment_how c.args.graph.now) (texts c.args.roots.now) (segment_start c.args.graph.now c.args.roots.now) refl refl)
