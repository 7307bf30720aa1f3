use Rattle.std.proofs.Common.{◌≡◌, ◌∙◌, ap}
use Rattle.graph_walk.specs.Order.{room, texts}
use Rattle.graph_walk.specs.Prune.{prune_how}
use Rattle.graph_walk.proofs.Prunings.{queue_step, start_step}
use Rattle.graph_walk.proofs.prune.kept.Goals as goal

pub queue_all-requires : goal.queue_all-requires
queue_all-requires c =
    let roots_are : texts c.as_slice-roots.result.now ≡ texts c.args.graph.now.roots = ap texts (c.as_slice-roots.ensures.keys ∙ c.as_set.ensures) in
    let sized = c.in-Some.ensures ∙ ap (room c.args.graph.now prune_how) roots_are in
    queue_step c.args.graph.now c.in-Some.bound c.in_ok-front.front sized c.in_ok-front.ensures (texts c.as_slice-roots.result.now) roots_are

pub add_all-requires : goal.add_all-requires
add_all-requires c =
    let roots_are : texts c.as_slice-roots.result.now ≡ texts c.args.graph.now.roots = ap texts (c.as_slice-roots.ensures.keys ∙ c.as_set.ensures) in
    let sized = c.in-Some.ensures ∙ ap (room c.args.graph.now prune_how) roots_are in
    start_step c.args.graph.now c.in-Some.bound c.in_ok-front.front sized c.in_ok-front.ensures (texts c.as_slice-roots.result.now) roots_are c.queue_all.new.self c.queue_all.ensures
