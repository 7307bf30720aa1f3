use Rattle.std.proofs.Common.{ap, arith}
use Rattle.graph_walk.specs.Order.{Waiting, FrontView}
use Rattle.graph_walk.proofs.Texts.{queue_old, queue_room, queue_added}
use Rattle.graph_walk.proofs.seen_and_waiting.Front.queue.Goals as goal

pub returns-then-contains : goal.returns-then-contains
returns-then-contains c =
    rw (← c.self.view_is) (ap (λ (f : Waiting). record { front = f; bound = c.self.inside.bound }) (queue_old c.args.root.now c.self.inside.seen.keys c.self.inside.waiting.items c.if-contains.ensures))

pub push_back_reserved-requires : goal.push_back_reserved-requires
push_back_reserved-requires c =
    let same = ap (λ (v : FrontView). v.bound) c.self.view_is in
    let room = queue_room c.args.root.now c.self.inside.seen.keys c.self.inside.waiting.items c.args.self.now.front c.args.self.now.bound c.if-contains.ensures (ap (λ (v : FrontView). v.front) c.self.view_is) c.requires in
    grind arith

pub returns-in-Ok : goal.returns-in-Ok
returns-in-Ok c =
    rw (← c.self.view_is) (ap (λ (f : Waiting). record { front = f; bound = c.self.inside.bound })
    (queue_added c.args.root c.self.inside.seen.keys c.self.inside.waiting.items c.insert.new.self.keys c.push_back_reserved.new.self.items c.if-contains.ensures c.in-Ok.ensures.keys c.push_back_reserved.ensures.items))
