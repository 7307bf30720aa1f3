use Rattle.std.proofs.Common.{ap, arith}
use Rattle.graph_walk.specs.Order.{Waiting, FrontView}
use Rattle.graph_walk.proofs.Texts.{offer_old, offer_room, offer_added}
use Rattle.graph_walk.proofs.seen_and_waiting.Front.offer.Goals as goal

pub returns-then-contains : goal.returns-then-contains
returns-then-contains c =
    rw (← c.self.view_is) (ap (λ (f : Waiting). record { front = f; bound = c.self.inside.bound }) (offer_old c.args.specifier.now c.self.inside.seen.keys c.self.inside.waiting.items c.if-contains.ensures))

pub push_front_reserved-requires : goal.push_front_reserved-requires
push_front_reserved-requires c =
    let same = ap (λ (v : FrontView). v.bound) c.self.view_is in
    let room = offer_room c.args.specifier.now c.self.inside.seen.keys c.self.inside.waiting.items c.args.self.now.front c.args.self.now.bound c.if-contains.ensures (ap (λ (v : FrontView). v.front) c.self.view_is) c.requires in
    grind arith

pub returns-in-Ok : goal.returns-in-Ok
returns-in-Ok c =
    rw (← c.self.view_is) (ap (λ (f : Waiting). record { front = f; bound = c.self.inside.bound })
    (offer_added c.args.specifier c.self.inside.seen.keys c.self.inside.waiting.items c.insert.new.self.keys c.push_front_reserved.new.self.items c.if-contains.ensures c.in-Ok.ensures.keys c.push_front_reserved.ensures.items))
