use Rattle.std.proofs.Common.{◌<◌, ◌∙◌, length, true, sym, arith}
use Rattle.npm_settling.proofs.EndLemmas.{taken_more, taken_none}
use Rattle.npm_settling.proofs.settling.settle_dynamic.Goals as goal

pub loop-item-preserved-then-has_slot : goal.loop-item-preserved-then-has_slot
loop-item-preserved-then-has_slot g c =
    let below : c.loop-item.item-index < length c.args.items.now = omega arith in
    taken_none (g.N.NpmResolver.table c.args.resolver.now) true c.args.graph.now c.loop-item.graph c.args.items.now c.loop-item.item-index c.item-item.result below c.item-item.is c.loop-item.invariant
    (sym c.has_slot.ensures ∙ c.if-has_slot.true)

pub loop-item-preserved : goal.loop-item-preserved
loop-item-preserved g c =
    let below : c.loop-item.item-index < length c.args.items.now = omega arith in
    taken_more (g.N.NpmResolver.table c.args.resolver.now) true c.args.graph.now c.loop-item.graph c.args.items.now c.loop-item.item-index c.item-item.result below c.item-item.is c.loop-item.invariant
    c.put.new.graph c.req.result.now c.in_ok-resolved.resolved c.in_ok-put.ensures c.req.ensures c.in_ok-resolved.ensures
