use Rattle.std.proofs.Common.{◌∙◌, sym, ap, length, subst, arith}
use Rattle.graph_store.specs.Order.{AreOrdered}
use Rattle.graph_store.proofs.AnswerMap.{begins_with, goes_on, is_whole, pushed_ok}
use Rattle.graph_store.proofs.answer_map.AnswerMap.into_store.Goals as goal

pub loop-specifier-init : goal.loop-specifier-init
loop-specifier-init c =
    let gives = c.into_iter-specifier-iterator.ensures.into_iter_gives in
    begins_with c.self.inside.answers.entries c.into_iter-specifier-iterator.result c.self.inside.room.items _ c.args.self c.self.view_is gives.0 c.len.ensures.ordered c.self.invariant

pub unwrap-requires : goal.unwrap-requires
unwrap-requires c =
    let l = c.loop-specifier in
    c.push.ensures.succeeds (omega (arith, l.invariant.wide, l.entries.ok.0, ap length c.in-Some.ensures.steps))

pub loop-specifier-preserved : goal.loop-specifier-preserved
loop-specifier-preserved c = goes_on c.args.self _ c.next.new.self (c.in-Some.field-0-0, c.in-Some.answer) _ c.push.new.self.items _ _ c.loop-specifier.invariant c.in-Some.ensures.steps (pushed_ok c.push.result c.unwrap.result c.push.new.self.items _ _ c.unwrap.ensures c.push.ensures.items) c.push.ensures.capacity

pub from_ordered-requires : goal.from_ordered-requires
from_ordered-requires c =
    let l = c.loop-specifier in
    subst AreOrdered (sym (is_whole c.args.self l.specifier-iterator l.entries.items _ l.invariant c.in-None.ensures.steps.0)) l.invariant.ordered

pub returns : goal.returns
returns c =
    let l = c.loop-specifier in
    c.from_ordered.ensures ∙ is_whole c.args.self l.specifier-iterator l.entries.items _ l.invariant c.in-None.ensures.steps.0
