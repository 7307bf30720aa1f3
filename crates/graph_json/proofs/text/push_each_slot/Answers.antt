use Rattle.std.proofs.Common.{rules}
use Rattle.graph_json.proofs.TextLemmas.{one_slot_text}
use Rattle.graph_json.proofs.text.push_each_slot.Goals as goal

pub loop-specifier-preserved : goal.loop-specifier-preserved
loop-specifier-preserved c =
    let l = c.loop-specifier in
    one_slot_text _ l.out _ c.in-Some.specifier.now c.in-Some.slot.now l.specifier-iterator c.next.new.self c.as_str.result.now
    l.invariant (search rules) c.as_str.ensures.value c.in_ok-push_slot.ensures
