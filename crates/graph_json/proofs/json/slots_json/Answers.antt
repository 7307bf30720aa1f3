use Rattle.std.proofs.Common.{rules}
use Rattle.graph_json.proofs.JsonLemmas.{one_slot}
use Rattle.graph_json.proofs.json.slots_json.Goals as goal

pub loop-specifier-preserved : goal.loop-specifier-preserved
loop-specifier-preserved c =
    let l = c.loop-specifier in
    rw c.in_ok-push.ensures.items
    (one_slot _ l.values.items c.in_ok-slot_json.field-0 c.in-Some.specifier.now c.in-Some.slot.now l.specifier-iterator c.next.new.self c.as_str.result.now
    l.invariant (search rules) c.as_str.ensures.value c.in_ok-slot_json.ensures)
