use Rattle.std.proofs.Common.{sym, ap, ◌∙◌}
use Rattle.wasm_dts.specs.Origins.{places_from}
use Rattle.wasm_dts.proofs.import_text.Origins.new.Goals as goal

pub invariant_of-result : goal.invariant_of-result
unfolding places_from
invariant_of-result c = record { in_step = c.new-2.ensures ∙ sym (ap (places_from 0) c.new.ensures.items) }
