use Rattle.std.proofs.Common.{arith}
use Rattle.std.proofs.lemmas.Bool.Decides.{nat_tests}
use Rattle.std.proofs.lemmas.List.{take_rest}
use Rattle.media_types.proofs.DecodeLemmas.{next_unit, all_done, one_left}
use Rattle.media_types.proofs.decoding.units_of.Goals as goal

pub loop-left-preserved : goal.loop-left-preserved
loop-left-preserved c =
    rw (take_rest, c.in_ok-push.ensures.items, c.unit_of.ensures) (next_unit c.args.little c.args.bytes.now c.loop-left.left.now c.loop-left.done.items c.in-len2-up.len_at_least c.loop-left.invariant)

pub returns-then-is_empty : goal.returns-then-is_empty
returns-then-is_empty c =
    all_done c.args.little c.args.bytes.now c.loop-left.left.now c.loop-left.done.items (grind (arith, nat_tests)) c.loop-left.invariant

pub returns-else-is_empty : goal.returns-else-is_empty
returns-else-is_empty c =
    one_left c.args.little c.args.bytes.now c.loop-left.left.now c.loop-left.done.items (grind (arith, nat_tests)) c.in_default.len_below c.loop-left.invariant
