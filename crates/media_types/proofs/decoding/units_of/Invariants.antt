-- The units so far and those of what is left are the units of all.
use Rattle.std.proofs.Common.{◌≡◌, ◌++◌, length}
use Rattle.std.specs.Prelude.{option_map}
use Rattle.media_types.specs.Decode.{units}
use Rattle.media_types.proofs.decoding.units_of.Given as goal

abbrev pub invariant-loop-left : goal.invariant-loop-left
invariant-loop-left l =
    units l.little l.fn.bytes ≡ option_map (λ us. l.done.items ++ us) (units l.little l.left)

abbrev pub decreases-loop-left : goal.decreases-loop-left
decreases-loop-left l = length l.left
