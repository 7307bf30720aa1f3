-- The places of the infos so far.
use Rattle.std.proofs.Common.{take}
use Rattle.spec_base.specs.Places.{IsIndex}
use Rattle.module_info.specs.Infos.{lists_info}
use Rattle.module_info.proofs.table.places_of.Given as goal

abbrev pub invariant-loop-place : goal.invariant-loop-place
invariant-loop-place l = IsIndex lists_info (take l.place l.infos) l.places
