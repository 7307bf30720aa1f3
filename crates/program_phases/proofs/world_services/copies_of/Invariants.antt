-- The texts so far.
use Rattle.std.proofs.Common.{◌≡◌, map, string_bytes, take}
use Rattle.program_phases.proofs.world_services.copies_of.Given as goal

abbrev pub invariant-loop-text : goal.invariant-loop-text
invariant-loop-text l = map string_bytes l.copies.items ≡ take l.text-index l.texts
