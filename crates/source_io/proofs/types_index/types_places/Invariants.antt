-- The places of the entries so far.
use Rattle.std.proofs.Common.{take}
use Rattle.spec_base.specs.Places.{IsIndex}
use Rattle.source_io.specs.Places.{names_types_of}
use Rattle.source_io.proofs.types_index.types_places.Given as goal

abbrev pub invariant-loop-place : goal.invariant-loop-place
invariant-loop-place l = IsIndex names_types_of (take l.place l.entries) l.places
