-- The places of the entries so far.
use Rattle.std.proofs.Common.{take}
use Rattle.spec_base.specs.Places.{IsIndex}
use Rattle.source_io.specs.Answers.{tells_of}
use Rattle.source_io.proofs.cache_places.cache_places.Given as goal

abbrev pub invariant-loop-place : goal.invariant-loop-place
invariant-loop-place l = IsIndex tells_of (take l.place l.entries) l.places
