-- The places of the answers so far.
use Rattle.std.proofs.Common.{take}
use Rattle.source_io.specs.AnswerPlaces.{AreNoted}
use Rattle.source_io.proofs.noted_places.NotedPlaces.new.Given as goal

abbrev pub invariant-loop-place : goal.invariant-loop-place
invariant-loop-place l = AreNoted (take l.place l.answers) l.places
