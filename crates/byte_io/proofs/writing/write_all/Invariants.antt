-- The text up to the rest was written.
use Rattle.std.proofs.Common.{◌≤◌, length}
use Rattle.byte_io.proofs.WriteLemmas.{IsPartWritten}
use Rattle.byte_io.proofs.writing.write_all.Given as goal

abbrev pub invariant-loop-rest : goal.invariant-loop-rest
invariant-loop-rest g l =
    IsPartWritten (g.K.ByteSink.written l.fn.sink) (g.K.ByteSink.written l.sink) l.text l.rest
    × (g.K.ByteSink.faults l.fn.sink ≤ g.K.ByteSink.faults l.sink)

abbrev pub decreases-loop-rest : goal.decreases-loop-rest
decreases-loop-rest g l = length l.rest
