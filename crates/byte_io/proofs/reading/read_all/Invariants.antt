-- What was taken stands in the bytes.
use Rattle.std.proofs.Common.{◌≡◌, ◌≤◌, ◌-◌, length}
use Rattle.byte_io.specs.Reading.{most_bytes}
use Rattle.byte_io.proofs.ReadLemmas.{IsPartRead}
use Rattle.byte_io.proofs.reading.read_all.Given as goal

abbrev pub invariant-loop-bytes : goal.invariant-loop-bytes
invariant-loop-bytes g l =
    IsPartRead (g.S.ByteSource.left l.fn.source) (g.S.ByteSource.left l.source) l.bytes.items
    × (length l.bytes.items ≤ most_bytes)
    × (g.S.ByteSource.faults l.fn.source ≤ g.S.ByteSource.faults l.source)
    × (length l.buffer ≡ 8192)

abbrev pub decreases-loop-bytes : goal.decreases-loop-bytes
decreases-loop-bytes g l = most_bytes - length l.bytes.items
