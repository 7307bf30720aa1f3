use Rattle.byte_io.proofs.ReadLemmas.{refused_read}
use Rattle.byte_io.proofs.reading.read_all.Goals as goal

pub returns-in-Err-clause-read : goal.returns-in-Err-clause-read
returns-in-Err-clause-read g c =
    refused_read (g.S.ByteSource.left c.args.source.now) (g.S.ByteSource.left c.loop-bytes.source) (g.S.ByteSource.left c.read_part.new.source) c.loop-bytes.bytes.items c.read_part.new.bytes.items c.in-Err.refusal c.loop-bytes.invariant.0 c.in-Err.ensures.takes
