use Rattle.spec_base.proofs.PlaceLemmas.{index_none}
use Rattle.source_io.specs.Answers.{tells_of}
use Rattle.source_io.proofs.cache_places.cache_places.Goals as goal

pub loop-place-init : goal.loop-place-init
loop-place-init c = rw c.new-places.ensures (index_none tells_of)
