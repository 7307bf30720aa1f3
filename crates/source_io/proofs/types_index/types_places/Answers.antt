use Rattle.spec_base.proofs.PlaceLemmas.{index_none}
use Rattle.source_io.specs.Places.{names_types_of}
use Rattle.source_io.proofs.types_index.types_places.Goals as goal

pub loop-place-init : goal.loop-place-init
loop-place-init c = rw c.new-places.ensures (index_none names_types_of)
