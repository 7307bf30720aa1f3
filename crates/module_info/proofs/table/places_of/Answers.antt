use Rattle.spec_base.proofs.PlaceLemmas.{index_none}
use Rattle.module_info.specs.Infos.{lists_info}
use Rattle.module_info.proofs.table.places_of.Goals as goal

pub loop-place-init : goal.loop-place-init
loop-place-init c = rw c.new-places.ensures (index_none lists_info)
