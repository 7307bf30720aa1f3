use Rattle.mapped_targets.proofs.Alike.{slots_alike}
use Rattle.mapped_targets.proofs.laws.mapped_slots_are_by_map.Goals as goal

pub returns : goal.returns
returns c = λ w imports m source context nv_of kind skip config none own plain of. slots_alike w imports m source nv_of kind skip config none own plain of context
