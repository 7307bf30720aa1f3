use Rattle.mapped_world.proofs.Covered.{import_leads}
use Rattle.mapped_world.proofs.laws.mapped_imports_lead_by_map.Goals as goal

pub returns : goal.returns
returns c = λ w imports m i nv_of none own among. import_leads w imports m i nv_of none own among
