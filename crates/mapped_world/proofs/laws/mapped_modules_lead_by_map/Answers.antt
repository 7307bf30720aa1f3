use Rattle.mapped_world.proofs.Covered.{module_leads}
use Rattle.mapped_world.proofs.laws.mapped_modules_lead_by_map.Goals as goal

pub returns : goal.returns
returns c = λ w imports m here headers info media types_wanted nv_of none own of. module_leads w imports m here headers info media types_wanted nv_of none own of
