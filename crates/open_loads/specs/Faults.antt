-- What a loader's refusal is to a build.
use Rattle.source_io.specs.declared.types.NextRefusal.{NextRefusal}
use Rattle.source_io.specs.declared.types.NextRefusal.TheVariants as refusal
use Rattle.open_loads.specs.declared.fault.BuildFault.{BuildFault}
use Rattle.open_loads.specs.declared.fault.BuildFault.TheVariants as fault

-- the fault that a refusal is
abbrev pub fault_of : NextRefusal → BuildFault
fault_of refusal.Memory = fault.Memory
fault_of refusal.Failed = fault.Loader
