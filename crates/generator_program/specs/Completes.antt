-- Runs that nothing stops.
use Rattle.std.specs.Prelude.{◌⊎◌}
use Rattle.world_file.specs.declared.input.Input.{Input}
use Rattle.program_phases.specs.Completes.{IsAfforded, IsCovered, IsFinished}
use Rattle.program_phases.specs.declared.status.Status.{Status}

-- where enough questions may be put over an input, and the sink doesn't fail, a run finishes
abbrev pub CompletesOver : Input → Type 0 → Status → Type 0
CompletesOver input SinkFails status = IsCovered input ⊎ IsAfforded input → (SinkFails → ⊥) → IsFinished status
