-- Runs of a tool that nothing stops.
use Rattle.std.specs.Prelude.{◌≡◌, ℕ, ◌≤◌, false, List, length, Option, Some}
use Rattle.byte_io.specs.Reading.{most_bytes}
use Rattle.turn_laws.specs.Budget.Covers.{Counted, Covers}
use Rattle.version_dates.specs.declared.newest_date.NewestDependencyDateOptions.{NewestDependencyDateOptions}
use Rattle.world_file.specs.WorldRegistry.{IsLimit}
use Rattle.world_file.specs.declared.input.Input.{Input}
use Rattle.program_phases.specs.Completes.{IsFinished}
use Rattle.program_phases.specs.Outcome.{enough_for, given_in}
use Rattle.tools_program.specs.declared.tool_status.ToolStatus.{ToolStatus}
use Rattle.tools_program.specs.Jobs.{given_for}
use Rattle.tools_program.specs.Jobs.Given.{ToDo}
use Rattle.tools_program.specs.Tasks.{Task}
use Rattle.tools_program.specs.ToolStatuses.{run_status}
use Rattle.tools_program.specs.Told.{fails_by, told_by}

-- the words are a tool's, the bytes tell it a task over an input and aren't too long, no call that can come is to fail, and as many
-- questions may be put as are enough by some list that covers what is reached
pub record IsUnstopped (words : List (List ℕ)) (bytes : List ℕ) (task : Task) (input : Input) : Type 0 where
  pub within : length bytes ≤ most_bytes
  pub job_is : given_for words bytes ≡ ToDo task input
  pub none_fails : fails_by task input ≡ false
  pub questions : List Counted
  pub covers : (newest : NewestDependencyDateOptions) → IsLimit input.registry.newest newest → Covers (told_by task input newest) (given_in input) questions
  pub enough : enough_for input questions ≤ input.max_loads

-- where the source tells its bytes, nothing stops the run, and neither source nor sink fails, it finishes
abbrev pub Completes : List (List ℕ) → Option (List ℕ) → Type 0 → Type 0 → ToolStatus → Type 0
Completes words told SourceFails SinkFails status =
    (bytes : List ℕ) (task : Task) (input : Input) → told ≡ Some bytes → IsUnstopped words bytes task input
    → (SourceFails → ⊥) → (SinkFails → ⊥) → IsFinished (run_status status)
