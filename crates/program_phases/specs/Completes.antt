-- Runs that nothing stops.
use Rattle.std.specs.Prelude.{◌≡◌, ◌⊎◌, ℕ, ◌≤◌, ⊤, true, false, List, length, Option, Some}
use Rattle.source_io.specs.Calls.{lists_within}
use Rattle.turn_laws.specs.Budget.Covers.{Counted, Covers}
use Rattle.graph_turns.specs.Machine.Turns.{PutsWithin}
use Rattle.world_file.specs.declared.input.Input.{Input}
use Rattle.program_phases.specs.declared.status.Status.{Status}
use Rattle.program_phases.specs.declared.status.Status.TheVariants.{Valid, Invalid, Words, NotAWorld, ReadFault, WriteFault, Budget, LoaderFault, Memory, TooLong}
use Rattle.graph_printing.specs.Commands.{is_command}
use Rattle.program_phases.specs.Outcome.{begun_by, given_in, told_of_input, enough_for}
use Rattle.byte_io.specs.Reading.{most_bytes}
use Rattle.world_file.specs.WorldFile.{world_of}
use Rattle.world_file.specs.WorldRegistry.{IsLimit}
use Rattle.version_dates.specs.declared.newest_date.NewestDependencyDateOptions.{NewestDependencyDateOptions}

-- as many questions may be put as are enough by some list that covers what is reached
pub record IsCovered (input : Input) : Type 0 where
  pub questions : List Counted
  pub covers : (newest : NewestDependencyDateOptions) → IsLimit input.registry.newest newest → Covers (told_of_input input newest) (given_in input) questions
  pub enough : enough_for input questions ≤ input.max_loads

-- or as any number of turns puts
abbrev pub IsAfforded : Input → Type 0
IsAfforded input =
    (newest : NewestDependencyDateOptions) → IsLimit input.registry.newest newest
    → PutsWithin (told_of_input input newest) input.kind (begun_by input newest) input.max_loads

-- the words are a command, the bytes are a world file that isn't too long, no call that can come is to fail, and enough questions may be put
pub record IsUnstopped (words : List (List ℕ)) (bytes : List ℕ) (input : Input) : Type 0 where
  pub command : is_command words ≡ true
  pub within : length bytes ≤ most_bytes
  pub world : world_of bytes ≡ Some input
  pub none_fails : lists_within input.fail_next input.max_loads ≡ false
  pub enough : IsCovered input ⊎ IsAfforded input

-- the graph is written, or there was no memory
abbrev pub IsFinished : Status → Type 0
IsFinished Valid = ⊤
IsFinished Invalid = ⊤
IsFinished Memory = ⊤
IsFinished Words = ⊥
IsFinished NotAWorld = ⊥
IsFinished ReadFault = ⊥
IsFinished WriteFault = ⊥
IsFinished Budget = ⊥
IsFinished LoaderFault = ⊥
IsFinished TooLong = ⊥

-- where the source tells its bytes, nothing stops the run, and neither source nor sink fails, it finishes
abbrev pub Completes : List (List ℕ) → Option (List ℕ) → Type 0 → Type 0 → Status → Type 0
Completes words told SourceFails SinkFails status =
    (bytes : List ℕ) (input : Input) → told ≡ Some bytes → IsUnstopped words bytes input → (SourceFails → ⊥) → (SinkFails → ⊥) → IsFinished status
