-- What a run with workers or without them writes, and when it finishes.
use Rattle.std.specs.Prelude.{◌≡◌, ◌⊎◌, ℕ, ◌≤◌, true, false, List, length, Option, Some, None}
use Rattle.spec_base.specs.Options.{by_option}
use Rattle.source_io.specs.Calls.{lists_within}
use Rattle.graph_core.specs.declared.graph.ModuleGraph.{ModuleGraph}
use Rattle.byte_io.specs.Reading.{most_bytes}
use Rattle.world_file.specs.WorldFile.{world_of}
use Rattle.world_file.specs.declared.input.Input.{Input}
use Rattle.program_phases.specs.Completes.{IsAfforded, IsCovered, IsFinished}
use Rattle.graph_printing.specs.Printed.{printed, printed_for}
use Rattle.program_phases.specs.declared.status.Status.{Status}
use Rattle.graph_info.specs.Words.{workers_of, is_command_of_all}

-- what the command of some words writes of a graph: with workers what `build` writes
abbrev pub printed_of_all : List (List ℕ) → ModuleGraph → List ℕ
printed_of_all words g = by_option (workers_of words) (printed_for words g) (λ workers. printed g)

-- the bytes are a world file that isn't too long, and enough questions may be put
pub record HasRoom (bytes : List ℕ) (input : Input) : Type 0 where
  pub within : length bytes ≤ most_bytes
  pub world : world_of bytes ≡ Some input
  pub enough : IsCovered input ⊎ IsAfforded input

-- where the source tells its bytes, there is room for a build through workers, and neither source nor sink fails, a run finishes
abbrev pub CompletesPooled : Option (List ℕ) → Type 0 → Type 0 → Status → Type 0
CompletesPooled told SourceFails SinkFails status =
    (bytes : List ℕ) (input : Input) → told ≡ Some bytes → HasRoom bytes input → (SourceFails → ⊥) → (SinkFails → ⊥) → IsFinished status

-- the words are a command, there is room for the build, and without workers no call that can come is to fail
pub record IsUnstoppedOfAll (words : List (List ℕ)) (bytes : List ℕ) (input : Input) : Type 0 where
  pub command : is_command_of_all words ≡ true
  pub room : HasRoom bytes input
  pub none_fails : workers_of words ≡ None → lists_within input.fail_next input.max_loads ≡ false

-- where the source tells its bytes, nothing stops the run, and neither source nor sink fails, it finishes
abbrev pub CompletesOfAll : List (List ℕ) → Option (List ℕ) → Type 0 → Type 0 → Status → Type 0
CompletesOfAll words told SourceFails SinkFails status =
    (bytes : List ℕ) (input : Input) → told ≡ Some bytes → IsUnstoppedOfAll words bytes input → (SourceFails → ⊥) → (SinkFails → ⊥) → IsFinished status
