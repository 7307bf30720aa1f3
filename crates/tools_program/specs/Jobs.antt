-- What a tool is to do over which input, by the bytes that it reads.
use Rattle.std.specs.Prelude.{◌≡◌, ℕ, List, Result, Ok, Err, ⊤}
use Rattle.spec_base.specs.Options.{by_option}
use Rattle.spec_base.specs.declared.refusal.Refusal.{Refusal}
use Rattle.spec_base.specs.declared.refusal.Refusal.TheVariants as refusal
use Rattle.world_file.specs.WorldFile.{world_of}
use Rattle.world_file.specs.declared.input.Input.{Input}
use Rattle.tools_program.specs.declared.jobs.Job.{Job}
use Rattle.tools_program.specs.declared.jobs.JobRefusal.{JobRefusal}
use Rattle.tools_program.specs.declared.jobs.JobRefusal.TheVariants.{NotAPart, NotAWorld}
use Rattle.tools_program.specs.declared.tool_command.ToolCommand.{ToolCommand}
use Rattle.tools_program.specs.Tasks.{Task, input_by, task_in, task_of, world_part}
use Rattle.tools_program.specs.ToolWords.{tool_of}

-- what bytes are for a tool: what stands beside the world is missing, or the world, or there is a task over an input
pub data Given : Type 0 where
  NoPart : Given
  NoWorld : Given
  ToDo : (task : Task) → (input : Input) → Given

-- a task over the world that bytes are
abbrev pub world_in : Task → List ℕ → Given
world_in task bytes = by_option (world_of bytes) NoWorld (λ world. ToDo task (input_by task world))

-- what bytes are for a command; what stands beside the world is judged first
abbrev pub job_of : ToolCommand → List ℕ → Given
job_of command bytes = by_option (task_of command bytes) NoPart (λ task. world_in task (world_part command bytes))

-- the same for the tool of some words
abbrev pub given_for : List (List ℕ) → List ℕ → Given
given_for words bytes = by_option (tool_of words) NoPart (λ command. job_of command bytes)

-- the job that was read, where one stands there, unless there was no memory
abbrev pub ReadsJob : Result Job (Refusal JobRefusal) → Given → Type 0
ReadsJob (Ok job) given = given ≡ ToDo (task_in job.task) job.input
ReadsJob (Err refusal.Memory) given = ⊤
ReadsJob (Err (refusal.Is NotAPart)) given = given ≡ NoPart
ReadsJob (Err (refusal.Is NotAWorld)) given = given ≡ NoWorld
