-- What each status of a tool says of the words, the input, the graph and the report.
use Rattle.std.specs.Prelude.{◌≡◌, ◌⊎◌, ℕ, ◌≤◌, ⊤, true, false, List, [], length, Option, Some, IfSome, Result, Ok, Err}
use Rattle.byte_io.specs.declared.reading.ReadRefusal.TheVariants as refusal
use Rattle.byte_io.specs.Reading.{ReadsAll, most_bytes}
use Rattle.graph_dependencies.specs.declared.graph_kind.GraphKind.TheVariants.{All}
use Rattle.graph_core.specs.declared.graph.ModuleGraph.{ModuleGraph}
use Rattle.graph_core.specs.Graph.{new_graph}
use Rattle.world_file.specs.declared.input.Input.{Input}
use Rattle.program_phases.specs.Outcome.{SaysOfText}
use Rattle.tools_program.specs.declared.jobs.Job.{Job}
use Rattle.tools_program.specs.declared.tool_command.ToolCommand.{ToolCommand}
use Rattle.tools_program.specs.declared.tool_report.ToolReport.{ToolReport}
use Rattle.tools_program.specs.declared.tool_status.ToolStatus.{ToolStatus}
use Rattle.tools_program.specs.declared.tool_status.ToolStatus.TheVariants.{Yes, No, Words, NotAWorld, ReadFault, WriteFault, Budget, LoaderFault, Memory, TooLong, NotAPart}
use Rattle.tools_program.specs.Jobs.{Given, given_for, job_of}
use Rattle.tools_program.specs.Jobs.Given.{NoPart, NoWorld, ToDo}
use Rattle.tools_program.specs.Reported.{IsReportOf}
use Rattle.tools_program.specs.Tasks.{IsTaskOf, Task, task_in}
use Rattle.tools_program.specs.ToolStatuses.{run_status}
use Rattle.tools_program.specs.ToolWords.{tool_of}
use Rattle.tools_program.specs.Told.{IsTooLargeBy, KeepsPromiseBy, fails_by}

-- ---- the input

-- the whole input was read
abbrev pub IsRead : List ℕ → Option (List ℕ) → Type 0
IsRead bytes left = (left ≡ Some []) × (length bytes ≤ most_bytes)

-- there is something to do
abbrev pub HasJob : Given → Type 0
HasJob given = (task : Task) × (input : Input) × (given ≡ ToDo task input)

-- what each status says of the bytes that the source had, of what it has left, and of what the bytes are for a tool
abbrev pub SaysOfGiven : Given → List ℕ → Option (List ℕ) → ToolStatus → Type 0
SaysOfGiven given bytes left Words = left ≡ Some bytes
SaysOfGiven given bytes left NotAPart = IsRead bytes left × (given ≡ NoPart)
SaysOfGiven given bytes left NotAWorld = IsRead bytes left × (given ≡ NoWorld)
SaysOfGiven given bytes left ReadFault = ReadsAll bytes left (Err refusal.Failed)
SaysOfGiven given bytes left TooLong = ReadsAll bytes left (Err refusal.TooLong)
SaysOfGiven given bytes left Memory = ReadsAll bytes left (Err refusal.Memory)
SaysOfGiven given bytes left Yes = IsRead bytes left × HasJob given
SaysOfGiven given bytes left No = IsRead bytes left × HasJob given
SaysOfGiven given bytes left WriteFault = IsRead bytes left × HasJob given
SaysOfGiven given bytes left Budget = IsRead bytes left × HasJob given
SaysOfGiven given bytes left LoaderFault = IsRead bytes left × HasJob given

-- the same for the tool of some words
abbrev pub SaysOfBytes : List (List ℕ) → List ℕ → Option (List ℕ) → ToolStatus → Type 0
SaysOfBytes words bytes left status = SaysOfGiven (given_for words bytes) bytes left status

-- the statuses of a run that has nothing to do
abbrev pub IsRefusal : ToolStatus → Type 0
IsRefusal NotAPart = ⊤
IsRefusal NotAWorld = ⊤
IsRefusal ReadFault = ⊤
IsRefusal TooLong = ⊤
IsRefusal Memory = ⊤
IsRefusal Yes = ⊥
IsRefusal No = ⊥
IsRefusal Words = ⊥
IsRefusal WriteFault = ⊥
IsRefusal Budget = ⊥
IsRefusal LoaderFault = ⊥

-- what there is to do by the input that was read whole, or why there is nothing
abbrev pub IsJobBy : ToolCommand → List ℕ → Option (List ℕ) → Result Job ToolStatus → Type 0
IsJobBy command bytes left (Ok job) = IsRead bytes left × (job_of command bytes ≡ ToDo (task_in job.task) job.input)
IsJobBy command bytes left (Err status) = SaysOfGiven (job_of command bytes) bytes left status

-- ---- the report

-- what the statuses of a report that is written say of it
abbrev pub SaysOfReport : ToolReport → ToolStatus → Type 0
SaysOfReport report Yes = report.is_yes ≡ true
SaysOfReport report No = report.is_yes ≡ false
SaysOfReport report WriteFault = ⊤
SaysOfReport report Words = ⊥
SaysOfReport report NotAWorld = ⊥
SaysOfReport report ReadFault = ⊥
SaysOfReport report Budget = ⊥
SaysOfReport report LoaderFault = ⊥
SaysOfReport report Memory = ⊥
SaysOfReport report TooLong = ⊥
SaysOfReport report NotAPart = ⊥

-- what each status says of what is written after what was, where these are the bytes of the report
abbrev pub SaysOfWritten : List ℕ → Option (List ℕ) → List ℕ → ToolStatus → Type 0
SaysOfWritten done written bytes status = SaysOfText done written bytes (run_status status)

-- a report of a graph that keeps the promise was made, and is written whole, or cut short by a failure
pub record IsTold (task : Task) (input : Input) (before after : Option (List ℕ)) (g : ModuleGraph) (status : ToolStatus) : Type 0 where
  pub promise : KeepsPromiseBy task input g
  pub report : ToolReport
  pub report_is : IsReportOf task input g report
  pub verdict : SaysOfReport report status
  pub written : IfSome before (λ done. SaysOfWritten done after report.bytes status)

-- nothing is written
abbrev pub IsUnwritten : Option (List ℕ) → Option (List ℕ) → Type 0
IsUnwritten before after = IfSome before (λ done. after ≡ Some done)

-- what each status of a task over its input says of the graph and of what is written
abbrev pub IsReported : Task → Input → Option (List ℕ) → Option (List ℕ) → ModuleGraph → ToolStatus → Type 0
IsReported task input before after g Yes = IsTold task input before after g Yes
IsReported task input before after g No = IsTold task input before after g No
IsReported task input before after g WriteFault = IsTold task input before after g WriteFault
IsReported task input before after g Budget = (g ≡ new_graph input.kind) × IsTooLargeBy task input × IsUnwritten before after
IsReported task input before after g LoaderFault = (g ≡ new_graph input.kind) × (fails_by task input ≡ true) × IsUnwritten before after
IsReported task input before after g Memory = ((g ≡ new_graph input.kind) ⊎ KeepsPromiseBy task input g) × IsUnwritten before after
IsReported task input before after g Words = ⊥
IsReported task input before after g NotAWorld = ⊥
IsReported task input before after g ReadFault = ⊥
IsReported task input before after g TooLong = ⊥
IsReported task input before after g NotAPart = ⊥

-- ---- a run

-- the tool of the words did a task of its own over its input, which are those of the bytes where these are told
pub record IsRun (words : List (List ℕ)) (told before after : Option (List ℕ)) (g : ModuleGraph) (status : ToolStatus) : Type 0 where
  pub command : ToolCommand
  pub command_is : tool_of words ≡ Some command
  pub task : Task
  pub fits : IsTaskOf command task
  pub input : Input
  pub job_is : IfSome told (λ bytes. job_of command bytes ≡ ToDo task input)
  pub says : IsReported task input before after g status

-- there is no tool or nothing to do: the graph is the empty one of the kind `All`, and nothing is written
pub record IsIdle (before after : Option (List ℕ)) (g : ModuleGraph) : Type 0 where
  pub empty : g ≡ new_graph All
  pub unwritten : IsUnwritten before after

-- what each status says of what a run leaves
abbrev pub IsLeft : List (List ℕ) → Option (List ℕ) → Option (List ℕ) → Option (List ℕ) → ModuleGraph → ToolStatus → Type 0
IsLeft words told before after g Yes = IsRun words told before after g Yes
IsLeft words told before after g No = IsRun words told before after g No
IsLeft words told before after g WriteFault = IsRun words told before after g WriteFault
IsLeft words told before after g Budget = IsRun words told before after g Budget
IsLeft words told before after g LoaderFault = IsRun words told before after g LoaderFault
IsLeft words told before after g Memory = IsIdle before after g ⊎ IsRun words told before after g Memory
IsLeft words told before after g Words = IsIdle before after g
IsLeft words told before after g NotAWorld = IsIdle before after g
IsLeft words told before after g ReadFault = IsIdle before after g
IsLeft words told before after g TooLong = IsIdle before after g
IsLeft words told before after g NotAPart = IsIdle before after g
