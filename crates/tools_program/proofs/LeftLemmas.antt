-- What a run says at its end of what its phases handed on.
use Rattle.std.proofs.Common.{◌≡◌, ℕ, List, [], Option, Some, None, refl, sym, subst, append-nil, inl, inr, true}
use Rattle.std.specs.Prelude.{IfSome, Ok, Err}
use Rattle.spec_base.specs.Options.{by_option}
use Rattle.graph_core.specs.declared.graph.ModuleGraph.{ModuleGraph}
use Rattle.graph_core.specs.Graph.{new_graph}
use Rattle.graph_dependencies.specs.declared.graph_kind.GraphKind.TheVariants.{All}
use Rattle.world_file.specs.declared.input.Input.{Input}
use Rattle.tools_program.specs.declared.jobs.Job.{Job}
use Rattle.tools_program.specs.declared.tool_command.ToolCommand.{ToolCommand}
use Rattle.tools_program.specs.declared.tool_report.ToolReport.{ToolReport}
use Rattle.tools_program.specs.declared.tool_status.ToolStatus.{ToolStatus}
use Rattle.tools_program.specs.declared.tool_status.ToolStatus.TheVariants.{Yes, No, Words, NotAWorld, ReadFault, WriteFault, Budget, LoaderFault, Memory, TooLong, NotAPart}
use Rattle.tools_program.specs.Jobs.{Given, given_for, job_of}
use Rattle.tools_program.specs.Jobs.Given.{NoPart, NoWorld, ToDo}
use Rattle.tools_program.specs.Reported.{IsReportOf}
use Rattle.tools_program.specs.Tasks.{IsTaskOf, Task, task_in}
use Rattle.tools_program.specs.ToolOutcome.{IsIdle, IsJobBy, IsLeft, IsRead, IsReported, IsRefusal, IsRun, IsTold, IsUnwritten, SaysOfBytes, SaysOfGiven, SaysOfReport, SaysOfWritten}
use Rattle.tools_program.specs.ToolWords.{tool_of}
use Rattle.tools_program.specs.Told.{KeepsPromiseBy}

-- ---- a report

-- what is as it was isn't written to
pub unwritten : (o : Option (List ℕ)) → IsUnwritten o o
unwritten None = tt
unwritten (Some done) = refl

module _ (task : Task) (input : Input) (before after : Option (List ℕ)) (g : ModuleGraph) (promise : KeepsPromiseBy task input g) (report : ToolReport) (is : IsReportOf task input g report) where
  is_told : (status : ToolStatus) → SaysOfReport report status → IfSome before (λ done. SaysOfWritten done after report.bytes status) → IsTold task input before after g status
  is_told status verdict written = record { promise = promise; report = report; report_is = is; verdict = verdict; written = written }

  -- what the writing of a report says is what is said of the run
  pub reported_at_end : (status : ToolStatus) → SaysOfReport report status → IfSome before (λ done. SaysOfWritten done after report.bytes status) → IsReported task input before after g status
  reported_at_end Yes verdict written = is_told Yes verdict written
  reported_at_end No verdict written = is_told No verdict written
  reported_at_end WriteFault verdict written = is_told WriteFault verdict written
  reported_at_end Words verdict written = absurd verdict
  reported_at_end NotAWorld verdict written = absurd verdict
  reported_at_end ReadFault verdict written = absurd verdict
  reported_at_end Budget verdict written = absurd verdict
  reported_at_end LoaderFault verdict written = absurd verdict
  reported_at_end Memory verdict written = absurd verdict
  reported_at_end TooLong verdict written = absurd verdict
  reported_at_end NotAPart verdict written = absurd verdict

-- ---- the input

-- what is said by a tool's command is said by the words that name it
given_by_words : (words : List (List ℕ)) (command : ToolCommand) (bytes : List ℕ) → tool_of words ≡ Some command → given_for words bytes ≡ job_of command bytes
given_by_words words command bytes is = subst (λ (o : Option ToolCommand). by_option o NoPart (λ c. job_of c bytes) ≡ job_of command bytes) (sym is) refl

pub bytes_for : (words : List (List ℕ)) (command : ToolCommand) (told left : Option (List ℕ)) (status : ToolStatus) → tool_of words ≡ Some command → IfSome told (λ bytes. SaysOfGiven (job_of command bytes) bytes left status) → IfSome told (λ bytes. SaysOfBytes words bytes left status)
bytes_for words command None left status is says = tt
bytes_for words command (Some bytes) left status is says = subst (λ (given : Given). SaysOfGiven given bytes left status) (sym (given_by_words words command bytes is)) says

module _ (command : ToolCommand) (bytes : List ℕ) (left : Option (List ℕ)) (job : Job) (read : IsJobBy command bytes left (Ok job)) (before after : Option (List ℕ)) (g : ModuleGraph) where
  at_end : (status : ToolStatus) → IsReported (task_in job.task) job.input before after g status → SaysOfGiven (job_of command bytes) bytes left status
  at_end Yes says = (read.0, (task_in job.task, job.input, read.1))
  at_end No says = (read.0, (task_in job.task, job.input, read.1))
  at_end WriteFault says = (read.0, (task_in job.task, job.input, read.1))
  at_end Budget says = (read.0, (task_in job.task, job.input, read.1))
  at_end LoaderFault says = (read.0, (task_in job.task, job.input, read.1))
  at_end Memory says = record { taken = bytes; rest = []; parts = sym (append-nil bytes); leaves = read.0.0; ends = read.0.1 }
  at_end Words says = absurd says
  at_end NotAWorld says = absurd says
  at_end ReadFault says = absurd says
  at_end TooLong says = absurd says
  at_end NotAPart says = absurd says

pub bytes_at_end : (command : ToolCommand) (told left : Option (List ℕ)) (job : Job) → IfSome told (λ bytes. IsJobBy command bytes left (Ok job)) → (before after : Option (List ℕ)) (g : ModuleGraph) (status : ToolStatus) → IsReported (task_in job.task) job.input before after g status → IfSome told (λ bytes. SaysOfGiven (job_of command bytes) bytes left status)
bytes_at_end command None left job read before after g status says = tt
bytes_at_end command (Some bytes) left job read before after g status says = at_end command bytes left job read before after g status says

-- what is said where nothing is done
pub bytes_refused : (command : ToolCommand) (told left : Option (List ℕ)) (status : ToolStatus) → IfSome told (λ bytes. IsJobBy command bytes left (Err status)) → IfSome told (λ bytes. SaysOfGiven (job_of command bytes) bytes left status)
bytes_refused command None left status read = tt
bytes_refused command (Some bytes) left status read = read

-- ---- the graph and what is written

-- the job that was read, where the source tells its bytes
job_told : (command : ToolCommand) (told left : Option (List ℕ)) (job : Job) → IfSome told (λ bytes. IsJobBy command bytes left (Ok job)) → IfSome told (λ bytes. job_of command bytes ≡ ToDo (task_in job.task) job.input)
job_told command None left job read = tt
job_told command (Some bytes) left job read = read.1

module _ (words : List (List ℕ)) (command : ToolCommand) (is : tool_of words ≡ Some command) (told left : Option (List ℕ)) (job : Job) (fits : IsTaskOf command (task_in job.task)) (read : IfSome told (λ bytes. IsJobBy command bytes left (Ok job))) (before after : Option (List ℕ)) (g : ModuleGraph) where
  runs : (status : ToolStatus) → IsReported (task_in job.task) job.input before after g status → IsRun words told before after g status
  runs status says = record { command = command; command_is = is; task = task_in job.task; fits = fits; input = job.input; job_is = job_told command told left job read; says = says }

  pub left_at_end : (status : ToolStatus) → IsReported (task_in job.task) job.input before after g status → IsLeft words told before after g status
  left_at_end Yes says = runs Yes says
  left_at_end No says = runs No says
  left_at_end WriteFault says = runs WriteFault says
  left_at_end Budget says = runs Budget says
  left_at_end LoaderFault says = runs LoaderFault says
  left_at_end Memory says = inr (runs Memory says)
  left_at_end Words says = absurd says
  left_at_end NotAWorld says = absurd says
  left_at_end ReadFault says = absurd says
  left_at_end TooLong says = absurd says
  left_at_end NotAPart says = absurd says

-- nothing was done
idle : (o : Option (List ℕ)) (g : ModuleGraph) → g ≡ new_graph All → IsIdle o o g
idle o g empty = record { empty = empty; unwritten = unwritten o }

pub left_idle : (words : List (List ℕ)) (told o : Option (List ℕ)) (g : ModuleGraph) (status : ToolStatus) → IsRefusal status → g ≡ new_graph All → IsLeft words told o o g status
left_idle words told o g NotAPart refused empty = idle o g empty
left_idle words told o g NotAWorld refused empty = idle o g empty
left_idle words told o g ReadFault refused empty = idle o g empty
left_idle words told o g TooLong refused empty = idle o g empty
left_idle words told o g Memory refused empty = inl (idle o g empty)
left_idle words told o g Yes refused empty = absurd refused
left_idle words told o g No refused empty = absurd refused
left_idle words told o g Words refused empty = absurd refused
left_idle words told o g WriteFault refused empty = absurd refused
left_idle words told o g Budget refused empty = absurd refused
left_idle words told o g LoaderFault refused empty = absurd refused

-- no words
pub left_unnamed : (words : List (List ℕ)) (told o : Option (List ℕ)) (g : ModuleGraph) → g ≡ new_graph All → IsLeft words told o o g Words
left_unnamed words told o g empty = idle o g empty
