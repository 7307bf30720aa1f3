-- A run that nothing stops ends by no refusal.
use Rattle.std.proofs.Common.{◌≡◌, ◌∙◌, ℕ, ◌+◌, ◌≤◌, List, ◌++◌, length, Option, Some, None, Ok, Err, refl, sym, ap, subst, length-append, arith}
use Rattle.std.specs.Prelude.{IfSome}
use Rattle.byte_io.specs.Reading.{most_bytes}
use Rattle.spec_base.specs.Options.{by_option}
use Rattle.graph_core.specs.declared.graph.ModuleGraph.{ModuleGraph}
use Rattle.world_file.specs.declared.input.Input.{Input}
use Rattle.program_phases.specs.Completes.{IsFinished}
use Rattle.tools_program.specs.declared.jobs.Job.{Job}
use Rattle.tools_program.specs.declared.tool_command.ToolCommand.{ToolCommand}
use Rattle.tools_program.specs.declared.tool_status.ToolStatus.{ToolStatus}
use Rattle.tools_program.specs.declared.tool_status.ToolStatus.TheVariants.{Yes, No, Words, NotAWorld, ReadFault, WriteFault, Budget, LoaderFault, Memory, TooLong, NotAPart}
use Rattle.tools_program.specs.Jobs.{Given, given_for, job_of}
use Rattle.tools_program.specs.Jobs.Given.{NoPart, NoWorld, ToDo}
use Rattle.tools_program.specs.Tasks.{Task, task_in}
use Rattle.tools_program.specs.ToolCompletes.{Completes, IsUnstopped}
use Rattle.tools_program.specs.ToolOutcome.{IsJobBy, IsRefusal, IsReported, SaysOfGiven}
use Rattle.tools_program.specs.ToolStatuses.{run_status}
use Rattle.tools_program.specs.ToolWords.{is_tool, tool_of}
use Rattle.tools_program.specs.Told.{IsTooLargeBy, fails_by}

-- the task and the input of what there is to do
abbrev task_at : Task → Given → Task
task_at other NoPart = other
task_at other NoWorld = other
task_at other (ToDo task input) = task

abbrev input_at : Input → Given → Input
input_at other NoPart = other
input_at other NoWorld = other
input_at other (ToDo task input) = input

abbrev IsToDo : Given → Type 0
IsToDo NoPart = ⊥
IsToDo NoWorld = ⊥
IsToDo (ToDo task input) = Unit {0}

part_to_do : (task : Task) (input : Input) (given : Given) → given ≡ NoPart → given ≡ ToDo task input → ⊥
part_to_do task input given none is = subst IsToDo (sym is ∙ none) tt

world_to_do : (task : Task) (input : Input) (given : Given) → given ≡ NoWorld → given ≡ ToDo task input → ⊥
world_to_do task input given none is = subst IsToDo (sym is ∙ none) tt

not_too_long : (bytes taken rest : List ℕ) → bytes ≡ taken ++ rest → length taken ≡ most_bytes + 1 → length bytes ≤ most_bytes → ⊥
not_too_long bytes taken rest parts long within =
    let whole : length bytes ≡ length taken + length rest = ap length parts ∙ length-append taken rest in
    omega (arith, whole, long, within)

module _ (words : List (List ℕ)) (told : Option (List ℕ)) (SourceFails SinkFails : Type 0) where
  -- words that are no tool's tell nothing to do
  pub words_finish : tool_of words ≡ None → Completes words told SourceFails SinkFails Words
  words_finish none = λ bytes task input tells u source sink.
      part_to_do task input (given_for words bytes) (ap (λ (o : Option ToolCommand). by_option o NoPart (λ c. job_of c bytes)) none) u.job_is

  module _ (command : ToolCommand) (is : tool_of words ≡ Some command) where
    job_is : (bytes : List ℕ) (task : Task) (input : Input) → IsUnstopped words bytes task input → job_of command bytes ≡ ToDo task input
    job_is bytes task input u = sym (ap (λ (o : Option ToolCommand). by_option o NoPart (λ c. job_of c bytes)) is) ∙ u.job_is

    refusal_ends : (bytes : List ℕ) (left : Option (List ℕ)) (task : Task) (input : Input) (status : ToolStatus) → IsUnstopped words bytes task input → SaysOfGiven (job_of command bytes) bytes left status → IsRefusal status → (status ≡ ReadFault → SourceFails) → (SourceFails → ⊥) → IsFinished (run_status status)
    refusal_ends bytes left task input NotAPart u says refused fails calm = part_to_do task input (job_of command bytes) says.1 (job_is bytes task input u)
    refusal_ends bytes left task input NotAWorld u says refused fails calm = world_to_do task input (job_of command bytes) says.1 (job_is bytes task input u)
    refusal_ends bytes left task input ReadFault u says refused fails calm = calm (fails refl)
    refusal_ends bytes left task input TooLong u says refused fails calm = not_too_long bytes says.taken says.rest says.parts says.ends u.within
    refusal_ends bytes left task input Memory u says refused fails calm = tt
    refusal_ends bytes left task input Yes u says refused fails calm = absurd refused
    refusal_ends bytes left task input No u says refused fails calm = absurd refused
    refusal_ends bytes left task input Words u says refused fails calm = absurd refused
    refusal_ends bytes left task input WriteFault u says refused fails calm = absurd refused
    refusal_ends bytes left task input Budget u says refused fails calm = absurd refused
    refusal_ends bytes left task input LoaderFault u says refused fails calm = absurd refused

    pub refused_finish : (left : Option (List ℕ)) (status : ToolStatus) → IfSome told (λ bytes. IsJobBy command bytes left (Err status)) → IsRefusal status → (status ≡ ReadFault → SourceFails) → Completes words told SourceFails SinkFails status
    refused_finish left status read refused fails = λ bytes task input tells u source sink.
        refusal_ends bytes left task input status u (subst (λ (o : Option (List ℕ)). IfSome o (λ bytes. IsJobBy command bytes left (Err status))) tells read) refused fails source

    module _ (left : Option (List ℕ)) (job : Job) (read : IfSome told (λ bytes. IsJobBy command bytes left (Ok job))) where
      -- what was read is what there is to do
      same_job : (bytes : List ℕ) (task : Task) (input : Input) → told ≡ Some bytes → IsUnstopped words bytes task input → ToDo (task_in job.task) job.input ≡ ToDo task input
      same_job bytes task input tells u =
          let whole : IsJobBy command bytes left (Ok job) = subst (λ (o : Option (List ℕ)). IfSome o (λ bytes. IsJobBy command bytes left (Ok job))) tells read in
          sym whole.1 ∙ job_is bytes task input u

      same_task : (bytes : List ℕ) (task : Task) (input : Input) → told ≡ Some bytes → IsUnstopped words bytes task input → task_in job.task ≡ task
      same_task bytes task input tells u = ap (task_at task) (same_job bytes task input tells u)

      same_input : (bytes : List ℕ) (task : Task) (input : Input) → told ≡ Some bytes → IsUnstopped words bytes task input → job.input ≡ input
      same_input bytes task input tells u = ap (input_at input) (same_job bytes task input tells u)

      run_ends : (before after : Option (List ℕ)) (g : ModuleGraph) (status : ToolStatus) (bytes : List ℕ) (task : Task) (input : Input) → told ≡ Some bytes → IsUnstopped words bytes task input → (SinkFails → ⊥) → IsReported (task_in job.task) job.input before after g status → (status ≡ WriteFault → SinkFails) → IsFinished (run_status status)
      run_ends before after g Yes bytes task input tells u calm says fails = tt
      run_ends before after g No bytes task input tells u calm says fails = tt
      run_ends before after g Memory bytes task input tells u calm says fails = tt
      run_ends before after g WriteFault bytes task input tells u calm says fails = calm (fails refl)
      run_ends before after g Budget bytes task input tells u calm says fails =
          let large = subst (λ (t : Task). IsTooLargeBy t input) (same_task bytes task input tells u) (subst (λ (i : Input). IsTooLargeBy (task_in job.task) i) (same_input bytes task input tells u) says.1) in
          large.2 u.questions (u.covers large.0 large.1) u.enough
      run_ends before after g LoaderFault bytes task input tells u calm says fails =
          let some = sym (ap (λ (t : Task). fails_by t input) (same_task bytes task input tells u)) in
          let same = sym (ap (λ (i : Input). fails_by (task_in job.task) i) (same_input bytes task input tells u)) in
          let none = u.none_fails in
          let one = says.1 in
          absurd (cc)
      run_ends before after g Words bytes task input tells u calm says fails = says
      run_ends before after g NotAWorld bytes task input tells u calm says fails = says
      run_ends before after g ReadFault bytes task input tells u calm says fails = says
      run_ends before after g TooLong bytes task input tells u calm says fails = says
      run_ends before after g NotAPart bytes task input tells u calm says fails = says

      pub run_finishes : (before after : Option (List ℕ)) (g : ModuleGraph) (status : ToolStatus) → IsReported (task_in job.task) job.input before after g status → (status ≡ WriteFault → SinkFails) → Completes words told SourceFails SinkFails status
      run_finishes before after g status says fails = λ bytes task input tells u source sink. run_ends before after g status bytes task input tells u sink says fails
