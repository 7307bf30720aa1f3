-- The task that bytes tell a command is one of its own.
use Rattle.std.proofs.Common.{◌≡◌, ◌∙◌, ℕ, List, Option, Some, None, refl, sym, ap, subst}
use Rattle.std.specs.Prelude.{option_and_then, option_map, unwrap_or}
use Rattle.spec_base.specs.Options.{by_option}
use Rattle.import_policy.specs.RuleList.{rules_of}
use Rattle.world_file.specs.WorldFile.{world_of}
use Rattle.world_file.specs.declared.input.Input.{Input}
use Rattle.graph_store.specs.Reading.{store_at}
use Rattle.tools_program.specs.declared.tool_command.ToolCommand.{ToolCommand}
use Rattle.tools_program.specs.declared.tool_command.ToolCommand.TheVariants as command
use Rattle.tools_program.specs.Jobs.{Given, job_of, world_in}
use Rattle.tools_program.specs.Jobs.Given.{NoPart, NoWorld, ToDo}
use Rattle.tools_program.specs.Lines.{behind_line, first_line}
use Rattle.tools_program.specs.MapLine.{map_of_line}
use Rattle.tools_program.specs.Tasks.{IsTaskOf, Task, input_by, task_of, world_part}
use Rattle.tools_program.specs.Tasks.Task.{Judges, Locks, Maps, Replays, Stores}

same_task : (a b : Task) → Some a ≡ Some b → a ≡ b
same_task a b same = ap (λ (o : Option Task). unwrap_or o a) same

abbrev HasTask : Option Task → Type 0
HasTask None = ⊥
HasTask (Some task) = Unit {0}

no_task : (task : Task) → None ≡ Some task → ⊥
no_task task same = subst HasTask (sym same) tt

module _ {X : Type 0} (make : X → Task) (command : ToolCommand) (fits : (x : X) → IsTaskOf command (make x)) where
  of_value : (o : Option X) (task : Task) → option_map make o ≡ Some task → IsTaskOf command task
  of_value None task is = absurd (no_task task is)
  of_value (Some x) task is = subst (IsTaskOf command) (same_task (make x) task is) (fits x)

  of_line : (read : List ℕ → Option X) (o : Option (List ℕ)) (task : Task) → option_and_then (λ line. option_map make (read line)) o ≡ Some task → IsTaskOf command task
  of_line read None task is = absurd (no_task task is)
  of_line read (Some line) task is = of_value (read line) task is

task_fits : (command : ToolCommand) (bytes : List ℕ) (task : Task) → task_of command bytes ≡ Some task → IsTaskOf command task
task_fits (command.Lock strict) bytes task is = subst (IsTaskOf (command.Lock strict)) (same_task (Locks strict) task is) refl
task_fits command.Policy bytes task is = of_line Judges command.Policy (λ rules. tt) rules_of (first_line bytes) task is
task_fits command.Map bytes task is = of_line Maps command.Map (λ map. tt) map_of_line (first_line bytes) task is
task_fits command.Store bytes task is = subst (IsTaskOf command.Store) (same_task Stores task is) tt
task_fits command.Replay bytes task is = of_line Replays command.Replay (λ entries. tt) (λ line. store_at (behind_line bytes)) (first_line bytes) task is

-- what there is to do
abbrev task_at : Task → Given → Task
task_at other NoPart = other
task_at other NoWorld = other
task_at other (ToDo task input) = task

abbrev IsToDo : Given → Type 0
IsToDo NoPart = ⊥
IsToDo NoWorld = ⊥
IsToDo (ToDo task input) = Unit {0}

over_world : (found : Task) (o : Option Input) (task : Task) (input : Input) → by_option o NoWorld (λ world. ToDo found (input_by found world)) ≡ ToDo task input → found ≡ task
over_world found None task input is = absurd (subst IsToDo (sym is) tt)
over_world found (Some world) task input is = ap (task_at task) is

pub job_fits : (command : ToolCommand) (bytes : List ℕ) (task : Task) (input : Input) → job_of command bytes ≡ ToDo task input → IsTaskOf command task
job_fits command bytes task input is = by_task (task_of command bytes) refl is
  where
    by_task : (o : Option Task) → task_of command bytes ≡ o → by_option o NoPart (λ found. world_in found (world_part command bytes)) ≡ ToDo task input → IsTaskOf command task
    by_task None found same = absurd (subst IsToDo (sym same) tt)
    by_task (Some own) found same = subst (IsTaskOf command) (over_world own (world_of (world_part command bytes)) task input same) (task_fits command bytes own found)
