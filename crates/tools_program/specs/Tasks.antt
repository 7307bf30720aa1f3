-- What a tool does, by its command and the bytes of its input.
use Rattle.std.specs.Prelude.{◌≡◌, ℕ, Bool, List, [], Option, Some, None, Result, Ok, Err, ⊤, option_map, option_and_then}
use Rattle.spec_base.specs.Options.{by_option}
use Rattle.spec_base.specs.declared.refusal.Refusal.{Refusal}
use Rattle.spec_base.specs.declared.refusal.Refusal.TheVariants as refusal
use Rattle.graph_store.specs.declared.entry.StoreEntry.{StoreEntry}
use Rattle.graph_store.specs.Reading.{store_at}
use Rattle.graph_store.specs.Stores.{entries_in}
use Rattle.graph_store.specs.declared.store.Store.{Store}
use Rattle.import_map.specs.declared.map.ImportMap.{ImportMap}
use Rattle.import_policy.specs.RuleList.{rules_of}
use Rattle.import_policy.specs.declared.rule.PolicyRule.{PolicyRule}
use Rattle.world_file.specs.declared.input.Input.{Input}
use Rattle.mapped_world.specs.Mapped.{mapped}
use Rattle.tools_program.specs.declared.task.NotAPart.{NotAPart}
use Rattle.tools_program.specs.declared.task.ToolTask.{ToolTask}
use Rattle.tools_program.specs.declared.task.ToolTask.TheVariants as task
use Rattle.tools_program.specs.declared.tool_command.ToolCommand.{ToolCommand}
use Rattle.tools_program.specs.declared.tool_command.ToolCommand.TheVariants as command
use Rattle.tools_program.specs.Lines.{behind_line, first_line}
use Rattle.tools_program.specs.MapLine.{map_of_line}

-- a tool, with what stands beside its world: rules, a map, or the entries of a store
pub data Task : Type 0 where
  Locks : (strict : Bool) → Task
  Judges : (rules : List PolicyRule) → Task
  Maps : (map : ImportMap) → Task
  Stores : Task
  Replays : (entries : List StoreEntry) → Task

-- that of a task of the program
abbrev pub task_in : ToolTask → Task
task_in (task.Lock strict) = Locks strict
task_in (task.Policy rules) = Judges rules
task_in (task.Map map) = Maps map
task_in task.Store = Stores
task_in (task.Replay store) = Replays (entries_in store)

-- ---- what stands beside the world

-- the first line is the rules of a policy
abbrev pub policy_task : List ℕ → Option Task
policy_task bytes = option_and_then (λ line. option_map Judges (rules_of line)) (first_line bytes)

-- the first line is an import map with its base
abbrev pub map_task : List ℕ → Option Task
map_task bytes = option_and_then (λ line. option_map Maps (map_of_line line)) (first_line bytes)

-- what stands behind the first line is a store
abbrev pub replay_task : List ℕ → Option Task
replay_task bytes = option_and_then (λ line. option_map Replays (store_at (behind_line bytes))) (first_line bytes)

-- the store that was read, where one stands there, unless there was no memory
abbrev pub ReadsStore : Result Store (Refusal NotAPart) → Option (List StoreEntry) → Type 0
ReadsStore (Ok s) expected = expected ≡ Some (entries_in s)
ReadsStore (Err refusal.Memory) expected = ⊤
ReadsStore (Err (refusal.Is e)) expected = expected ≡ None

-- the task of a command
abbrev pub task_of : ToolCommand → List ℕ → Option Task
task_of (command.Lock strict) bytes = Some (Locks strict)
task_of command.Policy bytes = policy_task bytes
task_of command.Map bytes = map_task bytes
task_of command.Store bytes = Some Stores
task_of command.Replay bytes = replay_task bytes

-- a task is one of a command's, whatever stands beside its world
abbrev pub IsTaskOf : ToolCommand → Task → Type 0
IsTaskOf (command.Lock strict) (Locks given) = given ≡ strict
IsTaskOf command.Policy (Judges rules) = ⊤
IsTaskOf command.Map (Maps map) = ⊤
IsTaskOf command.Store Stores = ⊤
IsTaskOf command.Replay (Replays entries) = ⊤
IsTaskOf other task = ⊥

-- the task that was read, where one stands there, unless there was no memory
abbrev pub ReadsTask : Result ToolTask (Refusal NotAPart) → Option Task → Type 0
ReadsTask (Ok t) expected = expected ≡ Some (task_in t)
ReadsTask (Err refusal.Memory) expected = ⊤
ReadsTask (Err (refusal.Is e)) expected = expected ≡ None

-- ---- the world

-- where it stands
abbrev pub world_part : ToolCommand → List ℕ → List ℕ
world_part (command.Lock strict) bytes = bytes
world_part command.Policy bytes = behind_line bytes
world_part command.Map bytes = behind_line bytes
world_part command.Store bytes = bytes
world_part command.Replay bytes = by_option (first_line bytes) [] (λ line. line)

-- the input of a task over a world: that of a map resolves texts by it
abbrev pub input_by : Task → Input → Input
input_by (Locks strict) world = world
input_by (Judges rules) world = world
input_by (Maps map) world = mapped world map
input_by Stores world = world
input_by (Replays entries) world = world
