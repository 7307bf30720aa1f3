-- Open loads in the order of asking, as contracts see them.
use Rattle.std.specs.Prelude.{ℕ, List, Option}
use Rattle.std.specs.FinMap as finite
use Rattle.std.specs.Ordering.{nat_cmp}
use Rattle.url.specs.Parts.{Parts}
use Rattle.source_io.specs.declared.types.Answer.{Answer}
use Rattle.source_io.specs.declared.types.Question.{Question}
use Rattle.registry_files.specs.Answers.{FileAnswer}
use Rattle.graph_turns.specs.declared.question_of.Asked.{Asked}
use Rattle.graph_turns.specs.declared.registry.RegistryFile.{RegistryFile}
use Rattle.graph_turns.specs.declared.state.State.{State}
use Rattle.graph_turns.specs.Machine.Known.{Known}
use Rattle.graph_turns.specs.Machine.Runs.{known_for}
use Rattle.open_loads.specs.declared.turn_stage.Stage.{Stage}

-- what the build goes by, the graph and the open loads as the last turn left them, the place in the turn that stands, the first
-- questions of the loads behind it with their tickets, the tickets of the questions about contents that come later, those of the questions about files of the registry that a pass wants, with where these lie, what
-- the given store is to get, the queued
-- questions, the answers that came early, the bounds, and how many questions were queued and handed out
pub record OpenLoads : Type 0 where
  pub known : Known
  pub state : State
  pub stage : Stage
  pub behind : List (Option (ℕ × Asked))
  pub later : List ℕ
  pub wanted : List (Option (ℕ × Parts))
  pub added : List (RegistryFile × FileAnswer)
  pub queue : List Question
  pub kept : finite.FinMap nat_cmp Answer
  pub redirects : ℕ
  pub max_loads : ℕ
  pub queued : ℕ
  pub taken : ℕ

-- what the build knows in the run that goes on
abbrev pub known_now : OpenLoads → Known
known_now b = known_for b.known b.state.run
