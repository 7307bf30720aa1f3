-- The runs of a build of what is given over a graph that was handed in.
use Rattle.std.specs.Prelude.{◌≡◌, Bool, true, false}
use Rattle.graph_core.specs.Graph.{new_graph}
use Rattle.graph_core.specs.declared.graph.ModuleGraph.{ModuleGraph}
use Rattle.graph_turns.specs.declared.unresolved_input.LeftOver.{LeftOver}
use Rattle.graph_turns.specs.declared.run.Earlier.{Earlier}
use Rattle.graph_turns.specs.declared.run.Run.{Run}
use Rattle.graph_turns.specs.declared.run.Run.TheVariants.{Only, First, Due, Second}
use Rattle.graph_turns.specs.declared.starting.ResolvedStart.{ResolvedStart}
use Rattle.graph_turns.specs.Machine.Runs.{begins_anew, told_first, told_for}
use Rattle.graph_turns.specs.Machine.Starting.{told_entry}
use Rattle.graph_turns.specs.Promise.Choices.{HasChoices, IsFoundBy, Lacks}
use Rattle.graph_turns.specs.Promise.Explains.{IsGrown}
use Rattle.graph_turns.specs.Promise.Input.{EnteredGraph, Given}
use Rattle.graph_turns.specs.Promise.Told.{Told}
use Rattle.graph_turns.specs.Promise.Static.{IsSettledStatically, StaticFirst}

-- what is given to a build, as it is left over at the start
abbrev pub left_of : Given → LeftOver
left_of given = record { roots = given.roots; imports = given.imports }

-- whether such a build may begin once more
abbrev pub may_begin_again : ModuleGraph → LeftOver → Bool
may_begin_again g given = begins_anew g given.roots given.imports

-- where a run begins: over the graph that was handed in, and once more over the empty one
abbrev pub entry_in : Told → ModuleGraph → LeftOver → Run → EnteredGraph
entry_in told g given Only = told_entry told g given
entry_in told g given (First start) = told_entry told g given
entry_in told g given (Due start) = told_entry told g given
entry_in told g given (Second e) = told_entry told (new_graph g.kind) given

-- a run of such a build: where the first one may begin once more it does so only where a requirement that it reaches has no choice
pub data IsRunOf (told : Told) (g : ModuleGraph) (given : LeftOver) : Run → Type 0 where
  only : may_begin_again g given ≡ false → IsRunOf told g given Only
  first : {start : ResolvedStart} → may_begin_again g given ≡ true → IsRunOf told g given (First start)
  due : {start : ResolvedStart} → may_begin_again g given ≡ true → Lacks (told_first told) (told_entry told g given) → IsRunOf told g given (Due start)
  second : {e : Earlier} → may_begin_again g given ≡ true → Lacks (told_first told) (told_entry told g given) → IsFoundBy (told_first told) (told_entry told g given) e → IsRunOf told g given (Second e)

-- something holds in one of its runs, by what is told to that, from where that begins
pub record InSomeRun (told : Told) (g : ModuleGraph) (given : LeftOver) (P : Told → EnteredGraph → Type 0) : Type 0 where
  pub run : Run
  pub is_run : IsRunOf told g given run
  pub holds : P (told_for told run) (entry_in told g given run)

-- in each of them
abbrev pub InEachRun : Told → ModuleGraph → LeftOver → (Told → EnteredGraph → Type 0) → Type 0
InEachRun told g given P = (run : Run) → IsRunOf told g given run → P (told_for told run) (entry_in told g given run)

-- a graph that such a build leaves, by one of its runs: each slot and redirect stood so at its entry or is what the world's answers give
-- a load leading to it, and each requirement leads to a version that it picks
pub record IsGrownBy (new : ModuleGraph) (told : Told) (entry : EnteredGraph) : Type 0 where
  pub grown : IsGrown told entry new
  pub choices : HasChoices told entry new

abbrev pub IsGrownTo : Told → ModuleGraph → LeftOver → ModuleGraph → Type 0
IsGrownTo told g given new = InSomeRun told g given (IsGrownBy new)

-- static before dynamic, in the run that gives a graph
abbrev pub IsStaticFirst : Told → Given → ModuleGraph → Type 0
IsStaticFirst told given g = InSomeRun told (new_graph given.kind) (left_of given) (λ t entry. StaticFirst t given g)

-- where static imports come before dynamic ones in each run
abbrev pub AreStaticFirst : Told → Given → Type 0
AreStaticFirst told given = InEachRun told (new_graph given.kind) (left_of given) (λ t entry. IsSettledStatically t given)
