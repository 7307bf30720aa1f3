-- The text of a graph.
use Rattle.std.specs.Prelude.{ℕ, List, [], ◌∷◌, ◌++◌, codes, Result, Ok, Err}
use Rattle.serde_json.specs.Written.{compact_text}
use Rattle.graph_errors.specs.declared.errors.ModuleGraphError.{ModuleGraphError}
use Rattle.graph_core.specs.declared.graph.ModuleGraph.{ModuleGraph}
use Rattle.graph_errors.specs.Errors.{graph_error_text}
use Rattle.graph_json.specs.GraphJson.{graph_json}
use Rattle.graph_walk.specs.Walk.{validity}
use Rattle.spec_base.specs.Options.{by_option}
use Rattle.graph_printing.specs.declared.command_words.Command.{Command}
use Rattle.graph_printing.specs.declared.command_words.Command.TheVariants.{Build, Walk}
use Rattle.graph_printing.specs.Commands.{command_of}
use Rattle.graph_printing.specs.WalkLines.{walk_lines}

-- the line that says whether the graph is valid
abbrev pub verdict_line : Result (Unit {0}) ModuleGraphError → List ℕ
verdict_line (Ok u) = codes "valid" ++ 10 ∷ []
verdict_line (Err e) = codes "error: " ++ graph_error_text e ++ 10 ∷ []

-- the graph's JSON without spaces, and the line with the verdict
unfoldable pub printed : ModuleGraph → List ℕ
printed g = compact_text (graph_json g) ++ 10 ∷ [] ++ verdict_line (validity g)

-- what a command writes of a graph
abbrev pub printed_by : Command → ModuleGraph → List ℕ
printed_by Build g = printed g
printed_by (Walk kind) g = walk_lines kind g

-- what the command of some words writes of it, and nothing for words that are none's
abbrev pub printed_for : List (List ℕ) → ModuleGraph → List ℕ
printed_for words g = by_option (command_of words) [] (λ command. printed_by command g)
