-- What a report says, and the graph itself as a report.
use Rattle.std.specs.Prelude.{ℕ, Bool, true, false, List, Result, Ok, Err}
use Rattle.graph_errors.specs.declared.errors.ModuleGraphError.{ModuleGraphError}
use Rattle.graph_core.specs.declared.graph.ModuleGraph.{ModuleGraph}
use Rattle.graph_walk.specs.Walk.{validity}
use Rattle.graph_printing.specs.Printed.{printed}
use Rattle.tools_program.specs.declared.tool_report.ToolReport.{ToolReport}

-- these bytes, and whether they are a yes
abbrev pub said : List ℕ → Bool → ToolReport
said bytes is_yes = record { bytes = bytes; is_yes = is_yes }

-- whether no error was found
abbrev pub has_none : Result (Unit {0}) ModuleGraphError → Bool
has_none (Ok u) = true
has_none (Err e) = false

-- whether a graph has no error
abbrev pub is_valid : ModuleGraph → Bool
is_valid g = has_none (validity g)

-- a graph's text, which is a yes where it is valid
abbrev pub graph_report : ModuleGraph → ToolReport
graph_report g = said (printed g) (is_valid g)
