-- What each tool says of the graph of its input.
use Rattle.std.specs.Prelude.{◌≡◌}
use Rattle.graph_core.specs.declared.graph.ModuleGraph.{ModuleGraph}
use Rattle.world_file.specs.declared.input.Input.{Input}
use Rattle.tools_program.specs.declared.tool_report.ToolReport.{ToolReport}
use Rattle.tools_program.specs.LockTool.{lock_report}
use Rattle.tools_program.specs.PolicyTool.{IsPolicyReport}
use Rattle.tools_program.specs.Reports.{graph_report}
use Rattle.tools_program.specs.StoreTool.{IsStoreReport}
use Rattle.tools_program.specs.Tasks.{Task}
use Rattle.tools_program.specs.Tasks.Task.{Locks, Judges, Maps, Stores, Replays}

abbrev pub IsReportOf : Task → Input → ModuleGraph → ToolReport → Type 0
IsReportOf (Locks strict) input g report = report ≡ lock_report strict input g
IsReportOf (Judges rules) input g report = IsPolicyReport rules g report
IsReportOf (Maps map) input g report = report ≡ graph_report g
IsReportOf Stores input g report = IsStoreReport input g report
IsReportOf (Replays entries) input g report = report ≡ graph_report g
