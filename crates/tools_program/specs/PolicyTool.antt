-- The tool `policy`: which edges of a graph break its rules.
use Rattle.std.specs.Prelude.{◌≡◌, ◌==◌, List, length}
use Rattle.graph_core.specs.declared.graph.ModuleGraph.{ModuleGraph}
use Rattle.graph_walk.specs.Order.{texts}
use Rattle.import_policy.specs.declared.finding.PolicyFinding.{PolicyFinding}
use Rattle.import_policy.specs.declared.rule.PolicyRule.{PolicyRule}
use Rattle.import_policy.specs.ReportText.{report_text}
use Rattle.import_policy.specs.Reports.{IsReport, policy_how}
use Rattle.tools_program.specs.declared.tool_report.ToolReport.{ToolReport}
use Rattle.tools_program.specs.Reports.{said}

-- a text of all findings from the graph's roots, each with a shortest path, which is a yes where there are none
pub record IsPolicyReport (rules : List PolicyRule) (g : ModuleGraph) (report : ToolReport) : Type 0 where
  pub findings : List PolicyFinding
  pub found : IsReport g (policy_how g) (texts g.roots) rules findings
  pub said_is : report ≡ said (report_text rules findings) (length findings == 0)
