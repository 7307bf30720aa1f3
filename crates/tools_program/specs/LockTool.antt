-- The tool `lock`: whether the modules of a graph are those that the world's own locker knows.
use Rattle.std.specs.Prelude.{ℕ, Bool, true, false, List, [], ◌∷◌, ◌++◌, codes, decimal, unwrap_or}
use Rattle.std.specs.FinMap as finite
use Rattle.url.specs.Parts.{Parts, serialize}
use Rattle.source_sums.specs.Sums.{KnownSums}
use Rattle.registry_urls.specs.Meaning.{registry_at}
use Rattle.graph_core.specs.declared.graph.ModuleGraph.{ModuleGraph}
use Rattle.world_file.specs.declared.input.Input.{Input}
use Rattle.program_phases.specs.Sums.{locker_sums}
use Rattle.lock_verify.specs.declared.verdict.LockFinding.{LockFinding}
use Rattle.lock_verify.specs.declared.verdict.LockFinding.TheVariants.{Unlocked, Differs}
use Rattle.lock_verify.specs.declared.verdict.LockVerdict.{LockVerdict}
use Rattle.lock_verify.specs.declared.verdict.LockVerdict.TheVariants.{Yes, No}
use Rattle.lock_verify.specs.LockBreach.{Lock, lock_by}
use Rattle.lock_verify.specs.Verdicts.{lock_verdict}
use Rattle.tools_program.specs.declared.tool_report.ToolReport.{ToolReport}
use Rattle.tools_program.specs.Reports.{said}

-- the sums that the world's locker knows, and none where it has no locker
abbrev pub lock_sums : Input → KnownSums
lock_sums input = unwrap_or (locker_sums input) finite.empty

-- the lock of an input
abbrev pub lock_in : Bool → Input → Lock
lock_in strict input = lock_by (lock_sums input) (registry_at input.registry.provider.url) strict

-- the line of a module that breaks the lock
abbrev pub finding_line : Parts → LockFinding → List ℕ
finding_line s Unlocked = codes "unlocked " ++ (serialize s ++ 10 ∷ [])
finding_line s (Differs actual expected) = codes "differs " ++ (serialize s ++ 32 ∷ (actual ++ 32 ∷ (expected ++ 10 ∷ [])))

-- what is said of a verdict
abbrev pub report_of : LockVerdict → ToolReport
report_of (Yes checked) = said (codes "locked " ++ (decimal checked ++ 10 ∷ [])) true
report_of (No specifier finding) = said (finding_line specifier finding) false

-- what is said of the graph of an input
unfoldable pub lock_report : Bool → Input → ModuleGraph → ToolReport
lock_report strict input g = report_of (lock_verdict (lock_in strict input) g)
