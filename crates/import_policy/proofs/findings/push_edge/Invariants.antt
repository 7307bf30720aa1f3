-- the findings that were added, and those by the rules that are left, make all
use Rattle.std.proofs.Common.{◌≡◌, ◌++◌, map, drop}
use Rattle.spec_base.specs.Specifier.{specifier_text}
use Rattle.import_policy.specs.Breaches.{edge_breaches}
use Rattle.import_policy.specs.Edges.{edge_value}
use Rattle.import_policy.specs.Traced.{traced, traces}
use Rattle.import_policy.proofs.findings.push_edge.Given as goal

abbrev pub invariant-loop-place : goal.invariant-loop-place
invariant-loop-place l =
    map traced l.fn.findings.items ++ traces l.search (edge_breaches 0 l.rules (specifier_text l.from) (edge_value l.edge)) ≡ map traced l.findings.items ++ traces l.search (edge_breaches l.place (drop l.place l.rules) (specifier_text l.from) (edge_value l.edge))
