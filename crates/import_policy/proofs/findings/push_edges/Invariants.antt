-- the findings that were added, and those of the edges that are left, make all
use Rattle.std.proofs.Common.{◌≡◌, ◌++◌, map, drop}
use Rattle.std.specs.Prelude.{flat_map}
use Rattle.spec_base.specs.Specifier.{specifier_text}
use Rattle.import_policy.specs.Breaches.{edge_breaches}
use Rattle.import_policy.specs.Edges.{edge_value}
use Rattle.import_policy.specs.Traced.{traced, traces}
use Rattle.import_policy.proofs.findings.push_edges.Given as goal

abbrev pub invariant-loop-edge : goal.invariant-loop-edge
invariant-loop-edge l =
    map traced l.fn.findings.items ++ flat_map (λ e. traces l.search (edge_breaches 0 l.rules (specifier_text l.from) (edge_value e))) l.edges ≡ map traced l.findings.items ++ flat_map (λ e. traces l.search (edge_breaches 0 l.rules (specifier_text l.from) (edge_value e))) (drop l.edge-index l.edges)
