use Rattle.std.proofs.Common.{◌∙◌, ◌++◌, map, ap, sym, List}
use Rattle.std.specs.Prelude.{flat_map}
use Rattle.spec_base.specs.Specifier.{specifier_text}
use Rattle.import_policy.specs.Breaches.{edge_breaches}
use Rattle.import_policy.specs.Edges.{edge_value, edge_values}
use Rattle.import_policy.specs.Traced.{Trace, trace, traced, traces}
use Rattle.import_policy.specs.declared.edges.EdgeRef.{EdgeRef}
use Rattle.import_policy.proofs.Pushes.{place_turn, place_end, map_flat, flat_of_map}
use Rattle.import_policy.proofs.findings.push_edges.Goals as goal

pub loop-edge-preserved : goal.loop-edge-preserved
loop-edge-preserved c =
    let l = c.loop-edge in
    let f = λ (e : EdgeRef). traces c.args.search.now (edge_breaches 0 c.args.rules.now (specifier_text c.args.from.now) (edge_value e)) in
    place_turn f (map traced c.args.findings.now.items ++ flat_map f c.args.edges.now) (map traced l.findings.items) (map traced c.push_edge.new.findings.items)
    c.args.edges.now l.edge-index c.edge-item.result l.invariant c.loop-edge-test.true c.edge-item.is c.in_ok-push_edge.ensures

pub returns : goal.returns
returns c =
    let l = c.loop-edge in
    let found = c.args.search.now in
    let f = λ (e : EdgeRef). traces found (edge_breaches 0 c.args.rules.now (specifier_text c.args.from.now) (edge_value e)) in
    place_end f (map traced c.args.findings.now.items ++ flat_map f c.args.edges.now) (map traced l.findings.items) c.args.edges.now l.edge-index l.invariant c.loop-edge-test.false
    ∙ ap (λ (ts : List Trace). map traced c.args.findings.now.items ++ ts)
    (sym (map_flat (trace found) (edge_breaches 0 c.args.rules.now (specifier_text c.args.from.now)) (edge_values c.args.edges.now) ∙ flat_of_map (λ e. traces found (edge_breaches 0 c.args.rules.now (specifier_text c.args.from.now) e)) edge_value c.args.edges.now))
