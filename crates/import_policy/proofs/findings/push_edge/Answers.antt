use Rattle.std.proofs.Common.{◌++◌, map}
use Rattle.spec_base.specs.Specifier.{specifier_text}
use Rattle.import_policy.specs.Breaches.{edge_breaches}
use Rattle.import_policy.specs.Edges.{edge_value}
use Rattle.import_policy.specs.Traced.{traced, traces}
use Rattle.import_policy.proofs.Pushes.{rule_turn, rule_end}
use Rattle.import_policy.proofs.findings.push_edge.Goals as goal

pub loop-place-preserved : goal.loop-place-preserved
loop-place-preserved c =
    let l = c.loop-place in
    let e = edge_value c.args.edge.now in
    rule_turn c.args.search.now (specifier_text c.args.from.now) e (map traced c.args.findings.now.items ++ traces c.args.search.now (edge_breaches 0 c.args.rules.now (specifier_text c.args.from.now) e)) (map traced l.findings.items) (map traced c.push_if_fits.new.findings.items)
    c.args.rules.now l.place c.index-rules-place.result l.invariant c.loop-place-test.true c.index-rules-place.is c.in_ok-push_if_fits.ensures

pub returns : goal.returns
returns c =
    let l = c.loop-place in
    let e = edge_value c.args.edge.now in
    rule_end c.args.search.now (specifier_text c.args.from.now) e (map traced c.args.findings.now.items ++ traces c.args.search.now (edge_breaches 0 c.args.rules.now (specifier_text c.args.from.now) e)) (map traced l.findings.items)
    c.args.rules.now l.place l.invariant c.loop-place-test.false
