use Rattle.std.proofs.Common.{◌∙◌, map, sym}
use Rattle.std.specs.Borrow.{Bor}
use Rattle.std.specs.Prelude.{flat_map}
use Rattle.url.specs.Parts.{Parts}
use Rattle.spec_base.specs.Specifier.{specifier_text}
use Rattle.graph_walk.specs.Lent.{lent_texts}
use Rattle.graph_walk.specs.Options.{how}
use Rattle.import_policy.specs.Breaches.{breaches_from}
use Rattle.import_policy.specs.Traced.{trace, traced, traces}
use Rattle.import_policy.proofs.Pushes.{place_turn, place_end, map_flat, flat_of_map}
use Rattle.import_policy.proofs.findings.findings_of.Goals as goal

pub loop-specifier-preserved : goal.loop-specifier-preserved
loop-specifier-preserved g c =
    let l = c.loop-specifier in
    let o = how g.C.CheckJsResolver.resolves c.args.options.now in
    let f = λ (u : Bor Parts). traces c.args.search.now (breaches_from c.args.graph.now o c.args.rules.now (specifier_text u.now)) in
    place_turn f (flat_map f c.args.specifiers.now) (map traced l.findings.items) (map traced c.push_specifier.new.findings.items)
    c.args.specifiers.now l.specifier-index c.specifier-item.result l.invariant c.loop-specifier-test.true c.specifier-item.is c.in_ok-push_specifier.ensures

pub returns : goal.returns
returns g c =
    let l = c.loop-specifier in
    let o = how g.C.CheckJsResolver.resolves c.args.options.now in
    let found = c.args.search.now in
    let f = λ (u : Bor Parts). traces found (breaches_from c.args.graph.now o c.args.rules.now (specifier_text u.now)) in
    place_end f (flat_map f c.args.specifiers.now) (map traced l.findings.items) c.args.specifiers.now l.specifier-index l.invariant c.loop-specifier-test.false
    ∙ sym (map_flat (trace found) (breaches_from c.args.graph.now o c.args.rules.now) (lent_texts c.args.specifiers.now) ∙ flat_of_map (λ s. traces found (breaches_from c.args.graph.now o c.args.rules.now s)) (λ (u : Bor Parts). specifier_text u.now) c.args.specifiers.now)
