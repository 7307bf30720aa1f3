use Rattle.std.proofs.Common.{◌≡◌, ◌∙◌, ap, map, List}
use Rattle.std.proofs.lemmas.Result.{IfOk-weaker}
use Rattle.std.specs.Borrow.{Bor}
use Rattle.url.specs.Parts.{Parts}
use Rattle.graph_walk.specs.Lent.{lent_texts}
use Rattle.graph_walk.specs.Options.{how}
use Rattle.graph_walk.specs.Order.{texts}
use Rattle.import_policy.specs.Breaches.{breaches}
use Rattle.import_policy.specs.Reports.{IsReport}
use Rattle.import_policy.specs.Traced.{traced, traces}
use Rattle.import_policy.proofs.Reported.{is_report}
use Rattle.import_policy.proofs.findings.report.Goals as goal

pub returns : goal.returns
returns g c =
    let o = how g.C.CheckJsResolver.resolves c.args.options in
    let found = c.in_ok-search.search in
    let urls = c.in_ok-specifiers.specifiers.items in
    IfOk-weaker c.findings_of.result
    (λ v. map traced v.items ≡ traces found (breaches c.args.graph.now o c.args.rules.now (lent_texts c.as_slice.result.now)))
    (λ v. IsReport c.args.graph.now o (texts c.args.roots.now) c.args.rules.now v.items)
    (λ v e. is_report c.args.graph.now o (texts c.args.roots.now) c.args.rules.now found urls v.items c.in_ok-search.ensures c.in_ok-specifiers.ensures.sorted c.in_ok-specifiers.ensures.same
    (e ∙ ap (λ (us : List (Bor Parts)). traces found (breaches c.args.graph.now o c.args.rules.now (lent_texts us))) c.as_slice.ensures.value))
    c.findings_of.ensures
