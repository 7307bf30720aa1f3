use Rattle.std.proofs.Common.{◌∙◌, ap, sym}
use Rattle.std.specs.List.{zip}
use Rattle.npm_settling.proofs.EndLemmas.{answered_together}
use Rattle.npm_settling.proofs.settling.ask_static.Goals as goal

pub returns-in-Ok : goal.returns-in-Ok
returns-in-Ok g c =
    let answer = c.in_ok-answer.answer in
    answered_together (g.N.NpmResolver.table c.args.resolver.now) c.args.items.now c.deref.result.now answer c.in-Ok.results.items c.parts_of-resolved.result.1
    (c.deref.ensures.value ∙ c.in_ok-reqs.ensures)
    (c.in-Ok.ensures ∙ ap (λ l. zip l c.parts_of-resolved.result.0) (sym c.deref.ensures.value) ∙ ap (zip c.deref.result.now) c.parts_of-resolved.ensures.results)
    c.parts_of-resolved.ensures.graph
    c.in_ok-answer.ensures.told
