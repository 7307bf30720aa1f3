use Rattle.std.proofs.Common.{◌≡◌, ◌++◌, ◌∷◌, [], ◌∙◌, ap}
use Rattle.graph_core.specs.Npm.{whole_result}
use Rattle.npm_settling.proofs.EndLemmas.{answered_alone, same_parts}
use Rattle.npm_settling.proofs.settling.ask_whole.Goals as goal

pub returns-in-Some : goal.returns-in-Some
returns-in-Some g c =
    let req = c.args.req.now in
    let copy = c.in_ok-clone.field-0 in
    let one : c.deref.result.now ≡ req ∷ [] =
    c.deref.ensures.value ∙ c.in_ok-push.ensures.items ∙ ap (λ l. l ++ copy ∷ []) c.new-reqs.ensures.items
    ∙ ap (λ q. q ∷ []) (same_parts copy req c.in_ok-clone.ensures.cases.0 c.in_ok-clone.ensures.cases.1) in
    answered_alone (g.N.NpmResolver.table c.args.resolver.now) c.deref.result.now req c.in_ok-answer.answer c.into_vec.result.items c.pop.new.self.items c.in-Some.resolved c.whole_result.result
    one (c.into_vec.ensures ∙ c.parts_of-results.ensures.results) c.in-Some.ensures.items
    (c.whole_result.ensures ∙ ap (λ r. whole_result r c.in-Some.resolved) c.parts_of-results.ensures.graph) c.in_ok-answer.ensures.told
