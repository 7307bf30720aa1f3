use Rattle.std.proofs.Common.{Some, refl, sym, ap}
use Rattle.graph_turns.specs.Machine.Outcomes.{outcome_of}
use Rattle.graph_turns.specs.Promise.Taken.{redirect_sum, redirect_under}
use Rattle.graph_turns.proofs.Entering.Outcomes.{all_plain, all_same, outside_redirect, suits_alike, suits_as, suits_failed}
use Rattle.graph_turns.proofs.outcome.redirect.Goals as goal

pub returns-in-None-clause-told : goal.returns-in-None-clause-told
returns-in-None-clause-told c =
    let s = c.args.load.now.specifier in
    let e = c.args.load.now.context in
    let asked = c.args.asked in
    all_same c.redirected.result _ (λ m. outcome_of m s e asked (redirect_under (redirect_sum asked) c.args.specifier))
    (λ m. outside_redirect m s e asked c.args.specifier c.in-None.is) c.redirected.ensures.told

pub returns-in-None-clause-suits : goal.returns-in-None-clause-suits
returns-in-None-clause-suits c = suits_alike c.redirected.result c.args.load.now _ c.args.asked (sym c.in-None.is) refl c.redirected.ensures.suits

pub returns-clause-told : goal.returns-clause-told
returns-clause-told c =
    let s = c.args.load.now.specifier in
    let e = c.args.load.now.context in
    let asked = c.args.asked in
    all_plain c.failed.result _ (λ m. outcome_of m s e asked (redirect_under (redirect_sum asked) c.args.specifier))
    (λ m. ap (λ h. outcome_of m s e (record asked { held = h }) (redirect_under (redirect_sum (record asked { held = h })) c.args.specifier)) (sym c.in-Some.is)) c.failed.ensures

pub returns-clause-suits : goal.returns-clause-suits
returns-clause-suits c = suits_as c.failed.result c.args.load.now c.args.asked _ (suits_failed c.args.load.now c.args.asked (Some c.in-Some.nv) _ c.in-Some.is) c.failed.ensures
