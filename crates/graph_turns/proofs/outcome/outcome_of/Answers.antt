use Rattle.std.proofs.Common.{◌≡◌, sym, ap, ◌∙◌, rules}
use Rattle.graph_turns.specs.Machine.Outcomes.Suits.{settles}
use Rattle.graph_turns.specs.Promise.Taken.{Absent, info_for, or_info, redirect_sum, taken_cached, taken_form, taken_response}
use Rattle.graph_turns.proofs.Entering.Outcomes.{as_told, at_any, cached_stays, failure_told, response_stays, suits_as}
use Rattle.graph_turns.proofs.outcome.outcome_of.Goals as goal

pub returns-in-Load-Ok-Some-clause-told : goal.returns-in-Load-Ok-Some-clause-told
returns-in-Load-Ok-Some-clause-told g c =
    let s = c.args.load.now.specifier in
    let e = c.args.load.now.context in
    let asked = c.args.asked in
    let response = c.in-Load-Ok-Some.response in
    let same : taken_response (redirect_sum asked) response ≡ taken_form (redirect_sum asked) c.args.answer = search rules in
    as_told _ c.found.result s e asked (taken_response (redirect_sum asked) response) (or_info s (info_for e asked) (taken_form (redirect_sum asked) c.args.answer))
    (sym (response_stays s (info_for e asked) (redirect_sum asked) response) ∙ ap (or_info s (info_for e asked)) same)
    c.found.ensures.told

pub returns-in-Ensure-Ok-Some-clause-told : goal.returns-in-Ensure-Ok-Some-clause-told
returns-in-Ensure-Ok-Some-clause-told g c =
    let s = c.args.load.now.specifier in
    let e = c.args.load.now.context in
    let asked = c.args.asked in
    let response = c.in-Ensure-Ok-Some.response in
    let same : taken_cached (redirect_sum asked) response ≡ taken_form (redirect_sum asked) c.args.answer = search rules in
    as_told _ c.at_hand.result s e asked (taken_cached (redirect_sum asked) response) (or_info s (info_for e asked) (taken_form (redirect_sum asked) c.args.answer))
    (sym (cached_stays s (info_for e asked) (redirect_sum asked) response) ∙ ap (or_info s (info_for e asked)) same)
    (at_any _ c.at_hand.result s e asked (taken_cached (redirect_sum asked) response) c.at_hand.ensures.told)

pub returns-in-Load-Ok-None-clause-told : goal.returns-in-Load-Ok-None-clause-told
returns-in-Load-Ok-None-clause-told g c =
    let s = c.args.load.now.specifier in
    let e = c.args.load.now.context in
    let asked = c.args.asked in
    let same : Absent ≡ taken_form (redirect_sum asked) c.args.answer = search rules in
    as_told _ c.absent.result s e asked (or_info s (info_for e asked) Absent) (or_info s (info_for e asked) (taken_form (redirect_sum asked) c.args.answer))
    (ap (or_info s (info_for e asked)) same) c.absent.ensures.told

pub returns-in-Load-Err-clause-told : goal.returns-in-Load-Err-clause-told
returns-in-Load-Err-clause-told g c =
    failure_told _ c.refused.result c.args.load.now.specifier c.args.load.now.context c.args.asked _ (taken_form (redirect_sum c.args.asked) c.args.answer) (search rules) c.refused.ensures

pub returns-in-Load-Err-clause-suits : goal.returns-in-Load-Err-clause-suits
returns-in-Load-Err-clause-suits g c = suits_as c.refused.result c.args.load.now c.args.asked _ settles c.refused.ensures
