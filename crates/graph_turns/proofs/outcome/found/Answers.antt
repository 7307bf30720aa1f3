use Rattle.std.proofs.Common.{None, false, sym, ap}
use Rattle.graph_turns.specs.Machine.Outcomes.{outcome_of}
use Rattle.graph_turns.specs.Machine.Outcomes.Suits.{settles}
use Rattle.graph_turns.specs.Promise.Slots.{external_slot}
use Rattle.graph_turns.specs.Promise.Taken.{Found, redirect_sum, redirect_under, taken_response}
use Rattle.graph_turns.specs.declared.outcome.Outcome.TheVariants.{At}
use Rattle.graph_turns.proofs.Entering.Outcomes.{as_told, at_any, at_plain, final_outside, suits_as}
use Rattle.graph_turns.proofs.outcome.found.Goals as goal

pub returns-in-Module-clause-told : goal.returns-in-Module-clause-told
returns-in-Module-clause-told g c =
    as_told _ c.found_source.result c.args.load.now.specifier c.args.load.now.context c.args.asked
    (Found (record { name = c.in-Module.specifier; content = c.in-Module.content; headers = c.in-Module.maybe_headers; mtime = c.in-Module.mtime; info = None })) (taken_response (redirect_sum c.args.asked) c.args.response)
    (ap (taken_response (redirect_sum c.args.asked)) (sym c.in-Module.is)) c.found_source.ensures.told

pub returns-in-External-clause-told : goal.returns-in-External-clause-told
returns-in-External-clause-told g c =
    at_plain _ c.found_outside.result (At c.in-External.specifier (external_slot c.in-External.specifier false) c.args.asked.held None)
    (λ m. outcome_of m c.args.load.now.specifier c.args.load.now.context c.args.asked (taken_response (redirect_sum c.args.asked) c.args.response))
    (λ m. ap (λ r. outcome_of m c.args.load.now.specifier c.args.load.now.context c.args.asked (taken_response (redirect_sum c.args.asked) r)) (sym c.in-External.is)) c.found_outside.ensures

pub returns-in-External-clause-settled : goal.returns-in-External-clause-settled
returns-in-External-clause-settled g c = final_outside c.found_outside.result c.args.load.now c.in-External.specifier c.args.asked.held c.found_outside.ensures

pub returns-in-External-clause-suits : goal.returns-in-External-clause-suits
returns-in-External-clause-suits g c = suits_as c.found_outside.result c.args.load.now c.args.asked _ settles c.found_outside.ensures

pub returns-in-Redirect-clause-told : goal.returns-in-Redirect-clause-told
returns-in-Redirect-clause-told g c =
    as_told _ c.redirect.result c.args.load.now.specifier c.args.load.now.context c.args.asked (redirect_under (redirect_sum c.args.asked) c.in-Redirect.specifier) (taken_response (redirect_sum c.args.asked) c.args.response)
    (ap (taken_response (redirect_sum c.args.asked)) (sym c.in-Redirect.is))
    (at_any _ c.redirect.result c.args.load.now.specifier c.args.load.now.context c.args.asked (redirect_under (redirect_sum c.args.asked) c.in-Redirect.specifier) c.redirect.ensures.told)
