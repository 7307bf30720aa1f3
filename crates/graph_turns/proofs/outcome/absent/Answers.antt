use Rattle.std.proofs.Common.{refl}
use Rattle.graph_turns.specs.Machine.Outcomes.{missing_outcome, outcome_of}
use Rattle.graph_turns.specs.Machine.Outcomes.Suits.{settles}
use Rattle.graph_turns.specs.Promise.Taken.{Absent, info_for, or_info}
use Rattle.graph_turns.proofs.Entering.Outcomes.{at_plain, at_same, made_absent, no_asset_info, no_info, none_absent, some_info, suits_alike, suits_as}
use Rattle.graph_turns.proofs.outcome.absent.Goals as goal

pub returns-in_default-clause-told : goal.returns-in_default-clause-told
returns-in_default-clause-told g c =
    let s = c.args.load.now.specifier in
    let e = c.args.load.now.context in
    let asked = c.args.asked in
    at_plain _ c.missing.result (missing_outcome s e asked.held) (λ m. outcome_of m s e asked (or_info s (info_for e asked) Absent))
    (λ m. none_absent m s e asked (no_info e asked c.in_default.is)) c.missing.ensures

pub returns-in_default-clause-suits : goal.returns-in_default-clause-suits
returns-in_default-clause-suits g c = suits_as c.missing.result c.args.load.now c.args.asked _ settles c.missing.ensures

pub returns-then-load-clause-told : goal.returns-then-load-clause-told
returns-then-load-clause-told g c =
    let s = c.args.load.now.specifier in
    let e = c.args.load.now.context in
    let asked = c.args.asked in
    at_plain _ c.missing-then-load.result (missing_outcome s e asked.held) (λ m. outcome_of m s e asked (or_info s (info_for e asked) Absent))
    (λ m. none_absent m s e asked (no_asset_info e asked c.if-load.true)) c.missing-then-load.ensures

pub returns-then-load-clause-suits : goal.returns-then-load-clause-suits
returns-then-load-clause-suits g c = suits_as c.missing-then-load.result c.args.load.now c.args.asked _ settles c.missing-then-load.ensures

pub returns-clause-told : goal.returns-clause-told
returns-clause-told g c =
    let s = c.args.load.now.specifier in
    let e = c.args.load.now.context in
    let asked = c.args.asked in
    at_same _ c.from_info.result _ (λ m. outcome_of m s e asked (or_info s (info_for e asked) Absent))
    (λ m. made_absent m s e asked c.in-Some.info (some_info e asked c.in-Some.info c.in-Some.is c.if-load.false)) c.from_info.ensures.told

pub returns-clause-suits : goal.returns-clause-suits
returns-clause-suits g c = suits_alike c.from_info.result c.args.load.now _ c.args.asked refl refl (c.from_info.ensures.suits c.if-load.false)
