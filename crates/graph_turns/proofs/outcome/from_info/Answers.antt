use Rattle.std.proofs.Common.{rules}
use Rattle.graph_turns.specs.Machine.Outcomes.{info_outcome}
use Rattle.graph_turns.specs.Machine.Outcomes.Suits.{comes}
use Rattle.graph_turns.proofs.Entering.Outcomes.{by_info_final, by_info_told, suits_as, told_refused}
use Rattle.graph_turns.proofs.outcome.from_info.Goals as goal

pub returns-clause-told : goal.returns-clause-told
returns-clause-told g c =
    by_info_told _ c.settled_before.result c.args.load.now.specifier c.args.load.now.context c.args.asked c.args.info c.in_ok-slot.slot c.in_ok-slot.ensures.told c.settled_before.ensures

pub returns-clause-settled : goal.returns-clause-settled
returns-clause-settled g c =
    by_info_final c.settled_before.result c.args.load.now c.in_ok-slot.slot _ _ c.in_ok-slot.ensures.settled c.in_ok-slot.ensures.inside c.settled_before.ensures

pub returns-clause-suits : goal.returns-clause-suits
returns-clause-suits g c = λ read. suits_as c.settled_before.result c.args.load.now c.args.asked _ (comes read) c.settled_before.ensures

pub returns-in_err-slot-clause-told : goal.returns-in_err-slot-clause-told
returns-in_err-slot-clause-told g c =
    told_refused _ c.from_residual.result (λ m. info_outcome m c.args.load.now.specifier c.args.load.now.context c.args.asked c.args.info) (search rules)
