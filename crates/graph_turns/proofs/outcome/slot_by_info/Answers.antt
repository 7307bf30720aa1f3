use Rattle.std.proofs.Common.{[], None, Some, rules}
use Rattle.slot_making.specs.Made.{made_slot}
use Rattle.graph_turns.proofs.Entering.Outcomes.{slot_told, told_refused}
use Rattle.graph_turns.proofs.outcome.slot_by_info.Goals as goal

pub returns-clause-told : goal.returns-clause-told
returns-clause-told g c =
    slot_told _ c.make_slot.result c.args.load.now.context c.args.load.now.specifier _ _ c.args.info _ (search rules) (search rules) (search rules) c.make_slot.ensures.made

pub returns-in_err-specifier-clause-told : goal.returns-in_err-specifier-clause-told
returns-in_err-specifier-clause-told g c =
    told_refused _ c.from_residual.result (λ m. made_slot m (record { name = c.args.load.now.specifier; content = []; headers = None; mtime = None; info = Some c.args.info }) c.args.load.now.context) (search rules)
