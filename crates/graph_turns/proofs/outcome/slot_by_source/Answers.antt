use Rattle.std.proofs.Common.{None, rules}
use Rattle.slot_making.specs.Made.{made_slot}
use Rattle.graph_turns.proofs.Entering.Outcomes.{slot_named, told_refused}
use Rattle.graph_turns.proofs.outcome.slot_by_source.Goals as goal

pub returns-clause-told : goal.returns-clause-told
returns-clause-told g c =
    slot_named _ c.make_slot.result c.args.load.now.context (record { name = c.args.name.now; content = c.args.content; headers = c.args.maybe_headers; mtime = c.args.mtime; info = None }) _ (search rules) c.make_slot.ensures.made

pub returns-in_err-specifier-clause-told : goal.returns-in_err-specifier-clause-told
returns-in_err-specifier-clause-told g c =
    told_refused _ c.from_residual.result
    (λ m. made_slot m (record { name = c.args.name.now; content = c.args.content; headers = c.args.maybe_headers; mtime = c.args.mtime; info = None }) c.args.load.now.context) (search rules)
