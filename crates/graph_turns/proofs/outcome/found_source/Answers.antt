use Rattle.std.proofs.Common.{None, refl, rules}
use Rattle.graph_turns.specs.Machine.Outcomes.{outcome_of}
use Rattle.graph_turns.specs.Machine.Outcomes.Suits.{settles}
use Rattle.graph_turns.specs.Promise.Taken.{Found}
use Rattle.graph_turns.proofs.Entering.Outcomes.{at_told, told_refused}
use Rattle.graph_turns.proofs.outcome.found_source.Goals as goal

pub returns-clause-told : goal.returns-clause-told
returns-clause-told g c =
    at_told _ c.args.load.now.specifier c.args.load.now.context c.args.asked c.args.specifier c.in_ok-slot.slot _
    (Found (record { name = c.args.specifier; content = c.args.content; headers = c.args.maybe_headers; mtime = c.args.mtime; info = None })) refl refl refl c.in_ok-slot.ensures.told

pub returns-clause-suits : goal.returns-clause-suits
returns-clause-suits g c = settles

pub returns-in_err-slot-clause-told : goal.returns-in_err-slot-clause-told
returns-in_err-slot-clause-told g c =
    told_refused _ c.from_residual.result
    (λ m. outcome_of m c.args.load.now.specifier c.args.load.now.context c.args.asked (Found (record { name = c.args.specifier; content = c.args.content; headers = c.args.maybe_headers; mtime = c.args.mtime; info = None }))) (search rules)
