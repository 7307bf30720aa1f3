use Rattle.graph_turns.specs.Machine.Outcomes.Suits.{settles}
use Rattle.graph_turns.proofs.Entering.Outcomes.{suits_as}
use Rattle.graph_turns.proofs.outcome.at_hand.Goals as goal

pub returns-in_ok-specifier-in-Cached-clause-suits : goal.returns-in_ok-specifier-in-Cached-clause-suits
returns-in_ok-specifier-in-Cached-clause-suits c = suits_as c.settled.result c.args.load.now c.args.asked _ settles c.settled.ensures
