use Rattle.graph_walk.proofs.TwicePruned.{loses_none, collects_the_same}
use Rattle.graph_walk.proofs.laws.collecting_again_changes_nothing.Goals as goal

pub returns-clause-itself : goal.returns-clause-itself
returns-clause-itself c = loses_none

pub returns-clause-of_any_kind : goal.returns-clause-of_any_kind
returns-clause-of_any_kind c = collects_the_same
