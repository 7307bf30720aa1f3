use Rattle.graph_walk.proofs.TwicePruned.{twice_is_once}
use Rattle.graph_walk.proofs.laws.pruning_twice_is_once.Goals as goal

pub returns : goal.returns
returns c = twice_is_once
