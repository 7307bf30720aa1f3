use Rattle.graph_walk.proofs.TidyPrunings.{leaves_walked}
use Rattle.graph_walk.proofs.laws.pruning_leaves_the_code_walk.Goals as goal

pub returns : goal.returns
returns c = leaves_walked
