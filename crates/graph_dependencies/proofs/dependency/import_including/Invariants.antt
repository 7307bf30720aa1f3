-- The imports so far don't include the place.
use Rattle.std.proofs.Common.{◌≡◌, length}
use Rattle.graph_dependencies.specs.Included.{import_including}
use Rattle.graph_dependencies.proofs.dependency.import_including.Given as goal

abbrev pub invariant-loop-left : goal.invariant-loop-left
invariant-loop-left l = import_including l.imports l.position ≡ import_including l.left l.position

abbrev pub decreases-loop-left : goal.decreases-loop-left
decreases-loop-left l = length l.left
