-- What is left decides.
use Rattle.std.proofs.Common.{◌≡◌, drop}
use Rattle.graph_dependencies.specs.Assets.{first_source_phase}
use Rattle.graph_dependencies.proofs.assets.first_source_phase.Given as goal

abbrev pub invariant-loop-one : goal.invariant-loop-one
invariant-loop-one l = first_source_phase l.imports ≡ first_source_phase (drop l.one-index l.imports)
