-- Those that were found and those of what is left are those of all.
use Rattle.std.proofs.Common.{◌≡◌, ◌++◌, map}
use Rattle.std.specs.FinMap as finite
use Rattle.spec_base.specs.Specifier.{by_text, specifier_text}
use Rattle.npm_targets.specs.Steps.{changing}
use Rattle.npm_targets.proofs.repointing.Repointing.changing.Given as goal

abbrev pub invariant-loop-specifier : goal.invariant-loop-specifier
invariant-loop-specifier g l =
    map specifier_text l.found.items ++ changing l.self.resolution_kind (by_text l.specifier-iterator) ≡ changing l.self.resolution_kind (finite.entries l.graph.slots)
