-- Those that were found and those of what is left are those of all.
use Rattle.std.proofs.Common.{◌≡◌, ◌++◌, drop, filter}
use Rattle.npm_targets.specs.Edges.{is_npm}
use Rattle.npm_targets.proofs.roots.npm_roots.Given as goal

abbrev pub invariant-loop-root : goal.invariant-loop-root
invariant-loop-root l = l.found.items ++ filter is_npm (drop l.root-index l.roots) ≡ filter is_npm l.roots
