-- Those so far and those that are left are all.
use Rattle.std.proofs.Common.{◌≡◌, ◌++◌, length}
use Rattle.graph_core.specs.Npm.{dynamic_npm, static_npm}
use Rattle.npm_settling.proofs.settling.part.Given as goal

abbrev pub invariant-loop-item : goal.invariant-loop-item
invariant-loop-item l =
    (l.statics.items ++ static_npm l.waiting ≡ static_npm l.fn.waiting) × (l.dynamics.items ++ dynamic_npm l.waiting ≡ dynamic_npm l.fn.waiting)

abbrev pub decreases-loop-item : goal.decreases-loop-item
decreases-loop-item l = length l.waiting
