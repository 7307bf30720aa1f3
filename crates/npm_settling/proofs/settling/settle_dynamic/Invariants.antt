-- Those so far have their slots.
use Rattle.std.proofs.Common.{true, take}
use Rattle.graph_core.specs.Npm.{ArePut}
use Rattle.npm_settling.proofs.settling.settle_dynamic.Given as goal

abbrev pub invariant-loop-item : goal.invariant-loop-item
invariant-loop-item g l = ArePut (g.N.NpmResolver.table l.resolver) true l.fn.graph (take l.item-index l.items) l.graph
