-- Those so far have their slots.
use Rattle.std.proofs.Common.{◌≡◌, take}
use Rattle.graph_core.specs.Npm.{listed_npm, npm_put_all}
use Rattle.npm_settling.proofs.settling.put_static.Given as goal

abbrev pub invariant-loop-item : goal.invariant-loop-item
invariant-loop-item l = l.graph ≡ npm_put_all l.fn.graph (listed_npm l.results (take l.item-index l.items))
