-- The requirements of those so far.
use Rattle.std.proofs.Common.{◌≡◌, take}
use Rattle.graph_core.specs.Npm.{npm_requirements}
use Rattle.npm_settling.proofs.settling.requirements.Given as goal

abbrev pub invariant-loop-item : goal.invariant-loop-item
invariant-loop-item l = l.reqs.items ≡ npm_requirements (take l.item-index l.items)
