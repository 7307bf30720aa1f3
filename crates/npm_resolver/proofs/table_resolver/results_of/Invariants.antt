-- The results of the requirements so far.
use Rattle.std.proofs.Common.{◌≡◌, map, take}
use Rattle.npm_resolver.specs.Results.{listed_result}
use Rattle.npm_resolver.proofs.table_resolver.results_of.Given as goal

abbrev pub invariant-loop-req : goal.invariant-loop-req
invariant-loop-req l = l.results ≡ map (listed_result l.packages) (take l.req-index l.package_reqs)
