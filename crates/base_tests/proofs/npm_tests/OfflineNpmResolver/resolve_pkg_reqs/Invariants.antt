-- One result for each requirement so far.
use Rattle.std.proofs.Common.{◌≡◌, length}
use Rattle.base_tests.proofs.npm_tests.OfflineNpmResolver.resolve_pkg_reqs.Given as goal

abbrev pub invariant-loop-req : goal.invariant-loop-req
invariant-loop-req l = length l.results ≡ l._req-index
