-- What was kept and what is left to keep are all, and nothing else is.
use Rattle.std.proofs.Common.{◌≡◌, drop}
use Rattle.program_phases.specs.Sums.{sums_with}
use Rattle.program_phases.proofs.locker.keep_sums.Given as goal

abbrev pub invariant-loop-specifier : goal.invariant-loop-specifier
invariant-loop-specifier l =
    (sums_with l.fn.locker.remote l.sums ≡ sums_with l.locker.remote (drop l.specifier-index l.sums))
    × (l.locker.manifests ≡ l.fn.locker.manifests)
