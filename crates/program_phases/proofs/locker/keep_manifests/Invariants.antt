-- What was kept and what is left to keep are all, and nothing else is.
use Rattle.std.proofs.Common.{◌≡◌, drop}
use Rattle.program_phases.specs.Sums.{manifests_with}
use Rattle.program_phases.proofs.locker.keep_manifests.Given as goal

abbrev pub invariant-loop-package_nv : goal.invariant-loop-package_nv
invariant-loop-package_nv l =
    (manifests_with l.fn.locker.manifests l.sums ≡ manifests_with l.locker.manifests (drop l.package_nv-index l.sums))
    × (l.locker.remote ≡ l.fn.locker.remote)
