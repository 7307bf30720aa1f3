use Rattle.std.proofs.Common.{◌≡◌, ◌+◌, ◌-◌, ◌^◌, ◌≤◌}
use Rattle.pkg_records.specs.Kept.{capped, dependencies_sum}
use Rattle.pkg_records.proofs.package_specifiers.PackageSpecifiers.package_deps_sum.Given as goal

-- the sum so far and what is left
abbrev pub invariant-loop-record : goal.invariant-loop-record
invariant-loop-record l = (capped (l.sum + dependencies_sum l.record-iterator) ≡ capped (dependencies_sum l.self.packages)) × (l.sum ≤ 2 ^ 64 - 1)
