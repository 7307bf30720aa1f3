use Rattle.std.proofs.Common.{◌≡◌, ◌+◌, ap, arith}
use Rattle.pkg_records.specs.Kept.{capped, dependencies_sum}
use Rattle.pkg_records.proofs.package_specifiers.PackageSpecifiers.package_deps_sum.Goals as goal

pub returns : goal.returns
returns c =
    let l = c.loop-record in
    let none : capped (l.sum + dependencies_sum l.record-iterator) ≡ capped (l.sum + 0) = ap (λ es. capped (l.sum + dependencies_sum es)) c.in-None.ensures.steps.0 in
    omega (arith, none, l.invariant.0, l.invariant.1)
