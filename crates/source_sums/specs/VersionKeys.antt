-- Versions of packages as keys of finite maps: their order is total, and ties only of equal ones.
use Rattle.std.proofs.Common.{◌≡◌, refl}
use Rattle.std.specs.Ordering.{ordering_then}
use Rattle.std.specs.Cmp.{IsTotalOrder, on_total, then_total}
use Rattle.std.specs.Cmp.Lexicographic.{nat_list_cmp_total}
use Rattle.std.specs.FinMap.{IsAntisymmetric, nat_cmp-IsAntisymmetric, slice_cmp-IsAntisymmetric}
use Rattle.std.specs.declared.cmp.Ordering.{Ordering}
use Rattle.std.specs.declared.cmp.Ordering.TheVariants.{Less, Equal, Greater}
use Rattle.semver_npm.specs.Orders.{nv_cmp}
use Rattle.semver_npm.specs.OrderLaws.{ver-anti, ver_total}
use Rattle.semver_npm.specs.declared.package.PackageNv.{PackageNv}

pub nv_total : IsTotalOrder nv_cmp
nv_total = then_total (on_total (λ (nv : PackageNv). nv.name) nat_list_cmp_total) (on_total (λ (nv : PackageNv). nv.version) ver_total)

-- two comparisons in turn tie where both do
both_tie : (r s : Ordering) → ordering_then r s ≡ Equal → (r ≡ Equal) × (s ≡ Equal)
both_tie Less s e = cc e
both_tie Equal s e = (refl, e)
both_tie Greater s e = cc e

pub nv_exact : IsAntisymmetric nv_cmp
nv_exact a b e =
    let ties = both_tie _ _ e in
    let name : a.name ≡ b.name = slice_cmp-IsAntisymmetric nat_cmp-IsAntisymmetric _ _ ties.0 in
    let version : a.version ≡ b.version = ver-anti _ _ ties.1 in
    λ i. record { name = name i; version = version i }
