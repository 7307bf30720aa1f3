-- The order of versions is total, and ties only of equal ones.
use Rattle.std.proofs.Common.{◌≡◌, ◌++◌, refl, true}
use Rattle.std.specs.Ordering.{eq_by_cmp, ordering_then}
use Rattle.std.specs.Cmp.{Equal-is, IsTotalOrder, nat_cmp_total, on_total, then_total}
use Rattle.std.specs.FinMap.{IsAntisymmetric, nat_cmp-IsAntisymmetric}
use Rattle.std.specs.Hash.{HashWrites}
use Rattle.std.specs.Hash as fed
use Rattle.std.specs.declared.cmp.Ordering.{Ordering}
use Rattle.std.specs.declared.cmp.Ordering.TheVariants.{Less, Equal, Greater}
use Rattle.semver.specs.OrderLaws.{build-anti, build_total, pre-anti, pre_total}
use Rattle.semver_npm.specs.Versions.{Ver, precedence, ver_cmp}

pub precedence_total : IsTotalOrder precedence
precedence_total = then_total (on_total (λ (v : Ver). v.0) nat_cmp_total) (then_total (on_total (λ (v : Ver). v.1) nat_cmp_total)
    (then_total (on_total (λ (v : Ver). v.2) nat_cmp_total) (on_total (λ (v : Ver). v.3) pre_total)))

pub ver_total : IsTotalOrder ver_cmp
ver_total = then_total precedence_total (on_total (λ (v : Ver). v.4) build_total)

-- what a sum of two comparisons says of each
then_first : (r s : Ordering) → ordering_then r s ≡ Equal → r ≡ Equal
then_first Less s e = cc e
then_first Equal s e = refl
then_first Greater s e = cc e

then_second : (r s : Ordering) → ordering_then r s ≡ Equal → s ≡ Equal
then_second Less s e = cc e
then_second Equal s e = e
then_second Greater s e = cc e

-- versions that tie are one
pub ver-anti : IsAntisymmetric ver_cmp
ver-anti a b e =
    let p = then_first _ _ e in
    let q = then_second _ _ p in
    let r = then_second _ _ q in
    let e0 : a.0 ≡ b.0 = nat_cmp-IsAntisymmetric _ _ (then_first _ _ p) in
    let e1 : a.1 ≡ b.1 = nat_cmp-IsAntisymmetric _ _ (then_first _ _ q) in
    let e2 : a.2 ≡ b.2 = nat_cmp-IsAntisymmetric _ _ (then_first _ _ r) in
    let e3 : a.3 ≡ b.3 = pre-anti _ _ (then_second _ _ r) in
    let e4 : a.4 ≡ b.4 = build-anti _ _ (then_second _ _ e) in
    λ i. (e0 i, e1 i, e2 i, e3 i, e4 i)

-- versions that `==` holds of are one
pub same_ver : (x y : Ver) → eq_by_cmp ver_cmp x y ≡ true → x ≡ y
same_ver x y h = ver-anti x y ((Equal-is (ver_cmp x y)).0 h)

-- what a hasher is fed of a version
abbrev pub ver_writes : Ver → HashWrites
ver_writes v = fed.u64 v.0 ++ (fed.u64 v.1 ++ (fed.u64 v.2 ++ (fed.str v.3 ++ fed.str v.4)))
