-- Versions of packages are told apart as their order does: by name and version.
use Rattle.std.proofs.Common.{◌≡◌, Bool, ◌&&◌, refl, ap, ◌∙◌}
use Rattle.std.specs.Prelude.{bytes_eq}
use Rattle.std.specs.declared.cmp.Ordering.{Ordering}
use Rattle.std.specs.declared.cmp.Ordering.TheVariants.{Less, Equal, Greater}
use Rattle.std.specs.Ordering.{eq_by_cmp, is_eq, ordering_then}
use Rattle.std.specs.Cmp.Lexicographic.{texts_ties}
use Rattle.semver_npm.specs.Orders.{nv_cmp}
use Rattle.spec_base.specs.Shown.{text_cmp}
use Rattle.semver_npm.specs.Versions.{ver_cmp}
use Rattle.semver_npm.specs.declared.package.PackageNv.{PackageNv}

-- two comparisons in turn tie where both do
both_tie : (r s : Ordering) → (is_eq r && is_eq s) ≡ is_eq (ordering_then r s)
both_tie Less s = refl
both_tie Equal s = refl
both_tie Greater s = refl

-- equal names and equal versions
abbrev pub same_nv : PackageNv → PackageNv → Bool
same_nv a b = bytes_eq a.name b.name && eq_by_cmp ver_cmp a.version b.version

pub nv_agrees : (a b : PackageNv) → same_nv a b ≡ eq_by_cmp nv_cmp a b
nv_agrees a b =
    ap (λ t. t && eq_by_cmp ver_cmp a.version b.version) (texts_ties a.name b.name)
    ∙ both_tie (text_cmp a.name b.name) (ver_cmp a.version b.version)
