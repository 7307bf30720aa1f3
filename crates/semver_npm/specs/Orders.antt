-- The orders of packages.
use Rattle.std.specs.Prelude.{ℕ}
use Rattle.std.specs.Ordering.{nat_cmp, on, then_cmp}
use Rattle.std.specs.declared.cmp.Ordering.{Ordering}
use Rattle.spec_base.specs.Shown.{text_cmp}
use Rattle.semver_npm.specs.Versions.{ver_cmp}
use Rattle.semver_npm.specs.declared.package.JsrDepPackageReq.{JsrDepPackageReq}
use Rattle.semver_npm.specs.declared.package.PackageKind.{PackageKind}
use Rattle.semver_npm.specs.declared.package.PackageKind.TheVariants.{Jsr, Npm}
use Rattle.semver_npm.specs.declared.package.PackageNv.{PackageNv}
use Rattle.semver_npm.specs.declared.package.PackageReq.{PackageReq}

-- by name, and then by the requirement's text
abbrev pub req_cmp : PackageReq → PackageReq → Ordering
req_cmp = then_cmp (on (λ r. r.name) text_cmp) (on (λ r. r.version_req) text_cmp)

-- by name, and then by version
abbrev pub nv_cmp : PackageNv → PackageNv → Ordering
nv_cmp = then_cmp (on (λ p. p.name) text_cmp) (on (λ p. p.version) ver_cmp)

-- JSR before npm
abbrev pub kind_rank : PackageKind → ℕ
kind_rank Jsr = 0
kind_rank Npm = 1

-- by registry, and then by requirement
abbrev pub dep_cmp : JsrDepPackageReq → JsrDepPackageReq → Ordering
dep_cmp = then_cmp (on (λ d. kind_rank d.kind) nat_cmp) (on (λ d. d.req) req_cmp)
