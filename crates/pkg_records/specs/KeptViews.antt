-- What goes over kept packages gives, with each borrowed value as what it is.
use Rattle.std.specs.Prelude.{List}
use Rattle.std.specs.Borrow.{Bor}
use Rattle.std.specs.BTreeSet.{BTreeSet}
use Rattle.semver_npm.specs.declared.package.JsrDepPackageReq.{JsrDepPackageReq}
use Rattle.semver_npm.specs.declared.package.PackageNv.{PackageNv}

-- a package with what it depends on
abbrev pub package_view : Bor PackageNv × Bor (BTreeSet JsrDepPackageReq) → PackageNv × List JsrDepPackageReq
package_view p = (p.0.now, p.1.now.keys)
