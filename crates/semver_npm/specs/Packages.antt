-- The texts of packages.
use Rattle.std.specs.Prelude.{ℕ, List, ◌++◌, codes}
use Rattle.semver.specs.Identifiers.{parts_text}
use Rattle.semver_npm.specs.declared.package.PackageNv.{PackageNv}
use Rattle.semver_npm.specs.declared.package.PackageReq.{PackageReq}
use Rattle.semver_npm.specs.declared.package.JsrDepPackageReq.{JsrDepPackageReq}
use Rattle.semver_npm.specs.declared.package.PackageKind.{PackageKind}
use Rattle.semver_npm.specs.declared.package.PackageKind.TheVariants.{Jsr, Npm}

-- `name@requirement`
abbrev pub req_text : PackageReq → List ℕ
req_text req = req.name ++ codes "@" ++ req.version_req

-- `name@version`
abbrev pub nv_text : PackageNv → List ℕ
nv_text nv = nv.name ++ codes "@" ++ parts_text nv.version

-- the scheme of a registry's specifiers
abbrev pub kind_text : PackageKind → List ℕ
kind_text Jsr = codes "jsr:"
kind_text Npm = codes "npm:"

-- `jsr:` or `npm:` and the requirement
abbrev pub dep_text : JsrDepPackageReq → List ℕ
dep_text dep = kind_text dep.kind ++ req_text dep.req
