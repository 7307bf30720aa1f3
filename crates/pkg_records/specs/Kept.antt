-- What a graph keeps of packages.
use Rattle.std.specs.Prelude.{◌≡◌, ◌⊎◌, ℕ, ◌-◌, ◌^◌, Bool, false, ◌&&◌, List, [], ◌∷◌, ◌++◌, map, sum, min, length, bytes_eq, Option, Some, None, if◌then◌else◌}
use Rattle.std.specs.BTreeMap.{insert_entry, is_at}
use Rattle.std.specs.BTreeSet.{insert_key}
use Rattle.std.specs.List.{list_any}
use Rattle.std.specs.Map.{set_value}
use Rattle.std.specs.Ordering.{eq_by_cmp}
use Rattle.spec_base.specs.Options.{by_option}
use Rattle.semver_npm.specs.Orders.{dep_cmp, nv_cmp, req_cmp}
use Rattle.spec_base.specs.Shown.{text_cmp}
use Rattle.semver_npm.specs.Versions.{ver_cmp}
use Rattle.semver_npm.specs.declared.package.JsrDepPackageReq.{JsrDepPackageReq}
use Rattle.semver_npm.specs.declared.package.PackageNv.{PackageNv}
use Rattle.semver_npm.specs.declared.package.PackageReq.{PackageReq}
use Rattle.version_dates.specs.Sets.{at_key}
use Rattle.pkg_records.specs.declared.package_records.PackageRecord.{PackageRecord}
use Rattle.pkg_records.specs.declared.package_specifiers.PackageSpecifiers.{PackageSpecifiers}

-- nothing is kept
abbrev pub no_packages : PackageSpecifiers
no_packages = record { package_reqs = []; versions_by_name = []; packages = []; top_level_packages = []; used_yanked_packages = [] }

-- ---- the versions of a name

-- the same name, and the same version
abbrev pub same_nv : PackageNv → PackageNv → Bool
same_nv a b = bytes_eq a.name b.name && eq_by_cmp ver_cmp a.version b.version

-- a version at the end of a list, unless it is there
abbrev pub appended : List PackageNv → PackageNv → List PackageNv
appended list nv = if list_any (same_nv nv) list then list else list ++ nv ∷ []

-- a name's list gets the version, and a new name a list of it alone
abbrev pub with_version : List (List ℕ × List PackageNv) → PackageNv → List (List ℕ × List PackageNv)
with_version lists nv =
    by_option (at_key text_cmp lists nv.name) (insert_entry text_cmp lists nv.name (nv ∷ []))
    (λ list. set_value (is_at (text_cmp nv.name)) lists (appended list nv))

-- the versions of a name, of which there are none where it has no list
abbrev pub versions_of : PackageSpecifiers → List ℕ → List PackageNv
versions_of p name = by_option (at_key text_cmp p.versions_by_name name) [] (λ list. list)

-- a list stays as it is, or gets at its end a version that it hadn't
abbrev pub GrowsAtEnd : List PackageNv → List PackageNv → PackageNv → Type 0
GrowsAtEnd old new nv = (new ≡ old) ⊎ ((list_any (same_nv nv) old ≡ false) × (new ≡ old ++ nv ∷ []))

-- a requirement leads to a version, which is in its name's list
abbrev pub with_nv : PackageSpecifiers → PackageReq → PackageNv → PackageSpecifiers
with_nv p req nv = record p {
  package_reqs = insert_entry req_cmp p.package_reqs req nv;
  versions_by_name = with_version p.versions_by_name nv;
}

-- ---- what is kept of a package

abbrev pub empty_record : PackageRecord
empty_record = record { exports = []; dependencies = [] }

abbrev pub record_with_dependency : JsrDepPackageReq → PackageRecord → PackageRecord
record_with_dependency dep r = record r { dependencies = insert_key dep_cmp r.dependencies dep }

abbrev pub record_with_export : List ℕ → List ℕ → PackageRecord → PackageRecord
record_with_export name value r = record r { exports = insert_entry text_cmp r.exports name value }

-- a change of what is kept of a package; a missing package is made first
abbrev pub with_record : (PackageRecord → PackageRecord) → List (PackageNv × PackageRecord) → PackageNv → List (PackageNv × PackageRecord)
with_record change packages nv =
    by_option (at_key nv_cmp packages nv) (insert_entry nv_cmp packages nv (change empty_record))
    (λ r. set_value (is_at (nv_cmp nv)) packages (change r))

-- a package stands, with nothing known of a new one
abbrev pub with_empty : List (PackageNv × PackageRecord) → PackageNv → List (PackageNv × PackageRecord)
with_empty packages nv = by_option (at_key nv_cmp packages nv) (insert_entry nv_cmp packages nv empty_record) (λ r. packages)

abbrev pub with_package : PackageSpecifiers → PackageNv → PackageSpecifiers
with_package p nv = record p { packages = with_empty p.packages nv }

-- a package depends on another one
abbrev pub with_dependency : PackageSpecifiers → PackageNv → JsrDepPackageReq → PackageSpecifiers
with_dependency p nv dep = record p { packages = with_record (record_with_dependency dep) p.packages nv }

-- an export of a package is used
abbrev pub with_export : PackageSpecifiers → PackageNv → List ℕ → List ℕ → PackageSpecifiers
with_export p nv name value = record p { packages = with_record (record_with_export name value) p.packages nv }

abbrev pub with_top_level_package : PackageSpecifiers → PackageNv → PackageSpecifiers
with_top_level_package p nv = record p { top_level_packages = insert_key nv_cmp p.top_level_packages nv }

abbrev pub with_used_yanked_package : PackageSpecifiers → PackageNv → PackageSpecifiers
with_used_yanked_package p nv = record p { used_yanked_packages = insert_key nv_cmp p.used_yanked_packages nv }

-- ---- what is read

-- a count, which stops at the greatest number
abbrev pub capped : ℕ → ℕ
capped n = min n (2 ^ 64 - 1)

-- the dependencies of all packages
abbrev pub dependencies_sum : List (PackageNv × PackageRecord) → ℕ
dependencies_sum packages = sum (map (λ (e : PackageNv × PackageRecord). length e.1.dependencies) packages)

-- each package with what it depends on
abbrev pub dependencies_of : List (PackageNv × PackageRecord) → List (PackageNv × List JsrDepPackageReq)
dependencies_of packages = map (λ (e : PackageNv × PackageRecord). (e.0, e.1.dependencies)) packages

-- the exports of a package
abbrev pub exports_in : PackageSpecifiers → PackageNv → Option (List (List ℕ × List ℕ))
exports_in p nv = by_option (at_key nv_cmp p.packages nv) None (λ r. Some r.exports)
