-- The sums of manifests: those that are known of versions of packages.
use Rattle.std.specs.Prelude.{ℕ, List}
use Rattle.std.specs.FinMap.{FinMap, from_entries}
use Rattle.std.specs.HashMap.{HashMap}
use Rattle.semver_npm.specs.Orders.{nv_cmp}
use Rattle.semver_npm.specs.declared.package.PackageNv.{PackageNv}

-- the sums that are known of the manifests of packages, by the versions of these
abbrev pub KnownManifests : Type 0
KnownManifests = FinMap nv_cmp (List ℕ)

-- the sums that a hash map has
abbrev pub manifests_in : {S : Type 0} → HashMap PackageNv (List ℕ) S → KnownManifests
manifests_in map = from_entries map.entries
