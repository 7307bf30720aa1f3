-- How the logic stores what lockers keep: plumbing that no clause cites, which a reader can skip.
use Rattle.std.specs.Prelude.{ℕ, List, refl}
use Rattle.std.specs.Coded.{Coded, code_by, coded×, coded_ℕ, coded_list}
use Rattle.std.specs.FinMap as finite
use Rattle.semver_npm.specs.declared.package.PackageNv.{PackageNv}
use Rattle.source_sums.specs.Manifests.{KnownManifests}
use Rattle.source_sums.specs.Sums.{KnownSums}

abbrev Fields : Type 0
Fields = List ℕ × ((ℕ × (ℕ × ℕ)) × (List ℕ × List ℕ))

abbrev fields_code : Coded Fields
fields_code = coded× (coded_list coded_ℕ) (coded× (coded× coded_ℕ (coded× coded_ℕ coded_ℕ)) (coded× (coded_list coded_ℕ) (coded_list coded_ℕ)))

abbrev pub nv_code : Coded PackageNv
nv_code =
    code_by Fields fields_code
    (λ nv. (nv.name, ((nv.version.0, (nv.version.1, nv.version.2)), (nv.version.3, nv.version.4))))
    (λ f. record { name = f.0; version = (f.1.0.0, f.1.0.1.0, f.1.0.1.1, f.1.1.0, f.1.1.1) })
    (λ _. refl)

abbrev pub sums_code : Coded KnownSums
sums_code = finite.code (coded_list coded_ℕ) (coded_list coded_ℕ)

abbrev pub manifests_code : Coded KnownManifests
manifests_code = finite.code nv_code (coded_list coded_ℕ)
