-- The sums of the files of a version.
use Rattle.std.specs.Prelude.{ℕ, List, bytes_eq, codes, Option, Some}
use Rattle.std.specs.Map.{lookup}
use Rattle.spec_base.specs.Options.{by_option}
use Rattle.pkg_versions.specs.declared.version_info.JsrPackageVersionManifestEntry.{JsrPackageVersionManifestEntry}
use Rattle.registry_urls.specs.Prefix.{after_prefix}
use Rattle.registry_files.specs.declared.version_file.VersionFile.{VersionFile}

-- the sum that is put where a version file has none of a file; no file has it
abbrev pub missing_sum : List ℕ
missing_sum = codes "package-manifest-missing-checksum"

-- the sum of a file that a version file has: behind `sha256-`; none where it has another form
abbrev pub sum_in_entry : JsrPackageVersionManifestEntry → Option (List ℕ)
sum_in_entry entry = after_prefix (codes "sha256-") entry.checksum

-- the sum that a file of the version is asked under; none where its form isn't known
abbrev pub manifest_sum : VersionFile → List ℕ → Option (List ℕ)
manifest_sum file path = by_option (lookup (bytes_eq path) file.manifest) (Some missing_sum) sum_in_entry
