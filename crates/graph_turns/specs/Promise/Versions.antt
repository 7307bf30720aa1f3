-- The files of a registry: the questions about them, and what is answered: what stands in a store that was given, else what a world answers.
use Rattle.std.specs.Prelude.{ℕ, List, Bool, false, Option, Some, None, is_some, Result, Ok, Err}
use Rattle.url.specs.Parts.{Parts}
use Rattle.semver_npm.specs.declared.package.PackageNv.{PackageNv}
use Rattle.spec_base.specs.Options.{by_option}
use Rattle.pkg_versions.specs.declared.package_info.JsrPackageInfo.{JsrPackageInfo}
use Rattle.metadata_store.specs.declared.store.JsrMetadataStore.{JsrMetadataStore}
use Rattle.source_sums.specs.Manifests.{KnownManifests}
use Rattle.source_io.specs.declared.types.Answer.{Answer}
use Rattle.source_io.specs.declared.types.Answer.TheVariants.{Load, Ensure}
use Rattle.source_io.specs.declared.types.CacheSetting.{CacheSetting}
use Rattle.source_io.specs.declared.types.CacheSetting.TheVariants.{Only, Reload}
use Rattle.source_io.specs.declared.types.Question.{Question}
use Rattle.source_io.specs.Answers.{answer_of}
use Rattle.graph_errors.specs.declared.jsr_error.JsrLoadError.{JsrLoadError}
use Rattle.registry_urls.specs.Meaning.{RegistryMeaning}
use Rattle.registry_urls.specs.Packages.{package_file_url, version_file_url}
use Rattle.registry_files.specs.Answers.{FileAnswer, package_answer, version_answer}
use Rattle.registry_files.specs.Kept.{FilesAt}
use Rattle.registry_files.specs.declared.kept_version.KeptVersion.{KeptVersion}
use Rattle.registry_files.specs.declared.version_file.VersionFile.{VersionFile}
use Rattle.graph_turns.specs.declared.registry.RegistryFile.{RegistryFile}
use Rattle.graph_turns.specs.declared.registry.RegistryFile.TheVariants.{Package, PackageAgain, Version, Probe}
use Rattle.graph_turns.specs.Promise.Told.{Told}
use Rattle.metadata_store.specs.Answers.{with_package_answer, with_version_answer}
use Rattle.std.specs.FinMap as finite

-- ---- questions

-- a question about a file of the registry, which no import names
abbrev pub metadata_question : CacheSetting → Parts → Option (List ℕ) → Question
metadata_question setting s sum = record {
  specifier = s;
  asset = false;
  options = record {
    in_dynamic_branch = false;
    was_dynamic_root = false;
    cache_setting = setting;
    maybe_checksum = sum;
  };
}

-- the sum that is known of a version file, where there is a locker
abbrev pub manifest_at : Option KnownManifests → PackageNv → Option (List ℕ)
manifest_at None nv = None
manifest_at (Some manifests) nv = finite.get manifests nv

-- the question about a version file, with the sum that is known of it
abbrev pub version_question : CacheSetting → RegistryMeaning → Option KnownManifests → PackageNv → Question
version_question setting registry manifests nv = metadata_question setting (version_file_url registry.url nv) (manifest_at manifests nv)

-- the question about the file of a package
abbrev pub package_question : CacheSetting → RegistryMeaning → List ℕ → Question
package_question setting registry name = metadata_question setting (package_file_url registry.url name) None

-- the question about the file of a version in a cache, with no sum
abbrev pub probe_question : RegistryMeaning → PackageNv → Question
probe_question registry nv = metadata_question Only (version_file_url registry.url nv) None

-- the question about a file, under the setting that serves the registry's files; once more it is Reload, in a cache Only
abbrev pub file_question : CacheSetting → RegistryMeaning → Option KnownManifests → RegistryFile → Question
file_question setting registry manifests (Package name) = package_question setting registry name
file_question setting registry manifests (PackageAgain name) = package_question Reload registry name
file_question setting registry manifests (Version nv) = version_question setting registry manifests nv
file_question setting registry manifests (Probe nv) = probe_question registry nv

-- ---- answers

-- an answer as one to a load
abbrev pub loaded : Answer → FileAnswer
loaded (Load result) = result
loaded (Ensure result) = Ok None

-- what a given store has of a file; what is asked once more under Reload, or looked for in a cache, isn't taken of it
abbrev pub answer_in : Option JsrMetadataStore → RegistryFile → Option FileAnswer
answer_in None file = None
answer_in (Some store) (Package name) = finite.get store.packages name
answer_in (Some store) (PackageAgain name) = None
answer_in (Some store) (Version nv) = finite.get store.versions nv
answer_in (Some store) (Probe nv) = None

abbrev pub is_stored : Option JsrMetadataStore → RegistryFile → Bool
is_stored store file = is_some (answer_in store file)

-- a store with the answer about a file, unless that was asked about under Reload, or looked for in a cache
abbrev pub store_with : JsrMetadataStore → RegistryFile → FileAnswer → JsrMetadataStore
store_with store (Package name) answer = with_package_answer store name answer
store_with store (PackageAgain name) answer = store
store_with store (Version nv) answer = with_version_answer store nv answer
store_with store (Probe nv) answer = store

-- what a world answers about a file
abbrev pub served_file : Told → RegistryFile → FileAnswer
served_file told file = loaded (answer_of told.world (file_question told.metadata told.registry told.known.manifests file))

-- the answer about a file that counts: the given store's, where it has one, else the world's
abbrev pub told_file : Told → RegistryFile → FileAnswer
told_file told file = by_option (answer_in told.known.store file) (served_file told file) (λ answer. answer)

-- ---- what the answers say

-- a version file with its version and where that lies
abbrev pub kept_at : Parts → PackageNv → Result VersionFile JsrLoadError → Result KeptVersion JsrLoadError
kept_at url nv (Ok file) = Ok (record { nv = nv; url = url; file = file })
kept_at url nv (Err e) = Err e

-- what is kept of an answer about a version file
abbrev pub kept_of : RegistryMeaning → PackageNv → FileAnswer → Result KeptVersion JsrLoadError
kept_of registry nv answer = kept_at (registry.package_url nv) nv (version_answer nv answer)

-- the file of a version
abbrev pub told_version : Told → PackageNv → Result KeptVersion JsrLoadError
told_version told nv = kept_of told.registry nv (told_file told (Version nv))

-- what is known of version files once each was asked about
abbrev pub told_files : Told → FilesAt
told_files told nv = Some (told_version told nv)

-- the file of a package
abbrev pub told_package : Told → List ℕ → Result JsrPackageInfo JsrLoadError
told_package told name = package_answer name (told_file told (Package name))

-- the same, asked about once more under Reload
abbrev pub told_package_again : Told → List ℕ → Result JsrPackageInfo JsrLoadError
told_package_again told name = package_answer name (told_file told (PackageAgain name))
