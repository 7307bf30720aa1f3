-- The answers that a store keeps.
use Rattle.std.specs.Prelude.{ℕ, ◌+◌, List, Option, Result}
use Rattle.std.specs.FinMap as finite
use Rattle.semver_npm.specs.declared.package.PackageNv.{PackageNv}
use Rattle.source_io.specs.declared.types.LoadResponse.{LoadResponse}
use Rattle.spec_base.specs.declared.load_error.LoadError.{LoadError}
use Rattle.metadata_store.specs.Store.{with_answer}
use Rattle.metadata_store.specs.declared.store.JsrMetadataStore.{JsrMetadataStore}

-- what a load answers: what it found, that it found nothing, or its fault
abbrev pub Loaded : Type 0
Loaded = Result (Option LoadResponse) LoadError

-- no answer is kept
abbrev pub empty_store : JsrMetadataStore
empty_store = record { packages = finite.empty; versions = finite.empty }

-- the answers about package files and about version files
abbrev pub answers_len : JsrMetadataStore → ℕ
answers_len store = finite.len store.packages + finite.len store.versions

-- the answer about the file of a package is kept, where none stands
abbrev pub with_package_answer : JsrMetadataStore → List ℕ → Loaded → JsrMetadataStore
with_package_answer store name answer = record store { packages = with_answer store.packages name answer }

-- the answer about the file of a version is kept, where none stands
abbrev pub with_version_answer : JsrMetadataStore → PackageNv → Loaded → JsrMetadataStore
with_version_answer store nv answer = record store { versions = with_answer store.versions nv answer }
