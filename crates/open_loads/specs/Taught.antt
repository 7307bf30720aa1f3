-- What a locker knows of manifests once a build told it those that it read.
use Rattle.std.specs.Prelude.{◌≡◌, ℕ, List, Option, Some, None, Ok}
use Rattle.semver_npm.specs.declared.package.PackageNv.{PackageNv}
use Rattle.source_sums.specs.Manifests.{KnownManifests}
use Rattle.registry_files.specs.Kept.{FilesAt}
use Rattle.registry_files.specs.declared.kept_version.KeptVersion.{KeptVersion}
use Rattle.graph_turns.specs.Machine.Sums.{IsTaughtManifests, KeepsManifests, sum_in}
use Rattle.graph_turns.specs.Promise.Told.{Told}
use Rattle.graph_turns.specs.Promise.Versions.{answer_in, manifest_at, told_version}
use Rattle.graph_turns.specs.Promise.Input.{EnteredGraph}
use Rattle.graph_turns.specs.Promise.Runs.{InSomeRun}
use Rattle.graph_turns.specs.Promise.Explains.{IsSourceSum}
use Rattle.source_sums.specs.Sums.{KnownSums}
use Rattle.graph_turns.specs.declared.unresolved_input.LeftOver.{LeftOver}
use Rattle.graph_core.specs.declared.graph.ModuleGraph.{ModuleGraph}
use Rattle.registry_files.specs.Answers.{FileAnswer}
use Rattle.metadata_store.specs.declared.store.JsrMetadataStore.{JsrMetadataStore}
use Rattle.graph_turns.specs.declared.registry.RegistryFile.{RegistryFile}

-- where there is one: of each version what it knew, else what was read
abbrev pub LearnsManifests : Option KnownManifests → FilesAt → Option KnownManifests → Type 0
LearnsManifests None files None = Unit {0}
LearnsManifests None files (Some new) = ⊥
LearnsManifests (Some old) files None = ⊥
LearnsManifests (Some old) files (Some new) = IsTaughtManifests old files new

-- all that it knew it still knows
abbrev pub StillKnows : Option KnownManifests → Option KnownManifests → Type 0
StillKnows None None = Unit {0}
StillKnows None (Some new) = ⊥
StillKnows (Some old) None = ⊥
StillKnows (Some old) (Some new) = KeepsManifests old new

-- this is the sum of the file of a version, which is read
abbrev pub IsVersionSum : PackageNv → List ℕ → Told → EnteredGraph → Type 0
IsVersionSum nv sum told entry = (v : KeptVersion) × (told_version told nv ≡ Ok v) × (v.file.checksum ≡ sum)

-- in the runs of a build of what is given over a graph: each sum of a manifest that is known now, and wasn't before, is that of the
-- version's file
abbrev pub LearnsVersions : Told → ModuleGraph → LeftOver → Option KnownManifests → Option KnownManifests → Type 0
LearnsVersions told g given old new = (nv : PackageNv) (sum : List ℕ) → manifest_at old nv ≡ None → manifest_at new nv ≡ Some sum → InSomeRun told g given (IsVersionSum nv sum)

-- in one run
abbrev pub LearnsVersionsIn : Told → EnteredGraph → Option KnownManifests → Option KnownManifests → Type 0
LearnsVersionsIn told entry old new = (nv : PackageNv) (sum : List ℕ) → manifest_at old nv ≡ None → manifest_at new nv ≡ Some sum → IsVersionSum nv sum told entry

-- and each sum of sources is that of a module's source that was made there
abbrev pub LearnsSourcesIn : Told → ModuleGraph → LeftOver → Option KnownSums → Option KnownSums → Type 0
LearnsSourcesIn told g given old new = (k sum : List ℕ) → sum_in old k ≡ None → sum_in new k ≡ Some sum → InSomeRun told g given (λ t entry. IsSourceSum t entry k sum)

-- each of some sums of sources is so
abbrev pub AreSumsIn : Told → ModuleGraph → LeftOver → Option KnownSums → Type 0
AreSumsIn told g given sums = (k sum : List ℕ) → sum_in sums k ≡ Some sum → InSomeRun told g given (λ t entry. IsSourceSum t entry k sum)

-- all that a given store has it keeps
abbrev pub KeepsStore : Option JsrMetadataStore → Option JsrMetadataStore → Type 0
KeepsStore None None = Unit {0}
KeepsStore None (Some new) = ⊥
KeepsStore (Some old) None = ⊥
KeepsStore (Some old) (Some new) = (file : RegistryFile) (answer : FileAnswer) → answer_in (Some old) file ≡ Some answer → answer_in (Some new) file ≡ Some answer
