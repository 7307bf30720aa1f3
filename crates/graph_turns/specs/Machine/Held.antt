-- Versions of packages that loads count in.
use Rattle.std.specs.Prelude.{◌≡◌, ⊤, All, Option, Some, None, Ok}
use Rattle.std.specs.FinMap as finite
use Rattle.semver_npm.specs.declared.package.PackageNv.{PackageNv}
use Rattle.registry_files.specs.Kept.{FilesAt}
use Rattle.registry_files.specs.declared.kept_version.KeptVersion.{KeptVersion}
use Rattle.graph_turns.specs.declared.state.State.{State}

-- the file of a version, where one is named, was read
abbrev pub IsReadAt : FilesAt → Option PackageNv → Type 0
IsReadAt files None = ⊤
IsReadAt files (Some nv) = (v : KeptVersion) × (files nv ≡ Some (Ok v))

-- each file that was read is that of its version
abbrev pub AreNamed : FilesAt → Type 0
AreNamed files = (nv : PackageNv) (v : KeptVersion) → files nv ≡ Some (Ok v) → v.nv ≡ nv

-- the files of all versions that loads count in were read
pub record IsHeld (s : State) : Type 0 where
  pub loads : All (λ load. IsReadAt (finite.get s.files) load.context.«package») s.loads
  pub deferred : All (λ e. IsReadAt (finite.get s.files) e.1.«package») s.deferred
  pub dynamic : All (λ e. IsReadAt (finite.get s.files) e.1.context.«package») s.dynamic
