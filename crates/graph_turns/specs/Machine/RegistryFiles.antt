-- The files of the registry that a pass wants, and what is kept of the answers about them.
use Rattle.std.specs.Prelude.{ℕ, ◌+◌, ◌||◌, Bool, false, List, [], ◌∷◌, ◌++◌, bytes_eq, Option, Result, if◌then◌else◌}
use Rattle.std.specs.FinMap as finite
use Rattle.std.specs.FinMap.{FinMap}
use Rattle.std.specs.List.{list_any}
use Rattle.semver_npm.specs.declared.package.PackageNv.{PackageNv}
use Rattle.spec_base.specs.Shown.{text_cmp}
use Rattle.pkg_records.specs.Kept.{same_nv}
use Rattle.pkg_versions.specs.declared.package_info.JsrPackageInfo.{JsrPackageInfo}
use Rattle.metadata_store.specs.Store.{with_answer}
use Rattle.registry_urls.specs.Meaning.{RegistryMeaning}
use Rattle.registry_files.specs.Answers.{FileAnswer, package_answer}
use Rattle.registry_files.specs.Kept.{Versions}
use Rattle.graph_errors.specs.declared.jsr_error.JsrLoadError.{JsrLoadError}
use Rattle.graph_turns.specs.declared.passes.Chosen.{Chosen}
use Rattle.graph_turns.specs.declared.registry.RegistryFile.{RegistryFile}
use Rattle.graph_turns.specs.declared.registry.RegistryFile.TheVariants.{Package, PackageAgain, Version, Probe}
use Rattle.graph_turns.specs.declared.state.State.{State}
use Rattle.graph_turns.specs.declared.waiting.WaitingPackage.{WaitingPackage}
use Rattle.graph_turns.specs.Promise.Cached.{has_file}
use Rattle.graph_turns.specs.Promise.Versions.{kept_of}
use Rattle.graph_turns.specs.Machine.Files.{file_kept}

-- ---- what is kept

-- what was answered about a file is kept
abbrev pub answer_kept : RegistryMeaning → State → RegistryFile → FileAnswer → State
answer_kept registry s (Package name) answer = record s { packages = with_answer s.packages name (package_answer name answer) }
answer_kept registry s (PackageAgain name) answer = record s { reloaded = with_answer s.reloaded name (package_answer name answer) }
answer_kept registry s (Version nv) answer = file_kept s nv (kept_of registry nv answer)
answer_kept registry s (Probe nv) answer = record s { probed = with_answer s.probed nv (has_file answer) }

abbrev pub first_kept : RegistryMeaning → State → FileAnswer → List RegistryFile → State
first_kept registry s answer [] = s
first_kept registry s answer (file ∷ files) = answer_kept registry (record s { wanted = files }) file answer

-- what was answered about the first one is kept
abbrev pub wanted_kept : RegistryMeaning → State → FileAnswer → State
wanted_kept registry s answer = first_kept registry s answer s.wanted

-- ---- what a pass wants

abbrev pub is_package_of : List ℕ → RegistryFile → Bool
is_package_of name (Package n) = bytes_eq name n
is_package_of name (PackageAgain n) = false
is_package_of name (Version nv) = false
is_package_of name (Probe nv) = false

abbrev pub is_version_of : PackageNv → RegistryFile → Bool
is_version_of nv (Package n) = false
is_version_of nv (PackageAgain n) = false
is_version_of nv (Version v) = same_nv nv v
is_version_of nv (Probe v) = false

-- a file is wanted, unless it is already, or its answer is known
abbrev pub wanted_with : Bool → (RegistryFile → Bool) → List RegistryFile → RegistryFile → List RegistryFile
wanted_with known is_same wanted file = if known || list_any is_same wanted then wanted else wanted ++ file ∷ []

-- what was answered about the files of packages
abbrev pub Packages : Type 0
Packages = FinMap text_cmp (Result JsrPackageInfo JsrLoadError)

-- the file of each package of some specifiers, in order
unfoldable pub packages_wanted : Packages → List RegistryFile → List WaitingPackage → List RegistryFile
packages_wanted known wanted [] = wanted
packages_wanted known wanted (i ∷ is) =
    packages_wanted known (wanted_with (finite.contains_key known i.req.name) (is_package_of i.req.name) wanted (Package i.req.name)) is

-- the file of each version that was chosen, in order
unfoldable pub versions_wanted : Versions → List RegistryFile → List Chosen → List RegistryFile
versions_wanted known wanted [] = wanted
versions_wanted known wanted (c ∷ cs) =
    versions_wanted known (wanted_with (finite.contains_key known c.nv) (is_version_of c.nv) wanted (Version c.nv)) cs
