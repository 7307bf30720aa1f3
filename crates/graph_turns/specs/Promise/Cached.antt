-- Versions of packages whose files a cache holds: a build that prefers these looks for the files of those that fit before it chooses one.
use Rattle.std.specs.Prelude.{◌≡◌, ◌&&◌, not, ℕ, Bool, true, false, List, [], Contains, Some, None, Ok, Err, if◌then◌else◌}
use Rattle.semver_npm.specs.Versions.{Ver}
use Rattle.semver_npm.specs.declared.package.PackageNv.{PackageNv}
use Rattle.semver_npm.specs.declared.package.PackageReq.{PackageReq}
use Rattle.pkg_versions.specs.Choice.{is_match, listed, takes_pre_releases}
use Rattle.pkg_versions.specs.declared.package_info.JsrPackageInfo.{JsrPackageInfo}
use Rattle.source_io.specs.Answers.{answer_of}
use Rattle.source_io.specs.declared.types.LoadResponse.TheVariants.{External, Redirect, Module}
use Rattle.registry_files.specs.Answers.{FileAnswer}
use Rattle.graph_turns.specs.Promise.Packages.{IsPackageFile}
use Rattle.graph_turns.specs.Promise.Told.{Told}
use Rattle.graph_turns.specs.Promise.Versions.{loaded, probe_question}

-- a version of a package
abbrev pub version_named : List ℕ → Ver → PackageNv
version_named name v = record { name = name; version = v }

-- ---- what a cache holds

-- an answer has a file
abbrev pub has_file : FileAnswer → Bool
has_file (Ok (Some (Module content mtime s headers))) = true
has_file (Ok (Some (External s))) = false
has_file (Ok (Some (Redirect s))) = false
has_file (Ok None) = false
has_file (Err e) = false

-- the cache holds the file of a version: the answer under Only has it
abbrev pub is_cached : Told → PackageNv → Bool
is_cached told nv = has_file (loaded (answer_of told.world (probe_question told.registry nv)))

-- the versions that the file of a package lists and doesn't call withdrawn, whose own files a cache holds
abbrev pub cached_versions : (PackageNv → Bool) → List ℕ → JsrPackageInfo → List Ver
cached_versions holds name info = listed (λ e. not e.1.yanked && holds (version_named name e.0)) info

-- those of a package, where the build prefers them; else none
abbrev pub told_cached : Told → List ℕ → JsrPackageInfo → List Ver
told_cached told name info = if told.known.flags.prefers_cached_jsr then cached_versions (is_cached told) name info else []

-- ---- what is looked for

-- the versions that the file of a package lists and doesn't call withdrawn, and that a requirement fits
abbrev pub fitting : PackageReq → JsrPackageInfo → List Ver
fitting req info = listed (λ e. not e.1.yanked && is_match req.version_req (takes_pre_releases req.version_req info) e.0) info

-- a version is one of these, by a file of its package
pub record FitsUnyanked (told : Told) (req : PackageReq) (nv : PackageNv) : Type 0 where
  pub named : nv.name ≡ req.name
  pub info : JsrPackageInfo
  pub file : IsPackageFile told req.name (Ok info)
  pub among : Contains (fitting req info) nv.version
