-- What comes of the answers about registry files.
use Rattle.std.specs.Prelude.{ℕ, List, Option, Some, None, Result, Ok, Err}
use Rattle.spec_base.specs.declared.load_error.LoadError.{LoadError}
use Rattle.spec_base.specs.declared.load_error.LoadError.TheVariants.{ChecksumIntegrity, Other}
use Rattle.spec_base.specs.declared.refusal.Fault.{Fault}
use Rattle.semver_npm.specs.declared.package.PackageNv.{PackageNv}
use Rattle.pkg_versions.specs.RegistryFiles.{package_file}
use Rattle.pkg_versions.specs.declared.package_info.JsrPackageInfo.{JsrPackageInfo}
use Rattle.source_io.specs.declared.types.LoadResponse.{LoadResponse}
use Rattle.source_io.specs.declared.types.LoadResponse.TheVariants.{External, Redirect, Module}
use Rattle.graph_errors.specs.declared.jsr_error.JsrLoadError.{JsrLoadError}
use Rattle.graph_errors.specs.declared.jsr_error.JsrLoadError.TheVariants.{PackageManifestLoad, PackageNotFound, PackageVersionManifestLoad, PackageVersionManifestChecksumIntegrity, PackageVersionNotFound, RedirectInPackage}
use Rattle.registry_files.specs.VersionFiles.{version_file_in}
use Rattle.registry_files.specs.declared.version_file.VersionFile.{VersionFile}

-- what is answered about a file
abbrev pub FileAnswer : Type 0
FileAnswer = Result (Option LoadResponse) LoadError

-- ---- package files

-- bytes that are no package file are a failure of its load
abbrev pub read_package : List ℕ → Result JsrPackageInfo Fault → Result JsrPackageInfo JsrLoadError
read_package name (Ok info) = Ok info
read_package name (Err fault) = Err (PackageManifestLoad name (Other fault))

-- what a response about the file of a package says
abbrev pub package_in : List ℕ → LoadResponse → Result JsrPackageInfo JsrLoadError
package_in name (Module content mtime s headers) = read_package name (package_file content)
package_in name (External s) = Err (PackageNotFound name)
package_in name (Redirect s) = Err (RedirectInPackage s)

-- what the answer about the file of a package says, or the error that comes of it
unfoldable pub package_answer : List ℕ → FileAnswer → Result JsrPackageInfo JsrLoadError
package_answer name (Ok (Some response)) = package_in name response
package_answer name (Ok None) = Err (PackageNotFound name)
package_answer name (Err e) = Err (PackageManifestLoad name e)

-- ---- version files

-- bytes that are no version file are a failure of its load
abbrev pub read_version : PackageNv → Result VersionFile Fault → Result VersionFile JsrLoadError
read_version nv (Ok file) = Ok file
read_version nv (Err fault) = Err (PackageVersionManifestLoad nv fault)

-- what a response about the file of a version says
abbrev pub version_in : PackageNv → LoadResponse → Result VersionFile JsrLoadError
version_in nv (Module content mtime s headers) = read_version nv (version_file_in content)
version_in nv (External s) = Err (PackageVersionNotFound nv)
version_in nv (Redirect s) = Err (RedirectInPackage s)

-- a failure of the load of a version file
abbrev pub version_failure : PackageNv → LoadError → JsrLoadError
version_failure nv (ChecksumIntegrity e) = PackageVersionManifestChecksumIntegrity nv e
version_failure nv (Other fault) = PackageVersionManifestLoad nv fault

-- what the answer about the file of a version says, or the error that comes of it
unfoldable pub version_answer : PackageNv → FileAnswer → Result VersionFile JsrLoadError
version_answer nv (Ok (Some response)) = version_in nv response
version_answer nv (Ok None) = Err (PackageVersionNotFound nv)
version_answer nv (Err e) = Err (version_failure nv e)
