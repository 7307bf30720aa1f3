-- Specifiers that name packages, and what a registry answers about these.
use Rattle.std.specs.Prelude.{◌≡◌, ◌⊎◌, ℕ, List, map, codes, bytes_eq, nat_eq, Bool, ◌||◌, true, false, Option, Some, None, Result, Ok, Err, is_some, if◌then◌else◌, Contains}
use Rattle.std.specs.List.{starts_with}
use Rattle.std.specs.Map.{lookup}
use Rattle.url.specs.Parts.{Parts}
use Rattle.spec_base.specs.Specifier.{specifier_text}
use Rattle.semver_npm.specs.Reader.{tag_of}
use Rattle.semver_npm.specs.References.{export_name, jsr_reference, npm_reference}
use Rattle.semver_npm.specs.Versions.{ver_cmp}
use Rattle.semver_npm.specs.declared.npm_error.PackageReqReferenceParseError.{PackageReqReferenceParseError}
use Rattle.semver_npm.specs.declared.package.JsrDepPackageReq.{JsrDepPackageReq}
use Rattle.semver_npm.specs.declared.package.PackageKind.TheVariants.{Jsr, Npm}
use Rattle.semver_npm.specs.declared.package.PackageNv.{PackageNv}
use Rattle.semver_npm.specs.declared.package.PackageReq.{PackageReq}
use Rattle.semver_npm.specs.declared.reference.JsrPackageReqReference.{JsrPackageReqReference}
use Rattle.semver_npm.specs.declared.reference.NpmPackageReqReference.{NpmPackageReqReference}
use Rattle.semver_npm.specs.declared.reference.PackageReqReference.{PackageReqReference}
use Rattle.pkg_versions.specs.Choice.{is_match, takes_pre_releases}
use Rattle.pkg_records.specs.Kept.{versions_of}
use Rattle.version_dates.specs.Sets.{at_key}
use Rattle.pkg_versions.specs.declared.package_info.JsrPackageInfo.{JsrPackageInfo}
use Rattle.source_io.specs.declared.types.CacheSetting.TheVariants.{Reload}
use Rattle.registry_files.specs.Exports.{joined_export}
use Rattle.registry_files.specs.VersionFiles.{export_names}
use Rattle.registry_files.specs.declared.kept_version.KeptVersion.{KeptVersion}
use Rattle.graph_errors.specs.declared.jsr_error.JsrLoadError.{JsrLoadError}
use Rattle.graph_errors.specs.declared.jsr_error.JsrLoadError.TheVariants.{UnjoinableExport, UnknownExport}
use Rattle.graph_errors.specs.declared.jsr_error.JsrPackageFormatError.{JsrPackageFormatError}
use Rattle.graph_errors.specs.declared.jsr_error.JsrPackageFormatError.TheVariants.{JsrPackageParseError, VersionTagNotSupported}
use Rattle.graph_turns.specs.declared.exports.Export.{Export}
use Rattle.graph_turns.specs.Promise.Input.{EnteredGraph}
use Rattle.graph_turns.specs.Promise.Told.{Told}
use Rattle.graph_turns.specs.Promise.Versions.{told_package, told_package_again, told_version}

-- ---- specifiers

abbrev pub names_jsr : List ℕ → Bool
names_jsr text = starts_with nat_eq text (codes "jsr:")

abbrev pub is_jsr : Parts → Bool
is_jsr s = names_jsr (specifier_text s)

abbrev pub names_npm : List ℕ → Bool
names_npm text = starts_with nat_eq text (codes "npm:")

abbrev pub is_npm : Parts → Bool
is_npm s = names_npm (specifier_text s)

-- a requirement that is a tag names no version that can be looked for
abbrev pub untagged : PackageReqReference → Option (List ℕ) → Result PackageReqReference JsrPackageFormatError
untagged r None = Ok r
untagged r (Some tag) = Err (VersionTagNotSupported tag)

abbrev pub looked_for : Result JsrPackageReqReference PackageReqReferenceParseError → Result PackageReqReference JsrPackageFormatError
looked_for (Ok r) = untagged r.inner (tag_of r.inner.req.version_req)
looked_for (Err e) = Err (JsrPackageParseError e)

-- what a `jsr:` specifier names, or why it names no package that can be looked for
abbrev pub jsr_named : Parts → Result PackageReqReference JsrPackageFormatError
jsr_named s = looked_for (jsr_reference (specifier_text s))

-- what an `npm:` specifier names, or why it names no package
abbrev pub npm_named : Parts → Result NpmPackageReqReference PackageReqReferenceParseError
npm_named s = npm_reference (specifier_text s)

abbrev pub is_refused_npm : Result NpmPackageReqReference PackageReqReferenceParseError → Bool
is_refused_npm (Ok r) = false
is_refused_npm (Err e) = true

-- a specifier is never asked for as a module: a `jsr:` one, and an `npm:` one that names no package
abbrev pub is_package : Parts → Bool
is_package s = is_jsr s || (if is_npm s then is_refused_npm (npm_named s) else false)

-- ---- what a referrer depends on

abbrev pub jsr_dependency : Result PackageReqReference JsrPackageFormatError → Option JsrDepPackageReq
jsr_dependency (Ok r) = Some (record { kind = Jsr; req = r.req })
jsr_dependency (Err e) = None

abbrev pub npm_dependency : Result NpmPackageReqReference PackageReqReferenceParseError → Option JsrDepPackageReq
npm_dependency (Ok r) = Some (record { kind = Npm; req = r.inner.req })
npm_dependency (Err e) = None

-- what a specifier depends on, where it names a package
abbrev pub dependency_of : Parts → Option JsrDepPackageReq
dependency_of s = if is_npm s then npm_dependency (npm_named s) else if is_jsr s then jsr_dependency (jsr_named s) else None

-- ---- files of packages

-- what counts as the file of a package: that by the setting that serves the registry's files, and where a build asks for it once more,
-- that under Reload
pub data IsPackageFile (told : Told) (name : List ℕ) (file : Result JsrPackageInfo JsrLoadError) : Type 0 where
  served : told_package told name ≡ file → IsPackageFile told name file
  asked_again : told.asks_again ≡ true → told_package_again told name ≡ file → IsPackageFile told name file

-- the file by which it is found that no version meets a requirement: that under Reload, in a build that asks for it once more or in
-- whose runs it is served so; a first run that may begin once more has none
pub data IsLastFile (told : Told) (name : List ℕ) (file : Result JsrPackageInfo JsrLoadError) : Type 0 where
  served_last : told.metadata ≡ Reload → told_package told name ≡ file → IsLastFile told name file
  asked_last : told.asks_again ≡ true → told_package_again told name ≡ file → IsLastFile told name file

-- ---- versions

-- a version is one that the file of its package lists, or that the graph had as the build began
abbrev pub IsListed : Told → EnteredGraph → PackageNv → Type 0
IsListed told given nv =
    ((info : JsrPackageInfo) × IsPackageFile told nv.name (Ok info) × (is_some (at_key ver_cmp info.versions nv.version) ≡ true))
    ⊎ Contains (map (λ x. x.version) (versions_of given.graph.packages nv.name)) nv.version

-- a version fits a requirement: it is one of the package, and it matches, or is a pre-release where a wildcard takes these
pub record Fits (told : Told) (given : EnteredGraph) (req : PackageReq) (nv : PackageNv) : Type 0 where
  pub named : nv.name ≡ req.name
  pub listed : IsListed told given nv
  pub info : JsrPackageInfo
  pub file : IsPackageFile told req.name (Ok info)
  pub matches : is_match req.version_req (takes_pre_releases req.version_req info) nv.version ≡ true

-- ---- exports

abbrev pub export_by : KeptVersion → List ℕ → Option (List ℕ) → Result Export JsrLoadError
export_by v name None = Err (UnknownExport v.nv name (export_names v.file))
export_by v name (Some value) = Ok (record { name = name; value = value; to = joined_export v.url value })

-- an export of a version, or the error of one that it hasn't
abbrev pub export_of : KeptVersion → List ℕ → Result Export JsrLoadError
export_of v name = export_by v name (lookup (bytes_eq name) v.file.exports)

-- the error of an export that can't be joined with the URL of its version
abbrev pub unjoinable : PackageNv → Export → JsrLoadError
unjoinable nv e = UnjoinableExport nv e.name e.value

-- ---- where `jsr:` specifiers lead

-- a specifier that names a package which is looked for
pub record IsLookedFor (told : Told) (s : Parts) (r : PackageReqReference) : Type 0 where
  pub jsr : is_jsr s ≡ true
  pub named : jsr_named s ≡ Ok r
  pub stays_in : told.known.flags.passthrough_jsr ≡ false

-- it leads to a specifier: an export of a version that fits, whose file is read
pub record IsExport (told : Told) (given : EnteredGraph) (s : Parts) (nv : PackageNv) (n : Parts) : Type 0 where
  pub reference : PackageReqReference
  pub looked_for : IsLookedFor told s reference
  pub fits : Fits told given reference.req nv
  pub version : KeptVersion
  pub read : told_version told nv ≡ Ok version
  pub export : Export
  pub export_is : export_of version (export_name reference.sub_path) ≡ Ok export
  pub leads : export.to ≡ Some n
