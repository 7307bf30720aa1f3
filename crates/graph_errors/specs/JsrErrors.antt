-- Why a registry of packages gives no module, as texts.
use Rattle.std.specs.Prelude.{ℕ, Bool, ◌&&◌, List, [], ◌∷◌, ◌++◌, drop, nat_eq, codes, is_none, if◌then◌else◌}
use Rattle.std.specs.List.{starts_with}
use Rattle.url.specs.Parts.{serialize}
use Rattle.spec_base.specs.ErrorTexts.{checksum_error_text, loader_error_text}
use Rattle.spec_base.specs.declared.checksum_error.ChecksumIntegrityError.{ChecksumIntegrityError}
use Rattle.spec_base.specs.declared.load_error.LoadError.{LoadError}
use Rattle.semver_npm.specs.ErrorTexts.{reference_error_text}
use Rattle.semver_npm.specs.Packages.{nv_text}
use Rattle.semver_npm.specs.Reader.{is_requirement, tag_of}
use Rattle.semver_npm.specs.declared.package.PackageNv.{PackageNv}
use Rattle.version_dates.specs.ErrorTexts.{not_found_text}
use Rattle.graph_errors.specs.declared.jsr_error.JsrLoadError.{JsrLoadError}
use Rattle.graph_errors.specs.declared.jsr_error.JsrLoadError.TheVariants.{UnsupportedManifestChecksum, ContentChecksumIntegrity, ContentLoadExternalSpecifier, ContentLoad, PackageManifestLoad, PackageNotFound, PackageVersionNotFound, PackageVersionManifestLoad, PackageVersionManifestChecksumIntegrity, PackageFormat, PackageReqNotFound, RedirectInPackage, UnknownExport, UnjoinableExport}
use Rattle.graph_errors.specs.declared.jsr_error.JsrPackageFormatError.{JsrPackageFormatError}
use Rattle.graph_errors.specs.declared.jsr_error.JsrPackageFormatError.TheVariants.{JsrPackageParseError, VersionTagNotSupported}

-- ---- specifiers that name no package

-- a requirement that is no tag
abbrev pub is_range : List ℕ → Bool
is_range text = is_requirement text && is_none (tag_of text)

-- whether a tag is a `v` before a requirement that is no tag
abbrev pub is_v_range : List ℕ → Bool
is_v_range tag = starts_with nat_eq tag (codes "v") && is_range (drop 1 tag)

-- what is to be done about a tag, where that is known
abbrev pub tag_hint : List ℕ → List ℕ
tag_hint tag = if is_v_range tag then codes " Remove leading 'v' before version." else []

abbrev pub format_error_text : JsrPackageFormatError → List ℕ
format_error_text (JsrPackageParseError e) = reference_error_text e
format_error_text (VersionTagNotSupported tag) =
    (codes "Version tag not supported in jsr specifiers ('" ++ (tag ++ codes "').")) ++ tag_hint tag

-- ---- exports

-- the exports after the first, each on a line of its own
unfoldable pub further_lines : List (List ℕ) → List ℕ
further_lines [] = []
further_lines (name ∷ names) = codes "\n * " ++ (name ++ further_lines names)

-- the exports of a version, each on a line of its own
abbrev pub export_lines : List (List ℕ) → List ℕ
export_lines [] = []
export_lines (name ∷ names) = (codes " * " ++ name) ++ further_lines names

-- that a version has no export of this name
abbrev pub unknown_export : PackageNv → List ℕ → List ℕ
unknown_export nv name =
    codes "Unknown export '" ++ (name ++ (codes "' for '" ++ (nv_text nv ++ codes "'.\n  Package exports:\n")))

-- that an export of a version is no path
abbrev pub unjoinable_text : PackageNv → List ℕ → List ℕ → List ℕ
unjoinable_text nv name value =
    codes "Export '" ++ (name ++ (codes "' of '" ++ (nv_text nv ++ (codes "' is not a path: " ++ value))))

-- ---- files

-- that a package's file isn't there
abbrev pub package_failure_text : List ℕ → LoadError → List ℕ
package_failure_text name e =
    codes "JSR package manifest for '" ++ (name ++ (codes "' failed to load. " ++ loader_error_text e))

-- that a version's file isn't there
abbrev pub version_failure : PackageNv → List ℕ
version_failure nv = codes "JSR package version manifest for '" ++ (nv_text nv ++ codes "' failed to load: ")

-- that a version's file isn't the one whose sum is known
abbrev pub version_sum_text : PackageNv → ChecksumIntegrityError → List ℕ
version_sum_text nv e = version_failure nv ++ checksum_error_text e

-- the text of why a registry of packages gives no module
abbrev pub jsr_error_text : JsrLoadError → List ℕ
jsr_error_text UnsupportedManifestChecksum =
    codes "Unsupported checksum in JSR package manifest. Maybe try upgrading deno?"
jsr_error_text (ContentChecksumIntegrity e) = checksum_error_text e
jsr_error_text ContentLoadExternalSpecifier =
    codes "Loader should never return an external specifier for a jsr: specifier content load."
jsr_error_text (ContentLoad e) = loader_error_text e
jsr_error_text (PackageManifestLoad name e) = package_failure_text name e
jsr_error_text (PackageNotFound name) = codes "JSR package not found: " ++ name
jsr_error_text (PackageVersionNotFound nv) = codes "JSR package version not found: " ++ nv_text nv
jsr_error_text (PackageVersionManifestLoad nv fault) = version_failure nv ++ fault.message
jsr_error_text (PackageVersionManifestChecksumIntegrity nv e) = version_sum_text nv e
jsr_error_text (PackageFormat e) = format_error_text e
jsr_error_text (PackageReqNotFound e) = not_found_text e
jsr_error_text (RedirectInPackage s) =
    codes "Redirects in the JSR registry are not supported (redirected to '" ++ (serialize s ++ codes "')")
jsr_error_text (UnknownExport nv name exports) = unknown_export nv name ++ export_lines exports
jsr_error_text (UnjoinableExport nv name value) = unjoinable_text nv name value
