-- The texts of errors.
use Rattle.std.specs.Prelude.{ℕ, List, ◌++◌, codes}
use Rattle.semver_npm.specs.declared.npm_error.NpmLoadError.{NpmLoadError}
use Rattle.semver_npm.specs.declared.npm_error.NpmLoadError.TheVariants.{NotSupportedEnvironment, PackageReqResolution, PackageReqReferenceParse, RegistryInfo}
use Rattle.semver_npm.specs.declared.npm_error.PackageReqReferenceParseError.{PackageReqReferenceParseError}
use Rattle.semver_npm.specs.declared.npm_error.PackageReqReferenceParseError.TheVariants.{NotPrefixed, NoName, BadVersion}

-- the text of a specifier that is no reference
abbrev pub invalid_specifier : List ℕ → List ℕ
invalid_specifier text = codes "Invalid package specifier '" ++ text ++ codes "'."

abbrev pub reference_error_text : PackageReqReferenceParseError → List ℕ
reference_error_text (NotPrefixed text) = invalid_specifier text
reference_error_text (NoName text) = invalid_specifier text
reference_error_text (BadVersion text) = invalid_specifier text

-- why npm gives no package: its own text, or that of the inner error
abbrev pub npm_error_text : NpmLoadError → List ℕ
npm_error_text NotSupportedEnvironment = codes "npm specifiers are not supported in this environment"
npm_error_text (PackageReqResolution fault) = fault.message
npm_error_text (PackageReqReferenceParse error) = reference_error_text error
npm_error_text (RegistryInfo fault) = fault.message
