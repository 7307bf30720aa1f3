-- The texts of errors.
use Rattle.std.specs.Prelude.{ℕ, List, ◌++◌, codes}
use Rattle.spec_base.specs.declared.checksum_error.ChecksumIntegrityError.{ChecksumIntegrityError}
use Rattle.spec_base.specs.declared.load_error.LoadError.{LoadError}
use Rattle.spec_base.specs.declared.load_error.LoadError.TheVariants.{ChecksumIntegrity, Other}
use Rattle.spec_base.specs.declared.resolve_error.ResolveError.{ResolveError}
use Rattle.spec_base.specs.declared.resolve_error.ResolveError.TheVariants.{Specifier, Other as Refused}
use Rattle.spec_base.specs.declared.resolve.SpecifierError.{SpecifierError}
use Rattle.spec_base.specs.declared.resolve.SpecifierError.TheVariants.{InvalidUrl, ImportPrefixMissing}

-- the text of an import that leads nowhere
abbrev pub specifier_error_text : SpecifierError → List ℕ
specifier_error_text (InvalidUrl text) = codes "Invalid URL \"" ++ text ++ codes "\"."
specifier_error_text (ImportPrefixMissing text referrer) =
    codes "Relative import path \"" ++ text ++ codes "\" not prefixed with / or ./ or ../"

-- the text of a source whose checksum isn't the known one
abbrev pub checksum_error_text : ChecksumIntegrityError → List ℕ
checksum_error_text error =
    codes "Integrity check failed.\n\nActual: " ++ (error.actual ++ (codes "\nExpected: " ++ error.expected))

-- the text of a load that failed
abbrev pub loader_error_text : LoadError → List ℕ
loader_error_text (ChecksumIntegrity error) = checksum_error_text error
loader_error_text (Other fault) = fault.message

-- the text of why a resolver has no target
abbrev pub resolve_error_text : ResolveError → List ℕ
resolve_error_text (Specifier error) = specifier_error_text error
resolve_error_text (Refused fault) = fault.message
