-- Errors in the place of modules, and their texts.
use Rattle.std.specs.Prelude.{ℕ, List, [], ◌++◌, bytes_eq, codes, Option, Some, None, if◌then◌else◌}
use Rattle.url.specs.Parts.{Parts, serialize}
use Rattle.media_types.specs.Decode.{decode_fault_text}
use Rattle.spec_base.specs.ErrorTexts.{checksum_error_text, specifier_error_text, resolve_error_text, loader_error_text}
use Rattle.spec_base.specs.declared.checksum_error.ChecksumIntegrityError.{ChecksumIntegrityError}
use Rattle.media_types.specs.declared.decoding.DecodeFault.{DecodeFault}
use Rattle.spec_base.specs.declared.load_error.LoadError.{LoadError}
use Rattle.media_types.specs.Media.{media_name}
use Rattle.media_types.specs.declared.media.MediaType.{MediaType}
use Rattle.media_types.specs.declared.media.MediaType.TheVariants.{Json, Cjs, Cts}
use Rattle.spec_base.specs.declared.position.Range.{Range}
use Rattle.spec_base.specs.declared.refusal.Fault.{Fault}
use Rattle.graph_errors.specs.declared.errors.ModuleError.{ModuleError}
use Rattle.graph_errors.specs.declared.errors.ModuleErrorKind.{ModuleErrorKind}
use Rattle.graph_errors.specs.declared.errors.ModuleErrorKind.TheVariants.{Load, Missing, MissingDynamic, Parse, WasmParse, UnsupportedMediaType, InvalidTypeAssertion, UnsupportedImportAttributeType, UnsupportedModuleTypeForSourcePhaseImport}
use Rattle.graph_errors.specs.declared.errors.ModuleGraphError.{ModuleGraphError}
use Rattle.graph_errors.specs.declared.errors.ModuleGraphError.TheVariants.{ModuleError as OfModule, ResolutionError as OfResolution, TypesResolutionError as OfTypes}
use Rattle.graph_errors.specs.declared.errors.ModuleLoadError.{ModuleLoadError}
use Rattle.graph_errors.specs.declared.errors.ModuleLoadError.TheVariants.{HttpsChecksumIntegrity, Decode, Loader, Jsr, Npm, TooManyRedirects}
use Rattle.graph_errors.specs.JsrErrors.{jsr_error_text}
use Rattle.semver_npm.specs.ErrorTexts.{npm_error_text}
use Rattle.graph_errors.specs.declared.jsr_error.JsrLoadError.{JsrLoadError}
use Rattle.graph_errors.specs.declared.jsr_error.JsrLoadError.TheVariants.{PackageFormat}
use Rattle.graph_errors.specs.declared.jsr_error.JsrPackageFormatError.{JsrPackageFormatError}
use Rattle.graph_errors.specs.declared.resolution.ResolutionError.{ResolutionError}
use Rattle.graph_errors.specs.declared.resolution.ResolutionError.TheVariants.{InvalidDowngrade, InvalidJsrHttpsTypesImport, InvalidLocalImport, InvalidSpecifier, ResolverError}
use Rattle.wasm_dts.specs.Refusals.{refusal_text}
use Rattle.wasm_dts.specs.declared.refusal.WasmRefusal.{WasmRefusal}

-- the error of a kind
abbrev pub error_of : ModuleErrorKind → ModuleError
error_of kind = record { 0 = kind }

-- bytes that have no text; no import is to blame for them
abbrev pub decode_error : Parts → Option ℕ → DecodeFault → ModuleError
decode_error s mtime fault = error_of (Load s None (Decode (record { mtime = mtime; err = fault })))

-- a source that isn't the one whose sum is known
abbrev pub integrity_error : Parts → Option Range → ChecksumIntegrityError → ModuleError
integrity_error s referrer e = error_of (Load s referrer (HttpsChecksumIntegrity e))

-- nothing at a specifier, named by an import
abbrev pub missing_error : Parts → Option Range → ModuleError
missing_error s referrer = error_of (Missing s referrer)

-- nothing where a dynamic import leads
abbrev pub missing_dynamic_error : Parts → Range → ModuleError
missing_dynamic_error s referrer = error_of (MissingDynamic s referrer)

-- a failure that the loader answers, at what an import names
abbrev pub loader_error : Parts → Option Range → LoadError → ModuleError
loader_error s referrer e = error_of (Load s referrer (Loader e))

-- what a registry of packages has no module for
abbrev pub jsr_error : Parts → Option Range → JsrLoadError → ModuleError
jsr_error s referrer e = error_of (Load s referrer (Jsr e))

-- a specifier that names no package that can be looked for
abbrev pub format_error : Parts → Option Range → JsrPackageFormatError → ModuleError
format_error s referrer e = jsr_error s referrer (PackageFormat e)

-- redirects that end without a module
abbrev pub redirects_error : Parts → Option Range → ModuleError
redirects_error s referrer = error_of (Load s referrer TooManyRedirects)

-- a text that the analyzer refuses
abbrev pub parse_error : Parts → Option ℕ → Fault → ModuleError
parse_error s mtime fault = error_of (Parse s mtime fault)

-- bytes that are no WebAssembly module of a form that is read
abbrev pub wasm_error : Parts → Option ℕ → WasmRefusal → ModuleError
wasm_error s mtime refusal = error_of (WasmParse s mtime refusal)

-- a module of a media type that isn't taken
abbrev pub media_error : Parts → MediaType → Option Range → ModuleError
media_error s media referrer = error_of (UnsupportedMediaType s media referrer)

-- a module of another media type than the attribute of its import says
abbrev pub assertion_error : Parts → Range → MediaType → MediaType → ModuleError
assertion_error s referrer actual expected = error_of (InvalidTypeAssertion s referrer actual expected)

-- an attribute `type` under which no module is made
abbrev pub attribute_error : Parts → Range → List ℕ → ModuleError
attribute_error s referrer type = error_of (UnsupportedImportAttributeType s referrer type)

-- a module of a media type, or under an attribute `type`, that isn't taken in the source phase
abbrev pub source_phase_error : Parts → Range → MediaType → Option (List ℕ) → ModuleError
source_phase_error s referrer media type = error_of (UnsupportedModuleTypeForSourcePhaseImport s referrer media type)

-- ---- texts

abbrev pub load_error_text : ModuleLoadError → List ℕ
load_error_text (HttpsChecksumIntegrity e) = checksum_error_text e
load_error_text (Decode e) = decode_fault_text e.err
load_error_text (Loader e) = loader_error_text e
load_error_text (Jsr e) = jsr_error_text e
load_error_text (Npm e) = npm_error_text e
load_error_text TooManyRedirects = codes "Too many redirects."

-- modules of a media type aren't taken anywhere
abbrev pub unsupported_reason : MediaType → List ℕ
unsupported_reason media =
    codes "Expected a JavaScript or TypeScript module, but identified a " ++ (media_name media
    ++ codes " module. Importing these types of modules is currently not supported.")

-- modules of CommonJS are taken from files alone
abbrev pub cjs_reason : Parts → MediaType → List ℕ
cjs_reason s media = if bytes_eq s.scheme (codes "file") then unsupported_reason media else codes "Remote CJS modules are not supported."

-- why a media type isn't taken at a specifier
abbrev pub media_reason : Parts → MediaType → List ℕ
media_reason s Json = codes "Expected a JavaScript or TypeScript module, but identified a Json module. Consider importing Json modules with an import attribute with the type of \"json\"."
media_reason s Cjs = cjs_reason s Cjs
media_reason s Cts = cjs_reason s Cts
media_reason s media = unsupported_reason media

-- what the attribute of an import says that a module is
abbrev pub expectation : MediaType → List ℕ
expectation expected = codes "Expected a " ++ (media_name expected ++ codes " module, but identified a ")

-- that a module is of another media type than its import says
abbrev pub assertion_reason : MediaType → MediaType → List ℕ
assertion_reason Json expected =
    expectation expected ++ codes "Json module. Consider importing Json modules with an import attribute with the type of \"json\"."
assertion_reason actual expected = expectation expected ++ (media_name actual ++ codes " module.")

-- that no module is made at a specifier under an attribute
abbrev pub attribute_text : Parts → List ℕ → List ℕ
attribute_text s type = codes "The import attribute type of \"" ++ (type ++ (codes "\" is unsupported.\n  Specifier: " ++ serialize s))

-- an attribute `type`, as it is written behind an import
abbrev pub with_attribute : Option (List ℕ) → List ℕ
with_attribute None = []
with_attribute (Some type) = codes " with { type: \"" ++ (type ++ codes "\" }")

-- why a module isn't taken in the source phase
abbrev pub source_phase_reason : MediaType → Option (List ℕ) → List ℕ
source_phase_reason media type =
    (codes "Importing " ++ (media_name media ++ codes " modules")) ++ (with_attribute type ++ codes " at source phase is unsupported.")

abbrev pub kind_text : ModuleErrorKind → List ℕ
kind_text (Load s referrer e) = load_error_text e
kind_text (Missing s referrer) = codes "Module not found \"" ++ serialize s ++ codes "\"."
kind_text (MissingDynamic s referrer) = codes "Dynamic import not found \"" ++ serialize s ++ codes "\"."
kind_text (Parse s mtime fault) = fault.message
kind_text (WasmParse s mtime refusal) =
    codes "The Wasm module could not be parsed: " ++ (refusal_text refusal ++ (codes "\n  Specifier: " ++ serialize s))
kind_text (UnsupportedMediaType s media referrer) = media_reason s media ++ (codes "\n  Specifier: " ++ serialize s)
kind_text (InvalidTypeAssertion s referrer actual expected) =
    assertion_reason actual expected ++ (codes "\n  Specifier: " ++ serialize s)
kind_text (UnsupportedImportAttributeType s referrer type) = attribute_text s type
kind_text (UnsupportedModuleTypeForSourcePhaseImport s referrer media type) =
    source_phase_reason media type ++ (codes "\n  Specifier: " ++ serialize s)

-- the text of an error in the place of a module
abbrev pub error_text : ModuleError → List ℕ
error_text e = kind_text e.0

-- the text of an import that leads nowhere
abbrev pub resolution_error_text : ResolutionError → List ℕ
resolution_error_text (InvalidDowngrade s range) =
    codes "Modules imported via https are not allowed to import http modules.\n  Importing: " ++ serialize s
resolution_error_text (InvalidJsrHttpsTypesImport s range) =
    codes "Importing JSR packages via HTTPS specifiers for type checking is not supported for performance reasons. If you would like types, import via a `jsr:` specifier instead or else use a non-statically analyzable dynamic import.\n  Importing: " ++ serialize s
resolution_error_text (InvalidLocalImport s range) =
    codes "Remote modules are not allowed to import local modules. Consider using a dynamic import instead.\n  Importing: " ++ serialize s
resolution_error_text (InvalidSpecifier e range) = specifier_error_text e
resolution_error_text (ResolverError e text range) = resolve_error_text e

-- the text of what a walk finds
abbrev pub graph_error_text : ModuleGraphError → List ℕ
graph_error_text (OfModule e) = error_text e
graph_error_text (OfResolution e) = resolution_error_text e
graph_error_text (OfTypes e) = codes "Failed resolving types. " ++ resolution_error_text e
