-- What an error in the place of a module holds.
use Rattle.std.specs.Prelude.{ℕ, List, ◌++◌, codes, Option, Some, None}
use Rattle.url.specs.Parts.{Parts}
use Rattle.spec_base.specs.Position.{range_text}
use Rattle.spec_base.specs.declared.position.Range.{Range}
use Rattle.graph_errors.specs.declared.errors.ModuleErrorKind.{ModuleErrorKind}
use Rattle.graph_errors.specs.declared.errors.ModuleErrorKind.TheVariants.{Load, Missing, MissingDynamic, Parse, WasmParse, UnsupportedMediaType, InvalidTypeAssertion, UnsupportedImportAttributeType, UnsupportedModuleTypeForSourcePhaseImport}
use Rattle.graph_errors.specs.declared.errors.ModuleLoadError.{ModuleLoadError}
use Rattle.graph_errors.specs.declared.errors.ModuleLoadError.TheVariants.{HttpsChecksumIntegrity, Decode, Loader, Jsr, Npm, TooManyRedirects}
use Rattle.graph_errors.specs.declared.errors.ModuleGraphError.{ModuleGraphError}
use Rattle.graph_errors.specs.declared.errors.ModuleGraphError.TheVariants.{ModuleError as OfModule, ResolutionError as OfResolution, TypesResolutionError as OfTypes}
use Rattle.graph_errors.specs.Errors.{error_text, resolution_error_text}
use Rattle.graph_errors.specs.Resolutions.{failed_range}

-- where the error stands
abbrev pub kind_specifier : ModuleErrorKind → Parts
kind_specifier (Load s referrer e) = s
kind_specifier (Missing s referrer) = s
kind_specifier (MissingDynamic s referrer) = s
kind_specifier (Parse s mtime fault) = s
kind_specifier (WasmParse s mtime refusal) = s
kind_specifier (UnsupportedMediaType s media referrer) = s
kind_specifier (InvalidTypeAssertion s referrer actual expected) = s
kind_specifier (UnsupportedImportAttributeType s referrer type) = s
kind_specifier (UnsupportedModuleTypeForSourcePhaseImport s referrer media type) = s

-- the import that is to blame
abbrev pub kind_referrer : ModuleErrorKind → Option Range
kind_referrer (Load s referrer e) = referrer
kind_referrer (Missing s referrer) = referrer
kind_referrer (MissingDynamic s referrer) = Some referrer
kind_referrer (Parse s mtime fault) = None
kind_referrer (WasmParse s mtime refusal) = None
kind_referrer (UnsupportedMediaType s media referrer) = referrer
kind_referrer (InvalidTypeAssertion s referrer actual expected) = Some referrer
kind_referrer (UnsupportedImportAttributeType s referrer type) = Some referrer
kind_referrer (UnsupportedModuleTypeForSourcePhaseImport s referrer media type) = Some referrer

-- when the source that makes no module was last changed
abbrev pub load_mtime : ModuleLoadError → Option ℕ
load_mtime (HttpsChecksumIntegrity e) = None
load_mtime (Decode e) = e.mtime
load_mtime (Loader e) = None
load_mtime (Jsr e) = None
load_mtime (Npm e) = None
load_mtime TooManyRedirects = None

abbrev pub kind_mtime : ModuleErrorKind → Option ℕ
kind_mtime (Load s referrer e) = load_mtime e
kind_mtime (Missing s referrer) = None
kind_mtime (MissingDynamic s referrer) = None
kind_mtime (Parse s mtime fault) = mtime
kind_mtime (WasmParse s mtime refusal) = mtime
kind_mtime (UnsupportedMediaType s media referrer) = None
kind_mtime (InvalidTypeAssertion s referrer actual expected) = None
kind_mtime (UnsupportedImportAttributeType s referrer type) = None
kind_mtime (UnsupportedModuleTypeForSourcePhaseImport s referrer media type) = None

abbrev pub graph_error_kind : ModuleGraphError → Option ModuleErrorKind
graph_error_kind (OfModule e) = Some e.0
graph_error_kind (OfResolution e) = None
graph_error_kind (OfTypes e) = None

-- the import that is to blame for what a walk finds
abbrev pub graph_error_range : ModuleGraphError → Option Range
graph_error_range (OfModule e) = kind_referrer e.0
graph_error_range (OfResolution e) = Some (failed_range e)
graph_error_range (OfTypes e) = Some (failed_range e)

-- the text of an error with the import that is to blame
abbrev pub ranged_text : List ℕ → Option Range → List ℕ
ranged_text text None = text
ranged_text text (Some range) = text ++ (codes "\n    at " ++ range_text range)

-- the text of what a walk finds, where nothing tells code from types
abbrev pub plain_error_text : ModuleGraphError → List ℕ
plain_error_text (OfModule e) = error_text e
plain_error_text (OfResolution e) = resolution_error_text e
plain_error_text (OfTypes e) = resolution_error_text e
