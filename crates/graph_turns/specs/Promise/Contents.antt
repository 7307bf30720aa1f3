-- Contents of modules that come later than their infos: what is asked about them, and what a world answers.
use Rattle.std.specs.Prelude.{◌≡◌, ℕ, List, true, false, Option, Some, None, Ok, Err, option_map, if◌then◌else◌}
use Rattle.url.specs.Parts.{Parts}
use Rattle.spec_base.specs.Specifier.{same_specifier}
use Rattle.module_info.specs.declared.types.ModuleInfo.{ModuleInfo}
use Rattle.source_io.specs.declared.types.CacheSetting.TheVariants.{Use}
use Rattle.source_io.specs.declared.types.LoadResponse.{LoadResponse}
use Rattle.source_io.specs.declared.types.LoadResponse.TheVariants.{External, Redirect, Module}
use Rattle.source_io.specs.declared.types.Question.{Question}
use Rattle.source_io.specs.Answers.{answer_of}
use Rattle.graph_errors.specs.Errors.{jsr_error, missing_error}
use Rattle.graph_errors.specs.declared.errors.ModuleError.{ModuleError}
use Rattle.graph_errors.specs.declared.jsr_error.JsrLoadError.{JsrLoadError}
use Rattle.graph_errors.specs.declared.jsr_error.JsrLoadError.TheVariants.{ContentLoad, ContentLoadExternalSpecifier, RedirectInPackage}
use Rattle.registry_files.specs.Answers.{FileAnswer}
use Rattle.module_slots.specs.declared.load.LoadContext.{LoadContext}
use Rattle.graph_turns.specs.declared.question_of.Asked.{Asked}
use Rattle.graph_turns.specs.declared.later_content.LaterContent.{LaterContent}
use Rattle.graph_turns.specs.Machine.Known.{Known}
use Rattle.graph_turns.specs.Promise.Told.{Told}
use Rattle.graph_turns.specs.Promise.Versions.{loaded}

-- the content of a module that is made by its info comes later
abbrev pub content_of : Parts → LoadContext → Asked → Option ModuleInfo → Option LaterContent
content_of s c asked None = None
content_of s c asked (Some info) = Some (record { specifier = s; context = c; checksum = asked.checksum })

-- the question about a content
abbrev pub content_question : Known → LaterContent → Question
content_question known l = record {
  specifier = l.specifier;
  asset = false;
  options = record {
    in_dynamic_branch = l.context.is_dynamic;
    was_dynamic_root = known.flags.is_dynamic;
    cache_setting = Use;
    maybe_checksum = l.checksum;
  };
}

-- what a world answers about a content
abbrev pub told_content : Told → LaterContent → FileAnswer
told_content told l = loaded (answer_of told.world (content_question told.known l))

-- the content that an answer is: that of a source under its own name
abbrev pub content_in : LaterContent → LoadResponse → Option (List ℕ)
content_in l (Module content mtime name headers) = if same_specifier name l.specifier then Some content else None
content_in l (External name) = None
content_in l (Redirect name) = None

abbrev pub content_told : LaterContent → FileAnswer → Option (List ℕ)
content_told l (Ok (Some response)) = content_in l response
content_told l (Ok None) = None
content_told l (Err e) = None

-- the error that any other response is
abbrev pub content_fault : LoadResponse → JsrLoadError
content_fault (Module content mtime name headers) = RedirectInPackage name
content_fault (External name) = ContentLoadExternalSpecifier
content_fault (Redirect name) = RedirectInPackage name

-- the error that any other answer is
abbrev pub content_error : LaterContent → FileAnswer → ModuleError
content_error l (Ok (Some response)) = jsr_error l.specifier l.context.range (content_fault response)
content_error l (Ok None) = missing_error l.specifier l.context.range
content_error l (Err e) = jsr_error l.specifier l.context.range (ContentLoad e)
