-- The contents of modules that were made by their infos, which come when all else is done.
use Rattle.std.specs.Prelude.{ℕ, List, [], ◌∷◌, Option, Some, None, Ok, Err, if◌then◌else◌}
use Rattle.url.specs.Parts.{Parts}
use Rattle.spec_base.specs.Options.{by_option}
use Rattle.spec_base.specs.Specifier.{same_specifier}
use Rattle.source_io.specs.declared.types.Answer.{Answer}
use Rattle.source_io.specs.declared.types.LoadResponse.{LoadResponse}
use Rattle.source_io.specs.declared.types.LoadResponse.TheVariants.{External, Redirect, Module}
use Rattle.graph_errors.specs.Errors.{missing_error}
use Rattle.graph_errors.specs.declared.jsr_error.JsrLoadError.{JsrLoadError}
use Rattle.graph_errors.specs.declared.jsr_error.JsrLoadError.TheVariants.{ContentLoad, ContentLoadExternalSpecifier, RedirectInPackage}
use Rattle.registry_files.specs.Answers.{FileAnswer}
use Rattle.graph_core.specs.declared.graph.ModuleGraph.{ModuleGraph}
use Rattle.module_slots.specs.declared.slot.ModuleSlot.TheVariants.{Err as Failed}
use Rattle.slot_making.specs.Filled.{filled_slot}
use Rattle.graph_core.specs.Graph.{slot_at, with_slot, without_slot}
use Rattle.graph_turns.specs.declared.later_content.LaterContent.{LaterContent}
use Rattle.graph_turns.specs.declared.state.State.{State}
use Rattle.graph_turns.specs.Promise.Slots.{jsr_slot}
use Rattle.graph_turns.specs.Promise.Versions.{loaded}

-- an error in the place of a module
abbrev pub refused_content : ModuleGraph → LaterContent → JsrLoadError → ModuleGraph
refused_content g l e = with_slot g l.specifier (jsr_slot l.specifier l.context e)

-- there is no content
abbrev pub with_missing : ModuleGraph → LaterContent → ModuleGraph
with_missing g l = with_slot g l.specifier (Failed (missing_error l.specifier l.context.range))

-- the slot of a specifier, where one stands, is taken out and put back with its content
abbrev pub filled_at : ModuleGraph → Parts → List ℕ → ModuleGraph
filled_at g s content = by_option (slot_at g s) g (λ slot. with_slot (without_slot g s) s (filled_slot content slot))

-- under its own name alone a source is the content
abbrev pub source_placed : ModuleGraph → LaterContent → Parts → List ℕ → ModuleGraph
source_placed g l name content = if same_specifier name l.specifier then filled_at g l.specifier content else refused_content g l (RedirectInPackage name)

abbrev pub response_placed : ModuleGraph → LaterContent → LoadResponse → ModuleGraph
response_placed g l (Module content mtime name headers) = source_placed g l name content
response_placed g l (External name) = refused_content g l ContentLoadExternalSpecifier
response_placed g l (Redirect name) = refused_content g l (RedirectInPackage name)

-- what the answer about a content leaves of a graph: but for a source under its own name an error stands over any slot
abbrev pub content_placed : ModuleGraph → LaterContent → FileAnswer → ModuleGraph
content_placed g l (Ok (Some response)) = response_placed g l response
content_placed g l (Ok None) = with_missing g l
content_placed g l (Err e) = refused_content g l (ContentLoad e)

abbrev pub content_by : State → List LaterContent → Answer → State
content_by s [] a = s
content_by s (l ∷ ls) a = record s { graph = content_placed s.graph l (loaded a); contents = ls }

-- the first content that comes later was answered
abbrev pub content_stored : State → Answer → State
content_stored s a = content_by s s.contents a
