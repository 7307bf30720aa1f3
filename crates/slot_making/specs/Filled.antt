-- Modules whose content comes later than their info.
use Rattle.std.specs.Prelude.{ℕ, List, Option, Some, None, Result, Ok, Err}
use Rattle.url.specs.Parts.{Parts}
use Rattle.media_types.specs.Decode.{decoded, detected}
use Rattle.spec_base.specs.Options.{by_option}
use Rattle.media_types.specs.declared.decoding.DecodeFault.{DecodeFault}
use Rattle.media_types.specs.declared.decoding.ModuleTextSource.{ModuleTextSource}
use Rattle.graph_errors.specs.Errors.{wasm_error}
use Rattle.slot_making.specs.Made.{declaration_of, undecoded_slot}
use Rattle.module_slots.specs.declared.slot.Module.TheVariants.{Js, Json, Wasm, Npm, Node, External}
use Rattle.module_slots.specs.declared.slot.ModuleSlot.{ModuleSlot}
use Rattle.module_slots.specs.declared.slot.ModuleSlot.TheVariants.{Module as Stands, Err as Failed, Pending}
use Rattle.module_slots.specs.declared.slot.WasmModule.{WasmModule}
use Rattle.wasm_dts.specs.declared.refusal.WasmRefusal.{WasmRefusal}

-- ---- texts

-- the text that a later content is; no header tells its charset
abbrev pub content_text : Parts → List ℕ → Result ModuleTextSource DecodeFault
content_text s content = decoded (detected s content) content

-- the source of a module with a later text, where that is one
abbrev pub filled_text : ModuleTextSource → Result ModuleTextSource DecodeFault → ModuleTextSource
filled_text old (Ok text) = text
filled_text old (Err fault) = old

-- the error of a later content that is no text
abbrev pub text_refusal : Parts → Option ℕ → Result ModuleTextSource DecodeFault → Option ModuleSlot
text_refusal s mtime (Ok text) = None
text_refusal s mtime (Err fault) = Some (undecoded_slot s mtime fault)

-- ---- WebAssembly

-- a WebAssembly module with later bytes and their declaration, where they have one
abbrev pub filled_wasm : WasmModule → List ℕ → Result (List ℕ) WasmRefusal → WasmModule
filled_wasm m content (Ok declaration) = record m { source = content; source_dts = declaration }
filled_wasm m content (Err refusal) = m

-- the error of later bytes that are no WebAssembly module
abbrev pub wasm_refusal : WasmModule → Result (List ℕ) WasmRefusal → Option ModuleSlot
wasm_refusal m (Ok declaration) = None
wasm_refusal m (Err refusal) = Some (Failed (wasm_error m.specifier m.mtime refusal))

-- ---- slots

abbrev pub or_refusal : Option ModuleSlot → ModuleSlot → ModuleSlot
or_refusal refusal slot = by_option refusal slot (λ e. e)

-- the error that a later content gives in the place of a module
abbrev pub content_refusal : List ℕ → ModuleSlot → Option ModuleSlot
content_refusal content (Stands (Js m)) = text_refusal m.specifier m.mtime (content_text m.specifier content)
content_refusal content (Stands (Json m)) = text_refusal m.specifier m.mtime (content_text m.specifier content)
content_refusal content (Stands (Wasm m)) = wasm_refusal m (declaration_of content)
content_refusal content (Stands (Npm m)) = None
content_refusal content (Stands (Node m)) = None
content_refusal content (Stands (External m)) = None
content_refusal content (Failed e) = None
content_refusal content (Pending asset) = None

-- a slot whose module has a source with a later content, where that is one
abbrev pub slot_with_content : List ℕ → ModuleSlot → ModuleSlot
slot_with_content content (Stands (Js m)) = Stands (Js (record m { source = filled_text m.source (content_text m.specifier content) }))
slot_with_content content (Stands (Json m)) = Stands (Json (record m { source = filled_text m.source (content_text m.specifier content) }))
slot_with_content content (Stands (Wasm m)) = Stands (Wasm (filled_wasm m content (declaration_of content)))
slot_with_content content (Stands (Npm m)) = Stands (Npm m)
slot_with_content content (Stands (Node m)) = Stands (Node m)
slot_with_content content (Stands (External m)) = Stands (External m)
slot_with_content content (Failed e) = Failed e
slot_with_content content (Pending asset) = Pending asset

-- the slot of a module once its content came: a module with a source has it from then on, or the error that it is no text or no
-- WebAssembly module; any other slot stays as it is
abbrev pub filled_slot : List ℕ → ModuleSlot → ModuleSlot
filled_slot content slot = or_refusal (content_refusal content slot) (slot_with_content content slot)
