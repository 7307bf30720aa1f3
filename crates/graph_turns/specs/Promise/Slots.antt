-- Slots that no source makes.
use Rattle.std.specs.Prelude.{Bool, Option, None}
use Rattle.url.specs.Parts.{Parts}
use Rattle.graph_errors.specs.Errors.{jsr_error}
use Rattle.graph_errors.specs.declared.jsr_error.JsrLoadError.{JsrLoadError}
use Rattle.module_slots.specs.declared.load.LoadContext.{LoadContext}
use Rattle.module_slots.specs.declared.slot.Module.TheVariants.{Node, External}
use Rattle.module_slots.specs.declared.slot.ModuleSlot.{ModuleSlot}
use Rattle.module_slots.specs.declared.slot.ModuleSlot.TheVariants.{Module as Stands, Err as Failed}

-- a module outside of the graph, which was asked for as an asset or not
abbrev pub external_slot : Parts → Bool → ModuleSlot
external_slot name as_asset = Stands (External (record { specifier = name; maybe_cache_info = None; was_asset_load = as_asset }))

-- a module that is built into Node.js; its name is the path of its URL
abbrev pub node_slot : Parts → ModuleSlot
node_slot s = Stands (Node (record { specifier = s; module_name = s.path }))

-- an error of a registry of packages
abbrev pub jsr_slot : Parts → LoadContext → JsrLoadError → ModuleSlot
jsr_slot s c e = Failed (jsr_error s c.range e)
