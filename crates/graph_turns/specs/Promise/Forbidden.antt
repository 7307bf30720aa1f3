-- Which modules are refused where they are to be kept at hand alone.
use Rattle.std.specs.Prelude.{ℕ, List, Bool, true, false, ◌&&◌, ◌||◌, bytes_eq, codes, option_map, Option, Some, None, if◌then◌else◌}
use Rattle.std.specs.Option.{option_or}
use Rattle.url.specs.Parts.{Parts}
use Rattle.media_types.specs.Media.{media_of_specifier}
use Rattle.spec_base.specs.declared.position.Range.{Range}
use Rattle.graph_errors.specs.declared.errors.ModuleErrorKind.{ModuleErrorKind}
use Rattle.graph_errors.specs.declared.errors.ModuleErrorKind.TheVariants.{UnsupportedImportAttributeType, UnsupportedModuleTypeForSourcePhaseImport}
use Rattle.slot_making.specs.Made.{suits_source_phase}
use Rattle.module_slots.specs.declared.load.LoadContext.{LoadContext}
use Rattle.graph_turns.specs.declared.flags.Flags.{Flags}

-- an attribute `type` with the range of its import
abbrev pub Attribute : Type 0
Attribute = List ℕ × Range

-- assets of these types are taken, some of them where a flag allows it
abbrev pub allows_type : Flags → List ℕ → Bool
allows_type f t = bytes_eq t (codes "text") || ((bytes_eq t (codes "bytes") && f.bytes) || (bytes_eq t (codes "css") && f.css))

-- the error of an import in the source phase of what isn't taken there
abbrev pub source_phase_refusal : Parts → Option Attribute → Option Range → Option ModuleErrorKind
source_phase_refusal s attribute None = None
source_phase_refusal s attribute (Some range) =
    if suits_source_phase (media_of_specifier s) attribute then None
    else Some (UnsupportedModuleTypeForSourcePhaseImport s range (media_of_specifier s) (option_map (λ a. a.0) attribute))

-- the error of an attribute that isn't taken
abbrev pub attribute_refusal : Flags → Parts → Option Attribute → Option ModuleErrorKind
attribute_refusal f s None = None
attribute_refusal f s (Some a) = if allows_type f a.0 then None else Some (UnsupportedImportAttributeType s a.1 a.0)

-- the error of an asset that is refused at a specifier
abbrev pub forbidden : Flags → Parts → LoadContext → Option ModuleErrorKind
forbidden f s c =
    if c.asset then option_or (source_phase_refusal s c.attribute c.source_phase) (attribute_refusal f s c.attribute)
    else None
