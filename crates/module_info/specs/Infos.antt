-- The infos of modules, by specifier.
use Rattle.std.specs.Prelude.{ℕ, Bool, false, List, [], ◌∷◌, slice_get, Option, None, option_map, Result, Ok, if◌then◌else◌}
use Rattle.url.specs.Parts.{Parts}
use Rattle.spec_base.specs.Options.{by_option, then_by}
use Rattle.spec_base.specs.Specifier.{same_specifier}
use Rattle.media_types.specs.declared.media.MediaType.{MediaType}
use Rattle.spec_base.specs.declared.refusal.Fault.{Fault}
use Rattle.module_info.specs.declared.types.ModuleInfo.{ModuleInfo}

-- what an analyzer answers: the info of the module at a specifier with this text, read as this media, or the fault of the analysis
abbrev pub Infos : Type 0
Infos = Parts → List ℕ → MediaType → Result ModuleInfo Fault

-- the info of a module of which nothing is known
abbrev pub empty_info : ModuleInfo
empty_info = record {
  is_script = false;
  dependencies = [];
  ts_references = [];
  self_types_specifier = None;
  jsx_import_source = None;
  jsx_import_source_types = None;
  source_map_url = None;
  jsdoc_imports = [];
}

-- an entry lists the info of a specifier
abbrev pub lists_info : Parts × Result ModuleInfo Fault → Parts → Bool
lists_info e s = same_specifier e.0 s

-- the info at a place of the table
abbrev pub info_at : List (Parts × Result ModuleInfo Fault) → Option ℕ → Option (Result ModuleInfo Fault)
info_at es place = option_map (λ e. e.1) (then_by place (slice_get es))

-- what isn't listed is empty
abbrev pub or_empty : Option (Result ModuleInfo Fault) → Result ModuleInfo Fault
or_empty listed = by_option listed (Ok empty_info) (λ info. info)

-- the first listed info of a specifier, and the empty one where none is listed
unfoldable pub info_in : List (Parts × Result ModuleInfo Fault) → Parts → Result ModuleInfo Fault
info_in [] s = Ok empty_info
info_in (e ∷ es) s = if same_specifier e.0 s then e.1 else info_in es s

-- what a table answers: by the specifier alone, whatever the text and its media
abbrev pub infos_by : List (Parts × Result ModuleInfo Fault) → Infos
infos_by es s text media = info_in es s
