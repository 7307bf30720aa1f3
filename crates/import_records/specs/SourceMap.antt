-- Where the source map of a module stands.
use Rattle.std.specs.Prelude.{Option, None, option_map}
use Rattle.spec_base.specs.declared.position.ResolutionKind.TheVariants.{Execution}
use Rattle.module_info.specs.declared.references.SpecifierWithRange.{SpecifierWithRange}
use Rattle.module_info.specs.declared.types.ModuleInfo.{ModuleInfo}
use Rattle.graph_dependencies.specs.declared.dependency.TypesDependency.{TypesDependency}
use Rattle.import_records.specs.Importing.{Importing}
use Rattle.import_records.specs.Records.{range_of}
use Rattle.import_records.specs.Target.{target_of}

-- a text that names the source map, and where it leads
abbrev pub mapped : Importing → SpecifierWithRange → TypesDependency
mapped a s = record { specifier = s.text; dependency = target_of a.resolving s.text (range_of a s.range None) Execution None }

-- as the module itself says, whatever a graph holds of it
abbrev pub source_map_of : Importing → ModuleInfo → Option TypesDependency
source_map_of a info = option_map (mapped a) info.source_map_url
