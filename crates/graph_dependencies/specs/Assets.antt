-- Dependencies on modules that are taken as they are, without being run.
use Rattle.std.specs.Prelude.{List, [], ◌∷◌, Bool, ◌||◌, Option, Some, None, if◌then◌else◌}
use Rattle.std.specs.List.{list_all}
use Rattle.module_info.specs.Attributes.{has_asset}
use Rattle.spec_base.specs.declared.position.Range.{Range}
use Rattle.graph_dependencies.specs.declared.dependency.Dependency.{Dependency}
use Rattle.graph_dependencies.specs.declared.dependency.Import.{Import}
use Rattle.graph_dependencies.specs.Kinds.{is_source_phase}

-- the import takes the module as it is
abbrev pub takes_asset : Import → Bool
takes_asset i = has_asset i.attributes || is_source_phase i.kind

-- all imports take the module as it is
abbrev pub all_take_assets : Dependency → Bool
all_take_assets d = list_all takes_asset d.imports

-- the range of the first import in the source phase
unfoldable pub first_source_phase : List Import → Option Range
first_source_phase [] = None
first_source_phase (i ∷ is) = if is_source_phase i.kind then Some i.specifier_range else first_source_phase is

-- that of a dependency
abbrev pub source_phase_of : Dependency → Option Range
source_phase_of d = first_source_phase d.imports
