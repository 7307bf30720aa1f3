-- The ranges of imports and dependencies that include a place.
use Rattle.std.specs.Prelude.{List, map, Option}
use Rattle.std.specs.List.{find}
use Rattle.std.specs.Option.{option_or}
use Rattle.spec_base.specs.Position.{includes}
use Rattle.spec_base.specs.declared.position.Position.{Position}
use Rattle.spec_base.specs.declared.position.Range.{Range}
use Rattle.graph_errors.specs.Included.{resolution_including}
use Rattle.graph_dependencies.specs.declared.dependency.Dependency.{Dependency}
use Rattle.graph_dependencies.specs.declared.dependency.Import.{Import}

-- the first range of imports that includes a place
abbrev pub import_including : List Import → Position → Option Range
import_including imports p = find (λ (r : Range). includes r.range p) (map (λ (i : Import). i.specifier_range) imports)

-- the first range of a dependency's imports that includes a place, else that of its type
abbrev pub dependency_including : Dependency → Position → Option Range
dependency_including d p = option_or (import_including d.imports p) (resolution_including d.maybe_type p)
