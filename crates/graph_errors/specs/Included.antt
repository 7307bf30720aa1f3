-- The ranges of resolutions that include a place.
use Rattle.std.specs.Prelude.{Option, Some, None, if◌then◌else◌}
use Rattle.spec_base.specs.Position.{includes}
use Rattle.spec_base.specs.declared.position.Position.{Position}
use Rattle.spec_base.specs.declared.position.Range.{Range}
use Rattle.graph_errors.specs.Resolutions.{range_in}
use Rattle.graph_errors.specs.declared.resolution.Resolution.{Resolution}

-- a range, where it includes a place
abbrev pub where_including : Position → Option Range → Option Range
where_including p None = None
where_including p (Some r) = if includes r.range p then Some r else None

-- the range of a resolution's text, where it includes a place
abbrev pub resolution_including : Resolution → Position → Option Range
resolution_including r p = where_including p (range_in r)
