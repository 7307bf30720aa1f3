-- A map answers for code and for types alike.
use Rattle.std.proofs.Common.{refl}
use Rattle.source_io.specs.Resolvers.{AnswersKindsAlike}
use Rattle.import_map.specs.Lookup.{meaning_by}
use Rattle.import_map.specs.declared.map.ImportMap.{ImportMap}

pub map_alike : (m : ImportMap) → AnswersKindsAlike (meaning_by m)
map_alike m = record { resolves = λ text range. refl; by_attribute = λ text range attribute. refl }
