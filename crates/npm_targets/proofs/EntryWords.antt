-- Entries whose dependencies are resolved again, by the bytes of their keys.
use Rattle.std.specs.Prelude.{List, string_bytes}
use Rattle.std.specs.declared.string.String.{String}
use Rattle.graph_dependencies.specs.declared.dependency.Dependency.{Dependency}
use Rattle.graph_dependencies.specs.declared.graph_import.GraphImport.{GraphImport}
use Rattle.url.specs.Parts.{Parts}
use Rattle.module_slots.specs.declared.load.Load.{Load}
use Rattle.npm_targets.specs.Edges.{Repointing, all_loads_again, loads_again, repointed}
use Rattle.npm_targets.specs.Graphs.{repointed_import}

abbrev pub entry_again : {A : Type 0} → Repointing → String A → Dependency → Dependency
entry_again how key d = repointed how (string_bytes key) d

abbrev pub entry_loads : {A : Type 0} → Repointing → String A → Dependency → List Load
entry_loads how key d = loads_again how (string_bytes key) d

abbrev pub import_again : Repointing → Parts → GraphImport → GraphImport
import_again how key i = repointed_import how i

abbrev pub import_loads_again : Repointing → Parts → GraphImport → List Load
import_loads_again how key i = all_loads_again how i.dependencies
