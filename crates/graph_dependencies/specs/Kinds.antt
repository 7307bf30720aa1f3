-- How modules are imported, and which part of its modules a graph holds.
use Rattle.std.specs.Prelude.{Bool, true, false}
use Rattle.graph_dependencies.specs.declared.dependency.ImportKind.{ImportKind}
use Rattle.graph_dependencies.specs.declared.dependency.ImportKind.TheVariants.{Es, EsSource, Require, TsType, TsModuleAugmentation, TsReferencePath, TsReferenceTypes, JsxImportSource, JsDoc}
use Rattle.graph_dependencies.specs.declared.graph_kind.GraphKind.{GraphKind}
use Rattle.graph_dependencies.specs.declared.graph_kind.GraphKind.TheVariants.{All, CodeOnly, TypesOnly}

abbrev pub include_code : GraphKind → Bool
include_code All = true
include_code CodeOnly = true
include_code TypesOnly = false

abbrev pub include_types : GraphKind → Bool
include_types All = true
include_types CodeOnly = false
include_types TypesOnly = true

-- the code of the module is imported, and not its types alone
abbrev pub is_runtime : ImportKind → Bool
is_runtime Es = true
is_runtime EsSource = true
is_runtime Require = true
is_runtime TsType = false
is_runtime TsModuleAugmentation = false
is_runtime TsReferencePath = false
is_runtime TsReferenceTypes = false
is_runtime JsxImportSource = true
is_runtime JsDoc = false

-- the module is imported in the source phase
abbrev pub is_source_phase : ImportKind → Bool
is_source_phase Es = false
is_source_phase EsSource = true
is_source_phase Require = false
is_source_phase TsType = false
is_source_phase TsModuleAugmentation = false
is_source_phase TsReferencePath = false
is_source_phase TsReferenceTypes = false
is_source_phase JsxImportSource = false
is_source_phase JsDoc = false
