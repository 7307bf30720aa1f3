-- What is read, with each JSON value as its data.
use Rattle.std.specs.Prelude.{Option, option_map, Result, Ok, Err}
use Rattle.serde_json.specs.Data.{Data}
use Rattle.serde_json.specs.View.{view}
use Rattle.serde_json.specs.declared.value.Value.{Value}
use Rattle.pkg_versions.specs.RegistryFiles.{VersionFile}
use Rattle.pkg_versions.specs.declared.version_info.JsrPackageVersionInfo.{JsrPackageVersionInfo}

abbrev pub value_view : {E : Type 0} → Result Value E → Result Data E
value_view (Ok v) = Ok (view v)
value_view (Err e) = Err e

abbrev pub member_view : {E : Type 0} → Result (Option Value) E → Result (Option Data) E
member_view (Ok v) = Ok (option_map view v)
member_view (Err e) = Err e

-- what a version's info says
abbrev pub file_of : JsrPackageVersionInfo → VersionFile
file_of info = record {
  exports = view info.exports;
  module_graph_1 = option_map view info.module_graph_1;
  module_graph_2 = option_map view info.module_graph_2;
  manifest = info.manifest;
  lockfile_checksum = info.lockfile_checksum;
}

abbrev pub file_view : {E : Type 0} → Result JsrPackageVersionInfo E → Result VersionFile E
file_view (Ok info) = Ok (file_of info)
file_view (Err e) = Err e
