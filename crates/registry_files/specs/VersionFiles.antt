-- What a build reads in a version file.
use Rattle.std.specs.Prelude.{ℕ, List, [], codes, map, fold, Option, None, Some, Result, Ok, Err}
use Rattle.std.specs.BTreeMap.{insert_entry}
use Rattle.std.specs.Result.{result_ok}
use Rattle.serde_json.specs.Data.{Data, Members, no_members, member}
use Rattle.serde_json.specs.Find.{as_object, get}
use Rattle.spec_base.specs.Options.{by_option}
use Rattle.spec_base.specs.Shown.{text_cmp}
use Rattle.spec_base.specs.declared.refusal.Fault.{Fault}
use Rattle.json_forms.specs.Infos.Info.{info_of}
use Rattle.module_info.specs.declared.types.ModuleInfo.{ModuleInfo}
use Rattle.pkg_versions.specs.Exports.{exports_of}
use Rattle.pkg_versions.specs.RegistryFiles.{VersionFile as JsonFile, version_file}
use Rattle.source_sums.specs.Sums.{sum_of}
use Rattle.registry_files.specs.declared.version_file.VersionFile.{VersionFile}

-- ---- infos

-- infos by file
abbrev pub FileInfos : Type 0
FileInfos = List (List ℕ × ModuleInfo)

-- with the info of a file, where there is one
abbrev pub with_info : FileInfos → List ℕ → Option ModuleInfo → FileInfos
with_info infos file None = infos
with_info infos file (Some info) = insert_entry text_cmp infos file info

-- with the infos among some members
unfoldable pub infos_from : FileInfos → Members → FileInfos
infos_from found no_members = found
infos_from found (member k d ms) = infos_from (with_info found k (result_ok (info_of d))) ms

-- the infos of a module graph, where there is one: the members of an object that are infos
abbrev pub infos_of : Option Data → FileInfos
infos_of None = []
infos_of (Some graph) = by_option (as_object graph) [] (infos_from [])

-- those of what a file is, whose member `moduleGraph2` may be absent
abbrev pub infos_at : Data → FileInfos
infos_at d = infos_of (get (codes "moduleGraph2") d)

-- ---- exports

-- what names lead to
abbrev pub Named : Type 0
Named = List (List ℕ × List ℕ)

abbrev pub with_export : Named → List ℕ × List ℕ → Named
with_export es e = insert_entry text_cmp es e.0 e.1

-- what each export leads to, by its name
abbrev pub exports_by_name : Data → Named
exports_by_name d = fold with_export [] (exports_of d)

-- the same of what a file is, whose member `exports` may be absent
abbrev pub exports_at : Data → Named
exports_at d = by_option (get (codes "exports") d) [] exports_by_name

-- the names of all exports
abbrev pub export_names : VersionFile → List (List ℕ)
export_names file = map (λ e. e.0) file.exports

-- ---- the file

-- the sum that a version file has of itself, else that of its bytes
abbrev pub own_sum : List ℕ → Option (List ℕ) → List ℕ
own_sum bytes None = sum_of bytes
own_sum bytes (Some said) = said

-- what a version file of these bytes says
abbrev pub version_file_of : List ℕ → JsonFile → VersionFile
version_file_of bytes file = record {
  exports = exports_by_name file.exports;
  infos = infos_of file.module_graph_2;
  manifest = file.manifest;
  checksum = own_sum bytes file.lockfile_checksum;
}

abbrev pub read_version_file : List ℕ → Result JsonFile Fault → Result VersionFile Fault
read_version_file bytes (Ok file) = Ok (version_file_of bytes file)
read_version_file bytes (Err fault) = Err fault

-- the version file that bytes are, or the fault where they are none
abbrev pub version_file_in : List ℕ → Result VersionFile Fault
version_file_in bytes = read_version_file bytes (version_file bytes)
