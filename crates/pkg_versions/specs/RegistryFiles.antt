-- The files of the registry.
use Rattle.std.specs.Prelude.{ℕ, ℤ, false, List, [], ◌∷◌, map, codes, is_some, Option, Some, None, option_and_then, option_map, Result, Ok, Err, if◌then◌else◌}
use Rattle.std.specs.BTreeMap.{insert_entry}
use Rattle.std.specs.Result.{result_ok}
use Rattle.std.specs.Str.{is_utf8}
use Rattle.semver.specs.Identifiers.{parts_text}
use Rattle.serde_json.specs.Data.{Data, null, string, Members, no_members, member}
use Rattle.serde_json.specs.Find.{as_null, as_object, as_str, get}
use Rattle.serde_json.specs.Read.{read}
use Rattle.spec_base.specs.Options.{by_option}
use Rattle.spec_base.specs.declared.refusal.Fault.{Fault}
use Rattle.json_forms.specs.Dictionary.{dictionary, dictionary_json}
use Rattle.json_forms.specs.Form.{Form, flag, given, text, ◌>>=◌}
use Rattle.json_forms.specs.Infos.Info.{info_of}
use Rattle.json_forms.specs.Member.{required, with_default}
use Rattle.json_forms.specs.Rows.{Rows, if_true, object_of}
use Rattle.json_forms.specs.Whole.{is_whole}
use Rattle.module_info.specs.declared.types.ModuleInfo.{ModuleInfo}
use Rattle.semver_npm.specs.Versions.{Ver, ver_cmp, version_of}
use Rattle.version_dates.specs.Times.{time_of, time_text}
use Rattle.pkg_versions.specs.declared.package_info.JsrPackageInfo.{JsrPackageInfo}
use Rattle.pkg_versions.specs.declared.package_info.JsrPackageInfoVersion.{JsrPackageInfoVersion}
use Rattle.pkg_versions.specs.declared.version_info.JsrPackageVersionManifestEntry.{JsrPackageVersionManifestEntry}

-- ---- forms

-- the data of some bytes, which are JSON in UTF-8
unfoldable pub json_of : List ℕ → Option Data
json_of bytes = if is_utf8 bytes then read bytes else None

-- what is read of a file, or the fault of a file that has another form
abbrev pub bad_file : Fault
bad_file = record { «class» = codes "SyntaxError"; message = codes "Invalid registry file." }

abbrev pub registry_file : {A : Type 0} → Form A → List ℕ → Result A Fault
registry_file f bytes = by_option (option_and_then f (json_of bytes)) (Err bad_file) Ok

-- null stands for nothing
abbrev pub unless_null : {A : Type 0} → Form A → Form (Option A)
unless_null f d = if is_some (as_null d) then Some None else option_map Some (f d)

-- a member that may be absent or null
abbrev pub nullable : {A : Type 0} → Form A → List ℕ → Form (Option A)
nullable f k d = by_option (get k d) (Some None) (unless_null f)

-- a value, or null
abbrev pub or_null : {A : Type 0} → (A → Data) → Option A → Data
or_null json value = by_option value null json

abbrev pub an_object : Form (Unit {0})
an_object d = given (is_some (as_object d))

abbrev pub version : Form Ver
version d = option_and_then version_of (as_str d)

abbrev pub time : Form ℤ
time d = option_and_then time_of (as_str d)

-- JSON whose numbers are whole
abbrev pub whole_json : Form Data
whole_json d = if is_whole d then Some d else None

-- ---- package files

-- what is said of one version
abbrev pub info_version : Form JsrPackageInfoVersion
info_version d = do
  _ ← an_object d
  created_at ← nullable time (codes "createdAt") d
  yanked ← with_default false flag (codes "yanked") d
  Some (record { created_at = created_at; yanked = yanked })

-- the versions, each at its place in their order
unfoldable pub versions_from : List (Ver × JsrPackageInfoVersion) → Members → Option (List (Ver × JsrPackageInfoVersion))
versions_from found no_members = Some found
versions_from found (member k d ms) = do
  v ← version_of k
  entry ← info_version d
  versions_from (insert_entry ver_cmp found v entry) ms

abbrev pub versions : Form (List (Ver × JsrPackageInfoVersion))
versions d = option_and_then (versions_from []) (as_object d)

-- a package file
abbrev pub package_info : Form JsrPackageInfo
package_info d = do
  vs ← required versions (codes "versions") d
  latest ← nullable version (codes "latest") d
  Some (record { versions = vs; latest = latest })

abbrev pub package_file : List ℕ → Result JsrPackageInfo Fault
package_file = registry_file package_info

-- ---- package files as JSON

abbrev pub info_version_rows : JsrPackageInfoVersion → Rows
info_version_rows entry =
    (codes "createdAt", option_map (λ t. string (time_text t)) entry.created_at)
    ∷ (codes "yanked", if_true entry.yanked)
    ∷ []

abbrev pub version_row : Ver × JsrPackageInfoVersion → List ℕ × Option Data
version_row e = (parts_text e.0, Some (object_of (info_version_rows e.1)))

abbrev pub package_json : JsrPackageInfo → Data
package_json info = object_of (
    (codes "latest", Some (or_null (λ v. string (parts_text v)) info.latest))
    ∷ (codes "versions", Some (object_of (map version_row info.versions)))
    ∷ [])

-- ---- version files

-- what a version file says
pub record VersionFile : Type 0 where
  pub exports : Data
  pub module_graph_1 : Option Data
  pub module_graph_2 : Option Data
  pub manifest : List (List ℕ × JsrPackageVersionManifestEntry)
  pub lockfile_checksum : Option (List ℕ)

abbrev pub manifest_entry : Form JsrPackageVersionManifestEntry
manifest_entry d = do
  checksum ← required text (codes "checksum") d
  Some (record { checksum = checksum })

-- a version file; a missing member `exports` is null
abbrev pub version_info : Form VersionFile
version_info d = do
  _ ← an_object d
  exports ← nullable whole_json (codes "exports") d
  module_graph_1 ← nullable whole_json (codes "moduleGraph1") d
  module_graph_2 ← nullable whole_json (codes "moduleGraph2") d
  manifest ← required (dictionary manifest_entry) (codes "manifest") d
  lockfile_checksum ← nullable text (codes "lockfileChecksum") d
  Some (record { exports = or_null (λ e. e) exports; module_graph_1 = module_graph_1; module_graph_2 = module_graph_2; manifest = manifest; lockfile_checksum = lockfile_checksum })

abbrev pub version_file : List ℕ → Result VersionFile Fault
version_file = registry_file version_info

abbrev pub manifest_entry_json : JsrPackageVersionManifestEntry → Data
manifest_entry_json entry = object_of ((codes "checksum", Some (string entry.checksum)) ∷ [])

abbrev pub version_json : VersionFile → Data
version_json info = object_of (
    (codes "exports", Some info.exports)
    ∷ (codes "lockfileChecksum", Some (or_null string info.lockfile_checksum))
    ∷ (codes "manifest", Some (dictionary_json manifest_entry_json info.manifest))
    ∷ (codes "moduleGraph1", Some (or_null (λ d. d) info.module_graph_1))
    ∷ (codes "moduleGraph2", Some (or_null (λ d. d) info.module_graph_2))
    ∷ [])

-- the member of a module graph that stands for a file, where it is the info of a module
abbrev pub info_in : Option Data → List ℕ → Option ModuleInfo
info_in graph specifier = option_and_then (λ d. result_ok (info_of d)) (option_and_then (get specifier) graph)
