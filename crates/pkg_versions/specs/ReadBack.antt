-- The files of the registry that are read back from what is written of them.
use Rattle.std.specs.Prelude.{◌≡◌, ℤ, Bool, true, not, ◌&&◌, is_some, List, Option, Some, None, IfSome, ⊤}
use Rattle.std.specs.List.{All, AllByRecursion}
use Rattle.std.specs.List.Sorted.{IsStrictlySortedBy}
use Rattle.std.specs.Map.{keys_of}
use Rattle.semver.specs.Grammar.{IsValid}
use Rattle.serde_json.specs.Data.{Data}
use Rattle.serde_json.specs.Find.{as_null}
use Rattle.spec_base.specs.Options.{by_option}
use Rattle.json_forms.specs.Whole.{is_whole}
use Rattle.json_forms.specs.Rows.{object_of}
use Rattle.semver_npm.specs.Versions.{Ver, ver_cmp}
use Rattle.version_dates.specs.Times.{time_of, time_text}
use Rattle.pkg_versions.specs.RegistryFiles.{VersionFile, info_version, info_version_rows}
use Rattle.pkg_versions.specs.declared.package_info.JsrPackageInfo.{JsrPackageInfo}
use Rattle.pkg_versions.specs.declared.package_info.JsrPackageInfoVersion.{JsrPackageInfoVersion}

-- the versions are those of SemVer 2.0, of numbers with at most 64 bits
abbrev pub HasVersions : JsrPackageInfo → Type 0
HasVersions info = All IsValid (keys_of info.versions) × IfSome info.latest IsValid

-- a module graph that stands isn't null, and its numbers are whole
abbrev pub is_graph : Option Data → Bool
is_graph graph = by_option graph true (λ d. not (is_some (as_null d)) && is_whole d)

-- the numbers of the exports and of the module graphs are whole
abbrev pub is_plain : VersionFile → Bool
is_plain info = is_whole info.exports && (is_graph info.module_graph_1 && is_graph info.module_graph_2)

-- ---- what the code shows as it writes

-- the text of a time, where there is one, is read as it
abbrev pub IsTime : Option ℤ → Type 0
IsTime None = ⊤
IsTime (Some t) = time_of (time_text t) ≡ Some t

-- what is written of a version's entry is read as it
abbrev pub IsReadBack : Ver × JsrPackageInfoVersion → Type 0
IsReadBack e = info_version (object_of (info_version_rows e.1)) ≡ Some e.1

-- each entry is read back, and the versions ascend
abbrev pub AreReadBack : List (Ver × JsrPackageInfoVersion) → Type 0
AreReadBack es = AllByRecursion IsReadBack es × IsStrictlySortedBy ver_cmp (keys_of es)
