-- The files of versions that a build looks for in a cache before it chooses one, and what is kept of the answers.
use Rattle.std.specs.Prelude.{◌&&◌, not, ℕ, Bool, false, List, [], map, if◌then◌else◌}
use Rattle.std.specs.FinMap as finite
use Rattle.std.specs.FinMap.{FinMap}
use Rattle.std.specs.List.{filter, list_any}
use Rattle.seen_pending.specs.Once.{each_once}
use Rattle.spec_base.specs.Options.{by_option}
use Rattle.semver_npm.specs.Orders.{nv_cmp}
use Rattle.semver_npm.specs.Versions.{Ver}
use Rattle.semver_npm.specs.declared.package.PackageNv.{PackageNv}
use Rattle.semver_npm.specs.declared.package.PackageReq.{PackageReq}
use Rattle.pkg_versions.specs.Choice.{is_match, takes_pre_releases}
use Rattle.pkg_records.specs.Kept.{same_nv, versions_of}
use Rattle.pkg_versions.specs.declared.package_info.JsrPackageInfo.{JsrPackageInfo}
use Rattle.pkg_records.specs.declared.package_specifiers.PackageSpecifiers.{PackageSpecifiers}
use Rattle.graph_turns.specs.declared.registry.RegistryFile.{RegistryFile}
use Rattle.graph_turns.specs.declared.registry.RegistryFile.TheVariants.{Probe}
use Rattle.graph_turns.specs.declared.state.State.{State}
use Rattle.graph_turns.specs.Promise.Cached.{cached_versions, fitting, version_named}

-- the versions whose files were looked for, and whether a cache holds them
abbrev pub Probed : Type 0
Probed = FinMap nv_cmp Bool

-- the file of a version was found
abbrev pub was_found : Probed → PackageNv → Bool
was_found probed nv = by_option (finite.get probed nv) false (λ found. found)

-- the versions of a package whose files were found, where the build prefers them
abbrev pub cached_in : State → List ℕ → JsrPackageInfo → List Ver
cached_in s name info = if s.flags.prefers_cached_jsr then cached_versions (was_found s.probed) name info else []

-- a version that a graph has meets a requirement
abbrev pub is_met : PackageSpecifiers → PackageReq → JsrPackageInfo → Bool
is_met p req info = list_any (λ nv. is_match req.version_req (takes_pre_releases req.version_req info) nv.version) (versions_of p req.name)

-- the versions that fit, whose files weren't looked for yet
abbrev pub unprobed : Probed → PackageReq → JsrPackageInfo → List PackageNv
unprobed probed req info = filter (λ nv. not (finite.contains_key probed nv)) (map (version_named req.name) (fitting req info))

-- those that are looked for before a version is chosen, each once: none where a version of the graph meets the requirement
abbrev pub to_probe : State → PackageReq → JsrPackageInfo → List PackageNv
to_probe s req info =
    if s.flags.prefers_cached_jsr && not (is_met s.graph.packages req info) then each_once same_nv (unprobed s.probed req info) else []

abbrev pub probes : List PackageNv → List RegistryFile
probes nvs = map Probe nvs
