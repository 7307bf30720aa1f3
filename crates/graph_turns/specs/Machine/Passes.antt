-- A pass over the `jsr:` specifiers that wait: it asks for the files of their packages, then for those of the versions that were chosen, and
-- then what their exports lead to enters.
use Rattle.std.specs.Prelude.{◌++◌, ℕ, ◌==◌, ◌&&◌, Bool, true, false, List, [], ◌∷◌, length, Option, Some, None, Result, Ok, Err, if◌then◌else◌}
use Rattle.std.specs.FinMap as finite
use Rattle.url.specs.Parts.{Parts}
use Rattle.spec_base.specs.Options.{by_option}
use Rattle.semver_npm.specs.References.{export_name}
use Rattle.semver_npm.specs.declared.package.PackageNv.{PackageNv}
use Rattle.pkg_records.specs.Kept.{with_export, with_top_level_package}
use Rattle.registry_files.specs.declared.kept_version.KeptVersion.{KeptVersion}
use Rattle.graph_errors.specs.declared.jsr_error.JsrLoadError.{JsrLoadError}
use Rattle.graph_errors.specs.declared.jsr_error.JsrLoadError.TheVariants.{PackageVersionNotFound}
use Rattle.graph_dependencies.specs.Kinds.{include_types}
use Rattle.graph_core.specs.declared.graph.ModuleGraph.{ModuleGraph}
use Rattle.graph_turns.specs.declared.exports.Export.{Export}
use Rattle.graph_turns.specs.declared.passes.Chosen.{Chosen}
use Rattle.graph_turns.specs.declared.passes.Pass.{Pass}
use Rattle.graph_turns.specs.declared.state.State.{State}
use Rattle.graph_turns.specs.Promise.Packages.{export_of, unjoinable}
use Rattle.graph_turns.specs.Promise.Reached.{in_package}
use Rattle.graph_turns.specs.Machine.Entering.{enter, redirects_ended}
use Rattle.graph_turns.specs.Machine.Choosing.{package_refused}
use Rattle.graph_turns.specs.Machine.RegistryFiles.{packages_wanted, versions_wanted}
use Rattle.graph_turns.specs.Machine.Redirects.{leads_back, moved}
use Rattle.graph_turns.specs.Machine.Waiting.{load_of}

-- ---- beginning

-- the packages of a pass are asked for by roots: those of the first pass that finds an export, where types count
abbrev pub begins_top_level : ModuleGraph → Bool
begins_top_level g = include_types g.kind && length g.packages.top_level_packages == 0

-- a pass begins over all that waits
abbrev pub pass_begun : State → State
pass_begun s = record s {
  waiting = [];
  pass = Some (record { items = s.waiting; chosen = []; is_entering = false; is_top_level = begins_top_level s.graph });
  wanted = s.wanted ++ packages_wanted s.packages [] s.waiting;
}

-- ---- all are judged

abbrev pub versions_asked_in : State → Option Pass → State
versions_asked_in s None = s
versions_asked_in s (Some p) = record s { wanted = s.wanted ++ versions_wanted s.files [] p.chosen; pass = Some (record p { is_entering = true }) }

-- the files of the versions that were chosen are wanted
abbrev pub versions_asked : State → State
versions_asked s = versions_asked_in s s.pass

-- ---- exports

-- what is known of a version's file, where its export is used
abbrev pub export_by_file : PackageNv → Option (List ℕ) → Option (Result KeptVersion JsrLoadError) → Result Export JsrLoadError
export_by_file nv path None = Err (PackageVersionNotFound nv)
export_by_file nv path (Some (Err e)) = Err e
export_by_file nv path (Some (Ok v)) = export_of v (export_name path)

-- the export that a specifier asks for of the version that was chosen for it
abbrev pub export_at : State → Chosen → Result Export JsrLoadError
export_at s one = export_by_file one.nv one.item.sub_path (finite.get s.files one.nv)

-- an export is used, and its package is one that roots ask for where the pass is
abbrev pub with_used : ModuleGraph → PackageNv → Export → Bool → ModuleGraph
with_used g nv e top = record g {
  packages = if top then with_top_level_package (with_export g.packages nv e.name e.value) nv else with_export g.packages nv e.name e.value;
}

-- the load goes on at what an export leads to, in its version
abbrev pub export_followed : State → Chosen → Parts → State
export_followed s one to =
    if leads_back s.graph one.item.specifier to then redirects_ended s (load_of one.item)
    else enter (record s { graph = moved s.graph one.item.specifier to }) (record { specifier = to; context = in_package (Some one.nv) one.item.context; is_type = false })

abbrev pub export_used : State → Chosen → Export → State
export_used s one e = by_option e.to (package_refused s one.item (unjoinable one.nv e)) (export_followed s one)

abbrev pub export_entered_by : State → Bool → Chosen → Result Export JsrLoadError → State
export_entered_by s top one (Ok e) = export_used (record s { graph = with_used s.graph one.nv e top }) one e
export_entered_by s top one (Err e) = package_refused s one.item e

-- what the export of a version that was chosen leads to enters, or an error stands at its specifier
abbrev pub export_entered : State → Bool → Chosen → State
export_entered s top one = export_entered_by s top one (export_at s one)

unfoldable pub all_entered : State → Bool → List Chosen → State
all_entered s top [] = s
all_entered s top (one ∷ others) = all_entered (export_entered s top one) top others

abbrev pub exports_entered_in : State → Option Pass → State
exports_entered_in s None = s
exports_entered_in s (Some p) = all_entered (record s { pass = None }) p.is_top_level p.chosen

-- what all exports of a pass lead to enters in order, and the pass is gone
abbrev pub exports_entered : State → State
exports_entered s = exports_entered_in s s.pass
